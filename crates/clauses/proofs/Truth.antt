-- What the clauses of a bit say: each variable has the value of its node, and the bit is true.
use Rattle.std.proofs.Common.{◌≡◌, ℕ, zero, suc, ◌+◌, ◌-◌, ◌<◌, ◌≤◌, inl, inr, Bool, true, false, cond, not, ◌&&◌, ◌||◌, nat_eq, List, [], ◌∷◌, ◌++◌, length, ℤ, pos, negsuc, neg_ℤ, int_lt, unsigned_abs, refl, sym, ◌∙◌, ap, subst, arith, add-one}
use Rattle.std.proofs.lemmas.Bool.{cases_lt, eqb-true, eq-eqb, ne_eqb}
use Rattle.circuits.specs.declared.net.Bit.{Bit}
use Rattle.circuits.specs.declared.net.NetNode.{NetNode}
use Rattle.circuits.specs.declared.net.NetNode.TheVariants.{Constant, Input, And}
use Rattle.circuits.specs.Net.{xor, holds, count_inputs, IsNet}
use Rattle.clauses.specs.Assignment.{number_holds, clause_holds, all_hold}
use Rattle.clauses.specs.Marks.{IsClosed}
use Rattle.clauses.specs.Tseitin.{node_at, flag_at, is_and, variable, number_of, literal, rising_two, gate_clauses, node_clauses, clauses_below, IsNamed, node_holds, inputs_in}
use Rattle.clauses.proofs.Nodes.{and_arguments, and_value, input_value, constant_value, bit_value}
use Rattle.clauses.proofs.Variables.{as_constant, as_input, as_and, variable_ranged, variables_apart}

pub both_hold : (a b : Bool) → (a && b) ≡ true → (a ≡ true) × (b ≡ true)
both_hold true true e = (refl, refl)
both_hold true false e = cc
both_hold false b e = cc

pub all_hold-append : (v : ℕ → Bool) (xs ys : List (List ℤ)) → all_hold v (xs ++ ys) ≡ (all_hold v xs && all_hold v ys)
unfolding all_hold
all_hold-append v [] ys = refl
all_hold-append v (x ∷ xs) ys = ap (λ b. clause_holds v x && b) (all_hold-append v xs ys) ∙ regroup (clause_holds v x) (all_hold v xs) (all_hold v ys)
  where
    regroup : (a b c : Bool) → (a && (b && c)) ≡ ((a && b) && c)
    regroup true b c = refl
    regroup false b c = refl

-- ---- numbers
pub number_is : (v : ℕ → Bool) (negated : Bool) (n : ℕ) → 0 < n → number_holds v (number_of negated n) ≡ xor negated (v n)
number_is v true zero h = absurd (omega arith)
number_is v true (suc n) h = ap (λ k. not (v k)) (add-one n)
number_is v false n h = refl

not_not : (b : Bool) → b ≡ not (not b)
not_not true = refl
not_not false = refl

pub opposite_is : (v : ℕ → Bool) (x : ℤ) → 0 < unsigned_abs x → number_holds v (neg_ℤ x) ≡ not (number_holds v x)
opposite_is v (pos zero) h = absurd (omega arith)
opposite_is v (pos (suc n)) h = ap (λ k. not (v k)) (add-one n)
opposite_is v (negsuc n) h = ap v (sym (add-one n)) ∙ not_not (v (n + 1))

pub size_of : (negated : Bool) (n : ℕ) → unsigned_abs (number_of negated n) ≡ n
size_of true zero = refl
size_of true (suc n) = refl
size_of false n = refl

-- ---- a gate
gate_test : Bool → Bool → Bool → Bool
gate_test v a b = (not v || (a || false)) && ((not v || (b || false)) && ((not a || (not b || (v || false))) && true))

gate_only : (v a b : Bool) → gate_test v a b ≡ true → v ≡ (a && b)
unfolding gate_test
gate_only true true true e = refl
gate_only true true false e = cc
gate_only true false b e = cc
gate_only false true true e = cc
gate_only false true false e = refl
gate_only false false b e = refl

gate_enough : (a b : Bool) → gate_test (a && b) a b ≡ true
unfolding gate_test
gate_enough true true = refl
gate_enough true false = refl
gate_enough false true = refl
gate_enough false false = refl

or_turn : (a b c : Bool) → (b || (a || c)) ≡ (a || (b || c))
or_turn true true c = refl
or_turn true false c = refl
or_turn false true c = refl
or_turn false false c = refl

rising_holds : (v : ℕ → Bool) (x y z : ℤ) (t : Bool) → clause_holds v (cond t (x ∷ y ∷ []) (y ∷ x ∷ []) ++ z ∷ []) ≡ (number_holds v x || (number_holds v y || (number_holds v z || false)))
rising_holds v x y z true = refl
rising_holds v x y z false = or_turn (number_holds v x) (number_holds v y) (number_holds v z || false)

gate_is : (v : ℕ → Bool) (n : ℕ) (a b : ℤ) → 0 < n → 0 < unsigned_abs a → 0 < unsigned_abs b → all_hold v (gate_clauses n a b) ≡ gate_test (v n) (number_holds v a) (number_holds v b)
unfolding all_hold gate_test
gate_is v n a b h ha hb =
    ap (λ i. (i || (number_holds v a || false)) && ((i || (number_holds v b || false)) && (clause_holds v (rising_two (neg_ℤ a) (neg_ℤ b) ++ pos n ∷ []) && true))) (opposite_is v (pos n) h)
    ∙ ap (λ i. (not (v n) || (number_holds v a || false)) && ((not (v n) || (number_holds v b || false)) && (i && true))) (rising_holds v (neg_ℤ a) (neg_ℤ b) (pos n) (int_lt (neg_ℤ a) (neg_ℤ b)))
    ∙ ap (λ i. (not (v n) || (number_holds v a || false)) && ((not (v n) || (number_holds v b || false)) && ((i || (number_holds v (neg_ℤ b) || (v n || false))) && true))) (opposite_is v a ha)
    ∙ ap (λ i. (not (v n) || (number_holds v a || false)) && ((not (v n) || (number_holds v b || false)) && ((not (number_holds v a) || (i || (v n || false))) && true))) (opposite_is v b hb)

-- the literal of a bit is true where its node's variable has the node's value
pub literal_is : (v x : ℕ → Bool) (flags : List Bool) (net : List NetNode) → IsNet net → (b : Bit) → b.node < length net → v (variable flags net b.node) ≡ node_holds x net b.node → number_holds v (literal flags net b) ≡ holds x net b
literal_is v x flags net h b lt e =
    number_is v b.negated (variable flags net b.node) (variable_ranged flags net h b.node lt).0 ∙ ap (xor b.negated) e ∙ sym (bit_value x net b)

pub literal_real : (flags : List Bool) (net : List NetNode) → IsNet net → (b : Bit) → b.node < length net → 0 < unsigned_abs (literal flags net b)
literal_real flags net h b lt = omega (arith, size_of b.negated (variable flags net b.node), (variable_ranged flags net h b.node lt).0)

-- named nodes have their values in an assignment
abbrev pub Agree : (ℕ → Bool) → (ℕ → Bool) → List Bool → List NetNode → ℕ → Type 0
Agree v x flags net n = (at : ℕ) → at < n → IsNamed flags net at → v (variable flags net at) ≡ node_holds x net at

pub flagged_named : (flags : List Bool) (net : List NetNode) (at : ℕ) → at < length net → flag_at flags at ≡ true → IsNamed flags net at
flagged_named flags net at lt f = (lt, λ i. f)

gate_agrees : (v x : ℕ → Bool) (flags : List Bool) (net : List NetNode) → IsNet net → IsClosed net flags → (at : ℕ) (a b : Bit) → at < length net → flag_at flags at ≡ true → node_at net at ≡ And a b → Agree v x flags net at
    → (number_holds v (literal flags net a) && number_holds v (literal flags net b)) ≡ node_holds x net at
gate_agrees v x flags net h closed at a b lt f q ih =
    let r = and_arguments net h at a b lt q in
    let flags_of = closed at a b lt f q in
    let la : a.node < length net = omega (arith, r.left.1) in
    let lb : b.node < length net = omega (arith, r.right.1) in
    ap (λ i. i && number_holds v (literal flags net b)) (literal_is v x flags net h a la (ih a.node r.left.1 (flagged_named flags net a.node la flags_of.0)))
    ∙ ap (λ i. holds x net a && i) (literal_is v x flags net h b lb (ih b.node r.right.1 (flagged_named flags net b.node lb flags_of.1)))
    ∙ sym (and_value x net h at a b lt q)

-- ---- from the clauses to the values
one_holds : (b : Bool) → ((b || false) && true) ≡ true → b ≡ true
one_holds true e = refl
one_holds false e = e

same_constant : (c w : Bool) → xor (not c) w ≡ true → w ≡ c
same_constant true true e = refl
same_constant true false e = e
same_constant false true e = sym e
same_constant false false e = refl

step_of : (v : ℕ → Bool) (flags : List Bool) (net : List NetNode) → IsNet net → IsClosed net flags → (at : ℕ) → IsNamed flags net at → Agree v (inputs_in v) flags net at
    → (n : NetNode) → node_at net at ≡ n → all_hold v (node_clauses flags net at n) ≡ true → v (variable flags net at) ≡ node_holds (inputs_in v) net at
unfolding all_hold
step_of v flags net h closed at i ih (Constant c) q e =
    same_constant c (v (variable flags net at)) (sym (number_is v (not c) (variable flags net at) (variable_ranged flags net h at i.0).0) ∙ one_holds (number_holds v (number_of (not c) (variable flags net at))) e)
    ∙ sym (constant_value (inputs_in v) net at c i.0 q)
step_of v flags net h closed at i ih (Input k) q e = ap v (as_input flags net at k q) ∙ sym (input_value (inputs_in v) net at k i.0 q)
step_of v flags net h closed at i ih (And a b) q e =
    let f : flag_at flags at ≡ true = i.1 (ap is_and q) in
    let r = and_arguments net h at a b i.0 q in
    let n = variable flags net at in
    let A = literal flags net a in
    let B = literal flags net b in
    let g : all_hold v (gate_clauses n A B) ≡ true = ap (λ t. all_hold v (cond t (gate_clauses n A B) [])) (sym f) ∙ e in
    gate_only (v n) (number_holds v A) (number_holds v B)
    (sym (gate_is v n A B (variable_ranged flags net h at i.0).0 (literal_real flags net h a (omega (arith, r.left.1))) (literal_real flags net h b (omega (arith, r.right.1)))) ∙ g)
    ∙ gate_agrees v (inputs_in v) flags net h closed at a b i.0 f q ih

holds_at : (v : ℕ → Bool) (flags : List Bool) (net : List NetNode) (n : ℕ) → all_hold v (clauses_below flags net n) ≡ true → (at : ℕ) → at < n → all_hold v (node_clauses flags net at (node_at net at)) ≡ true
unfolding clauses_below
holds_at v flags net zero e at lt = absurd (omega arith)
holds_at v flags net (suc n) e at lt =
    let both = both_hold (all_hold v (clauses_below flags net n)) (all_hold v (node_clauses flags net n (node_at net n))) (sym (all_hold-append v (clauses_below flags net n) (node_clauses flags net n (node_at net n))) ∙ e) in
    elim (cases_lt at n) as (λ _. all_hold v (node_clauses flags net at (node_at net at)) ≡ true) [
      | inl l ↦ holds_at v flags net n both.0 at l
      | inr g ↦ let q : n ≡ at = omega arith in subst (λ (k : ℕ). all_hold v (node_clauses flags net k (node_at net k)) ≡ true) q both.1
    ]

pub settled : (v : ℕ → Bool) (flags : List Bool) (net : List NetNode) → IsNet net → IsClosed net flags → all_hold v (clauses_below flags net (length net)) ≡ true → (n : ℕ) → Agree v (inputs_in v) flags net n
settled v flags net h closed e zero at lt i = absurd (omega arith)
settled v flags net h closed e (suc n) at lt i = elim (cases_lt at n) as (λ _. v (variable flags net at) ≡ node_holds (inputs_in v) net at) [
  | inl l ↦ settled v flags net h closed e n at l i
  | inr g ↦ step_of v flags net h closed at i (λ k l j. settled v flags net h closed e n k (omega arith) j) (node_at net at) refl (holds_at v flags net (length net) e at i.0)
]

-- ---- from the values to the clauses
constant_same : (c : Bool) → xor (not c) c ≡ true
constant_same true = refl
constant_same false = refl

holds_one : (b : Bool) → b ≡ true → ((b || false) && true) ≡ true
holds_one true e = refl
holds_one false e = e

gate_kept : (v x : ℕ → Bool) (flags : List Bool) (net : List NetNode) → IsNet net → IsClosed net flags → (at : ℕ) (a b : Bit) → at < length net → node_at net at ≡ And a b → Agree v x flags net (length net) → (t : Bool) → flag_at flags at ≡ t
    → all_hold v (cond t (gate_clauses (variable flags net at) (literal flags net a) (literal flags net b)) []) ≡ true
unfolding all_hold
gate_kept v x flags net h closed at a b lt q agree false f = refl
gate_kept v x flags net h closed at a b lt q agree true f =
    let r = and_arguments net h at a b lt q in
    let n = variable flags net at in
    let A = literal flags net a in
    let B = literal flags net b in
    let same : v n ≡ (number_holds v A && number_holds v B) = agree at lt (flagged_named flags net at lt f) ∙ sym (gate_agrees v x flags net h closed at a b lt f q (λ k l j. agree k (omega arith) j)) in
    gate_is v n A B (variable_ranged flags net h at lt).0 (literal_real flags net h a (omega (arith, r.left.1))) (literal_real flags net h b (omega (arith, r.right.1)))
    ∙ ap (λ w. gate_test w (number_holds v A) (number_holds v B)) same
    ∙ gate_enough (number_holds v A) (number_holds v B)

kept_of : (v x : ℕ → Bool) (flags : List Bool) (net : List NetNode) → IsNet net → IsClosed net flags → (at : ℕ) → at < length net → Agree v x flags net (length net) → (n : NetNode) → node_at net at ≡ n → all_hold v (node_clauses flags net at n) ≡ true
unfolding all_hold
kept_of v x flags net h closed at lt agree (Constant c) q =
    holds_one (number_holds v (number_of (not c) (variable flags net at)))
    (number_is v (not c) (variable flags net at) (variable_ranged flags net h at lt).0
    ∙ ap (xor (not c)) (agree at lt (lt, λ i. let e = sym i ∙ ap is_and q in cc) ∙ constant_value x net at c lt q)
    ∙ constant_same c)
kept_of v x flags net h closed at lt agree (Input k) q = refl
kept_of v x flags net h closed at lt agree (And a b) q = gate_kept v x flags net h closed at a b lt q agree (flag_at flags at) refl

pub fulfilled : (v x : ℕ → Bool) (flags : List Bool) (net : List NetNode) → IsNet net → IsClosed net flags → Agree v x flags net (length net) → (n : ℕ) → n ≤ length net → all_hold v (clauses_below flags net n) ≡ true
unfolding all_hold clauses_below
fulfilled v x flags net h closed agree zero le = refl
fulfilled v x flags net h closed agree (suc n) le =
    all_hold-append v (clauses_below flags net n) (node_clauses flags net n (node_at net n))
    ∙ ap (λ b. b && all_hold v (node_clauses flags net n (node_at net n))) (fulfilled v x flags net h closed agree n (omega arith))
    ∙ kept_of v x flags net h closed n (omega arith) agree (node_at net n) refl

pub last_holds : (v : ℕ → Bool) (x : ℤ) → number_holds v x ≡ true → all_hold v ((x ∷ []) ∷ []) ≡ true
unfolding all_hold
last_holds v x e = holds_one (number_holds v x) e

pub last_only : (v : ℕ → Bool) (x : ℤ) → all_hold v ((x ∷ []) ∷ []) ≡ true → number_holds v x ≡ true
unfolding all_hold
last_only v x e = one_holds (number_holds v x) e

-- ---- an assignment for given inputs
pub value_in : (ℕ → Bool) → List Bool → List NetNode → ℕ → ℕ → Bool
value_in x flags net zero m = x (m - 1)
value_in x flags net (suc n) m = cond ((not (is_and (node_at net n)) || flag_at flags n) && nat_eq (variable flags net n) m) (node_holds x net n) (value_in x flags net n m)

named_test : (i f : Bool) → (i ≡ true → f ≡ true) → (not i || f) ≡ true
named_test true f h = h refl
named_test false f h = refl

test_named : (i f : Bool) → (not i || f) ≡ true → i ≡ true → f ≡ true
test_named true f e h = e
test_named false f e h = absurd (let q : false ≡ true = h in cc)

cond_true : (t : Bool) (a b : Bool) → t ≡ true → cond t a b ≡ a
cond_true true a b e = refl
cond_true false a b e = cc

cond_false : (t : Bool) (a b : Bool) → t ≡ false → cond t a b ≡ b
cond_false true a b e = cc
cond_false false a b e = refl

and_false : (b : Bool) → (b && false) ≡ false
and_false true = refl
and_false false = refl

-- no later named node has the variable of an earlier one
passed : (x : ℕ → Bool) (flags : List Bool) (net : List NetNode) → IsNet net → (at n : ℕ) → at < n → n < length net → (t : Bool) → (not (is_and (node_at net n)) || flag_at flags n) ≡ t
    → (t && nat_eq (variable flags net n) (variable flags net at)) ≡ false
passed x flags net h at n lt le false q = refl
passed x flags net h at n lt le true q = ne_eqb (variable flags net n) (variable flags net at) (λ e. variables_apart flags net h at n lt (le, test_named (is_and (node_at net n)) (flag_at flags n) q) (sym e))

pub assigned : (x : ℕ → Bool) (flags : List Bool) (net : List NetNode) → IsNet net → (n : ℕ) → n ≤ length net → Agree (value_in x flags net n) x flags net n
unfolding value_in
assigned x flags net h zero le at lt i = absurd (omega arith)
assigned x flags net h (suc n) le at lt i = elim (cases_lt at n) as (λ _. value_in x flags net (suc n) (variable flags net at) ≡ node_holds x net at) [
  | inl l ↦
      cond_false ((not (is_and (node_at net n)) || flag_at flags n) && nat_eq (variable flags net n) (variable flags net at)) (node_holds x net n) (value_in x flags net n (variable flags net at))
      (passed x flags net h at n l (omega arith) (not (is_and (node_at net n)) || flag_at flags n) refl)
      ∙ assigned x flags net h n (omega arith) at l i
  | inr g ↦ let q : at ≡ n = omega arith in
      rw q (cond_true ((not (is_and (node_at net n)) || flag_at flags n) && nat_eq (variable flags net n) (variable flags net n)) (node_holds x net n) (value_in x flags net n (variable flags net n))
      (ap (λ t. t && nat_eq (variable flags net n) (variable flags net n)) (named_test (is_and (node_at net n)) (flag_at flags n) (subst (λ (k : ℕ). is_and (node_at net k) ≡ true → flag_at flags k ≡ true) q i.1))
      ∙ eq-eqb (variable flags net n) (variable flags net n) refl))
]

input_of : (x : ℕ → Bool) (flags : List Bool) (net : List NetNode) → IsNet net → (n k : ℕ) → n < length net → k < count_inputs net → variable flags net n ≡ k + 1 → (m : NetNode) → node_at net n ≡ m → node_holds x net n ≡ x k
input_of x flags net h n k lt l e (Constant c) q = absurd (omega (arith, e, as_constant flags net n c q))
input_of x flags net h n k lt l e (Input j) q = input_value x net n j lt q ∙ ap x (let r : j ≡ k = omega (arith, e, as_input flags net n j q) in r)
input_of x flags net h n k lt l e (And a b) q = absurd (omega (arith, e, as_and flags net n a b q))

input_kept : (x : ℕ → Bool) (flags : List Bool) (net : List NetNode) → IsNet net → (n k : ℕ) → n < length net → k < count_inputs net → (rest : Bool) → rest ≡ x k → (u t : Bool) → nat_eq (variable flags net n) (k + 1) ≡ t
    → cond (u && t) (node_holds x net n) rest ≡ x k
input_kept x flags net h n k lt l rest e false t q = e
input_kept x flags net h n k lt l rest e true false q = e
input_kept x flags net h n k lt l rest e true true q = input_of x flags net h n k lt l (eqb-true (variable flags net n) (k + 1) q) (node_at net n) refl

pub inputs_kept : (x : ℕ → Bool) (flags : List Bool) (net : List NetNode) → IsNet net → (n : ℕ) → n ≤ length net → (k : ℕ) → k < count_inputs net → value_in x flags net n (k + 1) ≡ x k
unfolding value_in
inputs_kept x flags net h zero le k lt = ap x (let e : k + 1 - 1 ≡ k = omega arith in e)
inputs_kept x flags net h (suc n) le k lt =
    input_kept x flags net h n k (omega arith) lt (value_in x flags net n (k + 1)) (inputs_kept x flags net h n (omega arith) k lt) (not (is_and (node_at net n)) || flag_at flags n) (nat_eq (variable flags net n) (k + 1)) refl

pub assignment : (ℕ → Bool) → List Bool → List NetNode → ℕ → Bool
assignment x flags net m = value_in x flags net (length net) m
