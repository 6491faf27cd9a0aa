-- Unit propagation from the values of all inputs.
use Rattle.std.proofs.Common.{◌≡◌, ℕ, zero, suc, ◌+◌, ◌<◌, ◌⊎◌, inl, inr, Bool, true, false, cond, not, ◌&&◌, List, [], ◌∷◌, ◌++◌, length, ℤ, pos, negsuc, neg_ℤ, int_lt, refl, sym, ◌∙◌, ap, subst, arith}
use Rattle.std.specs.List.{Contains}
use Rattle.std.proofs.lemmas.Bool.{cases_lt}
use Rattle.std.proofs.lemmas.List.Elements.{Contains-append_left, Contains-append_right, Contains-push, Contains-append_cases}
use Rattle.circuits.specs.declared.net.Bit.{Bit}
use Rattle.circuits.specs.declared.net.NetNode.{NetNode}
use Rattle.circuits.specs.declared.net.NetNode.TheVariants.{Constant, Input, And}
use Rattle.circuits.specs.Net.{xor, holds, count_inputs, IsNet}
use Rattle.clauses.specs.Units.{Units, given_one, forced}
use Rattle.clauses.specs.Marks.{IsClosed}
use Rattle.clauses.specs.Tseitin.{node_at, flag_at, is_and, variable, number_of, literal, rising_two, gate_clauses, node_clauses, clauses_below, input_numbers, IsNamed, node_holds}
use Rattle.clauses.proofs.Nodes.{and_arguments, and_value, input_value, constant_value, bit_value}
use Rattle.clauses.proofs.Variables.{as_input, input_lt, Named}
use Rattle.clauses.proofs.Truth.{flagged_named}

-- the elements of short lists
here_of : {A : Type 0} (x : A) (xs : List A) → Contains (x ∷ xs) x
here_of x xs = (0, omega arith, refl)

there : {A : Type 0} (x y : A) (xs : List A) → Contains xs y → Contains (x ∷ xs) y
there x y xs c = (suc c.0, omega (arith, c.1), c.2)

pub one_is : {A : Type 0} (x y : A) → Contains (x ∷ []) y → x ≡ y
one_is x y (zero, lt, e) = e
one_is x y (suc k, lt, e) = absurd (omega arith)

pub two_is : {A : Type 0} (x z y : A) → Contains (x ∷ z ∷ []) y → (x ≡ y) ⊎ (z ≡ y)
two_is x z y (zero, lt, e) = inl e
two_is x z y (suc k, lt, e) = inr (one_is z y (k, omega arith, e))

pub neg_neg : (x : ℤ) → neg_ℤ (neg_ℤ x) ≡ x
neg_neg (pos zero) = refl
neg_neg (pos (suc n)) = refl
neg_neg (negsuc n) = refl

-- the number of a value
signed : Bool → ℤ → ℤ
signed true x = x
signed false x = neg_ℤ x

-- a clause of one number
unit_one : (clauses : List (List ℤ)) (given : List ℤ) (x : ℤ) → Contains clauses (x ∷ []) → Units clauses given x
unit_one clauses given x c = forced (x ∷ []) x c (here_of x []) (λ y i apart. absurd (apart (sym (one_is x y i))))

unit_two : (clauses : List (List ℤ)) (given : List ℤ) (x a : ℤ) → Contains clauses (x ∷ a ∷ []) → Units clauses given (neg_ℤ a) → Units clauses given x
unit_two clauses given x a c u = forced (x ∷ a ∷ []) x c (here_of x (a ∷ [])) (λ y i apart. elim (two_is x a y i) as (λ _. Units clauses given (neg_ℤ y)) [
  | inl e ↦ absurd (apart (sym e))
  | inr e ↦ subst (λ (z : ℤ). Units clauses given (neg_ℤ z)) e u
])

rising_is : (x z y : ℤ) (t : Bool) → Contains (cond t (x ∷ z ∷ []) (z ∷ x ∷ [])) y → (x ≡ y) ⊎ (z ≡ y)
rising_is x z y true i = two_is x z y i
rising_is x z y false i = elim (two_is z x y i) as (λ _. (x ≡ y) ⊎ (z ≡ y)) [ inl e ↦ inr e | inr e ↦ inl e ]

unit_three : (clauses : List (List ℤ)) (given : List ℤ) (a b v : ℤ) → Contains clauses (rising_two (neg_ℤ a) (neg_ℤ b) ++ v ∷ []) → Units clauses given a → Units clauses given b → Units clauses given v
unit_three clauses given a b v c ua ub =
    forced (rising_two (neg_ℤ a) (neg_ℤ b) ++ v ∷ []) v c (Contains-push (rising_two (neg_ℤ a) (neg_ℤ b)) v)
    (λ y i apart. elim (Contains-append_cases (rising_two (neg_ℤ a) (neg_ℤ b)) (v ∷ []) y i) as (λ _. Units clauses given (neg_ℤ y)) [
      | inl j ↦ elim (rising_is (neg_ℤ a) (neg_ℤ b) y (int_lt (neg_ℤ a) (neg_ℤ b)) j) as (λ _. Units clauses given (neg_ℤ y)) [
        | inl e ↦ subst (λ (z : ℤ). Units clauses given z) (sym (neg_neg a) ∙ ap neg_ℤ e) ua
        | inr e ↦ subst (λ (z : ℤ). Units clauses given z) (sym (neg_neg b) ∙ ap neg_ℤ e) ub
      ]
      | inr j ↦ absurd (apart (sym (one_is v y j)))
    ])

-- the clauses of a node are among all
member : (flags : List Bool) (net : List NetNode) (n at : ℕ) (c : List ℤ) → at < n → Contains (node_clauses flags net at (node_at net at)) c → Contains (clauses_below flags net n) c
unfolding clauses_below
member flags net zero at c lt i = absurd (omega arith)
member flags net (suc n) at c lt i = elim (cases_lt at n) as (λ _. Contains (clauses_below flags net (suc n)) c) [
  | inl l ↦ Contains-append_left (clauses_below flags net n) (node_clauses flags net n (node_at net n)) c (member flags net n at c l i)
  | inr g ↦ let q : at ≡ n = omega arith in
      Contains-append_right (clauses_below flags net n) (node_clauses flags net n (node_at net n)) c (subst (λ (k : ℕ). Contains (node_clauses flags net k (node_at net k)) c) q i)
]

input_given : (x : ℕ → Bool) (n k : ℕ) → k < n → Contains (input_numbers x n) (number_of (not (x k)) (k + 1))
unfolding input_numbers
input_given x zero k lt = absurd (omega arith)
input_given x (suc n) k lt = elim (cases_lt k n) as (λ _. Contains (input_numbers x (suc n)) (number_of (not (x k)) (k + 1))) [
  | inl l ↦ Contains-append_left (input_numbers x n) (number_of (not (x n)) (n + 1) ∷ []) (number_of (not (x k)) (k + 1)) (input_given x n k l)
  | inr g ↦ let q : n ≡ k = omega arith in subst (λ (j : ℕ). Contains (input_numbers x (suc n)) (number_of (not (x j)) (j + 1))) q (Contains-push (input_numbers x n) (number_of (not (x n)) (n + 1)))
]

-- the variable of a node has its value
abbrev pub Found : List (List ℤ) → List ℤ → (ℕ → Bool) → List Bool → List NetNode → ℕ → Type 0
Found clauses given x flags net at = Units clauses given (number_of (not (node_holds x net at)) (variable flags net at))

signed_of_bit : (negated w : Bool) (n : ℕ) → number_of (not w) n ≡ signed (xor negated w) (number_of negated n)
unfolding signed
signed_of_bit true true n = sym (neg_neg (pos n))
signed_of_bit true false n = refl
signed_of_bit false true n = refl
signed_of_bit false false n = refl

literal_found : (clauses : List (List ℤ)) (given : List ℤ) (x : ℕ → Bool) (flags : List Bool) (net : List NetNode) (b : Bit) → Found clauses given x flags net b.node → Units clauses given (signed (holds x net b) (literal flags net b))
literal_found clauses given x flags net b u =
    subst (λ (z : ℤ). Units clauses given z) (signed_of_bit b.negated (node_holds x net b.node) (variable flags net b.node) ∙ ap (λ w. signed w (literal flags net b)) (sym (bit_value x net b))) u

gate_found : (clauses : List (List ℤ)) (given : List ℤ) (n : ℕ) (a b : ℤ) → ((c : List ℤ) → Contains (gate_clauses n a b) c → Contains clauses c) → (A B : Bool) → Units clauses given (signed A a) → Units clauses given (signed B b) → Units clauses given (number_of (not (A && B)) n)
unfolding signed
gate_found clauses given n a b inside true true ua ub =
    unit_three clauses given a b (pos n) (inside (rising_two (neg_ℤ a) (neg_ℤ b) ++ pos n ∷ []) (2, omega arith, refl)) ua ub
gate_found clauses given n a b inside false B ua ub =
    unit_two clauses given (neg_ℤ (pos n)) a (inside (neg_ℤ (pos n) ∷ a ∷ []) (0, omega arith, refl)) ua
gate_found clauses given n a b inside true false ua ub =
    unit_two clauses given (neg_ℤ (pos n)) b (inside (neg_ℤ (pos n) ∷ b ∷ []) (1, omega arith, refl)) ub

found_of : (clauses : List (List ℤ)) (x : ℕ → Bool) (flags : List Bool) (net : List NetNode) → IsNet net → IsClosed net flags → (at : ℕ) → IsNamed flags net at
    → ((k : ℕ) → k < at → IsNamed flags net k → Found clauses (input_numbers x (count_inputs net)) x flags net k) → (n : NetNode) → node_at net at ≡ n
    → ((c : List ℤ) → Contains (node_clauses flags net at n) c → Contains clauses c) → Found clauses (input_numbers x (count_inputs net)) x flags net at
found_of clauses x flags net h closed at i ih (Constant c) q inside =
    subst (λ (w : Bool). Units clauses (input_numbers x (count_inputs net)) (number_of (not w) (variable flags net at))) (sym (constant_value x net at c i.0 q))
    (unit_one clauses (input_numbers x (count_inputs net)) (number_of (not c) (variable flags net at)) (inside (number_of (not c) (variable flags net at) ∷ []) (0, omega arith, refl)))
found_of clauses x flags net h closed at i ih (Input k) q inside =
    subst (λ (w : Bool). Units clauses (input_numbers x (count_inputs net)) (number_of (not w) (variable flags net at))) (sym (input_value x net at k i.0 q))
    (subst (λ (j : ℕ). Units clauses (input_numbers x (count_inputs net)) (number_of (not (x k)) j)) (sym (as_input flags net at k q))
    (given_one (number_of (not (x k)) (k + 1)) (input_given x (count_inputs net) k (input_lt net h at k i.0 q))))
found_of clauses x flags net h closed at i ih (And a b) q inside =
    let f : flag_at flags at ≡ true = i.1 (ap is_and q) in
    let r = and_arguments net h at a b i.0 q in
    let args = closed at a b i.0 f q in
    let A = literal flags net a in
    let B = literal flags net b in
    let n = variable flags net at in
    let found_a = literal_found clauses (input_numbers x (count_inputs net)) x flags net a (ih a.node r.left.1 (flagged_named flags net a.node (omega (arith, r.left.1, i.0)) args.0)) in
    let found_b = literal_found clauses (input_numbers x (count_inputs net)) x flags net b (ih b.node r.right.1 (flagged_named flags net b.node (omega (arith, r.right.1, i.0)) args.1)) in
    subst (λ (w : Bool). Units clauses (input_numbers x (count_inputs net)) (number_of (not w) n)) (sym (and_value x net h at a b i.0 q))
    (gate_found clauses (input_numbers x (count_inputs net)) n A B
    (λ c j. inside c (subst (λ (t : Bool). Contains (cond t (gate_clauses n A B) []) c) (sym f) j))
    (holds x net a) (holds x net b) found_a found_b)

pub all_found : (clauses : List (List ℤ)) (x : ℕ → Bool) (flags : List Bool) (net : List NetNode) → IsNet net → IsClosed net flags → ((c : List ℤ) → Contains (clauses_below flags net (length net)) c → Contains clauses c)
    → (n at : ℕ) → at < n → IsNamed flags net at → Found clauses (input_numbers x (count_inputs net)) x flags net at
all_found clauses x flags net h closed inside zero at lt i = absurd (omega arith)
all_found clauses x flags net h closed inside (suc n) at lt i = elim (cases_lt at n) as (λ _. Found clauses (input_numbers x (count_inputs net)) x flags net at) [
  | inl l ↦ all_found clauses x flags net h closed inside n at l i
  | inr g ↦ found_of clauses x flags net h closed at i (λ k l j. all_found clauses x flags net h closed inside n k (omega arith) j) (node_at net at) refl
      (λ c j. inside c (member flags net (length net) at c i.0 j))
]

either : (clauses : List (List ℤ)) (given : List ℤ) (n : ℕ) (w : Bool) → Units clauses given (number_of w n) → Units clauses given (pos n) ⊎ Units clauses given (neg_ℤ (pos n))
either clauses given n true u = inr u
either clauses given n false u = inl u

pub propagated : (clauses : List (List ℤ)) (x : ℕ → Bool) (flags : List Bool) (net : List NetNode) → IsNet net → IsClosed net flags → ((c : List ℤ) → Contains (clauses_below flags net (length net)) c → Contains clauses c)
    → (n : ℕ) → Named flags net n → Units clauses (input_numbers x (count_inputs net)) (pos n) ⊎ Units clauses (input_numbers x (count_inputs net)) (neg_ℤ (pos n))
propagated clauses x flags net h closed inside n m =
    either clauses (input_numbers x (count_inputs net)) n (not (node_holds x net m.at))
    (subst (λ (k : ℕ). Units clauses (input_numbers x (count_inputs net)) (number_of (not (node_holds x net m.at)) k)) m.is (all_found clauses x flags net h closed inside (length net) m.at m.named.0 m.named))
