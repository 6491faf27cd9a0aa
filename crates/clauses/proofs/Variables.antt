-- The variables of nodes: named nodes have different ones, and each variable is that of a named node.
use Rattle.std.proofs.Common.{◌≡◌, ℕ, zero, suc, ◌+◌, ◌-◌, ◌<◌, ◌≤◌, inl, inr, Bool, true, false, ◌&&◌, List, [], ◌∷◌, length, take, refl, sym, ◌∙◌, ap, arith, add-one}
use Rattle.std.proofs.lemmas.Bool.{cases_lt}
use Rattle.std.proofs.lemmas.List.{take_all}
use Rattle.circuits.specs.declared.net.Bit.{Bit}
use Rattle.circuits.specs.declared.net.NetNode.{NetNode}
use Rattle.circuits.specs.declared.net.NetNode.TheVariants.{Constant, Input, And}
use Rattle.circuits.specs.Net.{count_inputs, IsNet}
use Rattle.circuits.specs.Numbers.{digit}
use Rattle.clauses.specs.Tseitin.{node_at, flag_at, is_and, ands_below, variable, variable_of, IsNamed}
use Rattle.clauses.proofs.Nodes.{first_is, input_number, constant_place, inputs_before, inputs_in_all}

digit_le : (b : Bool) → digit b ≤ 1
digit_le true = omega arith
digit_le false = omega arith

pub ands_next : (flags : List Bool) (net : List NetNode) (at : ℕ) → ands_below flags net (at + 1) ≡ ands_below flags net at + digit (is_and (node_at net at) && flag_at flags at)
unfolding ands_below
ands_next flags net at = rw add-one refl

pub ands_le : (flags : List Bool) (net : List NetNode) (m n : ℕ) → m ≤ n → ands_below flags net m ≤ ands_below flags net n
unfolding ands_below
ands_le flags net m zero h = let e : m ≡ 0 = omega arith in omega (arith, ap (ands_below flags net) e)
ands_le flags net m (suc n) h = elim (cases_lt n m) as (λ _. ands_below flags net m ≤ ands_below flags net (suc n)) [
  | inl l ↦ let e : m ≡ suc n = omega arith in omega (arith, ap (ands_below flags net) e)
  | inr g ↦ omega (arith, ands_le flags net m n g)
]

pub ands_few : (flags : List Bool) (net : List NetNode) (n : ℕ) → ands_below flags net n ≤ n
unfolding ands_below
ands_few flags net zero = omega arith
ands_few flags net (suc n) = omega (arith, ands_few flags net n, digit_le (is_and (node_at net n) && flag_at flags n))

pub input_lt : (net : List NetNode) → IsNet net → (at k : ℕ) → at < length net → node_at net at ≡ Input k → k < count_inputs net
unfolding count_inputs
input_lt net h at k lt q = omega (arith, input_number net h at k lt q, inputs_before net at lt, ap (λ n. count_inputs (n ∷ [])) q, inputs_in_all net (at + 1))

-- the variable of each kind of node
pub as_constant : (flags : List Bool) (net : List NetNode) (at : ℕ) (c : Bool) → node_at net at ≡ Constant c → variable flags net at ≡ count_inputs net + 1
as_constant flags net at c q = ap (variable_of (count_inputs net) (ands_below flags net (at + 1))) q

pub as_input : (flags : List Bool) (net : List NetNode) (at k : ℕ) → node_at net at ≡ Input k → variable flags net at ≡ k + 1
as_input flags net at k q = ap (variable_of (count_inputs net) (ands_below flags net (at + 1))) q

pub as_and : (flags : List Bool) (net : List NetNode) (at : ℕ) (a b : Bit) → node_at net at ≡ And a b → variable flags net at ≡ count_inputs net + 1 + ands_below flags net (at + 1)
as_and flags net at a b q = ap (variable_of (count_inputs net) (ands_below flags net (at + 1))) q

ranged : (flags : List Bool) (net : List NetNode) → IsNet net → (at : ℕ) → at < length net → (n : NetNode) → node_at net at ≡ n
    → (0 < variable flags net at) × (variable flags net at ≤ count_inputs net + 1 + ands_below flags net (length net))
ranged flags net h at lt (Constant c) q = let e = as_constant flags net at c q in (omega arith, omega arith)
ranged flags net h at lt (Input k) q = let e = as_input flags net at k q in let l = input_lt net h at k lt q in (omega arith, omega arith)
ranged flags net h at lt (And a b) q = let e = as_and flags net at a b q in let l = ands_le flags net (at + 1) (length net) (omega arith) in (omega arith, omega arith)

pub variable_ranged : (flags : List Bool) (net : List NetNode) → IsNet net → (at : ℕ) → at < length net
    → (0 < variable flags net at) × (variable flags net at ≤ count_inputs net + 1 + ands_below flags net (length net))
variable_ranged flags net h at lt = ranged flags net h at lt (node_at net at) refl

-- a flagged and-node counts
pub counts_itself : (flags : List Bool) (net : List NetNode) (at : ℕ) (a b : Bit) → node_at net at ≡ And a b → flag_at flags at ≡ true → ands_below flags net (at + 1) ≡ ands_below flags net at + 1
counts_itself flags net at a b q f = ands_next flags net at ∙ ap (λ n. ands_below flags net at + digit (is_and n && flag_at flags at)) q ∙ ap (λ t. ands_below flags net at + digit t) f

below_of : (flags : List Bool) (net : List NetNode) → IsNet net → (x at : ℕ) (a b : Bit) → x < at → at < length net → node_at net at ≡ And a b → flag_at flags at ≡ true → (n : NetNode) → node_at net x ≡ n → variable flags net x < variable flags net at
below_of flags net h x at a b l lt q f (Constant c) p = omega (arith, as_constant flags net x c p, as_and flags net at a b q, counts_itself flags net at a b q f)
below_of flags net h x at a b l lt q f (Input k) p = omega (arith, as_input flags net x k p, as_and flags net at a b q, input_lt net h x k (omega arith) p)
below_of flags net h x at a b l lt q f (And c d) p = omega (arith, as_and flags net x c d p, as_and flags net at a b q, counts_itself flags net at a b q f, ands_le flags net (x + 1) at (omega arith))

-- all variables of earlier nodes are below that of a flagged and-node
pub variable_below : (flags : List Bool) (net : List NetNode) → IsNet net → (x at : ℕ) (a b : Bit) → x < at → at < length net → node_at net at ≡ And a b → flag_at flags at ≡ true → variable flags net x < variable flags net at
variable_below flags net h x at a b l lt q f = below_of flags net h x at a b l lt q f (node_at net x) refl

flag_of : (flags : List Bool) (net : List NetNode) (at : ℕ) (a b : Bit) → IsNamed flags net at → node_at net at ≡ And a b → flag_at flags at ≡ true
flag_of flags net at a b h q = h.1 (ap is_and q)

inputs_le : (net : List NetNode) (m n : ℕ) → m ≤ n → n ≤ length net → count_inputs (take m net) ≤ count_inputs (take n net)
inputs_le net m zero h le = let e : m ≡ 0 = omega arith in omega (arith, ap (λ i. count_inputs (take i net)) e)
inputs_le net m (suc n) h le = elim (cases_lt n m) as (λ _. count_inputs (take m net) ≤ count_inputs (take (suc n) net)) [
  | inl l ↦ let e : m ≡ suc n = omega arith in omega (arith, ap (λ i. count_inputs (take i net)) e)
  | inr g ↦ omega (arith, inputs_le net m n g (omega arith), inputs_before net n (omega arith), ap (λ i. count_inputs (take i net)) (add-one n))
]

inputs_apart : (flags : List Bool) (net : List NetNode) → IsNet net → (x y k : ℕ) → x < y → y < length net → node_at net y ≡ Input k → (m : NetNode) → node_at net x ≡ m → variable flags net x ≡ variable flags net y → ⊥
unfolding count_inputs
inputs_apart flags net h x y k l lt q (Constant c) p e = absurd (omega (arith, e, as_constant flags net x c p, as_input flags net y k q, input_lt net h y k lt q))
inputs_apart flags net h x y k l lt q (Input j) p e =
    let lx : x < length net = omega arith in
    absurd (omega (arith, e, as_input flags net x j p, as_input flags net y k q, input_number net h x j lx p, input_number net h y k lt q, inputs_le net (x + 1) y (omega arith) (omega arith), inputs_before net x lx, ap (λ n. count_inputs (n ∷ [])) p))
inputs_apart flags net h x y k l lt q (And a b) p e = absurd (omega (arith, e, as_and flags net x a b p, as_input flags net y k q, input_lt net h y k lt q))

apart_of : (flags : List Bool) (net : List NetNode) → IsNet net → (x y : ℕ) → x < y → IsNamed flags net y → (n : NetNode) → node_at net y ≡ n → variable flags net x ≡ variable flags net y → ⊥
apart_of flags net h x y l i (Constant c) q e = absurd (omega (arith, constant_place net h y c i.0 q))
apart_of flags net h x y l i (Input k) q e = inputs_apart flags net h x y k l i.0 q (node_at net x) refl e
apart_of flags net h x y l i (And a b) q e = absurd (omega (arith, variable_below flags net h x y a b l i.0 q (flag_of flags net y a b i q)))

-- a named node shares its variable with no earlier node
pub variables_apart : (flags : List Bool) (net : List NetNode) → IsNet net → (x y : ℕ) → x < y → IsNamed flags net y → variable flags net x ≡ variable flags net y → ⊥
variables_apart flags net h x y l i e = apart_of flags net h x y l i (node_at net y) refl e

-- ---- each variable is that of a named node
pub record Named (flags : List Bool) (net : List NetNode) (n : ℕ) : Type 0 where
  pub at : ℕ
  pub named : IsNamed flags net at
  pub is : variable flags net at ≡ n

pub record Input_place (net : List NetNode) (k : ℕ) : Type 0 where
  pub at : ℕ
  pub inside : at < length net
  pub is : node_at net at ≡ Input k

place_of : (net : List NetNode) → IsNet net → (m k : ℕ) → m < length net → k < count_inputs (take (m + 1) net) → (k < count_inputs (take m net) → Input_place net k) → (n : NetNode) → node_at net m ≡ n → Input_place net k
unfolding count_inputs
place_of net h m k lt l rec (Constant c) q = rec (omega (arith, inputs_before net m lt, ap (λ n. count_inputs (n ∷ [])) q))
place_of net h m k lt l rec (Input j) q = elim (cases_lt k (count_inputs (take m net))) as (λ _. Input_place net k) [
  | inl b ↦ rec b
  | inr g ↦ let e : j ≡ k = omega (arith, input_number net h m j lt q, inputs_before net m lt, ap (λ n. count_inputs (n ∷ [])) q) in record { at = m; inside = lt; is = q ∙ ap (λ i. Input i) e }
]
place_of net h m k lt l rec (And a b) q = rec (omega (arith, inputs_before net m lt, ap (λ n. count_inputs (n ∷ [])) q))

input_place : (net : List NetNode) → IsNet net → (m k : ℕ) → m ≤ length net → k < count_inputs (take m net) → Input_place net k
unfolding count_inputs
input_place net h zero k le lt = absurd (omega arith)
input_place net h (suc m) k le lt =
    place_of net h m k (omega arith) (omega (arith, ap (λ i. count_inputs (take i net)) (add-one m))) (λ (l : k < count_inputs (take m net)). input_place net h m k (omega arith) l) (node_at net m) refl

named_and : (flags : List Bool) (net : List NetNode) (at : ℕ) → at < length net → is_and (node_at net at) ≡ true → flag_at flags at ≡ true → (n : NetNode) → node_at net at ≡ n → variable flags net at ≡ count_inputs net + 1 + ands_below flags net (at + 1)
named_and flags net at lt i f (Constant c) q = let e = sym i ∙ ap is_and q in cc
named_and flags net at lt i f (Input k) q = let e = sym i ∙ ap is_and q in cc
named_and flags net at lt i f (And a b) q = as_and flags net at a b q

and_both : (a b : Bool) → (a && b) ≡ true → (a ≡ true) × (b ≡ true)
and_both true true e = (refl, refl)
and_both true false e = cc
and_both false b e = cc

and_of : (flags : List Bool) (net : List NetNode) (m j : ℕ) → m < length net → j ≤ ands_below flags net (m + 1) → (j ≤ ands_below flags net m → Named flags net (count_inputs net + 1 + j)) → (t : Bool) → (is_and (node_at net m) && flag_at flags m) ≡ t → Named flags net (count_inputs net + 1 + j)
and_of flags net m j lt l rec false q = rec (omega (arith, ands_next flags net m, ap digit q))
and_of flags net m j lt l rec true q = elim (cases_lt (ands_below flags net m) j) as (λ _. Named flags net (count_inputs net + 1 + j)) [
  | inl g ↦
      let both = and_both (is_and (node_at net m)) (flag_at flags m) q in
      let e : j ≡ ands_below flags net (m + 1) = omega (arith, ands_next flags net m, ap digit q) in
      record { at = m; named = (lt, λ _. both.1); is = named_and flags net m lt both.0 both.1 (node_at net m) refl ∙ ap (λ i. count_inputs net + 1 + i) (sym e) }
  | inr b ↦ rec b
]

and_place : (flags : List Bool) (net : List NetNode) (m j : ℕ) → m ≤ length net → 0 < j → j ≤ ands_below flags net m → Named flags net (count_inputs net + 1 + j)
unfolding ands_below
and_place flags net zero j le p l = absurd (omega arith)
and_place flags net (suc m) j le p l =
    and_of flags net m j (omega arith) (omega (arith, ap (ands_below flags net) (add-one m))) (λ (b : j ≤ ands_below flags net m). and_place flags net m j (omega arith) p b) (is_and (node_at net m) && flag_at flags m) refl

named_at : {flags : List Bool} {net : List NetNode} {m n : ℕ} → m ≡ n → Named flags net m → Named flags net n
named_at {flags} {net} {m} {n} e k = record { at = k.at; named = k.named; is = k.is ∙ e }

of_input : (flags : List Bool) (net : List NetNode) (k : ℕ) → Input_place net k → Named flags net (k + 1)
of_input flags net k p = record { at = p.at; named = (p.inside, λ i. let e = sym i ∙ ap is_and p.is in cc); is = as_input flags net p.at k p.is }

of_constant : (flags : List Bool) (net : List NetNode) → IsNet net → Named flags net (count_inputs net + 1)
of_constant flags net h = record { at = 0; named = (omega (arith, ap length h.1), λ i. let e = sym i ∙ ap is_and (first_is net h) in cc); is = as_constant flags net 0 true (first_is net h) }

pub named : (flags : List Bool) (net : List NetNode) → IsNet net → (n : ℕ) → 0 < n → n ≤ count_inputs net + 1 + ands_below flags net (length net) → Named flags net n
named flags net h n p l = elim (cases_lt (count_inputs net) n) as (λ _. Named flags net n) [
  | inl g ↦ elim (cases_lt (count_inputs net + 1) n) as (λ _. Named flags net n) [
    | inl a ↦ named_at (let e : count_inputs net + 1 + (n - (count_inputs net + 1)) ≡ n = omega arith in e) (and_place flags net (length net) (n - (count_inputs net + 1)) (omega arith) (omega arith) (omega arith))
    | inr b ↦ named_at (let e : count_inputs net + 1 ≡ n = omega arith in e) (of_constant flags net h)
  ]
  | inr b ↦
      let e : n - 1 + 1 ≡ n = omega arith in
      named_at e (of_input flags net (n - 1) (input_place net h (length net) (n - 1) (omega arith) (omega (arith, ap count_inputs (take_all (length net) net (omega arith))))))
]
