-- The clause form of a net: a variable for each input, for the constant and for each and-node that a bit reaches (Tseitin, 1968).
use Rattle.std.specs.Prelude.{◌≡◌, ℕ, zero, suc, ◌+◌, ◌<◌, ◌≤◌, ◌↔◌, Bool, true, false, cond, not, ◌&&◌, List, [], ◌∷◌, ◌++◌, length, slice_index_or, ℤ, pos, neg_ℤ, int_lt, IsTrue, ◌⊎◌}
use Rattle.circuits.specs.declared.net.Bit.{Bit}
use Rattle.circuits.specs.declared.net.NetNode.{NetNode}
use Rattle.circuits.specs.declared.net.NetNode.TheVariants.{Constant, Input, And}
use Rattle.circuits.specs.Net.{holds, count_inputs}
use Rattle.circuits.specs.Numbers.{digit}
use Rattle.circuits.specs.Reach.{Reaches}
use Rattle.clauses.specs.Assignment.{all_hold}
use Rattle.clauses.specs.Units.{Units}

-- it is an and-node
abbrev pub is_and : NetNode → Bool
is_and (Constant c) = false
is_and (Input k) = false
is_and (And a b) = true

-- a node by its number
abbrev pub node_at : List NetNode → ℕ → NetNode
node_at net at = slice_index_or net at (Constant true)

-- the flag of a node by its number
abbrev pub flag_at : List Bool → ℕ → Bool
flag_at flags at = slice_index_or flags at false

-- how many of the first n nodes are and-nodes with a flag
unfoldable pub ands_below : List Bool → List NetNode → ℕ → ℕ
ands_below flags net zero = 0
ands_below flags net (suc at) = ands_below flags net at + digit (is_and (node_at net at) && flag_at flags at)

-- inputs come first, then the constant, then and-nodes
abbrev pub variable_of : ℕ → ℕ → NetNode → ℕ
variable_of inputs ands (Constant c) = inputs + 1
variable_of inputs ands (Input k) = k + 1
variable_of inputs ands (And a b) = inputs + 1 + ands

-- the variable of a node
abbrev pub variable : List Bool → List NetNode → ℕ → ℕ
variable flags net at = variable_of (count_inputs net) (ands_below flags net (at + 1)) (node_at net at)

-- a variable as a number, negated or not
abbrev pub number_of : Bool → ℕ → ℤ
number_of true n = neg_ℤ (pos n)
number_of false n = pos n

-- the number of a bit
abbrev pub literal : List Bool → List NetNode → Bit → ℤ
literal flags net b = number_of b.negated (variable flags net b.node)

-- a clause of two numbers, the lesser first
abbrev pub rising_two : ℤ → ℤ → List ℤ
rising_two x y = cond (int_lt x y) (x ∷ y ∷ []) (y ∷ x ∷ [])

-- variable v is the conjunction of a and b
abbrev pub gate_clauses : ℕ → ℤ → ℤ → List (List ℤ)
gate_clauses v a b = (neg_ℤ (pos v) ∷ a ∷ []) ∷ (neg_ℤ (pos v) ∷ b ∷ []) ∷ (rising_two (neg_ℤ a) (neg_ℤ b) ++ pos v ∷ []) ∷ []

-- the clauses of one node: a constant's value; of an input none; of an and-node with a flag those of the gate
abbrev pub node_clauses : List Bool → List NetNode → ℕ → NetNode → List (List ℤ)
node_clauses flags net at (Constant c) = (number_of (not c) (variable flags net at) ∷ []) ∷ []
node_clauses flags net at (Input k) = []
node_clauses flags net at (And a b) = cond (flag_at flags at) (gate_clauses (variable flags net at) (literal flags net a) (literal flags net b)) []

-- the clauses of the first n nodes
unfoldable pub clauses_below : List Bool → List NetNode → ℕ → List (List ℤ)
clauses_below flags net zero = []
clauses_below flags net (suc at) = clauses_below flags net at ++ node_clauses flags net at (node_at net at)

-- the flags tell of each node whether the bit reaches it
pub record Flags (net : List NetNode) (b : Bit) (flags : List Bool) : Type 0 where
  pub many : length flags ≡ length net
  pub is : (at : ℕ) → at < length net → IsTrue (flag_at flags at) ↔ Reaches net b at

-- the variables and the clauses of a bit
pub record ClausesOf (net : List NetNode) (b : Bit) (variables : ℕ) (clauses : List (List ℤ)) : Type 0 where
  pub flags : List Bool
  pub reached : Flags net b flags
  pub counted : variables ≡ count_inputs net + 1 + ands_below flags net (length net)
  pub listed : clauses ≡ clauses_below flags net (length net) ++ (literal flags net b ∷ []) ∷ []

-- ---- what they say

-- a node that has a variable of its own
abbrev pub IsNamed : List Bool → List NetNode → ℕ → Type 0
IsNamed flags net at = (at < length net) × (is_and (node_at net at) ≡ true → flag_at flags at ≡ true)

abbrev pub node_holds : (ℕ → Bool) → List NetNode → ℕ → Bool
node_holds inputs net at = holds inputs net (record { node = at; negated = false })

-- the inputs that an assignment tells
abbrev pub inputs_in : (ℕ → Bool) → ℕ → Bool
inputs_in v k = v (k + 1)

-- the clauses are true exactly where each variable has the value of its node and the bit is true
pub record Describes (net : List NetNode) (b : Bit) (variables : ℕ) (clauses : List (List ℤ)) : Type 0 where
  pub flags : List Bool
  pub onto : (n : ℕ) → 0 < n → n ≤ variables → (at : ℕ) × IsNamed flags net at × (variable flags net at ≡ n)
  pub is : (v : ℕ → Bool) → (all_hold v clauses ≡ true) ↔ (((at : ℕ) → IsNamed flags net at → v (variable flags net at) ≡ node_holds (inputs_in v) net at) × (holds (inputs_in v) net b ≡ true))

-- inputs that make the bit true are those of an assignment that makes the clauses true
abbrev pub Fulfils : List NetNode → Bit → List (List ℤ) → Type 0
Fulfils net b clauses = (x : ℕ → Bool) → holds x net b ≡ true → (v : ℕ → Bool) × ((k : ℕ) → k < count_inputs net → v (k + 1) ≡ x k) × (all_hold v clauses ≡ true)

-- the values of n inputs
unfoldable pub input_numbers : (ℕ → Bool) → ℕ → List ℤ
input_numbers x zero = []
input_numbers x (suc k) = input_numbers x k ++ number_of (not (x k)) (k + 1) ∷ []

-- unit propagation from the values of all inputs finds the value of each variable
abbrev pub Propagates : List NetNode → ℕ → List (List ℤ) → Type 0
Propagates net variables clauses = (x : ℕ → Bool) (n : ℕ) → 0 < n → n ≤ variables → Units clauses (input_numbers x (count_inputs net)) (pos n) ⊎ Units clauses (input_numbers x (count_inputs net)) (neg_ℤ (pos n))
