-- What a net of and-nodes computes.
use Rattle.std.specs.Prelude.{◌≡◌, ℕ, ◌+◌, ◌<◌, ◌≤◌, ◌≢◌, Bool, true, false, not, ◌&&◌, List, [], ◌∷◌, ◌++◌, length, get_or, ◌⊎◌}
use Rattle.circuits.specs.declared.net.Bit.{Bit}
use Rattle.circuits.specs.declared.net.NetNode.{NetNode}
use Rattle.circuits.specs.declared.net.NetNode.TheVariants.{Constant, Input, And}

-- exclusive or: the second is negated where the first is true
abbrev pub xor : Bool → Bool → Bool
xor true b = not b
xor false b = b

-- a bit, over the values of the nodes
abbrev pub bit_in : List Bool → Bit → Bool
bit_in values b = xor b.negated (get_or values b.node false)

-- a node, over the inputs and the values of the nodes before it
abbrev pub node_in : (ℕ → Bool) → List Bool → NetNode → Bool
node_in v values (Constant c) = c
node_in v values (Input k) = v k
node_in v values (And a b) = bit_in values a && bit_in values b

-- the values of further nodes, behind those of the nodes before
unfoldable pub values_from : (ℕ → Bool) → List Bool → List NetNode → List Bool
values_from v values [] = values
values_from v values (n ∷ ns) = values_from v (values ++ node_in v values n ∷ []) ns

-- the values of all nodes of a net, input k having the value v k
abbrev pub values_of : (ℕ → Bool) → List NetNode → List Bool
values_of v net = values_from v [] net

-- the value of a bit of a net
unfoldable pub holds : (ℕ → Bool) → List NetNode → Bit → Bool
holds v net b = bit_in (values_of v net) b

-- how many and-nodes
unfoldable pub count_ands : List NetNode → ℕ
count_ands [] = 0
count_ands (And a b ∷ ns) = 1 + count_ands ns
count_ands (_ ∷ ns) = count_ands ns

-- how many inputs
unfoldable pub count_inputs : List NetNode → ℕ
count_inputs [] = 0
count_inputs (Input k ∷ ns) = 1 + count_inputs ns
count_inputs (_ ∷ ns) = count_inputs ns

-- nothing but and-nodes was added, behind all others, and at most so many
pub record Grown (most : ℕ) (old new : List NetNode) : Type 0 where
  pub more : List NetNode
  pub is : new ≡ old ++ more
  pub gates : count_ands more ≡ length more
  pub few : length more ≤ most

-- nothing but inputs was added, behind all others, and at most so many
pub record Fed (most : ℕ) (old new : List NetNode) : Type 0 where
  pub more : List NetNode
  pub is : new ≡ old ++ more
  pub inputs : count_inputs more ≡ length more
  pub few : length more ≤ most

-- a bit of the net
abbrev pub IsIn : List NetNode → Bit → Type 0
IsIn net b = b.node < length net

-- a bit of the net, and its value for all inputs
pub record Means (net : List NetNode) (b : Bit) (value : (ℕ → Bool) → Bool) : Type 0 where
  pub inside : IsIn net b
  pub is : (v : ℕ → Bool) → holds v net b ≡ value v

abbrev pub opposite : Bit → Bit
opposite b = record { node = b.node; negated = not b.negated }

-- a node behind `at` others of which `before` are inputs: inputs are numbered in order, and the arguments of an
-- and-node are two different earlier nodes, neither of them the constant
abbrev pub IsFine : ℕ → ℕ → NetNode → Type 0
IsFine at before (Constant c) = ⊥
IsFine at before (Input k) = k ≡ before
IsFine at before (And a b) = (a.node < at) × (b.node < at) × (0 < a.node) × (0 < b.node) × (a.node ≢ b.node)

-- the same of all nodes of a list
unfoldable pub AreFine : ℕ → ℕ → List NetNode → Type 0
AreFine at before [] = Unit {0}
AreFine at before (n ∷ ns) = IsFine at before n × AreFine (at + 1) (count_inputs (n ∷ []) + before) ns

-- the constant comes first, and is the only one
abbrev pub IsNet : List NetNode → Type 0
IsNet net = (rest : List NetNode) × (net ≡ Constant true ∷ rest) × AreFine 1 0 rest

-- a conjunction that needs no node: of a constant, or of equal or opposite bits
abbrev pub IsFolded : Bit → Bit → Type 0
IsFolded a b = (a.node ≡ 0) ⊎ ((b.node ≡ 0) ⊎ (a.node ≡ b.node))

-- r stands for such a conjunction, whatever the values of the nodes behind the constant
pub record Folds (a b r : Bit) : Type 0 where
  pub from : (r.node ≡ 0) ⊎ ((r.node ≡ a.node) ⊎ (r.node ≡ b.node))
  pub is : (values : List Bool) → get_or values 0 false ≡ true → bit_in values r ≡ (bit_in values a && bit_in values b)

-- a conjunction that needs a node
pub record Stands (a b : Bit) : Type 0 where
  pub left : 0 < a.node
  pub right : 0 < b.node
  pub two : a.node ≢ b.node
