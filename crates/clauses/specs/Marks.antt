-- Flags and variables of nodes.
use Rattle.std.specs.Prelude.{◌≡◌, ℕ, ◌+◌, ◌<◌, Bool, true, List, length, slice_index, slice_set}
use Rattle.circuits.specs.declared.net.Bit.{Bit}
use Rattle.circuits.specs.declared.net.NetNode.{NetNode}
use Rattle.circuits.specs.declared.net.NetNode.TheVariants.{Constant, Input, And}
use Rattle.circuits.specs.Net.{count_inputs}
use Rattle.clauses.specs.Tseitin.{node_at, flag_at, ands_below, variable}

-- the arguments of an and-node are among the first n nodes
abbrev pub ArgumentsIn : ℕ → NetNode → Type 0
ArgumentsIn n (Constant c) = Unit {0}
ArgumentsIn n (Input k) = Unit {0}
ArgumentsIn n (And a b) = (a.node < n) × (b.node < n)

-- the arguments of an and-node flagged
abbrev pub marked : NetNode → List Bool → List Bool
marked (Constant c) flags = flags
marked (Input k) flags = flags
marked (And a b) flags = slice_set (slice_set flags a.node true) b.node true

-- the arguments of a flagged and-node are flagged
abbrev pub IsClosed : List NetNode → List Bool → Type 0
IsClosed net flags = (at : ℕ) (a b : Bit) → at < length net → flag_at flags at ≡ true → node_at net at ≡ And a b → (flag_at flags a.node ≡ true) × (flag_at flags b.node ≡ true)

-- the variables of the first n nodes
pub record AreNumbers (flags : List Bool) (net : List NetNode) (numbers : List ℕ) (n : ℕ) : Type 0 where
  pub many : length numbers ≡ n
  pub is : (at : ℕ) → at < n → slice_index numbers at ≡ variable flags net at

-- and how many variables there are
pub record Numbered (flags : List Bool) (net : List NetNode) (numbers : List ℕ) (n : ℕ) (variables : ℕ) : Type 0 where
  pub each : AreNumbers flags net numbers n
  pub counted : variables ≡ count_inputs net + 1 + ands_below flags net n
