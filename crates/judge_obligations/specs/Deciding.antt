-- One obligation after the other, on the way to the verdict.
use Rattle.std.specs.Prelude.{◌≡◌, ℕ, ◌<◌, Bool, true, List, slice_get, Some}
use Rattle.bit_answers.specs.Deciding.{IsNeverTrue, inputs_of}
use Rattle.circuits.specs.declared.net.Bit.{Bit}
use Rattle.circuits.specs.declared.net.NetNode.{NetNode}
use Rattle.circuits.specs.Net.{holds}
use Rattle.judge_obligations.specs.declared.asking.Asked.{Asked}
use Rattle.judge_obligations.specs.declared.asking.Asked.TheVariants.{NeverTrue, TrueUnder, Open}
use Rattle.sym_duties.specs.declared.obligations.Obligations.{Obligations}

-- the first n failing bits are never true
abbrev pub AreNeverTrue : List NetNode → List Bit → ℕ → Type 0
AreNeverTrue net failing n = (i : ℕ) (b : Bit) → i < n → slice_get failing i ≡ Some b → IsNeverTrue net b

-- inputs make the failing bit of the obligation at an index true
abbrev pub IsTrueAt : Obligations → ℕ → List Bool → Type 0
IsTrueAt o at values = (b : Bit) → slice_get o.failing at ≡ Some b → holds (inputs_of values) o.net b ≡ true

-- what an answer of the folded net says of a bit of the net
abbrev pub IsAskedAs : List NetNode → Bit → Asked → Type 0
IsAskedAs net b NeverTrue = IsNeverTrue net b
IsAskedAs net b (TrueUnder values) = holds (inputs_of values) net b ≡ true
IsAskedAs net b Open = Unit {0}
