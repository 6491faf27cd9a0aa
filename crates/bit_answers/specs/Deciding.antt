-- What is found of a bit of a net.
use Rattle.std.specs.Prelude.{◌≡◌, ℕ, ◌+◌, ◌-◌, ◌≤◌, ◌^◌, Bool, true, false, List, length, slice_index_or}
use Rattle.circuits.specs.declared.net.Bit.{Bit}
use Rattle.circuits.specs.declared.net.NetNode.{NetNode}
use Rattle.circuits.specs.Net.{holds, count_inputs}
use Rattle.clauses.specs.declared.log.Refutation.{Refutation}
use Rattle.clauses.specs.declared.log.SpentAt.{SpentAt}
use Rattle.clauses.specs.Accepted.{RefutesBit}
use Rattle.clauses.specs.Tseitin.{ClausesOf}
use Rattle.clauses.specs.Spent.{IsSpent}
use Rattle.sat_core.specs.Answers.{AreAllOnce}
use Rattle.c_core.specs.declared.number.DataModel.{DataModel}
use Rattle.c_core.specs.Types.{width_of}
use Rattle.sym_state.specs.declared.state.DrawSite.{DrawSite}
use Rattle.bit_answers.specs.declared.deciding.Finding.{Finding}
use Rattle.bit_answers.specs.declared.deciding.Finding.TheVariants.{NeverTrue, TrueUnder, Spent}

-- the inputs that a list tells; those beyond its end are false
abbrev pub inputs_of : List Bool → ℕ → Bool
inputs_of values k = slice_index_or values k false

-- no inputs make the bit true
abbrev pub IsNeverTrue : List NetNode → Bit → Type 0
IsNeverTrue net b = (v : ℕ → Bool) → holds v net b ≡ false

-- a log spent over the clauses of a bit, with no larger budget than the inputs of the net allow
pub record IsSpentOn (N : ℕ) (net : List NetNode) (b : Bit) (s : SpentAt) : Type 0 where
  pub clauses : ClausesOf net b s.clauses.variables s.clauses.clauses
  pub log : IsSpent s.clauses.variables s.clauses.clauses s.log.chains N
  pub bounded : N ≤ 2 ^ (count_inputs net + 1) - 2

-- a log of at most this many chains, none of which resolves on a variable twice
pub record IsShort (budget : ℕ) (log : Refutation) : Type 0 where
  pub few : length log.chains ≤ budget
  pub once : AreAllOnce log.chains

-- no inputs make the bit true, which the log shows
pub record IsShownBy (N : ℕ) (net : List NetNode) (b : Bit) (log : Refutation) : Type 0 where
  pub never : IsNeverTrue net b
  pub refutes : RefutesBit net b log
  pub short : IsShort N log

-- what a finding says of a bit, with a budget of N conflicts
abbrev pub IsDecidedAs : ℕ → List NetNode → Bit → Finding → Type 0
IsDecidedAs N net b (NeverTrue log) = IsShownBy N net b log
IsDecidedAs N net b (TrueUnder values) = holds (inputs_of values) net b ≡ true
IsDecidedAs N net b (Spent s) = IsSpentOn N net b s

-- a site has as many bits as its type is wide
abbrev pub IsWide : DataModel → DrawSite → Type 0
IsWide m d = length d.bits.bits ≡ width_of m d.ty
