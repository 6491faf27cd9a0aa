use Rattle.std.proofs.Common.{◌≡◌, ℕ, ◌<◌, Some}
use Rattle.std.specs.Prelude.{slice_get}
use Rattle.clauses.specs.declared.log.Chain.{Chain}
use Rattle.sat_core.specs.Derived.{AreOnce}
use Rattle.sat_core.proofs.check.are_once.Given as goal

abbrev pub invariant-loop-chain : goal.invariant-loop-chain
invariant-loop-chain l = (k : ℕ) (chain : Chain) → k < l.chain-index → slice_get l.chains k ≡ Some chain → AreOnce chain.steps
