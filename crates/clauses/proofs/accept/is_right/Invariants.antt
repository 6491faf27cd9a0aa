use Rattle.std.proofs.Common.{◌++◌, take}
use Rattle.clauses.specs.Log.{given}
use Rattle.clauses.proofs.Chains.{Reached}
use Rattle.clauses.proofs.accept.is_right.Given as goal

abbrev pub invariant-loop-step : goal.invariant-loop-step
invariant-loop-step l = Reached (l.cnf.clauses ++ given (take l.at l.log.chains)) l.chain l.cells l.touched.items l.step-index
