use Rattle.std.proofs.Common.{length}
use Rattle.c_parser.proofs.ClosedSteps.{Fronted}
use Rattle.c_parser.proofs.closed.to_semicolon.Given as goal

abbrev pub invariant-loop-rest : goal.invariant-loop-rest
invariant-loop-rest l = Fronted l.brackets l.tokens l.rest

abbrev pub decreases-loop-rest : goal.decreases-loop-rest
decreases-loop-rest l = length l.rest
