use Rattle.sat_newness.proofs.Left.{AreLeft}
use Rattle.sat_newness.proofs.newness.last_number.Given as goal

abbrev pub invariant-loop-number : goal.invariant-loop-number
invariant-loop-number l = AreLeft l.table l.clause l.number-index l.last
