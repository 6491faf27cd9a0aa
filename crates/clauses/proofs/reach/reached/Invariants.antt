use Rattle.std.proofs.Common.{◌-◌, length}
use Rattle.clauses.proofs.Reached.{Marking}
use Rattle.clauses.proofs.reach.reached.Given as goal

abbrev pub invariant-loop-i : goal.invariant-loop-i
invariant-loop-i l = Marking l.net l.fn.bit l.flags.items (length l.net - l.i)
