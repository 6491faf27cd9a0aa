use Rattle.std.proofs.Common.{◌≤◌}
use Rattle.polynomials.proofs.division.words_in.Given as goal

abbrev pub invariant-loop-i : goal.invariant-loop-i
invariant-loop-i l = l.words ≤ l.i
