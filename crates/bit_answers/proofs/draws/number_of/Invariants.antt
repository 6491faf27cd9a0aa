use Rattle.bit_answers.proofs.Numbers.{IsCounted}
use Rattle.bit_answers.proofs.draws.number_of.Given as goal

abbrev pub invariant-loop-i : goal.invariant-loop-i
invariant-loop-i l = IsCounted l.values l.bits l.i l.number
