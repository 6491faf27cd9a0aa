use Rattle.circuits.proofs.Feeding.{Drawing}
use Rattle.circuits.proofs.inputs.input_bits.Given as goal

abbrev pub invariant-loop-i : goal.invariant-loop-i
invariant-loop-i l = Drawing l.fn.net l.net l.out.items l.i
