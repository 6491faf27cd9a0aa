use Rattle.circuits.proofs.FactLaws.{answer_known}
use Rattle.circuits.proofs.parts.value_among.Goals as goal

pub returns-then-other-bit : goal.returns-then-other-bit
returns-then-other-bit c = λ net here f. answer_known net here c.args.known.now c.loop-other.other-index _ c.args.bit c.loop-other-test.true c.if-other-bit.true f
