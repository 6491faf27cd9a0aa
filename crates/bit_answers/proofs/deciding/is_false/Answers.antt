use Rattle.std.proofs.Common.{◌∙◌, not, ap}
use Rattle.bit_answers.proofs.Found.{constant_is}
use Rattle.bit_answers.proofs.deciding.is_false.Goals as goal

pub returns-then-bit-eq0 : goal.returns-then-bit-eq0
returns-then-bit-eq0 c on v = constant_is c.args.net.now c.args.bit v c.nodes.ensures.fine c.if-bit-eq0.true ∙ ap not on
