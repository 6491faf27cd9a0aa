use Rattle.std.proofs.Common.{arith}
use Rattle.yaml_lines.proofs.Texts.{chars_few}
use Rattle.yaml_lines.proofs.lines.line_of.Goals as goal

pub overflow_add-indent : goal.overflow_add-indent
overflow_add-indent c = omega (arith, c.loop-left.invariant.size, chars_few c.args.text.now c.utf8.text)
