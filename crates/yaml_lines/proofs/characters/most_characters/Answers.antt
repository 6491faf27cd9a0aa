use Rattle.std.proofs.Common.{arith}
use Rattle.yaml_lines.proofs.Texts.{chars_few}
use Rattle.yaml_lines.proofs.characters.most_characters.Goals as goal

pub returns-clause-few : goal.returns-clause-few
returns-clause-few c = omega (arith, chars_few c.args.text.now c.utf8.text)
