use Rattle.std.proofs.Common.{◌∙◌}
use Rattle.yaml_lines.proofs.Texts.{end_chars}
use Rattle.yaml_lines.proofs.characters.is_end.Goals as goal

pub returns : goal.returns
returns c = c.is_empty.ensures ∙ end_chars c.args.text.now c.utf8.text
