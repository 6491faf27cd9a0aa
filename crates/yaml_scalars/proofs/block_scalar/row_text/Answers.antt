use Rattle.std.proofs.Common.{◌∙◌, ap, sym}
use Rattle.std.proofs.lemmas.Str.{chars-nil}
use Rattle.yaml_scalars.specs.BlockScalar.{text_in}
use Rattle.yaml_scalars.proofs.block_scalar.row_text.Goals as goal

pub returns-in-None : goal.returns-in-None
returns-in-None c = chars-nil ∙ sym (ap (λ o. text_in o c.args.line.now) c.in-None.is)
