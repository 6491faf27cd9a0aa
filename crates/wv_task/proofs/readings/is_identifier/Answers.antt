use Rattle.std.proofs.Common.{◌∙◌}
use Rattle.uuid.specs.Text.{parsed}
use Rattle.wv_task.proofs.Identifiers.{read_alike}
use Rattle.wv_task.proofs.readings.is_identifier.Goals as goal

pub returns : goal.returns
returns c = c.is_ok.ensures.value ∙ read_alike c.parse_str.result (parsed c.args.text.now) c.parse_str.ensures.ok
