use Rattle.wv_cert.proofs.Refuted.{accepted_yes}
use Rattle.wv_cert.proofs.laws.accepted_is_yes.Goals as goal

pub returns : goal.returns
returns c = accepted_yes
