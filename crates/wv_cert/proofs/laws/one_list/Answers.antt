use Rattle.wv_cert.proofs.Logs.{one_text}
use Rattle.wv_cert.proofs.laws.one_list.Goals as goal

pub returns : goal.returns
returns c = one_text
