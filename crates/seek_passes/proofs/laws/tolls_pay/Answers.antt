use Rattle.seek_passes.proofs.Paying.{paid}
use Rattle.seek_passes.proofs.laws.tolls_pay.Goals as goal

pub returns : goal.returns
returns c = paid
