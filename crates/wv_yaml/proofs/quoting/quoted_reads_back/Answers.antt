use Rattle.wv_yaml.proofs.QuoteLaws.{reads_back}
use Rattle.wv_yaml.proofs.quoting.quoted_reads_back.Goals as goal

pub returns : goal.returns
returns c = reads_back
