use Rattle.wv_yaml.proofs.SpelledLaws.{one_spelled}
use Rattle.wv_yaml.proofs.reading.one_tree.Goals as goal

pub returns : goal.returns
returns c = one_spelled
