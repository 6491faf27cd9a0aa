use Rattle.wv_yaml.proofs.CanonLaws.{canonical_spelled}
use Rattle.wv_yaml.proofs.writing.canonical_is_spelled.Goals as goal

pub returns : goal.returns
returns c = canonical_spelled
