use Rattle.wv_yaml.proofs.SpelledLaws.{spelled_sound, spelled_complete}
use Rattle.wv_yaml.proofs.reading.spelled_is_computed.Goals as goal

pub returns : goal.returns
returns c = λ bytes t. (spelled_complete bytes t, λ h. spelled_sound bytes t h.0 h.1)
