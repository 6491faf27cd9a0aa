use Rattle.wv_yaml.specs.Canon.{canon}
use Rattle.wv_yaml.proofs.CanonLaws.{canonical_spelled, spelled_back}
use Rattle.wv_yaml.proofs.writing.canonical_is_read.Goals as goal

pub returns : goal.returns
returns c = λ t r k f u n h. spelled_back t (canon t) r (canonical_spelled t k f u) n h
