use Rattle.c_duties.proofs.Differ.{all_differ}
use Rattle.c_duties.proofs.Numbers.{tells_each}
use Rattle.c_duties.proofs.laws.duties_differ.Goals as goal

pub returns : goal.returns
returns c = record { differ = all_differ; each_told = λ p h I. tells_each p I h }
