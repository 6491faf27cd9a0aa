use Rattle.seek_answer.proofs.Told.{tells_sought}
use Rattle.seek_answer.proofs.laws.reach_tells_what_is_sought.Goals as goal

pub returns : goal.returns
returns c = λ p ss k r promised room. tells_sought p ss k r promised (c.hits_exactly.ensures p ss k) room
