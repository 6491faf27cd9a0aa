use Rattle.circuits.proofs.OrderLaws.{found_then, follows_swapped}
use Rattle.circuits.proofs.inequalities.equality_of.Goals as goal

pub returns-in-false-true : goal.returns-in-false-true
returns-in-false-true c = found_then c.between-in-false-true.result c.between-in-false-true.ensures (λ p f. follows_swapped c.args.x.now c.args.y.now c.requires.same f)
