use Rattle.circuits.proofs.AnswerLaws.{opposite_like}
use Rattle.circuits.proofs.answers.part_of.Goals as goal

pub returns-then-whole : goal.returns-then-whole
returns-then-whole c = λ net n here l r inside both a b.
    let conjunction = c.in-Some.ensures net n a.inside b.inside in
    opposite_like c.args.whole c.if-whole.true c.not.ensures (rw c.not.ensures conjunction.inside) both a b conjunction
