use Rattle.std.proofs.lemmas.Option.{IfSome_then}
use Rattle.circuits.proofs.HintLaws.{means_asked, means_constant}
use Rattle.circuits.proofs.hints.Hints.equal.Goals as goal

pub returns-in-Some-clause-value : goal.returns-in-Some-clause-value
returns-in-Some-clause-value c =
    means_constant c.requires.net c.requires.operands.wide c.in_ok-difference.ensures.asks c.in-Some.ensures c.masked.ensures

pub returns-clause-value : goal.returns-clause-value
returns-clause-value c = IfSome_then c.find.result c.find.ensures (λ bit is.
    means_asked c.in_ok-difference.ensures.asks (is _ _ c.in_ok-difference.ensures.hints.zeros))
