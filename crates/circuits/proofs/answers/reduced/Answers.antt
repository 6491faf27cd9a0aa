use Rattle.std.proofs.Common.{subst}
use Rattle.polynomials.specs.Elimination.{IsReduced}
use Rattle.circuits.proofs.FactLaws.{rest_where}
use Rattle.circuits.proofs.answers.reduced.Goals as goal

pub returns : goal.returns
returns c = λ here f.
    rest_where (c.in_ok-facts.ensures here f) (subst (λ q. IsReduced c.args.width c.in_ok-facts.facts.items q c.in_ok-rest.rest) c.in_ok-copy.ensures c.in_ok-rest.ensures)
