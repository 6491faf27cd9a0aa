use Rattle.std.proofs.Common.{refl}
use Rattle.circuits.proofs.OrderLaws.{more_by}
use Rattle.circuits.specs.Inequalities.{IsDifference}
use Rattle.circuits.proofs.FactLaws.{at_some}
use Rattle.circuits.proofs.inequalities.offset.Goals as goal

pub returns-in-Some-as_constant-clause-more : goal.returns-in-Some-as_constant-clause-more
returns-in-Some-as_constant-clause-more c =
    let rest = at_some (λ d. IsDifference c.args.width c.args.p.now c.args.q.now d) _ _ c.in-Some.is c.in_ok-rest.ensures in
    more_by c.requires rest c.in-Some-as_constant.ensures c.masked.ensures refl
