use Rattle.std.proofs.Common.{refl, subst}
use Rattle.circuits.specs.Inequalities.{IsDifference}
use Rattle.circuits.proofs.OrderLaws.{difference_of}
use Rattle.circuits.proofs.inequalities.difference.Goals as goal

pub returns : goal.returns
returns c =
    subst (λ p. IsDifference c.args.width p c.args.q.now c.add_multiple.new.self) c.in_ok-rest.ensures
    (difference_of c.requires refl refl (c.in_ok-add_multiple.ensures.added c.if-not-branch.false))
