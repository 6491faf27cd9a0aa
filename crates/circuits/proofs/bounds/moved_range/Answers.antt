use Rattle.circuits.specs.Inequalities.{IsMoreBy}
use Rattle.circuits.proofs.FactLaws.{at_some}
use Rattle.circuits.proofs.BoundLaws.{below_all, range_moved, range_own}
use Rattle.circuits.proofs.bounds.moved_range.Goals as goal

pub returns-in_ok-range-in-Some : goal.returns-in_ok-range-in-Some
returns-in_ok-range-in-Some c = λ net words here known.
    let more = at_some (λ by. IsMoreBy c.args.width by c.args.polynomial.now c.args.other.now) _ _ c.in-Some.is c.in_ok-by.ensures.more in
    range_moved more (c.in_ok-range-in-Some.ensures net words here known) c.moved.ensures

pub returns-in_default : goal.returns-in_default
returns-in_default c = λ net words here known. range_own (λ v. below_all c.args.width _ c.all_below.result c.all_below.ensures.from c.all_below.ensures.to)
