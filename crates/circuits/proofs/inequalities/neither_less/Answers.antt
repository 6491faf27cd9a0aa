use Rattle.circuits.proofs.OrderLaws.{found_then, follows_neither}
use Rattle.circuits.proofs.inequalities.neither_less.Goals as goal

pub returns : goal.returns
returns c = found_then c.difference.result c.difference.ensures (λ p d.
    follows_neither c.args.x.now c.args.y.now c.requires.same c.requires.first c.requires.second (c.in_ok-is_more_by.ensures c.if-not-branch.false) (c.in_ok-is_more_by-2.ensures c.if-not-branch-2.false) d)
