use Rattle.way_constraint.proofs.ListLaws.{nothing_declared}
use Rattle.way_constraint.proofs.names.declare_at.Goals as goal

pub returns-in-None : goal.returns-in-None
returns-in-None c = nothing_declared c.args.table.now c.args.number _ c.in-None.ensures.item
