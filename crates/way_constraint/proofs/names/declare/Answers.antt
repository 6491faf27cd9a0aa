use Rattle.way_constraint.proofs.ListLaws.{object_declared}
use Rattle.way_constraint.proofs.names.declare.Goals as goal

pub returns : goal.returns
returns c = object_declared c.args.table.now c.declare.new.self c.args.number c.as_str.result.now c.args.object.now c.in_ok-declare.ensures.declared c.as_str.ensures
