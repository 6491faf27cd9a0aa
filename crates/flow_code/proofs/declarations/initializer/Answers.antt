use Rattle.flow_code.proofs.Gluing.{nothing_more}
use Rattle.flow_code.proofs.declarations.initializer.Goals as goal

pub returns-in-Absent : goal.returns-in-Absent
returns-in-Absent c =
    rw c.in-Absent.is (nothing_more c.args.ops.now)

pub returns-in-One : goal.returns-in-One
returns-in-One c =
    rw c.in-One.is c.initial.ensures

pub returns-in-Many : goal.returns-in-Many
returns-in-Many c =
    rw (c.in-Many.is, ← c.as_slice.ensures) c.initials.ensures

pub returns-in-Rows : goal.returns-in-Rows
returns-in-Rows c =
    rw (c.in-Rows.is, ← c.as_slice-in-Rows.ensures) c.row_initials.ensures
