use Rattle.std.proofs.Common.{take, arith, length-take}
use Rattle.c_meaning.specs.Slots.{names_of, outside}
use Rattle.c_meaning.proofs.Tables.{free_left, names_length}
use Rattle.c_meaning.proofs.Layouts.{outside_length}
use Rattle.c_meaning.proofs.slots.table.Goals as goal

pub seek-at-requires : goal.seek-at-requires
seek-at-requires c =
    let names = names_of (take c.loop-cell.cell-index c.args.cells.now) in
    let f = free_left c.args.size (outside c.args.starts.now names) c.loop-cell.slots.items c.loop-cell.invariant.table in
    rw c.as_slice.ensures.value (omega (arith, f, outside_length c.args.starts.now names, names_length (take c.loop-cell.cell-index c.args.cells.now), length-take c.loop-cell.cell-index c.args.cells.now, c.requires, c.loop-cell-test.true))
