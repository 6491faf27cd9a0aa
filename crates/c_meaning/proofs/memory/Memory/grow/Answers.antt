use Rattle.std.proofs.Common.{rules, arith}
use Rattle.c_meaning.specs.Slots.{names_of, outside, IsTable}
use Rattle.c_meaning.proofs.Tables.{kept_anew}
use Rattle.c_meaning.proofs.memory.Memory.grow.Goals as goal

pub invariant_of-self-2 : goal.invariant_of-self-2
invariant_of-self-2 c =
    let starts = c.self.inside.starts.items in
    let places = c.self.inside.places.items in
    let cells = c.self.inside.cells.items in
    let slots = c.self.inside.slots.items in
    let new = c.in_ok-self-inside.field-0.items in
    let room = rw (← c.self.view_is) at c.requires in
    let kept = c.self.invariant.0 in
    let table : IsTable c.args.size (outside starts (names_of cells)) new = rw (← c.as_slice-starts.ensures.value) (rw (← c.reserve.ensures.items, ← c.as_slice.ensures.value) c.in_ok-self-inside.ensures.table) in
    (rw c.reserve.ensures.items (kept_anew starts places (names_of cells) slots new c.args.size kept c.in_ok-self-inside.ensures.size table (omega (arith, kept.half, room))), search rules)
