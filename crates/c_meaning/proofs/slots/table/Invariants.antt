use Rattle.std.proofs.Common.{◌≡◌, take}
use Rattle.c_meaning.specs.Slots.{IsTable, outside, names_of}
use Rattle.c_meaning.proofs.slots.table.Given as goal

-- the table of the cells so far
abbrev pub invariant-loop-cell : goal.invariant-loop-cell
invariant-loop-cell l = record {
  place : l.place ≡ l.cell-index;
  table : IsTable l.size (outside l.starts (names_of (take l.cell-index l.cells))) l.slots.items;
}
