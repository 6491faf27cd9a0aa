use Rattle.std.proofs.Common.{◌≡◌, ◌-◌, false, drop, length}
use Rattle.sym_state.specs.Places.{live_in}
use Rattle.sym_state.proofs.cells.place_of.Given as goal

-- none of those behind is such a cell
abbrev pub invariant-loop-behind : goal.invariant-loop-behind
invariant-loop-behind l = record {
  all : l.count ≡ length l.cells;
  none : live_in l.object l.index (drop (l.count - l.behind) l.cells) ≡ false;
}
