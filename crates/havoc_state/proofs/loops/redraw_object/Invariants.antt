use Rattle.std.proofs.Common.{◌≡◌, [], ◌-◌}
use Rattle.c_core.specs.View.{program_view}
use Rattle.c_meaning.specs.Havoc.{redraw_cells}
use Rattle.havoc_state.specs.Havocking.{left_of}
use Rattle.havoc_state.proofs.loops.redraw_object.Given as goal

-- what is left does what the whole does
abbrev pub invariant-loop-index : goal.invariant-loop-index
invariant-loop-index l =
    redraw_cells (program_view l.program) [] l.spot l.object l.index (l.size - l.index) (left_of l.machine)
    ≡ redraw_cells (program_view l.program) [] l.spot l.object 0 l.size (left_of l.initial.machine)
