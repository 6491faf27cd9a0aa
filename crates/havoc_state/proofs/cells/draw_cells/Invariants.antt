use Rattle.std.proofs.Common.{◌≡◌, [], ℕ, ◌-◌}
use Rattle.c_core.specs.View.{program_view}
use Rattle.havoc_state.specs.Havocking.{left_of, cells_drawn_from}
use Rattle.havoc_state.proofs.cells.draw_cells.Given as goal

-- what is left does what the whole does
abbrev pub invariant-loop-index : goal.invariant-loop-index
invariant-loop-index l =
    ((n : ℕ) → cells_drawn_from (program_view l.program) [] n l.spot l.object l.index (l.size - l.index) (left_of l.machine)
    ≡ cells_drawn_from (program_view l.program) [] n l.spot l.object 0 l.size (left_of l.initial.machine))
