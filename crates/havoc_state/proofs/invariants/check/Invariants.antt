use Rattle.std.proofs.Common.{◌≡◌, drop}
use Rattle.c_core.specs.View.{program_view}
use Rattle.c_meaning.specs.Havoc.{test_from}
use Rattle.c_meaning.specs.Placing.{placed_view}
use Rattle.havoc_state.specs.Havocking.{left_of}
use Rattle.havoc_state.proofs.invariants.check.Given as goal

-- what is left does what the whole does
abbrev pub invariant-loop-index : goal.invariant-loop-index
invariant-loop-index l =
    test_from (program_view l.program) (placed_view l.invariants) l.index (placed_view (drop l.index l.invariants)) l.at_loop l.spot l.kind (left_of l.machine)
    ≡ test_from (program_view l.program) (placed_view l.invariants) 0 (placed_view l.invariants) l.at_loop l.spot l.kind (left_of l.machine)
