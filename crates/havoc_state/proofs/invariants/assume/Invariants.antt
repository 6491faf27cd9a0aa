use Rattle.std.proofs.Common.{◌≡◌, drop}
use Rattle.c_core.specs.View.{program_view}
use Rattle.c_meaning.specs.Havoc.{assume_all}
use Rattle.c_meaning.specs.Placing.{placed_view}
use Rattle.havoc_state.specs.Havocking.{left_of}
use Rattle.havoc_state.proofs.invariants.assume.Given as goal

-- what is left does what the whole does
abbrev pub invariant-loop-invariant : goal.invariant-loop-invariant
invariant-loop-invariant l =
    assume_all (program_view l.program) (placed_view l.invariants) (placed_view (drop l.invariant-index l.invariants)) l.spot (left_of l.machine)
    ≡ assume_all (program_view l.program) (placed_view l.invariants) (placed_view l.invariants) l.spot (left_of l.machine)
