use Rattle.std.proofs.Common.{◌≡◌, [], drop}
use Rattle.c_core.specs.View.{program_view}
use Rattle.c_meaning.specs.Havoc.{redraw}
use Rattle.havoc_state.specs.Havocking.{left_of}
use Rattle.havoc_state.proofs.loops.redraw.Given as goal

-- what is left does what the whole does
abbrev pub invariant-loop-object : goal.invariant-loop-object
invariant-loop-object l =
    redraw (program_view l.program) [] l.spot (drop l.object-index l.objects) (left_of l.machine)
    ≡ redraw (program_view l.program) [] l.spot l.objects (left_of l.initial.machine)
