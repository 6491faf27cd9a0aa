use Rattle.std.proofs.Common.{◌≡◌, [], drop}
use Rattle.c_core.specs.View.{program_view}
use Rattle.run_state.specs.Interpreting.{pairs_of}
use Rattle.havoc_state.specs.Havocking.{left_of, parameters_set}
use Rattle.havoc_state.proofs.parameters.set_parameters.Given as goal

-- what is left does what the whole does
abbrev pub invariant-loop-index : goal.invariant-loop-index
invariant-loop-index l =
    parameters_set (program_view l.program) [] (drop l.index l.parameters) (pairs_of (drop l.index l.values)) (left_of l.machine)
    ≡ parameters_set (program_view l.program) [] l.parameters (pairs_of l.values) (left_of l.initial.machine)
