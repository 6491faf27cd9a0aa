use Rattle.std.proofs.Common.{take, Ok}
use Rattle.c_core.specs.View.{program_view}
use Rattle.way_invariants.specs.Steps.{BindsNext}
use Rattle.way_invariants.proofs.binding.bind_set.Given as goal

abbrev pub invariant-loop-invariant : goal.invariant-loop-invariant
invariant-loop-invariant l = BindsNext (program_view l.lookup.index) (take l.invariant-index l.set) l.initial.placed l.placed (Ok tt)
