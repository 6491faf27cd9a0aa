use Rattle.std.proofs.Common.{take, Ok}
use Rattle.c_core.specs.View.{program_view}
use Rattle.way_invariants.specs.Invariants.{invariants_among}
use Rattle.way_invariants.specs.Steps.{BindsNext}
use Rattle.way_invariants.proofs.binding.bind_sets.Given as goal

abbrev pub invariant-loop-entry : goal.invariant-loop-entry
invariant-loop-entry l = BindsNext (program_view l.lookup.index) (invariants_among (take l.entry-index l.entries)) l.initial.placed l.placed (Ok tt)
