use Rattle.std.proofs.Common.{take}
use Rattle.c_meaning.specs.Placing.{placed_view}
use Rattle.sym_invariants.specs.Obliged.{Assumes}
use Rattle.sym_invariants.proofs.testing.assume_all.Given as goal

-- those before the index are assumed
abbrev pub invariant-loop-x : goal.invariant-loop-x
invariant-loop-x l = Assumes l.obliged (placed_view (take l.x-index l.obliged.mode.invariants.now)) l.spot l.initial.sym l.sym
