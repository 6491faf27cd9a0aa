use Rattle.std.proofs.Common.{◌≡◌, take}
use Rattle.c_meaning.specs.Placing.{placed_view}
use Rattle.sym_invariants.specs.Obliged.{Tests}
use Rattle.sym_invariants.proofs.testing.test_all.Given as goal

-- those before the index are tested
abbrev pub invariant-loop-x : goal.invariant-loop-x
invariant-loop-x l = (l.number ≡ l.x-index) × Tests l.obliged 0 (placed_view (take l.x-index l.obliged.mode.invariants.now)) l.at_loop l.spot l.kind l.initial.sym l.sym
