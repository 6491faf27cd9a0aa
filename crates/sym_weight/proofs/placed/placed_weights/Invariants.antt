use Rattle.std.proofs.Common.{◌≡◌, ◌+◌, drop}
use Rattle.c_core.specs.View.{program_view}
use Rattle.c_core.specs.declared.number.Spot.{Spot}
use Rattle.sym_weight.specs.Tally.{capped, weight_at}
use Rattle.c_meaning.specs.Placing.{placed_view}
use Rattle.sym_weight.specs.Weight.{placed_weight}
use Rattle.sym_weight.proofs.placed.placed_weights.Given as goal

-- with what is left it becomes what the whole gives
abbrev pub invariant-loop-x : goal.invariant-loop-x
invariant-loop-x l = record {
  settled : (q : Spot) → capped (weight_at l.weights q) ≡ weight_at l.weights q;
  value : (q : Spot) → capped (weight_at l.weights q + placed_weight (program_view l.program) (placed_view (drop l.x-index l.invariants)) l.at_loop q)
      ≡ capped (placed_weight (program_view l.program) (placed_view l.invariants) l.at_loop q);
}
