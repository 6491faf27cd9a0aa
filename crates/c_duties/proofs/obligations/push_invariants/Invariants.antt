use Rattle.std.proofs.Common.{◌≡◌, ◌++◌, drop}
use Rattle.c_meaning.specs.Duties.{invariant_duties}
use Rattle.c_meaning.specs.Placing.{placed_view}
use Rattle.c_duties.proofs.obligations.push_invariants.Given as goal

-- with what is left it becomes what the whole gives
abbrev pub invariant-loop-invariant : goal.invariant-loop-invariant
invariant-loop-invariant l =
    (l.list.items ++ invariant_duties l.number (placed_view (drop l.invariant-index l.invariants)) ≡ l.initial.list.items ++ invariant_duties 0 (placed_view l.invariants))
