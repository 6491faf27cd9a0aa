-- A demo's program with its invariants can be judged.
use Rattle.std.proofs.Common.{◌≡◌, ℕ, List, refl}
use Rattle.demo_laws.specs.Bounds.{AreBounds}
use Rattle.demo_run.specs.Typed.{correct_typed}
use Rattle.sym_duties.specs.Answers.{CanBeJudged, IsFault}
use Rattle.sym_duties.specs.declared.fault.SymFault.{SymFault}
use Rattle.sym_duties.specs.declared.fault.SymFault.TheVariants.{Recursion, TooBig, OutOfMemory}
use Rattle.demo_binding.specs.Correct.{placed_ranges}
use Rattle.demo_binding.proofs.Straight.{correct_is_straight}
use Rattle.demo_binding.proofs.Weights.{demo_is_light}

pub can_be_judged : (bs : List ℕ) → AreBounds bs → CanBeJudged (correct_typed bs) (placed_ranges 4 1 0 bs)
can_be_judged bs bounds = record { straight = correct_is_straight bs; fits = demo_is_light bs bounds }

pub only_memory : (bs : List ℕ) (names : List (List ℕ)) (fault : SymFault) → AreBounds bs → IsFault (correct_typed bs) names (placed_ranges 4 1 0 bs) fault → fault ≡ OutOfMemory
only_memory bs names (Recursion name) bounds h = absurd (correct_is_straight bs h.number (h.first).0)
only_memory bs names TooBig bounds h = absurd (demo_is_light bs bounds h.1)
only_memory bs names OutOfMemory bounds h = refl
