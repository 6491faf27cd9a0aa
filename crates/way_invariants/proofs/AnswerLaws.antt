-- Two answers about one witness agree.
use Rattle.std.proofs.Common.{List, Result, Ok, Err}
use Rattle.c_core.specs.Tree.{Program}
use Rattle.c_meaning.specs.Duties.{Placed}
use Rattle.c_meaning.specs.declared.run.PlacedInvariant.{PlacedInvariant}
use Rattle.c_meaning.specs.Placing.{placed_view}
use Rattle.wv_schema.specs.declared.witness.Invariant.{Invariant}
use Rattle.wv_schema.specs.declared.witness.Witness.{Witness}
use Rattle.way_names.specs.Visible.{names_at}
use Rattle.way_bind.specs.declared.fault.Unbound.{Unbound}
use Rattle.way_bind.specs.declared.fault.BindFault.{BindFault}
use Rattle.way_bind.specs.Binding.{BindsExpression, BindsThere, place_named}
use Rattle.way_bind.specs.InOrder.{AgreeBy}
use Rattle.way_bind.proofs.OneLaws.{One, one_made, one_placed}
use Rattle.way_bind.proofs.LeastLaws.{bound_same, not_told, one_told}
use Rattle.way_bind.proofs.PointAnswers.{one_expression}
use Rattle.way_invariants.specs.Invariants.{BindsInvariant, BindsInvariants, invariants_of, place_of, placed_at}

one_invariant : (p : Program) (v : Invariant) (r q : Result Placed Unbound) → BindsInvariant p v r → BindsInvariant p v q → One r q
one_invariant p v r q h k =
    one_placed (place_named p (place_of v.kind) v.location) (BindsThere p (place_of v.kind) v.value (placed_at v.kind))
    (λ spot. one_made (BindsExpression p (names_at p (place_of v.kind) spot) v.value) (placed_at v.kind spot) (one_expression p (names_at p (place_of v.kind) spot) v.value)) r q h k

pub answers_agree : (p : Program) (w : Witness) (a b : Result (List PlacedInvariant) BindFault) → BindsInvariants p w a → BindsInvariants p w b → AgreeBy placed_view a b
answers_agree p w (Ok a) (Ok b) h k = bound_same (BindsInvariant p) (one_invariant p) (invariants_of w) (placed_view a) (placed_view b) h k
answers_agree p w (Ok a) (Err f) h k = not_told (BindsInvariant p) (one_invariant p) 1 (invariants_of w) (placed_view a) f h k
answers_agree p w (Err f) (Ok b) h k = not_told (BindsInvariant p) (one_invariant p) 1 (invariants_of w) (placed_view b) f k h
answers_agree p w (Err f) (Err g) h k = one_told (BindsInvariant p) (one_invariant p) 1 (invariants_of w) f g h k
