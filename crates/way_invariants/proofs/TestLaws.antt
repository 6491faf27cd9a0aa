-- Each invariant that is bound is a typed expression of the program.
use Rattle.std.proofs.Common.{sym, subst, ℕ, List, [], ◌∷◌, Option, Some, None, Ok}
use Rattle.std.proofs.lemmas.List.Elements.{All-from_recursion}
use Rattle.std.specs.List.{All, AllByRecursion}
use Rattle.c_core.specs.Tree.{Program}
use Rattle.c_core.specs.declared.number.Spot.{Spot}
use Rattle.c_meaning.specs.Duties.{Placed}
use Rattle.c_meaning.specs.declared.run.PlacedInvariant.{PlacedInvariant}
use Rattle.c_meaning.specs.Placing.{IsInvariant, placed_view}
use Rattle.wv_schema.specs.declared.witness.InvariantKind.{InvariantKind}
use Rattle.wv_schema.specs.declared.witness.Invariant.{Invariant}
use Rattle.wv_schema.specs.declared.witness.Witness.{Witness}
use Rattle.way_names.specs.Visible.{names_at}
use Rattle.way_bind.specs.Binding.{BindsThere, WherePlaced, place_named}
use Rattle.way_bind.specs.InOrder.{AllBound}
use Rattle.way_invariants.specs.Invariants.{BindsInvariant, BindsInvariants, invariants_of, place_of, placed_at}
use Rattle.way_invariants.proofs.TypedTests.{test_fits}

there_tested : (p : Program) (kind : InvariantKind) (text : List ℕ) (spot : Spot) (x : Placed) → BindsThere p (place_of kind) text (placed_at kind) spot (Ok x) → IsInvariant p x
there_tested p kind text spot x h =
    let fits = test_fits p (names_at p (place_of kind) spot) text h.1.0 h.0 h.1.1.spelled h.1.2 in
    subst (λ (y : Placed). IsInvariant p y) (sym h.2) (record { types = fits.0; value = fits.1 })

where_tested : (p : Program) (kind : InvariantKind) (text : List ℕ) (place : Option Spot) (x : Placed) → WherePlaced place (BindsThere p (place_of kind) text (placed_at kind)) (Ok x) → IsInvariant p x
where_tested p kind text None x h = absurd (cc h)
where_tested p kind text (Some spot) x h = there_tested p kind text spot x h

tested : (p : Program) (vs : List Invariant) (xs : List Placed) → AllBound (BindsInvariant p) vs xs → AllByRecursion (IsInvariant p) xs
tested p [] [] h = tt
tested p [] (x ∷ xs) h = absurd h
tested p (v ∷ vs) [] h = absurd h
tested p (v ∷ vs) (x ∷ xs) h = (where_tested p v.kind v.value (place_named p (place_of v.kind) v.location) x h.0, tested p vs xs h.1)

-- the invariants of a witness that are bound
pub bound_tested : (p : Program) (w : Witness) (xs : List PlacedInvariant) → BindsInvariants p w (Ok xs) → All (IsInvariant p) (placed_view xs)
bound_tested p w xs h = All-from_recursion (IsInvariant p) (placed_view xs) (tested p (invariants_of w) (placed_view xs) h)
