-- Invariant sets bound to the places and the typed expressions of a program. An invariant passes four tests, in this order: its place
-- exists; its expression is in the grammar; its names are in scope; its expression types. The least invariant that fails one is reported,
-- by the first test that it fails.
use Rattle.std.specs.Prelude.{Bool, true, false, List, [], Result, Ok, Err}
use Rattle.std.specs.List.{flat_map}
use Rattle.c_core.specs.Tree.{Exp, Program}
use Rattle.c_core.specs.declared.number.Spot.{Spot}
use Rattle.c_core.specs.declared.place.PlaceKind.{PlaceKind}
use Rattle.c_core.specs.declared.place.PlaceKind.TheVariants as place
use Rattle.c_meaning.specs.Duties.{Placed}
use Rattle.c_meaning.specs.declared.run.PlacedInvariant.{PlacedInvariant}
use Rattle.c_meaning.specs.Placing.{placed_view}
use Rattle.wv_schema.specs.declared.witness.InvariantKind.{InvariantKind}
use Rattle.wv_schema.specs.declared.witness.InvariantKind.TheVariants.{Loop, Location}
use Rattle.wv_schema.specs.declared.witness.Invariant.{Invariant}
use Rattle.wv_schema.specs.declared.witness.Content.{Content}
use Rattle.wv_schema.specs.declared.witness.Content.TheVariants.{Violation, Invariants}
use Rattle.wv_schema.specs.declared.witness.Entry.{Entry}
use Rattle.wv_schema.specs.declared.witness.Witness.{Witness}
use Rattle.way_bind.specs.declared.fault.Unbound.{Unbound}
use Rattle.way_bind.specs.declared.fault.BindFault.{BindFault}
use Rattle.way_bind.specs.Binding.{BindsThere, WherePlaced, place_named}
use Rattle.way_bind.specs.InOrder.{AllBound, TellsLeast}

-- ---- one invariant

-- a loop invariant stands at a loop, a location invariant at a statement
abbrev pub place_of : InvariantKind → PlaceKind
place_of Loop = place.Loop
place_of Location = place.Statement

-- whether an invariant of this kind is tested at the head of a loop
abbrev pub is_at_loop : InvariantKind → Bool
is_at_loop Loop = true
is_at_loop Location = false

-- a typed expression as an invariant of a kind at a place
abbrev pub placed_at : InvariantKind → Spot → Exp → Placed
placed_at kind spot test = record { at_loop = is_at_loop kind; spot = spot; test = test }

-- an invariant is bound to its place, where it reads the names that are visible, or this is the first test that it fails
abbrev pub BindsInvariant : Program → Invariant → Result Placed Unbound → Type 0
BindsInvariant p v answer = WherePlaced (place_named p (place_of v.kind) v.location) (BindsThere p (place_of v.kind) v.value (placed_at v.kind)) answer

-- ---- witnesses

-- the invariants of an entry's content; a violation sequence has none
abbrev pub set_in : Content → List Invariant
set_in (Violation segments) = []
set_in (Invariants set) = set

-- the invariants that an entry claims
abbrev pub set_of : Entry → List Invariant
set_of e = set_in e.content

-- the sets of all entries, joined in order
abbrev pub invariants_among : List Entry → List Invariant
invariants_among es = flat_map set_of es

-- the invariants of a witness, as they are numbered in refusals
abbrev pub invariants_of : Witness → List Invariant
invariants_of w = invariants_among w.entries

-- all are bound, in witness order, or the least that isn't is reported, by its number from 1
abbrev pub BindsInvariants : Program → Witness → Result (List PlacedInvariant) BindFault → Type 0
BindsInvariants p w (Ok xs) = AllBound (BindsInvariant p) (invariants_of w) (placed_view xs)
BindsInvariants p w (Err f) = TellsLeast (BindsInvariant p) 1 (invariants_of w) f
