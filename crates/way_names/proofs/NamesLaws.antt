-- The names at a place are its static objects, and those of its scope.
use Rattle.std.proofs.Common.{◌≡◌, ℕ, sym, ap, subst, ◌∙◌, List, ◌++◌, Option, IsTrue}
use Rattle.std.proofs.lemmas.Bool.{false≢true}
use Rattle.c_core.specs.Tree.{Program}
use Rattle.c_core.specs.View.{program_view}
use Rattle.c_core.specs.declared.program.Program as rust
use Rattle.c_core.specs.Program.{IsProgram}
use Rattle.c_core.specs.declared.number.Spot.{Spot}
use Rattle.c_core.specs.declared.place.PlaceKind.{PlaceKind}
use Rattle.c_core.specs.declared.place.PlaceKind.TheVariants.{Statement, Loop, Branch, CallEnd}
use Rattle.way_names.specs.declared.scope.Scope.{Scope}
use Rattle.way_names.specs.Scopes.{HasNames, IsNames, IsScope, front_before, locals_at, scope_of}
use Rattle.way_names.specs.Visible.{is_scoped, names_at}
use Rattle.way_names.proofs.FrontLaws.{fixed_first}
use Rattle.way_names.proofs.ScopeLaws.{one_scope}
use Rattle.way_names.proofs.StaticLaws.{front_is_fixed}
use Rattle.way_names.specs.declared.places.ScopesAt.{ScopesAt}

module _ (p : Program) (fixed : List (Spot × ℕ)) (scopes : List Scope) (at_statements at_loops : ScopesAt) (h : IsNames p fixed scopes at_statements at_loops) where
  place_sees : (kind : PlaceKind) (spot : Spot) → IsTrue (is_scoped p kind spot) → IsScope scopes (scope_of kind spot at_statements at_loops) (locals_at p kind spot)
  place_sees Statement spot there = h.statements spot
  place_sees Loop spot there = h.loops spot
  place_sees Branch spot there = absurd (false≢true there)
  place_sees CallEnd spot there = absurd (false≢true there)

  pub has_scope : (kind : PlaceKind) (spot : Spot) → IsTrue (is_scoped p kind spot) → HasNames scopes (scope_of kind spot at_statements at_loops)
  has_scope kind spot there = (locals_at p kind spot, place_sees kind spot there)

  pub names_are : IsProgram p → (kind : PlaceKind) (spot : Spot) → IsTrue (is_scoped p kind spot) → (locals : List ℕ) → IsScope scopes (scope_of kind spot at_statements at_loops) locals
      → front_before spot fixed ++ locals ≡ names_at p kind spot
  names_are checked kind spot there locals is =
      ap (λ l. front_before spot fixed ++ l) (one_scope scopes (scope_of kind spot at_statements at_loops) locals (locals_at p kind spot) is (place_sees kind spot there))
      ∙ ap (λ l. l ++ locals_at p kind spot) (ap (front_before spot) h.statics ∙ front_is_fixed p spot checked)
      ∙ sym (fixed_first p kind spot)

-- the same from what the code reads
pub visible_names : (inside p : rust.Program) (fixed statics : List (Spot × ℕ)) (nested scopes : List Scope) (at_statements at_loops : ScopesAt) → inside ≡ p → IsNames (program_view inside) fixed nested at_statements at_loops
    → statics ≡ fixed → scopes ≡ nested → (kind : PlaceKind) (spot : Spot) → IsTrue (is_scoped (program_view p) kind spot) → (scope : Option ℕ) (locals : List ℕ) → scope ≡ scope_of kind spot at_statements at_loops → IsScope scopes scope locals
    → front_before spot statics ++ locals ≡ names_at (program_view p) kind spot
visible_names inside p fixed statics nested scopes at_statements at_loops one h same_statics same_scopes kind spot there scope locals same is =
    let own : IsNames (program_view p) fixed nested at_statements at_loops = subst (λ (q : rust.Program). IsNames (program_view q) fixed nested at_statements at_loops) one h in
    ap (λ l. front_before spot l ++ locals) same_statics
    ∙ names_are (program_view p) fixed nested at_statements at_loops own p.checked kind spot there locals
    (subst (λ s. IsScope nested s locals) same (subst (λ xs. IsScope xs scope locals) same_scopes is))
