-- The type that a walk keeps, or that is listed, is that of the first switch at its place.
use Rattle.std.proofs.Common.{◌≡◌, refl, sym, ap, ◌∙◌, Bool, true, false, cond, List, [], ◌∷◌, ◌++◌, Option, Some, None, map}
use Rattle.std.proofs.lemmas.Grind.{flat_map-append}
use Rattle.c_core.specs.Tree.{Stm, Stmt, Program}
use Rattle.c_core.specs.Parts.{same_spot, statements_of_program}
use Rattle.c_core.specs.Places.{first_some}
use Rattle.c_core.specs.declared.number.IntType.{IntType}
use Rattle.c_core.specs.declared.number.Spot.{Spot}
use Rattle.way_places.specs.Maps.{first_in}
use Rattle.way_places.specs.Seeking.{or_else, statements_of_functions, type_from}
use Rattle.way_places.specs.Switches.{switch_at, switch_in, switch_of, tests_among, tests_of, typed_at}
use Rattle.way_places.proofs.BeforeLaws.{statements_of_all}
use Rattle.way_places.proofs.FirstLaws.{first_in_both}
use Rattle.way_places.proofs.NeighbourLaws.{first_or}

type_stays : (spot : Spot) (ty : IntType) (ss : List Stm) → type_from spot (Some ty) ss ≡ Some ty
type_stays spot ty [] = refl
type_stays spot ty (s ∷ ss) = type_stays spot ty ss

type_one : (spot : Spot) (own : Option IntType) (ss : List Stm) → type_from spot None ss ≡ first_some (map (switch_in spot) ss)
    → type_from spot own ss ≡ first_some (own ∷ map (switch_in spot) ss)
type_one spot None ss h = h
type_one spot (Some ty) ss h = type_stays spot ty ss

type_is_first : (spot : Spot) (ss : List Stm) → type_from spot None ss ≡ first_some (map (switch_in spot) ss)
type_is_first spot [] = refl
type_is_first spot (s ∷ ss) = type_one spot (switch_in spot s) ss (type_is_first spot ss)

pub switch_is_found : (p : Program) (spot : Spot) → type_from spot None (statements_of_functions p.functions) ≡ switch_at p spot
switch_is_found p spot = ap (type_from spot None) (statements_of_all p.functions) ∙ type_is_first spot (statements_of_program p)

pub tests_both : (xs ys : List Stm) → tests_among (xs ++ ys) ≡ tests_among xs ++ tests_among ys
tests_both xs ys = flat_map-append tests_of xs ys

none_either : (b : Bool) → ◌≡◌ {A = Option IntType} None (cond b None None)
none_either true = refl
none_either false = refl

test_found : (spot at : Spot) (o : Option IntType) → first_in (typed_at at o) spot ≡ cond (same_spot at spot) o None
test_found spot at None = none_either (same_spot at spot)
test_found spot at (Some ty) = refl

in_statement : (spot : Spot) (s : Stm) → first_in (tests_of s) spot ≡ switch_in spot s
in_statement spot (Stmt at f) = test_found spot at (switch_of f)

in_all : (spot : Spot) (ss : List Stm) → first_in (tests_among ss) spot ≡ first_some (map (switch_in spot) ss)
in_all spot [] = refl
in_all spot (s ∷ ss) =
    first_in_both (tests_of s) (tests_among ss) spot
    ∙ ap (λ o. or_else o (first_in (tests_among ss) spot)) (in_statement spot s) ∙ ap (or_else (switch_in spot s)) (in_all spot ss)
    ∙ sym (first_or (switch_in spot s) (map (switch_in spot) ss))

pub switch_is_listed : (p : Program) (spot : Spot) → first_in (tests_among (statements_of_program p)) spot ≡ switch_at p spot
switch_is_listed p spot = in_all spot (statements_of_program p)
