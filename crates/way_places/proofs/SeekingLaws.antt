-- What walks keep over two lists, one after the other, and what they find over a program.
use Rattle.std.proofs.Common.{◌≡◌, ℕ, refl, Bool, cond, List, [], ◌∷◌, ◌++◌, Option, Some}
use Rattle.c_core.specs.Tree.{Exp, Stm}
use Rattle.c_core.specs.Places.{before_in_statement}
use Rattle.c_core.specs.declared.number.IntType.{IntType}
use Rattle.c_core.specs.declared.number.Spot.{Spot}
use Rattle.c_core.specs.declared.place.PlaceKind.{PlaceKind}
use Rattle.c_core.specs.declared.place.Place.{Place}
use Rattle.way_places.specs.Seeking.{nearer, is_sought, best_of, or_this, or_else, first_of, before_of, type_from}
use Rattle.way_places.specs.Switches.{switch_in}

pub best_of_both : (kind : PlaceKind) (line : ℕ) (column : Option ℕ) (best : Option Spot) (ps qs : List Place)
    → best_of kind line column best (ps ++ qs) ≡ best_of kind line column (best_of kind line column best ps) qs
best_of_both kind line column best [] qs = refl
best_of_both kind line column best (p ∷ ps) qs =
    best_of_both kind line column (cond (is_sought kind line column p) (Some (nearer best p.spot)) best) ps qs

pub first_of_both : (q : Exp → Bool) (found : Option Exp) (xs ys : List Exp) → first_of q found (xs ++ ys) ≡ first_of q (first_of q found xs) ys
first_of_both q found [] ys = refl
first_of_both q found (e ∷ xs) ys = first_of_both q (or_this found (q e) e) xs ys

pub before_of_both : (spot : Spot) (found : Option Stm) (xs ys : List Stm) → before_of spot found (xs ++ ys) ≡ before_of spot (before_of spot found xs) ys
before_of_both spot found [] ys = refl
before_of_both spot found (s ∷ xs) ys = before_of_both spot (or_else found (before_in_statement spot s)) xs ys

pub type_from_both : (spot : Spot) (found : Option IntType) (xs ys : List Stm) → type_from spot found (xs ++ ys) ≡ type_from spot (type_from spot found xs) ys
type_from_both spot found [] ys = refl
type_from_both spot found (s ∷ xs) ys = type_from_both spot (or_else found (switch_in spot s)) xs ys
