-- The statement that a walk keeps is the first of all.
use Rattle.std.proofs.Common.{◌≡◌, refl, ap, ◌∙◌, List, [], ◌∷◌, ◌++◌, Option, Some, None, map}
use Rattle.std.specs.List.{flat_map}
use Rattle.c_core.specs.Tree.{Stm, Function, Program}
use Rattle.c_core.specs.Parts.{statements_of, statements_of_program}
use Rattle.c_core.specs.Places.{before_in_statement, first_some, stmt_before}
use Rattle.c_core.specs.declared.number.Spot.{Spot}
use Rattle.way_places.specs.Seeking.{before_of, statements_of_functions}

before_stays : (spot : Spot) (s : Stm) (ss : List Stm) → before_of spot (Some s) ss ≡ Some s
before_stays spot s [] = refl
before_stays spot s (x ∷ ss) = before_stays spot s ss

before_one : (spot : Spot) (own : Option Stm) (ss : List Stm) → before_of spot None ss ≡ first_some (map (before_in_statement spot) ss)
    → before_of spot own ss ≡ first_some (own ∷ map (before_in_statement spot) ss)
before_one spot None ss h = h
before_one spot (Some s) ss h = before_stays spot s ss

before_is_first : (spot : Spot) (ss : List Stm) → before_of spot None ss ≡ first_some (map (before_in_statement spot) ss)
before_is_first spot [] = refl
before_is_first spot (s ∷ ss) = before_one spot (before_in_statement spot s) ss (before_is_first spot ss)

pub statements_of_all : (fs : List Function) → statements_of_functions fs ≡ flat_map (λ f. statements_of f.body) fs
statements_of_all [] = refl
statements_of_all (f ∷ fs) = ap (λ l. statements_of f.body ++ l) (statements_of_all fs)

pub before_is_found : (p : Program) (spot : Spot) → before_of spot None (statements_of_functions p.functions) ≡ stmt_before p spot
before_is_found p spot = ap (before_of spot None) (statements_of_all p.functions) ∙ before_is_first spot (statements_of_program p)
