-- Given values gathered in a list are those of each place.
use Rattle.std.proofs.Common.{◌≡◌, ℕ, refl, ap, ◌∙◌, Bool, true, false, List, [], ◌∷◌, ◌++◌, Option, Some, None, map}
use Rattle.c_core.specs.Tree.{Exp, Expr, Logic, Program}
use Rattle.c_core.specs.Places.{InputCall, first_some}
use Rattle.c_core.specs.declared.number.IntType.{IntType}
use Rattle.c_core.specs.declared.number.Spot.{Spot}
use Rattle.c_meaning.specs.declared.run.Choices.TheVariants.{Given}
use Rattle.way_places.specs.Seeking.{or_else}
use Rattle.way_match.specs.inside.Gathered.{choices_for, gathered, listed_if, values_of}
use Rattle.way_match.specs.Given.{GivenValue, constant_compared, first_constant, given_by, given_by_follow, input_calls, operands, value_if_at, values_at}
use Rattle.way_match.specs.Points.{BoundSegment}

pub first_alone : (a : Option Exp) → first_some (a ∷ []) ≡ a
first_alone None = refl
first_alone (Some x) = refl

first_more : (a : Option Exp) (l m : List (Option Exp)) (s : Option Exp) → first_some l ≡ or_else (first_some m) s → first_some (a ∷ l) ≡ or_else (first_some (a ∷ m)) s
first_more None l m s h = h
first_more (Some x) l m s h = refl

pub first_both : (o : ℕ) (xs ys : List Exp) → first_constant o (xs ++ ys) ≡ or_else (first_constant o xs) (first_constant o ys)
first_both o [] ys = refl
first_both o (x ∷ xs) ys =
    first_more (constant_compared o x) (map (constant_compared o) (xs ++ ys)) (map (constant_compared o) xs) (first_constant o ys) (first_both o xs ys)

-- the operands of a chain are those of its sides
pub chain_first : (o : ℕ) (spot : Spot) (ty : Option IntType) (both : Bool) (a b : Exp) → both ≡ true
    → first_constant o (operands (Expr spot ty (Logic both a b))) ≡ or_else (first_constant o (operands a)) (first_constant o (operands b))
chain_first o spot ty true a b h = first_both o (operands a) (operands b)
chain_first o spot ty false a b h = absurd (cc)

one_follow : (spot : Spot) (g : Option GivenValue) (gs : List GivenValue) → values_of spot (listed_if g ++ gs) ≡ value_if_at spot g ++ values_of spot gs
one_follow spot None gs = refl
one_follow spot (Some g) gs = refl

values_there : (p : Program) (spot : Spot) (ss : List BoundSegment) → values_of spot (gathered p ss) ≡ values_at p spot ss
values_there p spot [] = refl
values_there p spot (s ∷ ss) =
    one_follow spot (given_by_follow p s.follow) (gathered p ss) ∙ ap (λ vs. value_if_at spot (given_by_follow p s.follow) ++ vs) (values_there p spot ss)

choices_there : (p : Program) (ss : List BoundSegment) (calls : List InputCall)
    → choices_for (gathered p ss) calls ≡ map (λ call. record { spot = call.spot; values = values_at p call.spot ss }) calls
choices_there p ss [] = refl
choices_there p ss (call ∷ calls) =
    ap (λ vs. record { spot = call.spot; values = vs } ∷ choices_for (gathered p ss) calls) (values_there p call.spot ss)
    ∙ ap (λ l. record { spot = call.spot; values = values_at p call.spot ss } ∷ l) (choices_there p ss calls)

pub given_is_gathered : (p : Program) (ss : List BoundSegment) → Given (choices_for (gathered p ss) (input_calls p)) ≡ given_by p ss
given_is_gathered p ss = ap Given (choices_there p ss (input_calls p))
