-- The leftmost place that a walk keeps is the leftmost of all.
use Rattle.std.proofs.Common.{◌≡◌, ℕ, refl, sym, ap, ◌∙◌, Bool, true, false, cond, ◌&&◌, List, [], ◌∷◌, ◌++◌, Option, Some, None, nat_lt, arith}
use Rattle.std.specs.List.{filter, flat_map}
use Rattle.std.proofs.lemmas.Bool.Decides.{nat_tests}
use Rattle.c_core.specs.Tree.{Function, Program}
use Rattle.c_core.specs.Places.{is_named, same_kind, of_kind, lefter, leftmost, place_at, places_of_body}
use Rattle.c_core.specs.declared.number.Spot.{Spot}
use Rattle.c_core.specs.declared.place.PlaceKind.{PlaceKind}
use Rattle.c_core.specs.declared.place.Place.{Place}
use Rattle.way_places.specs.Seeking.{nearer, is_sought, best_of, places_of_functions}

abbrev pub join : Option Spot → Option Spot → Option Spot
join None b = b
join (Some a) b = Some (lefter a b)

lt_both : (a b c : ℕ) → nat_lt b a ≡ true → nat_lt c b ≡ true → nat_lt c a ≡ true
lt_both a b c h k = grind (arith, nat_tests)

lt_none : (a b c : ℕ) → nat_lt b a ≡ false → nat_lt c b ≡ false → nat_lt c a ≡ false
lt_none a b c h k = grind (arith, nat_tests)

-- the leftmost of three
of_three : (b s r : Spot) (x y : Bool) → nat_lt s.column b.column ≡ x → nat_lt r.column s.column ≡ y
    → cond (nat_lt r.column (cond x s b).column) r (cond x s b) ≡ cond (nat_lt (cond y r s).column b.column) (cond y r s) b
of_three b s r true true h k = rw (k, lt_both b.column s.column r.column h k)
of_three b s r true false h k = rw (k, h)
of_three b s r false true h k = refl
of_three b s r false false h k = rw (lt_none b.column s.column r.column h k, h)

lefter_both : (b s : Spot) (rest : Option Spot) → lefter (nearer (Some b) s) rest ≡ lefter b (Some (lefter s rest))
lefter_both b s None = refl
lefter_both b s (Some r) = of_three b s r (nat_lt s.column b.column) (nat_lt r.column s.column) refl refl

join_more : (best : Option Spot) (s : Spot) (rest : Option Spot) → join (Some (nearer best s)) rest ≡ join best (Some (lefter s rest))
join_more None s rest = refl
join_more (Some b) s rest = ap Some (lefter_both b s rest)

pub join_none : (best : Option Spot) → best ≡ join best None
join_none None = refl
join_none (Some b) = refl

abbrev pub sought : ℕ → Option ℕ → List Spot → Option Spot
sought line column spots = leftmost (filter (is_named line column) spots)

-- one more place, of the kind or not, named or not
pub one_more : (line : ℕ) (column : Option ℕ) (x y : Bool) (best : Option Spot) (s : Spot) (spots : List Spot) → is_named line column s ≡ y
    → join (cond (x && y) (Some (nearer best s)) best) (sought line column spots) ≡ join best (sought line column (cond x (s ∷ spots) spots))
one_more line column true true best s spots h =
    join_more best s (sought line column spots) ∙ sym (ap (λ t. join best (leftmost (cond t (s ∷ filter (is_named line column) spots) (filter (is_named line column) spots)))) h)
one_more line column true false best s spots h =
    sym (ap (λ t. join best (leftmost (cond t (s ∷ filter (is_named line column) spots) (filter (is_named line column) spots)))) h)
one_more line column false y best s spots h = refl

best_is_leftmost : (kind : PlaceKind) (line : ℕ) (column : Option ℕ) (best : Option Spot) (ps : List Place)
    → best_of kind line column best ps ≡ join best (sought line column (of_kind kind ps))
best_is_leftmost kind line column best [] = join_none best
best_is_leftmost kind line column best (p ∷ ps) =
    best_is_leftmost kind line column (cond (is_sought kind line column p) (Some (nearer best p.spot)) best) ps
    ∙ one_more line column (same_kind kind p.kind) (is_named line column p.spot) best p.spot (of_kind kind ps) refl

pub places_of_all : (fs : List Function) → places_of_functions fs ≡ flat_map (λ f. places_of_body f.body) fs
places_of_all [] = refl
places_of_all (f ∷ fs) = ap (λ l. places_of_body f.body ++ l) (places_of_all fs)

pub best_is_place : (p : Program) (kind : PlaceKind) (line : ℕ) (column : Option ℕ)
    → best_of kind line column None (places_of_functions p.functions) ≡ place_at p kind line column
best_is_place p kind line column =
    best_is_leftmost kind line column None (places_of_functions p.functions)
    ∙ ap (λ ps. sought line column (of_kind kind ps)) (places_of_all p.functions)
