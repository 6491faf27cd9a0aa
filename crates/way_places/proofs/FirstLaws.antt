-- The first at a place, of two lists one after the other.
use Rattle.std.proofs.Common.{◌≡◌, ℕ, refl, Bool, true, false, cond, List, [], ◌∷◌, ◌++◌, Option, Some}
use Rattle.std.specs.declared.cmp.Ordering.{Ordering}
use Rattle.std.specs.Ordering.{nat_cmp, ordering_then}
use Rattle.c_core.specs.Parts.{same_spot}
use Rattle.c_core.specs.declared.number.Spot.{Spot}
use Rattle.way_places.specs.Maps.{first_in}
use Rattle.way_places.specs.Seeking.{or_else}

abbrev pub pair_cmp : ℕ × ℕ → ℕ × ℕ → Ordering
pair_cmp a b = ordering_then (nat_cmp a.0 b.0) (nat_cmp a.1 b.1)

pub both_by : {V : Type 0} (b : Bool) (v : V) (o x y : Option V) → o ≡ or_else x y → cond b (Some v) o ≡ or_else (cond b (Some v) x) y
both_by true v o x y h = refl
both_by false v o x y h = h

pub first_in_both : {V : Type 0} (xs ys : List (Spot × V)) (q : Spot) → first_in (xs ++ ys) q ≡ or_else (first_in xs q) (first_in ys q)
first_in_both [] ys q = refl
first_in_both (x ∷ xs) ys q = both_by (same_spot x.0 q) x.1 (first_in (xs ++ ys) q) (first_in xs q) (first_in ys q) (first_in_both xs ys q)
