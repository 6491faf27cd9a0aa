-- What maps have at places.
use Rattle.std.specs.Prelude.{ℕ, cond, List, [], ◌∷◌, Option, Some, None}
use Rattle.std.specs.BTreeMap.{BTreeMap, get_by}
use Rattle.std.specs.Ordering.{nat_cmp, ordering_then}
use Rattle.c_core.specs.Parts.{same_spot}
use Rattle.c_core.specs.declared.number.Spot.{Spot}

abbrev pub found_at : {V : Type 0} → BTreeMap (ℕ × ℕ) V → Spot → Option V
found_at m spot = get_by (λ k. ordering_then (nat_cmp spot.line k.0) (nat_cmp spot.column k.1)) m

-- the first of these at a place
abbrev pub first_in : {V : Type 0} → List (Spot × V) → Spot → Option V
first_in [] q = None
first_in (e ∷ es) q = cond (same_spot e.0 q) (Some e.1) (first_in es q)
