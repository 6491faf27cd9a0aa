-- The starts of calls of `reach_error`, among calls.
use Rattle.std.specs.Prelude.{cond, List, [], ◌∷◌}
use Rattle.c_core.specs.Tree.{Exp}
use Rattle.c_core.specs.Parts.{spot_of}
use Rattle.c_core.specs.Places.{calls_reach_error}
use Rattle.c_core.specs.declared.number.Property.{Property}
use Rattle.c_core.specs.declared.number.Property.TheVariants.{UnreachCall, NoOverflow}
use Rattle.c_core.specs.declared.number.Spot.{Spot}

abbrev pub error_starts : List (Spot × Exp) → List Spot
error_starts [] = []
error_starts (c ∷ cs) = cond (calls_reach_error c.1) (spot_of c.1 ∷ error_starts cs) (error_starts cs)

abbrev pub error_starts_in : Property → List (Spot × Exp) → List Spot
error_starts_in UnreachCall cs = error_starts cs
error_starts_in NoOverflow cs = []
