-- The ways that a branching may state.
use Rattle.std.specs.Prelude.{ℕ, ℤ, true, false, cond, List, Option, Some, None, codes}
use Rattle.std.specs.Str.{bytes_eq}
use Rattle.c_core.specs.Tree.{Program}
use Rattle.c_core.specs.Types.{fit}
use Rattle.c_core.specs.declared.number.DataModel.{DataModel}
use Rattle.c_core.specs.declared.number.IntType.{IntType}
use Rattle.c_core.specs.declared.number.Spot.{Spot}
use Rattle.c_meaning.specs.declared.run.Way.{Way}
use Rattle.c_meaning.specs.declared.run.Way.TheVariants.{Truth, Case, Default}
use Rattle.way_places.specs.Switches.{switch_at}
use Rattle.wv_schema.specs.Judging.{integer_in}

-- `true` or `false`
abbrev pub truth_in : List ℕ → Option Way
truth_in text =
    cond (bytes_eq text (codes "true")) (Some (Truth true)) (cond (bytes_eq text (codes "false")) (Some (Truth false)) None)

-- an integer, fitted to the type of the test
abbrev pub case_of : DataModel → IntType → Option ℤ → Option Way
case_of m ty None = None
case_of m ty (Some v) = Some (Case (fit m ty v))

-- `default` or an integer
abbrev pub arm_in : DataModel → IntType → List ℕ → Option Way
arm_in m ty text = cond (bytes_eq text (codes "default")) (Some Default) (case_of m ty (integer_in text))

-- an arm where a switch is, by the promoted type of its test, a truth elsewhere
abbrev pub way_in : DataModel → Option IntType → List ℕ → Option Way
way_in m None text = truth_in text
way_in m (Some ty) text = arm_in m ty text

-- the way that a text states at a place
unfoldable pub way_at : Program → Spot → List ℕ → Option Way
way_at p spot text = way_in p.model (switch_at p spot) text
