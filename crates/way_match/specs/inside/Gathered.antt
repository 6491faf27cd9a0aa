-- Given values as Rust values, gathered from the follows of a violation sequence.
use Rattle.std.specs.Prelude.{ℕ, ℤ, List, [], ◌∷◌, ◌++◌, Option, Some, None, map}
use Rattle.std.specs.BTreeMap.{BTreeMap}
use Rattle.c_core.specs.Tree as t
use Rattle.c_core.specs.Places as places
use Rattle.c_core.specs.declared.number.Spot.{Spot}
use Rattle.c_meaning.specs.declared.run.Given.{Given}
use Rattle.way_match.specs.Given as pure
use Rattle.way_match.specs.Given.{given_by_follow, value_if_at}
use Rattle.way_match.specs.Points.{BoundSegment}
use Rattle.way_match.specs.declared.given_values.GivenValue.{GivenValue}
use Rattle.way_places.specs.Inputs.{call_view}
use Rattle.way_places.specs.Maps.{found_at}
use Rattle.way_match.specs.declared.stored.StoredInput.{StoredInput}

abbrev pub stored_view : StoredInput → pure.StoredInput
stored_view s = record { object = s.object; call = call_view s.call }

abbrev pub value_view : GivenValue → pure.GivenValue
value_view g = record { spot = g.spot; value = g.value }

abbrev pub values_view : List GivenValue → List pure.GivenValue
values_view gs = map value_view gs

abbrev pub listed_if : Option pure.GivenValue → List pure.GivenValue
listed_if None = []
listed_if (Some g) = g ∷ []

-- what the follows give, in witness order
abbrev pub gathered : t.Program → List BoundSegment → List pure.GivenValue
gathered p [] = []
gathered p (s ∷ ss) = listed_if (given_by_follow p s.follow) ++ gathered p ss

-- of gathered values those of a place
abbrev pub values_of : Spot → List pure.GivenValue → List ℤ
values_of spot [] = []
values_of spot (g ∷ gs) = value_if_at spot (Some g) ++ values_of spot gs

-- for each call the gathered values of its place
abbrev pub choices_for : List pure.GivenValue → List places.InputCall → List Given
choices_for gs calls = map (λ call. record { spot = call.spot; values = values_of call.spot gs }) calls

-- the values that a map has at a place, none where it has nothing
abbrev pub values_if : Option (List ℤ) → List ℤ
values_if None = []
values_if (Some vs) = vs

abbrev pub values_in : BTreeMap (ℕ × ℕ) (List ℤ) → Spot → List ℤ
values_in m spot = values_if (found_at m spot)

-- for each call what a map has at its place
abbrev pub choices_in : BTreeMap (ℕ × ℕ) (List ℤ) → List places.InputCall → List Given
choices_in m calls = map (λ call. record { spot = call.spot; values = values_in m call.spot }) calls
