-- Worked lines.
use Rattle.std.specs.Prelude.{◌≡◌, ℕ, List, [], ◌∷◌, Option, Some, None, codes, refl}
use Rattle.std.specs.Fmt.{digits}
use Rattle.std.specs.Str.{chars}
use lib.Utf8.{encode}
use Rattle.wv_schema.specs.declared.witness.Constraint.{Constraint}
use Rattle.wv_schema.specs.declared.witness.Content.TheVariants.{Violation, Invariants}
use Rattle.wv_schema.specs.declared.witness.Invariant.{Invariant}
use Rattle.wv_schema.specs.declared.witness.InvariantKind.TheVariants.{Loop}
use Rattle.wv_schema.specs.declared.witness.Location.{Location}
use Rattle.wv_schema.specs.declared.witness.Segment.{Segment}
use Rattle.wv_schema.specs.declared.witness.Waypoint.{Waypoint}
use Rattle.wv_schema.specs.declared.witness.WayKind.{WayKind}
use Rattle.wv_schema.specs.declared.witness.WayKind.TheVariants.{Assumption, Target, FunctionReturn}
use Rattle.wv_show.specs.Show.{content_lines}

abbrev at : ℕ → Option ℕ → Location
at line column = record { file_name = None; line = line; column = column; function = None }

abbrev waypoint : WayKind → Location → Option Constraint → Waypoint
waypoint kind location constraint = record { kind = kind; location = location; constraint = constraint }

abbrev held : List ℕ → Option Constraint
held value = Some (record { value = value; format = None })

abbrev returned : Segment
returned = record { avoids = []; follow = waypoint FunctionReturn (at 4 (Some 33)) (held (codes "\\result == 5")) }

abbrev reached : Segment
reached = record { avoids = waypoint Assumption (at 5 None) (held (codes "i == 2")) ∷ []; follow = waypoint Target (at 6 (Some 5)) None }

-- avoids stand before the follow, and numbers go on
waypoints : content_lines 1 (Violation (returned ∷ reached ∷ []))
    ≡ codes "waypoint 1 follow function_return 4:33 \"\\\\result == 5\"\nwaypoint 2 avoid assumption 5 \"i == 2\"\nwaypoint 3 follow target 6:5\n"
unfolding encode digits chars
waypoints = refl

abbrev counted : Invariant
counted = record { kind = Loop; location = at 17 (Some 3); value = codes "x + y == n"; format = None }

invariants : content_lines 7 (Invariants (counted ∷ [])) ≡ codes "invariant 7 loop_invariant 17:3 \"x + y == n\"\n"
unfolding encode digits chars
invariants = refl
