-- The waypoints and segments that the reader has so far.
use Rattle.std.specs.Prelude.{ℕ, List, [], ◌∷◌, ◌++◌, Bool, true, false, not, ◌&&◌, Option, Some, None, map, if◌then◌else◌, codes}
use Rattle.std.specs.Option.{option_or, option_to_list}
use Rattle.std.specs.Str.{bytes_eq}
use Rattle.wv_yaml.specs.declared.tree.Tree.{Tree}
use Rattle.wv_yaml.specs.declared.tree.Pair.{Pair}
use Rattle.wv_schema.specs.declared.witness.WayKind.{WayKind}
use Rattle.wv_schema.specs.declared.witness.Segment.{Segment}
use Rattle.wv_schema.specs.declared.waypoint.Step.{Step}
use Rattle.wv_schema.specs.declared.waypoint.Avoids.{Avoids}
use Rattle.wv_schema.specs.declared.segment.Drafts.{Drafts}
use Rattle.wv_schema.specs.Values.{text_at, step_in, steps_in, waypoint_in, segment_of}
use Rattle.wv_schema.specs.Shapes.{is_end, is_follow, is_target, is_target_kind, is_misshapen, misshapen_from}

unfoldable pub step_by : List Pair → Step
step_by ps = record { waypoint = waypoint_in ps; is_follow = bytes_eq (text_at (codes "action") ps) (codes "follow") }

abbrev pub is_avoid_step : Step → Bool
is_avoid_step step = not step.is_follow && not (is_target_kind step.waypoint.kind)

-- the last waypoint is a target exactly where the segment is the final one
abbrev pub fits_end : Bool → WayKind → Bool
fits_end true kind = is_target_kind kind
fits_end false kind = not (is_target_kind kind)

abbrev pub are_avoids : List Tree → Bool
are_avoids [] = true
are_avoids (t ∷ ts) = (not (is_follow t) && not (is_target t)) && are_avoids ts

abbrev pub avoids_in : List Tree → Avoids
avoids_in ts = record { waypoints = map step_in ts; are_fit = are_avoids ts }

-- the segment, unless it is misshapen
unfoldable pub segment_by : Bool → List Tree → Option Segment
segment_by is_final ts = if is_misshapen is_final ts then None else Some (segment_of ts)

-- one segment more, or the number of the first that is misshapen
abbrev pub kept : Drafts → Option Segment → ℕ → Drafts
kept drafts None number = record drafts { misshapen = option_or drafts.misshapen (Some number) }
kept drafts (Some segment) number = record drafts { segments = drafts.segments ++ segment ∷ [] }

-- the segments that aren't misshapen
abbrev pub shapely : List Tree → List Segment
shapely [] = []
shapely (t ∷ ts) = option_to_list (segment_by (is_end ts) (steps_in t)) ++ shapely ts

abbrev pub drafts_in : List Tree → Drafts
drafts_in ts = record { segments = shapely ts; misshapen = misshapen_from 1 ts }
