-- What the parts of `bind_violation` answer.
use Rattle.std.specs.Prelude.{ℕ, List, Result, Ok, Err}
use Rattle.c_core.specs.Tree.{Program}
use Rattle.wv_schema.specs.declared.witness.Waypoint.{Waypoint}
use Rattle.wv_schema.specs.declared.witness.Segment.{Segment}
use Rattle.way_match.specs.View.{points_view, segment_view, each_segment_view}
use Rattle.way_match.specs.declared.point.Point.{Point}
use Rattle.way_match.specs.declared.point.BoundSegment.{BoundSegment}
use Rattle.way_bind.specs.declared.fault.BindFault.{BindFault}
use Rattle.way_bind.specs.Binding.{AreBound, AreBoundTo, IsBoundTo, Tells, waypoints_of, waypoints_in}

-- these waypoints, the first of this number, are bound, or the least that isn't is reported
abbrev pub BindsAll : Program → ℕ → List Waypoint → Result (List Point) BindFault → Type 0
BindsAll p first vs (Ok xs) = AreBound p vs (points_view xs)
BindsAll p first vs (Err f) = Tells p first vs f

abbrev pub BindsSegment : Program → ℕ → Segment → Result BoundSegment BindFault → Type 0
BindsSegment p first s (Ok b) = IsBoundTo p s (segment_view b)
BindsSegment p first s (Err f) = Tells p first (waypoints_of s) f

abbrev pub BindsSegments : Program → ℕ → List Segment → Result (List BoundSegment) BindFault → Type 0
BindsSegments p first ss (Ok bs) = AreBoundTo p ss (each_segment_view bs)
BindsSegments p first ss (Err f) = Tells p first (waypoints_in ss) f
