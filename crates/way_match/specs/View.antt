-- Bound waypoints of a Rust program as pure ones: their trees without boxes.
use Rattle.std.specs.Prelude.{List, [], ◌∷◌, Option, Some, None}
use Rattle.c_core.specs.View.{expr_view}
use Rattle.way_match.specs.Points as pure
use Rattle.way_match.specs.declared.point.Aim.{Aim}
use Rattle.way_match.specs.declared.point.Aim.TheVariants.{At, Line}
use Rattle.way_match.specs.declared.point.ReturnTest.{ReturnTest}
use Rattle.way_match.specs.declared.point.Point.{Point}
use Rattle.way_match.specs.declared.point.Point.TheVariants.{Assume, Target, Enter, Return, Branch}
use Rattle.way_match.specs.declared.point.BoundSegment.{BoundSegment}
use Rattle.way_match.specs.declared.point.Bound.{Bound}

-- an aim holds no tree and stays as it is
abbrev pub aim_view : Aim → pure.Aim
aim_view (At spot) = pure.At spot
aim_view (Line line) = pure.Line line

-- a constraint on `\result`, its constant as a pure tree
abbrev pub test_view : ReturnTest → pure.ReturnTest
test_view t = record { op = t.op; constant = expr_view t.constant }

-- the same where there is one
abbrev pub test_view_if : Option ReturnTest → Option pure.ReturnTest
test_view_if None = None
test_view_if (Some t) = Some (test_view t)

-- a point, its expression as a pure tree
abbrev pub point_view : Point → pure.Point
point_view (Assume spot test) = pure.Assume spot (expr_view test)
point_view (Target aim) = pure.Target (aim_view aim)
point_view (Enter close) = pure.Enter close
point_view (Return close test) = pure.Return close (test_view_if test)
point_view (Branch spot way) = pure.Branch spot way

-- point by point
abbrev pub points_view : List Point → List pure.Point
points_view [] = []
points_view (x ∷ xs) = point_view x ∷ points_view xs

-- a segment: its avoids and its follow
abbrev pub segment_view : BoundSegment → pure.BoundSegment
segment_view s = record { avoids = points_view s.avoids; follow = point_view s.follow }

-- segment by segment
abbrev pub each_segment_view : List BoundSegment → List pure.BoundSegment
each_segment_view [] = []
each_segment_view (s ∷ ss) = segment_view s ∷ each_segment_view ss

-- the bound segments as contracts see them
abbrev pub segments_view : Bound → List pure.BoundSegment
segments_view bound = each_segment_view bound.segments
