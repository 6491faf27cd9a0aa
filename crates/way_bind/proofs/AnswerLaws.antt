-- Two answers about one witness agree.
use Rattle.std.proofs.Common.{◌≡◌, ap, ◌∙◌, List, Result, Ok, Err}
use Rattle.c_core.specs.Tree.{Program}
use Rattle.wv_schema.specs.declared.witness.Segment.{Segment}
use Rattle.wv_schema.specs.declared.witness.Witness.{Witness}
use Rattle.way_match.specs.Points.{Point, BoundSegment}
use Rattle.way_match.specs.View.{segments_view}
use Rattle.way_match.specs.declared.point.Bound.{Bound}
use Rattle.way_bind.specs.declared.fault.BindFault.{BindFault}
use Rattle.way_bind.specs.declared.fault.BindFault.TheVariants as fault
use Rattle.way_bind.specs.Agreement.{Agree}
use Rattle.way_bind.specs.Binding.{BindsPoint, AreBoundTo, IsBoundTo, Binds, Tells, segments_of, waypoints_in}
use Rattle.way_bind.proofs.OneLaws.{ok_same}
use Rattle.way_bind.proofs.InOrderLaws.{each_same}
use Rattle.way_bind.proofs.LeastLaws.{bound_same, not_told, one_told}
use Rattle.way_bind.proofs.BindingLaws.{points_of_segments}
use Rattle.way_bind.proofs.PointAnswers.{one_point}

abbrev make : List Point → Point → BoundSegment
make xs x = record { avoids = xs; follow = x }

same_segment : (b c : BoundSegment) → b.avoids ≡ c.avoids → b.follow ≡ c.follow → b ≡ c
same_segment b c avoids follow = ap (λ (xs : List Point). make xs b.follow) avoids ∙ ap (λ (x : Point). make c.avoids x) follow

one_segment : (p : Program) (s : Segment) (b c : BoundSegment) → IsBoundTo p s b → IsBoundTo p s c → b ≡ c
one_segment p s b c h k =
    same_segment b c (bound_same (BindsPoint p) (one_point p) s.avoids b.avoids c.avoids h.0 k.0) (ok_same b.follow c.follow (one_point p s.follow (Ok b.follow) (Ok c.follow) h.1 k.1))

bound_not_told : (p : Program) (ss : List Segment) (bs : List BoundSegment) (f : BindFault) → AreBoundTo p ss bs → Tells p 1 (waypoints_in ss) f → f ≡ fault.OutOfMemory
bound_not_told p ss bs f h k = let points = points_of_segments p ss bs h in not_told (BindsPoint p) (one_point p) 1 (waypoints_in ss) points.0 f points.1 k

pub answers_agree : (p : Program) (w : Witness) (a b : Result Bound BindFault) → Binds p w a → Binds p w b → Agree a b
answers_agree p w (Ok a) (Ok b) h k = each_same (IsBoundTo p) (one_segment p) (segments_of w) (segments_view a) (segments_view b) h k
answers_agree p w (Ok a) (Err f) h k = bound_not_told p (segments_of w) (segments_view a) f h k
answers_agree p w (Err f) (Ok b) h k = bound_not_told p (segments_of w) (segments_view b) f k h
answers_agree p w (Err f) (Err g) h k = one_told (BindsPoint p) (one_point p) 1 (waypoints_in (segments_of w)) f g h k
