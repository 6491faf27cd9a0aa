-- Waypoints that are bound one after another.
use Rattle.std.proofs.Common.{◌≡◌, refl, ap, List, [], ◌∷◌, ◌++◌, Ok}
use Rattle.c_core.specs.Tree.{Program}
use Rattle.wv_schema.specs.declared.witness.Segment.{Segment}
use Rattle.way_match.specs.Points.{Point, BoundSegment}
use Rattle.way_match.specs.View.{point_view, points_view, segment_view, each_segment_view}
use Rattle.way_match.specs.declared.point.Point as rust
use Rattle.way_match.specs.declared.point.BoundSegment as rust_segment
use Rattle.way_bind.specs.Binding.{BindsPoint, AreBound, AreBoundTo, waypoints_of, waypoints_in}
use Rattle.way_bind.proofs.InOrderLaws.{each_both, each_more}

-- ---- views

pub points_more : (xs : List rust.Point) (x : rust.Point) → points_view (xs ++ x ∷ []) ≡ points_view xs ++ point_view x ∷ []
points_more [] x = refl
points_more (y ∷ xs) x = ap (λ l. point_view y ∷ l) (points_more xs x)

pub segments_more : (bs : List rust_segment.BoundSegment) (b : rust_segment.BoundSegment) → each_segment_view (bs ++ b ∷ []) ≡ each_segment_view bs ++ segment_view b ∷ []
segments_more [] b = refl
segments_more (y ∷ bs) b = ap (λ l. segment_view y ∷ l) (segments_more bs b)

-- ---- bound one after another

-- the waypoints of bound segments are bound
pub points_of_segments : (p : Program) (ss : List Segment) (bs : List BoundSegment) → AreBoundTo p ss bs → (xs : List Point) × AreBound p (waypoints_in ss) xs
points_of_segments p [] [] h = ([], tt)
points_of_segments p [] (b ∷ bs) h = elim h [ ]
points_of_segments p (s ∷ ss) [] h = elim h [ ]
points_of_segments p (s ∷ ss) (b ∷ bs) h =
    let rest = points_of_segments p ss bs h.1 in (
      (b.avoids ++ b.follow ∷ []) ++ rest.0,
      each_both (λ v x. BindsPoint p v (Ok x)) (waypoints_of s) (waypoints_in ss) (b.avoids ++ b.follow ∷ []) rest.0
          (each_more (λ v x. BindsPoint p v (Ok x)) s.avoids s.follow b.avoids b.follow h.0.0 h.0.1) rest.1,
    )
