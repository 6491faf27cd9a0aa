-- One turn of a loop over waypoints, and over segments.
use Rattle.std.proofs.Common.{◌≡◌, sym, ap, ◌∙◌, subst, ℕ, ◌+◌, ◌<◌, ◌≤◌, IsErrAnd, List, [], ◌∷◌, ◌++◌, length, take, drop, get_or, Result, Ok, Err, arith}
use Rattle.std.proofs.lemmas.List.{length-append}
use Rattle.std.proofs.lemmas.Grind.{flat_map-append}
use Rattle.c_core.specs.Tree.{Program}
use Rattle.wv_schema.specs.declared.witness.Waypoint.{Waypoint}
use Rattle.wv_schema.specs.declared.witness.Segment.{Segment}
use Rattle.way_match.specs.Points.{BoundSegment}
use Rattle.way_match.specs.View.{point_view, points_view, segment_view, each_segment_view}
use Rattle.way_match.specs.declared.point.Point as rust
use Rattle.way_match.specs.declared.point.BoundSegment as rust_segment
use Rattle.way_bind.specs.declared.fault.BindFault.{BindFault}
use Rattle.way_bind.specs.Binding.{BindsPoint, AreBound, AreBoundTo, IsBoundTo, Tells, waypoints_of, waypoints_in}
use Rattle.way_bind.specs.Steps.{BindsSegment, BindsSegments}
use Rattle.way_bind.proofs.InOrderLaws.{next_taken, whole_split, each_more, told_among, told_front}
use Rattle.way_bind.proofs.BindingLaws.{points_more, segments_more, points_of_segments}

-- ---- waypoints to avoid

pub avoid_kept : (p : Program) (vs : List Waypoint) (i : ℕ) (v : Waypoint) (xs new : List rust.Point) (x : rust.Point) → i < length vs → v ≡ get_or vs i v → new ≡ xs ++ x ∷ [] → BindsPoint p v (Ok (point_view x)) → AreBound p (take i vs) (points_view xs) → AreBound p (take (i + 1) vs) (points_view new)
avoid_kept p vs i v xs new x lt is same k h =
    subst (λ l. AreBound p l (points_view new)) (sym (next_taken vs i v lt is))
    (subst (λ l. AreBound p (take i vs ++ v ∷ []) l) (sym (ap points_view same ∙ points_more xs x))
    (each_more (λ v x. BindsPoint p v (Ok x)) (take i vs) v (points_view xs) (point_view x) h k))

pub avoids_told : (p : Program) (first : ℕ) (s : Segment) (vs : List Waypoint) (f : BindFault) (r : Result rust_segment.BoundSegment BindFault) → vs ≡ s.avoids → IsErrAnd r (λ g. g ≡ f) → Tells p first vs f → BindsSegment p first s r
avoids_told p first s vs f (Ok b) same from h = elim from [ ]
avoids_told p first s vs f (Err g) same from h =
    subst (λ g. Tells p first (waypoints_of s) g) (sym from)
    (told_front (BindsPoint p) first s.avoids (s.follow ∷ []) f (subst (λ l. Tells p first l f) same h))

-- ---- segments

waypoints_next : (ss : List Segment) (i : ℕ) (s : Segment) → i < length ss → s ≡ get_or ss i s → waypoints_in (take (i + 1) ss) ≡ waypoints_in (take i ss) ++ (waypoints_of s ++ [])
waypoints_next ss i s lt is = ap waypoints_in (next_taken ss i s lt is) ∙ flat_map-append waypoints_of (take i ss) (s ∷ [])

waypoints_split : (ss : List Segment) (i : ℕ) (s : Segment) → i < length ss → s ≡ get_or ss i s → waypoints_in ss ≡ waypoints_in (take i ss) ++ (waypoints_of s ++ waypoints_in (drop (i + 1) ss))
waypoints_split ss i s lt is = ap waypoints_in (whole_split ss i s lt is) ∙ flat_map-append waypoints_of (take i ss) (s ∷ drop (i + 1) ss)

length_of : (s : Segment) → length (waypoints_of s) ≡ length s.avoids + 1
length_of s = length-append s.avoids (s.follow ∷ [])

length_both : (us vs ws : List Waypoint) → length (us ++ (vs ++ ws)) ≡ length us + (length vs + length ws)
length_both us vs ws = length-append us (vs ++ ws) ∙ ap (λ n. length us + n) (length-append vs ws)

pub segment_kept : (p : Program) (ss : List Segment) (i : ℕ) (s : Segment) (bs new : List rust_segment.BoundSegment) (b : rust_segment.BoundSegment) → i < length ss → s ≡ get_or ss i s → new ≡ bs ++ b ∷ [] → IsBoundTo p s (segment_view b) → AreBoundTo p (take i ss) (each_segment_view bs) → AreBoundTo p (take (i + 1) ss) (each_segment_view new)
segment_kept p ss i s bs new b lt is same k h =
    subst (λ l. AreBoundTo p l (each_segment_view new)) (sym (next_taken ss i s lt is))
    (subst (λ l. AreBoundTo p (take i ss ++ s ∷ []) l) (sym (ap each_segment_view same ∙ segments_more bs b))
    (each_more (IsBoundTo p) (take i ss) s (each_segment_view bs) (segment_view b) h k))

pub segment_counted : (ss : List Segment) (i : ℕ) (s : Segment) (first n : ℕ) → i < length ss → s ≡ get_or ss i s → n ≡ length s.avoids → first ≡ 1 + length (waypoints_in (take i ss)) → first + (n + 1) ≡ 1 + length (waypoints_in (take (i + 1) ss))
segment_counted ss i s first n lt is count so_far =
    let next : length (waypoints_in (take (i + 1) ss)) ≡ length (waypoints_in (take i ss)) + (length (waypoints_of s) + 0) =
    ap length (waypoints_next ss i s lt is) ∙ length_both (waypoints_in (take i ss)) (waypoints_of s) [] in
    let own : length (waypoints_of s) ≡ length s.avoids + 1 = length_of s in
    omega arith

pub segment_fits : (ss : List Segment) (i : ℕ) (s : Segment) (first : ℕ) → i < length ss → s ≡ get_or ss i s → first ≡ 1 + length (waypoints_in (take i ss)) → first + length (waypoints_of s) ≤ 1 + length (waypoints_in ss)
segment_fits ss i s first lt is so_far =
    let whole : length (waypoints_in ss) ≡ length (waypoints_in (take i ss)) + (length (waypoints_of s) + length (waypoints_in (drop (i + 1) ss))) =
    ap length (waypoints_split ss i s lt is) ∙ length_both (waypoints_in (take i ss)) (waypoints_of s) (waypoints_in (drop (i + 1) ss)) in
    omega arith

pub avoids_fit : (ss : List Segment) (i : ℕ) (s : Segment) (first n : ℕ) → i < length ss → s ≡ get_or ss i s → n ≡ length s.avoids → first ≡ 1 + length (waypoints_in (take i ss)) → first + (n + 1) ≤ 1 + length (waypoints_in ss)
avoids_fit ss i s first n lt is count so_far =
    let own : length (waypoints_of s) ≡ length s.avoids + 1 = length_of s in
    let fits : first + length (waypoints_of s) ≤ 1 + length (waypoints_in ss) = segment_fits ss i s first lt is so_far in
    omega arith

told_in_turn : (p : Program) (ss : List Segment) (i : ℕ) (s : Segment) (bs : List BoundSegment) (first : ℕ) (f : BindFault) → i < length ss → s ≡ get_or ss i s → first ≡ 1 + length (waypoints_in (take i ss)) → AreBoundTo p (take i ss) bs → Tells p first (waypoints_of s) f → Tells p 1 (waypoints_in ss) f
told_in_turn p ss i s bs first f lt is so_far h k =
    let before = points_of_segments p (take i ss) bs h in
    subst (λ l. Tells p 1 l f) (sym (waypoints_split ss i s lt is))
    (told_among (BindsPoint p) 1 (waypoints_in (take i ss)) before.0 (waypoints_of s) (waypoints_in (drop (i + 1) ss)) f before.1
    (subst (λ n. Tells p n (waypoints_of s) f) so_far k))

pub segment_told : (p : Program) (ss : List Segment) (i : ℕ) (s : Segment) (bs : List BoundSegment) (first : ℕ) (f : BindFault) (r : Result (List rust_segment.BoundSegment) BindFault) → i < length ss → s ≡ get_or ss i s → first ≡ 1 + length (waypoints_in (take i ss)) → AreBoundTo p (take i ss) bs → IsErrAnd r (λ g. g ≡ f) → Tells p first (waypoints_of s) f → BindsSegments p 1 ss r
segment_told p ss i s bs first f (Ok got) lt is so_far h from k = elim from [ ]
segment_told p ss i s bs first f (Err g) lt is so_far h from k =
    subst (λ g. Tells p 1 (waypoints_in ss) g) (sym from) (told_in_turn p ss i s bs first f lt is so_far h k)
