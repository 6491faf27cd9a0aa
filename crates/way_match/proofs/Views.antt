-- Items of lists of waypoints, as pure ones and prepared.
use Rattle.std.proofs.Common.{◌≡◌, ℕ, zero, suc, ◌<◌, List, [], ◌∷◌, length, get_or, slice_get, Bool, false, ◌||◌, refl, sym, ◌∙◌, ap, arith}
use Rattle.c_core.specs.Tree.{Program}
use Rattle.way_match.specs.Passing.{is_assumption}
use Rattle.way_match.specs.inside.Turning.{assumes_in, avoids_none}
use Rattle.way_match.specs.inside.Prepared.{all_ready, ready_of, prepared_of, all_prepared}
use Rattle.way_match.specs.View.{point_view, points_view, segment_view, each_segment_view}
use Rattle.way_match.specs.declared.point.Point.{Point}
use Rattle.way_match.specs.declared.point.BoundSegment.{BoundSegment}
use Rattle.way_match.specs.declared.prepared.Prepared.{Prepared}
use Rattle.way_match.specs.declared.prepared.Ready.{Ready}

pub segments_length : (ss : List BoundSegment) → length (each_segment_view ss) ≡ length ss
segments_length [] = refl
segments_length (s ∷ ss) = ap suc (segments_length ss)

pub prepared_length : (p : Program) (ss : List BoundSegment) → length (all_prepared p (each_segment_view ss)) ≡ length ss
prepared_length p [] = refl
prepared_length p (s ∷ ss) = ap suc (prepared_length p ss)

pub ready_length : (p : Program) (xs : List Point) → length (all_ready p (points_view xs)) ≡ length xs
ready_length p [] = refl
ready_length p (x ∷ xs) = ap suc (ready_length p xs)

pub segment_at : (ss : List BoundSegment) (i : ℕ) (s : BoundSegment) → i < length ss → s ≡ get_or ss i s →
    segment_view s ≡ get_or (each_segment_view ss) i (segment_view s)
segment_at [] i s h e = absurd (omega arith)
segment_at (x ∷ ss) zero s h e = ap segment_view e
segment_at (x ∷ ss) (suc i) s h e = segment_at ss i s (omega arith) e

no_points : (xs : List Point) → length xs ≡ 0 → points_view xs ≡ []
no_points [] h = refl
no_points (x ∷ xs) h = absurd (omega (arith, h))

pub settles : (ss : List BoundSegment) (i : ℕ) (s : BoundSegment) → i < length ss → s ≡ get_or ss i s → length s.avoids ≡ 0 → avoids_none (slice_get (each_segment_view ss) i)
settles [] i s h e n = absurd (omega arith)
settles (x ∷ ss) zero s h e n = no_points x.avoids (sym (ap (λ (y : BoundSegment). length y.avoids) e) ∙ n)
settles (x ∷ ss) (suc i) s h e n = settles ss i s (omega arith) e n

pub assumes_of : (ss : List BoundSegment) (i : ℕ) (s : BoundSegment) → i < length ss → s ≡ get_or ss i s →
    assumes_in (slice_get (each_segment_view ss) i) ≡ is_assumption (segment_view s).follow
assumes_of [] i s h e = absurd (omega arith)
assumes_of (x ∷ ss) zero s h e = ap (λ (y : BoundSegment). is_assumption (segment_view y).follow) (sym e)
assumes_of (x ∷ ss) (suc i) s h e = assumes_of ss i s (omega arith) e

pub prepared_at : (p : Program) (ss : List BoundSegment) (i : ℕ) (s : BoundSegment) (d : Prepared) → i < length ss → s ≡ get_or ss i s →
    get_or (all_prepared p (each_segment_view ss)) i d ≡ prepared_of p (segment_view s)
prepared_at p [] i s d h e = absurd (omega arith)
prepared_at p (x ∷ ss) zero s d h e = ap (λ (y : BoundSegment). prepared_of p (segment_view y)) (sym e)
prepared_at p (x ∷ ss) (suc i) s d h e = prepared_at p ss i s d (omega arith) e

pub prepared_there : (p : Program) (ss : List BoundSegment) (ps : List Prepared) (i : ℕ) (s : BoundSegment) (d : Prepared) → ps ≡ all_prepared p (each_segment_view ss) → i < length ss →
    s ≡ get_or ss i s → get_or ps i d ≡ prepared_of p (segment_view (get_or ss i s))
prepared_there p ss ps i s d e h q =
    ap (λ (xs : List Prepared). get_or xs i d) e ∙ prepared_at p ss i s d h q ∙ ap (λ (y : BoundSegment). prepared_of p (segment_view y)) q

pub ready_at : (p : Program) (xs : List Point) (i : ℕ) (x : Point) (d : Ready) → i < length xs → x ≡ get_or xs i x →
    get_or (all_ready p (points_view xs)) i d ≡ ready_of p (point_view x)
ready_at p [] i x d h e = absurd (omega arith)
ready_at p (y ∷ xs) zero x d h e = ap (λ (z : Point). ready_of p (point_view z)) (sym e)
ready_at p (y ∷ xs) (suc i) x d h e = ready_at p xs i x d (omega arith) e

or_false : (a b : Bool) → a ≡ false → (a || b) ≡ b
or_false a b e = ap (λ (x : Bool). x || b) e
