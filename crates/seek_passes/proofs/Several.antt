-- Waypoints, and segments, one after another.
use Rattle.std.proofs.Common.{◌≡◌, ℕ, zero, suc, ◌+◌, ◌≤◌, ◌<◌, Bool, true, false, ◌||◌, List, [], ◌∷◌, ◌++◌, length, map, take, drop, get_or, refl, sym, ◌∙◌, ap, ap₂, subst, arith}
use Rattle.std.specs.List.{All}
use Rattle.std.proofs.lemmas.List.{map-append, take_more, take-append-drop}
use Rattle.std.proofs.lemmas.List.Elements.{All-append, All-cons, All-get_or, All-head, All-nil, All-tail}
use Rattle.c_core.specs.Tree.{Program}
use Rattle.c_meaning.specs.Cells.{Cell}
use Rattle.c_meaning.specs.declared.run.Event.{Event as RunEvent}
use Rattle.circuits.specs.declared.net.Bit.{Bit}
use Rattle.circuits.specs.declared.net.NetNode.{NetNode}
use Rattle.circuits.specs.Net.{holds, Grown, Means}
use Rattle.seek_events.specs.declared.segment.Passing.{Passing}
use Rattle.seek_events.specs.Events.{IsHere, passed_in}
use Rattle.seek_events.specs.Laws.{passed_by}
use Rattle.sym_state.specs.declared.state.Sym.{Sym}
use Rattle.sym_state.specs.Standing.{stand, IsState}
use Rattle.sym_state.proofs.Nets.{in_added, holds_added}
use Rattle.sym_state.proofs.Turning.{turned_then}
use Rattle.sym_values.proofs.Reckoning.{net_turned}
use Rattle.way_match.specs.Passing.{passes, passes_any, is_assumption}
use Rattle.way_match.specs.Points as pure
use Rattle.way_match.specs.View.{point_view, points_view, segment_view, each_segment_view}
use Rattle.way_match.specs.declared.point.Point.{Point}
use Rattle.way_match.specs.declared.point.BoundSegment.{BoundSegment}
use Rattle.seek_passes.specs.declared.event.SymEvent.{SymEvent}
use Rattle.seek_passes.specs.Charges.{point_weight, any_weight, segment_weight, segments_weight}
use Rattle.seek_passes.specs.Event.{event_in, IsEvent}
use Rattle.seek_passes.specs.Passing.{PassesPoint, PassesAny, PassesSegment, PassesSegments}
use Rattle.seek_passes.proofs.Kept.{same_turned, same_decided, means_added, at_first}

or_thrice : (a b c : Bool) → (a || (b || c)) ≡ ((a || b) || c)
or_thrice true b c = refl
or_thrice false b c = refl

or_no : (b : Bool) → (b || false) ≡ b
or_no true = refl
or_no false = refl

-- ---- lists of Rust as pure ones
points_append : (xs ys : List Point) → points_view (xs ++ ys) ≡ points_view xs ++ points_view ys
points_append [] ys = refl
points_append (x ∷ xs) ys = ap (λ zs. point_view x ∷ zs) (points_append xs ys)

points_length : (xs : List Point) → length (points_view xs) ≡ length xs
points_length [] = refl
points_length (x ∷ xs) = ap suc (points_length xs)

points_get : (xs : List Point) (k : ℕ) (x : Point) → k < length xs → get_or (points_view xs) k (point_view x) ≡ point_view (get_or xs k x)
points_get [] k x h = absurd (omega (arith, h))
points_get (y ∷ xs) zero x h = refl
points_get (y ∷ xs) (suc k) x h = points_get xs k x (omega (arith, h))

segments_append : (ss ts : List BoundSegment) → each_segment_view (ss ++ ts) ≡ each_segment_view ss ++ each_segment_view ts
segments_append [] ts = refl
segments_append (s ∷ ss) ts = ap (λ us. segment_view s ∷ us) (segments_append ss ts)

pub segments_length : (ss : List BoundSegment) → length (each_segment_view ss) ≡ length ss
segments_length [] = refl
segments_length (s ∷ ss) = ap suc (segments_length ss)

segments_get : (ss : List BoundSegment) (k : ℕ) (s : BoundSegment) → k < length ss → get_or (each_segment_view ss) k (segment_view s) ≡ segment_view (get_or ss k s)
segments_get [] k s h = absurd (omega (arith, h))
segments_get (t ∷ ss) zero s h = refl
segments_get (t ∷ ss) (suc k) s h = segments_get ss k s (omega (arith, h))

-- the one at an index
module _ (xs : List Point) (k : ℕ) (x : Point) (lt : k < length xs) (e : x ≡ get_or xs k x) where
  pub point_there : (P : pure.Point → Type 0) → All P (points_view xs) → P (point_view x)
  point_there P all = subst P (points_get xs k x lt ∙ ap point_view (sym e)) (All-get_or P (points_view xs) k (point_view x) (omega (arith, lt, points_length xs)) all)

  pub points_more : points_view (take (k + 1) xs) ≡ points_view (take k xs) ++ point_view x ∷ []
  points_more = ap points_view (take_more xs k x lt ∙ ap (λ y. take k xs ++ y ∷ []) (sym e)) ∙ points_append (take k xs) (x ∷ [])

module _ (ss : List BoundSegment) (k : ℕ) (s : BoundSegment) (lt : k < length ss) (e : s ≡ get_or ss k s) where
  pub segment_there : (P : pure.BoundSegment → Type 0) → All P (each_segment_view ss) → P (segment_view s)
  segment_there P all = subst P (segments_get ss k s lt ∙ ap segment_view (sym e)) (All-get_or P (each_segment_view ss) k (segment_view s) (omega (arith, lt, segments_length ss)) all)

  pub segments_more : each_segment_view (take (k + 1) ss) ≡ each_segment_view (take k ss) ++ segment_view s ∷ []
  segments_more = ap each_segment_view (take_more ss k s lt ∙ ap (λ y. take k ss ++ y ∷ []) (sym e)) ∙ segments_append (take k ss) (s ∷ [])

-- ---- bits of waypoints
module _ (p : Program) (e : SymEvent) where
  any_append : (xs ys : List pure.Point) → any_weight p e (xs ++ ys) ≡ any_weight p e xs + any_weight p e ys
  any_append [] ys = omega arith
  any_append (x ∷ xs) ys = omega (arith, any_append xs ys)

  passes_append : (E : RunEvent) (cells : List Cell) (xs ys : List pure.Point) → passes_any p (xs ++ ys) E cells ≡ (passes_any p xs E cells || passes_any p ys E cells)
  passes_append E cells [] ys = refl
  passes_append E cells (x ∷ xs) ys = ap (λ b. passes p x E cells || b) (passes_append E cells xs ys) ∙ or_thrice (passes p x E cells) (passes_any p xs E cells) (passes_any p ys E cells)

  -- those up to an index, and the one there, cost no more than all
  pub any_within : (xs : List Point) (k : ℕ) (x : Point) → k < length xs → x ≡ get_or xs k x → any_weight p e (points_view (take k xs)) + (1 + point_weight p e (point_view x)) ≤ any_weight p e (points_view xs)
  any_within xs k x lt q =
      let all = ap (λ ys. any_weight p e (points_view ys)) (sym (take-append-drop (k + 1) xs)) ∙ ap (any_weight p e) (points_append (take (k + 1) xs) (drop (k + 1) xs)) ∙ any_append (points_view (take (k + 1) xs)) (points_view (drop (k + 1) xs)) in
      let one = ap (any_weight p e) (points_more xs k x lt q) ∙ any_append (points_view (take k xs)) (point_view x ∷ []) in
      omega (arith, all, one)

  pub any_none : (s : Sym) (r : Bit) → IsState p s → Means s.net r (λ v. false) → PassesAny p e [] s s r
  any_none s r h m = same_decided 0 p s r (λ v. false) h m

  -- one more
  pub any_next : (xs : List pure.Point) (x : pure.Point) (a b c : Sym) (net : List NetNode) (some bit next : Bit) → IsEvent p a.net e → PassesAny p e xs a b some → PassesPoint p e x b c bit → Grown 1 c.net net
      → Means net next (λ v. holds v c.net some || holds v c.net bit) → PassesAny p e (xs ++ x ∷ []) a (record c { net = net }) next
  any_next xs x a b c net some bit next h u w g m =
      let one = turned_then p (any_weight p e xs + point_weight p e x) 0 u.turned w.turned (omega arith) (omega arith) in
      let before : Means c.net some (λ v. passes_any p xs (event_in p a.net e v) (stand p v a).cells) = means_added w.turned.added u.means in
      record {
        turned = turned_then p (any_weight p e (xs ++ x ∷ [])) 0 one (net_turned p c net w.turned.fits g) (omega (arith, any_append xs (x ∷ []))) (omega arith);
        means = record {
          inside = m.inside;
          is = λ v.
              let E = event_in p a.net e v in
              let cells = (stand p v a).cells in
              m.is v ∙ ap (λ q. q || holds v c.net bit) (before.is v)
              ∙ ap (λ q. passes_any p xs E cells || q) (w.means.is v ∙ at_first p e u.turned h (λ E cs. passes p x E cs) v ∙ sym (or_no (passes p x E cells)))
              ∙ sym (passes_append E cells xs (x ∷ []));
        };
      }

  -- ---- bits of segments
  pub segment_made : (s : pure.BoundSegment) (a b c : Sym) (x y : Bit) (assumes : Bool) → IsEvent p a.net e → PassesAny p e s.avoids a b x → PassesPoint p e s.follow b c y → assumes ≡ is_assumption s.follow
      → PassesSegment p e s a c (record { avoided = x; followed = y; assumes = assumes })
  segment_made s a b c x y assumes h u w q =
      let first : Means c.net x (λ v. passes_any p s.avoids (event_in p a.net e v) (stand p v a).cells) = means_added w.turned.added u.means in
      record {
        turned = turned_then p (segment_weight p e s) 0 u.turned w.turned (omega arith) (omega arith);
        here = record { avoided = first.inside; followed = w.means.inside };
        is = λ v. let second = w.means.is v ∙ at_first p e u.turned h (λ E cs. passes p s.follow E cs) v in
            λ i. record { avoided = first.is v i; followed = second i; assumes = q i };
      }

  segments_weight_append : (ss ts : List pure.BoundSegment) → segments_weight p e (ss ++ ts) ≡ segments_weight p e ss + segments_weight p e ts
  segments_weight_append [] ts = omega arith
  segments_weight_append (s ∷ ss) ts = omega (arith, segments_weight_append ss ts)

  pub segments_within : (ss : List BoundSegment) (k : ℕ) (s : BoundSegment) → k < length ss → s ≡ get_or ss k s
      → segments_weight p e (each_segment_view (take k ss)) + segment_weight p e (segment_view s) ≤ segments_weight p e (each_segment_view ss)
  segments_within ss k s lt q =
      let all = ap (λ ts. segments_weight p e (each_segment_view ts)) (sym (take-append-drop (k + 1) ss)) ∙ ap (segments_weight p e) (segments_append (take (k + 1) ss) (drop (k + 1) ss)) ∙ segments_weight_append (each_segment_view (take (k + 1) ss)) (each_segment_view (drop (k + 1) ss)) in
      let one = ap (segments_weight p e) (segments_more ss k s lt q) ∙ segments_weight_append (each_segment_view (take k ss)) (segment_view s ∷ []) in
      omega (arith, all, one)

  pub segments_none : (s : Sym) (rs : List Passing) → IsState p s → rs ≡ [] → PassesSegments p e [] s s rs
  segments_none s rs h q = subst (PassesSegments p e [] s s) (sym q) (record { turned = same_turned 0 p s h; here = All-nil (IsHere s.net); are = λ v. refl })

  pub segments_next : (ss : List pure.BoundSegment) (s : pure.BoundSegment) (a b c : Sym) (rs all : List Passing) (r : Passing) → IsEvent p a.net e → PassesSegments p e ss a b rs → PassesSegment p e s b c r → all ≡ rs ++ r ∷ []
      → PassesSegments p e (ss ++ s ∷ []) a c all
  segments_next ss s a b c rs all r h u w q = subst (PassesSegments p e (ss ++ s ∷ []) a c) (sym q) (record {
    turned = turned_then p (segments_weight p e (ss ++ s ∷ [])) 0 u.turned w.turned (omega (arith, segments_weight_append ss (s ∷ []))) (omega arith);
    here = All-append (IsHere c.net) rs (r ∷ []) (all_later rs u.here) (All-cons (IsHere c.net) r [] w.here (All-nil (IsHere c.net)));
    are = λ v.
        let f = passed_by p (event_in p a.net e v) (stand p v a).cells in
        map-append (passed_in c.net v) rs (r ∷ []) ∙ ap₂ (λ x y. x ++ y ∷ []) (kept v rs u.here ∙ u.are v) (w.is v ∙ at_first p e u.turned h (λ E cs. passed_by p E cs s) v)
        ∙ sym (map-append f ss (s ∷ []));
  })
    where
      later : (x : Passing) → IsHere b.net x → IsHere c.net x
      later x g = record { avoided = in_added w.turned.added x.avoided g.avoided; followed = in_added w.turned.added x.followed g.followed }

      all_later : (xs : List Passing) → All (IsHere b.net) xs → All (IsHere c.net) xs
      all_later [] g = All-nil (IsHere c.net)
      all_later (x ∷ xs) g = All-cons (IsHere c.net) x xs (later x (All-head (IsHere b.net) x xs g)) (all_later xs (All-tail (IsHere b.net) x xs g))

      same : (v : ℕ → Bool) (x : Passing) → IsHere b.net x → passed_in c.net v x ≡ passed_in b.net v x
      same v x g = λ i. record { avoided = holds_added w.turned.added v x.avoided g.avoided i; followed = holds_added w.turned.added v x.followed g.followed i; assumes = x.assumes }

      kept : (v : ℕ → Bool) (xs : List Passing) → All (IsHere b.net) xs → map (passed_in c.net v) xs ≡ map (passed_in b.net v) xs
      kept v [] g = refl
      kept v (x ∷ xs) g = ap₂ (λ y ys. y ∷ ys) (same v x (All-head (IsHere b.net) x xs g)) (kept v xs (All-tail (IsHere b.net) x xs g))
