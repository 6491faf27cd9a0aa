-- An event that ends no live state and makes none live: only the state behind all segments doesn't stay.
use Rattle.c_core.specs.Tree.{Program}
use Rattle.std.proofs.Common.{◌≡◌, ◌⊎◌, inl, inr, ℕ, zero, suc, ◌+◌, ◌<◌, ◌≤◌, Bool, true, false, not, ◌&&◌, ◌||◌, List, [], ◌∷◌, length, get_or, slice_get, Option, Some, None, refl, sym, ◌∙◌, ap, subst, arith, add-one, is_some}
use Rattle.std.proofs.Math.ListN.{set}
use Rattle.std.proofs.lemmas.Bool.{or_parts as or_each}
use Rattle.std.proofs.lemmas.Option.{slice_get-get_or}
use Rattle.way_match.specs.Points.{BoundSegment}
use Rattle.way_match.specs.Passing.{passes, passes_any, is_assumption}
use Rattle.way_match.specs.Matching.{Seen}
use Rattle.way_match.specs.View.{each_segment_view, segment_view}
use Rattle.way_match.specs.declared.point.BoundSegment as declared
use Rattle.way_match.specs.declared.states.Node.{Node}
use Rattle.way_match.specs.inside.Arena.{way_of, ways_of, IsBlank}
use Rattle.way_match.specs.inside.Resting.{avoids_in, follows_in, is_live, is_next_live, opens_at, is_still, AreStill, AvoidsNone, LeavesAll}
use Rattle.way_match.specs.inside.Steps.{is_there, only_if, way_now, step}
use Rattle.way_match.specs.inside.Turning.{ArePassed}
use Rattle.way_match.proofs.Passed.{within_of}
use Rattle.way_match.proofs.Skips.{stays_away}

-- the first state is live, and isn't that behind all segments
abbrev may_come : List BoundSegment → List (Option ℕ) → Bool
may_come [] live = false
may_come (s ∷ ss) [] = false
may_come (s ∷ ss) (w ∷ live) = is_some w

-- what comes makes no state live
abbrev Comes : Option (List ℕ) → List BoundSegment → List (Option ℕ) → Type 0
Comes came ss live = (is_there came && not (may_come ss live)) ≡ false

none_comes : (came : Option (List ℕ)) → (is_there came && true) ≡ false → came ≡ None
none_comes None h = refl
none_comes (Some w) h = absurd (cc)

comes_next : (ss : List BoundSegment) (live : List (Option ℕ)) (f : Bool) (w : List ℕ) → length live ≡ suc (length ss) →
    (f && not (is_live live 0 && is_some (slice_get live 1))) ≡ false → Comes (only_if (f && true) (Some w)) ss live
comes_next ss live false w l h = refl
comes_next [] [] true w l h = absurd (omega arith)
comes_next [] (v ∷ []) true w l h = by_live v h
  where
    by_live : (v : Option ℕ) → (true && not (is_some v && false)) ≡ false → (true && not false) ≡ false
    by_live None h = h
    by_live (Some x) h = h
comes_next [] (v ∷ u ∷ live) true w l h = absurd (omega arith)
comes_next (s ∷ ss) [] true w l h = absurd (omega arith)
comes_next (s ∷ ss) (v ∷ []) true w l h = absurd (omega arith)
comes_next (s ∷ ss) (None ∷ u ∷ live) true w l h = h
comes_next (s ∷ ss) (Some x ∷ u ∷ live) true w l h = refl

live_step : (pr : Program) (e : Seen) (n : ℕ) (came : Option (List ℕ)) (sh : Bool) (s : BoundSegment) (ss : List BoundSegment) (w : List ℕ) (ws : List (Option (List ℕ))) →
    passes_any pr s.avoids e.event e.cells ≡ false →
    step pr e n came sh (s ∷ ss) (Some w ∷ ws) ≡ Some w ∷ step pr e n (only_if (passes pr s.follow e.event e.cells && true) (Some w)) (is_assumption s.follow) ss ws
live_step pr e n came sh s ss w ws a = rw a refl

pub rested : (pr : Program) (e : Seen) (n : ℕ) (ns : List Node) (ss : List BoundSegment) (live : List (Option ℕ)) (k : ℕ) (came : Option (List ℕ)) (sh : Bool) →
    length live ≡ suc (length ss) → LeavesAll pr e ss live → Comes came ss live →
    step pr e n came sh ss (ways_of ns k live) ≡ ways_of ns k (set live (length ss) None)
rested pr e n ns [] [] k came sh l h c = absurd (omega arith)
rested pr e n ns [] (w ∷ []) k came sh l h c =
    ap (λ (o : Option (List ℕ)). way_now n None o ∷ []) (none_comes came c)
rested pr e n ns [] (w ∷ v ∷ live) k came sh l h c = absurd (omega arith)
rested pr e n ns (s ∷ ss) [] k came sh l h c = absurd (omega arith)
rested pr e n ns (s ∷ ss) (None ∷ live) k came sh l h c =
    ap (λ (o : Option (List ℕ)). step pr e n o sh (s ∷ ss) (None ∷ ways_of ns (suc k) live)) (none_comes came c) ∙
    stays_away pr e n sh s ss (ways_of ns (suc k) live) ∙
    ap (λ (ws : List (Option (List ℕ))). None ∷ ws)
    (rested pr e n ns ss live (suc k) None (is_assumption s.follow) (omega arith) (λ j lt. h (suc j) (omega arith)) refl)
rested pr e n ns (s ∷ ss) (Some at ∷ live) k came sh l h c =
    let parts = or_each _ _ (h 0 (omega arith)) in
    live_step pr e n came sh s ss _ (ways_of ns (suc k) live) parts.0 ∙
    ap (λ (ws : List (Option (List ℕ))). way_of ns k (Some at) ∷ ws)
    (rested pr e n ns ss live (suc k) _ (is_assumption s.follow) (omega arith) (λ j lt. h (suc j) (omega arith)) (comes_next ss live _ _ (omega arith) parts.1))

pub rested_all : (pr : Program) (e : Seen) (n : ℕ) (ns : List Node) (ss : List BoundSegment) (live : List (Option ℕ)) (last : ℕ) → last ≡ length ss → length live ≡ length ss + 1 →
    LeavesAll pr e ss live → ways_of ns 0 (set live last None) ≡ step pr e n None false ss (ways_of ns 0 live)
rested_all pr e n ns ss live last l states h =
    ap (λ (j : ℕ). ways_of ns 0 (set live j None)) l ∙ sym (rested pr e n ns ss live 0 None false (omega (arith, states)) h refl)

-- ---- by each state

blank_moves : (a b : Bool) (w : Option ℕ) → w ≡ None → (is_some w && (a || b)) ≡ false
blank_moves a b w e = ap (λ (o : Option ℕ). is_some o && (a || b)) e

no_moves : (w a b : Bool) → a ≡ false → (w && b) ≡ false → (w && (a || b)) ≡ false
no_moves w a b e h = ap (λ (x : Bool). w && (x || b)) e ∙ h

split : (k x : ℕ) → (k < x) ⊎ (x ≤ k)
split k zero = inr (omega arith)
split zero (suc x) = inl (omega arith)
split (suc k) (suc x) = elim (split k x) [ inl h ↦ inl (omega (arith, h)) | inr h ↦ inr (omega (arith, h)) ]

pub leaves_all : (pr : Program) (e : Seen) (ss : List BoundSegment) (live : List (Option ℕ)) (reach : ℕ) → IsBlank reach live → AvoidsNone pr e ss reach →
    ((k : ℕ) → k < length ss → opens_at pr e ss live k ≡ false) → LeavesAll pr e ss live
leaves_all pr e ss live reach b a o k lt = elim (split k reach) [
  | inl h ↦ no_moves (is_live live k) (avoids_in pr e (slice_get ss k)) _ (a k h) (o k lt)
  | inr h ↦ blank_moves (avoids_in pr e (slice_get ss k)) (follows_in pr e (slice_get ss k) && not (is_next_live live k)) (get_or live k None) (b k h)
]

pub still_opens : (live : Bool) (follows : Bool) (next : Bool) → (not live || next) ≡ true → (live && (follows && not next)) ≡ false
still_opens false f n h = refl
still_opens true false n h = refl
still_opens true true n h = ap not h

-- a state that isn't live opens none, nor one from where the search ended
pub opens_none : (pr : Program) (e : Seen) (ss : List BoundSegment) (live : List (Option ℕ)) (reach at : ℕ) → IsBlank reach live →
    ((k : ℕ) → k < at → opens_at pr e ss live k ≡ false) → ((k : ℕ) → at ≤ k → k < length ss → reach ≤ k) →
    (k : ℕ) → k < length ss → opens_at pr e ss live k ≡ false
opens_none pr e ss live reach at b o r k lt = elim (split k at) [
  | inl h ↦ o k h
  | inr h ↦ ap (λ (w : Option ℕ). is_some w && (follows_in pr e (slice_get ss k) && not (is_next_live live k))) (b k (r k h lt))
]

-- ---- segments behind which no event makes a state live

-- the last state may end: no segment before counts on it
pub still_without_last : (live : List (Option ℕ)) (last quiet : ℕ) → suc last ≡ length live → AreStill live quiet → AreStill (set live last None) quiet
still_without_last live last quiet l h k lt = without live last k l (h k lt)
  where
    without : (live : List (Option ℕ)) (last k : ℕ) → suc last ≡ length live → is_still live k ≡ true → is_still (set live last None) k ≡ true
    without [] last k l h = h
    without (w ∷ []) zero zero l h = refl
    without (w ∷ []) zero (suc k) l h = h
    without (w ∷ []) (suc last) k l h = absurd (omega arith)
    without (w ∷ v ∷ live) zero k l h = absurd (omega arith)
    without (w ∷ v ∷ []) (suc zero) zero l h = by_first w (is_some v) h
      where
        by_first : (w : Option ℕ) (n : Bool) → (not (is_some w) || (n && false)) ≡ true → (not (is_some w) || (false && false)) ≡ true
        by_first None n h = refl
        by_first (Some x) true h = absurd (cc)
        by_first (Some x) false h = h
    without (w ∷ v ∷ []) (suc (suc last)) zero l h = absurd (omega arith)
    without (w ∷ v ∷ u ∷ live) (suc zero) zero l h = absurd (omega arith)
    without (w ∷ v ∷ u ∷ live) (suc (suc last)) zero l h = by_third last
      where
        by_third : (last : ℕ) → is_still (w ∷ v ∷ set (u ∷ live) last None) zero ≡ true
        by_third zero = h
        by_third (suc last) = h
    without (w ∷ v ∷ live) (suc last) (suc k) l h = without (v ∷ live) last k (omega arith) h

-- those that no event can move any more
pub passed_still : (ss : List BoundSegment) (live : List (Option ℕ)) (low : ℕ) → length live ≡ length ss + 1 → ArePassed ss live low → AreStill live low
passed_still ss live low l h k lt =
    let p = h k lt in
    let within = within_of ss (k + 1) p.1.0 in
    let third : suc (suc k) < length live = omega (arith, l, within) in
    let there : is_some (slice_get live (suc (suc k))) ≡ true = ap is_some (slice_get-get_or live (suc (suc k)) None third) in
    let next : is_live live (suc k) ≡ true = rw add-one at p.1.1 in
    or_true (not (is_live live k)) _ (and_true (is_live live (suc k)) _ next there)
  where
    and_true : (a b : Bool) → a ≡ true → b ≡ true → (a && b) ≡ true
    and_true true b e f = f
    and_true false b e f = absurd (cc)

    or_true : (a b : Bool) → b ≡ true → (a || b) ≡ true
    or_true true b e = refl
    or_true false b e = e

pub one_still : (live : List (Option ℕ)) (quiet : ℕ) → AreStill live quiet → is_still live quiet ≡ true → AreStill live (quiet + 1)
one_still live quiet h g k l = elim (split k quiet) [
  | inl e ↦ h k e
  | inr e ↦ let same : quiet ≡ k = omega (arith, e, l) in subst (λ (j : ℕ). is_still live j ≡ true) same g
]

-- ---- by the segments of a Rust value

pub one_closed : (pr : Program) (e : Seen) (ss : List BoundSegment) (live : List (Option ℕ)) (at : ℕ) → ((k : ℕ) → k < at → opens_at pr e ss live k ≡ false) →
    opens_at pr e ss live at ≡ false → (k : ℕ) → k < at + 1 → opens_at pr e ss live k ≡ false
one_closed pr e ss live at h g k l = elim (split k at) [
  | inl lt ↦ h k lt
  | inr le ↦ let same : at ≡ k = omega (arith, le, l) in subst (λ (j : ℕ). opens_at pr e ss live j ≡ false) same g
]

pub segment_there : (ss : List declared.BoundSegment) (i : ℕ) (s : declared.BoundSegment) → i < length ss → s ≡ get_or ss i s →
    slice_get (each_segment_view ss) i ≡ Some (segment_view s)
segment_there [] i s h e = absurd (omega arith)
segment_there (x ∷ ss) zero s h e = ap (λ (y : declared.BoundSegment). Some (segment_view y)) (sym e)
segment_there (x ∷ ss) (suc i) s h e = segment_there ss i s (omega arith) e

pub follow_false : (live follows still : Bool) → follows ≡ false → (live && (follows && still)) ≡ false
follow_false false f n h = refl
follow_false true f n h = ap (λ (x : Bool). x && n) h
