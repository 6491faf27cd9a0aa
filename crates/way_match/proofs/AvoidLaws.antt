-- One of equal waypoints to avoid stands for all.
use Rattle.c_core.specs.Tree.{Program}
use Rattle.std.proofs.Common.{◌≡◌, ◌⊎◌, inl, inr, ℕ, zero, suc, ◌+◌, ◌<◌, ◌≤◌, Bool, true, false, cond, ◌&&◌, ◌||◌, List, [], ◌∷◌, ◌++◌, length, get_or, slice_get, Option, Some, None, Result, Ok, Err, OnOk, nat_eq, refl, sym, ◌∙◌, ap, subst, arith}
use Rattle.std.proofs.lemmas.List.{append-nil, append_assoc}
use Rattle.std.proofs.lemmas.Bool.{eq-eqb}
use Rattle.std.specs.BTreeMap.{BTreeMap, get, is_at}
use Rattle.std.specs.declared.vec.Vec.{Vec}
use Rattle.std.specs.declared.alloc.Global.{Global}
use Rattle.c_core.specs.declared.number.Spot.{Spot}
use Rattle.c_core.specs.Parts.{same_spot}
use Rattle.way_match.specs.Matching.{Seen}
use Rattle.way_match.specs.Passing.{passes, passes_any}
use Rattle.way_match.specs.Points.{Point, BoundSegment}
use Rattle.way_match.specs.View.{each_segment_view, point_view, points_view}
use Rattle.way_match.specs.declared.point.BoundSegment as segment
use Rattle.way_match.specs.declared.point.Point as declared
use Rattle.way_match.specs.declared.avoided.Avoided.{Avoided}
use Rattle.way_match.specs.declared.avoided.Avoids.{Avoids}
use Rattle.way_match.specs.inside.Avoided.{avoid_of, avoid_at, ready_at, avoided_if, avoids_in, Longer, Stands, StandsThere}
use Rattle.c_meaning.specs.Watching.{event_spot}
use Rattle.way_match.specs.inside.ByPlace.{may_pass, point_spot, same_place, spot_cmp}
use Rattle.way_match.specs.inside.Prepared.{all_prepared, all_ready, ready_of}
use Rattle.way_match.specs.inside.Resting as resting
use Rattle.way_match.specs.inside.Resting.{AvoidsNone}
use Rattle.way_match.proofs.Numbers.{passed_elsewhere}
use Rattle.way_match.proofs.PlaceLaws.{equal_places, same_spots}

-- ---- what is prepared

ready_there : (p : Program) (xs : List Point) (i : ℕ) (x : Point) → slice_get xs i ≡ Some x → slice_get (all_ready p xs) i ≡ Some (ready_of p x)
ready_there p [] i x h = absurd (cc)
ready_there p (y ∷ xs) zero x h = let e : y ≡ x = cc in ap (λ (z : Point). Some (ready_of p z)) e
ready_there p (y ∷ xs) (suc i) x h = ready_there p xs i x h

pub ready_avoid : (p : Program) (ss : List BoundSegment) (k i : ℕ) (x : Point) → avoid_at ss k i ≡ Some x → ready_at (all_prepared p ss) k i ≡ Some (ready_of p x)
ready_avoid p [] k i x h = absurd (cc)
ready_avoid p (s ∷ ss) zero i x h = ready_there p s.avoids i x h
ready_avoid p (s ∷ ss) (suc k) i x h = ready_avoid p ss k i x h

-- ---- more stand behind

still_there : (xs more : List Avoided) (j : ℕ) (a : Avoided) → slice_get xs j ≡ Some a → slice_get (xs ++ more) j ≡ Some a
still_there [] more j a h = absurd (cc)
still_there (x ∷ xs) more zero a h = h
still_there (x ∷ xs) more (suc j) a h = still_there xs more j a h

last_there : (xs : List Avoided) (a : Avoided) → slice_get (xs ++ a ∷ []) (length xs) ≡ Some a
last_there [] a = refl
last_there (x ∷ xs) a = last_there xs a

pub longer_same : (xs : List Avoided) → Longer xs xs
longer_same xs = ([], sym (append-nil xs))

pub longer_then : (xs ys zs : List Avoided) → Longer xs ys → Longer ys zs → Longer xs zs
longer_then xs ys zs a b = (a.0 ++ b.0, b.1 ∙ ap (λ (l : List Avoided). l ++ b.0) a.1 ∙ append_assoc xs a.0 b.0)

pub stands_longer : (ss : List BoundSegment) (xs ys : List Avoided) (k : ℕ) (x : Point) → Longer xs ys → Stands ss xs k x → Stands ss ys k x
stands_longer ss xs ys k x g h =
    (h.0, h.1, ap (λ (l : List Avoided). slice_get l h.0) g.1 ∙ still_there xs g.0 h.0 h.1 h.2, h.3, h.4)

pub stands_last : (ss : List BoundSegment) (xs ys : List Avoided) (a : Avoided) (x : Point) → ys ≡ xs ++ a ∷ [] → avoid_at ss a.segment a.at ≡ Some x → Stands ss ys a.segment x
stands_last ss xs ys a x e h =
    (length xs, a, ap (λ (l : List Avoided). slice_get l (length xs)) e ∙ last_there xs a, omega arith, h)

-- ---- one more at a place, those of other places as they were

pub pushed : (old between new : BTreeMap (ℕ × ℕ) (Vec Avoided Global)) (spot : Spot) (a : Avoided) (before : List Avoided) (there : Vec Avoided Global) (q : Spot) →
    before ≡ avoided_if (get spot_cmp old (spot.line, spot.column)) → there.items ≡ before ++ a ∷ [] →
    ((r : ℕ × ℕ) → get spot_cmp between r ≡ cond (is_at (spot_cmp (spot.line, spot.column)) r) None (get spot_cmp old r)) →
    ((r : ℕ × ℕ) → get spot_cmp new r ≡ cond (is_at (spot_cmp (spot.line, spot.column)) r) (Some there) (get spot_cmp between r)) →
    avoids_in (record { placed = new }) q ≡ avoids_in (record { placed = old }) q ++ cond (same_spot spot q) (a ∷ []) []
pushed old between new spot a before there q b i u v = by_same (same_spot spot q) refl
  where
    place : ℕ × ℕ
    place = (q.line, q.column)

    here : is_at (spot_cmp (spot.line, spot.column)) place ≡ same_spot spot q
    here = equal_places spot q

    by_same : (s : Bool) → same_spot spot q ≡ s → avoided_if (get spot_cmp new place) ≡ avoided_if (get spot_cmp old place) ++ cond s (a ∷ []) []
    by_same true e =
        let now : get spot_cmp new place ≡ Some there = v place ∙ ap (λ (x : Bool). cond x (Some there) (get spot_cmp between place)) (here ∙ e) in
        let one : spot ≡ q = same_spots spot q e in
        let was : before ≡ avoided_if (get spot_cmp old place) = b ∙ ap (λ (x : Spot). avoided_if (get spot_cmp old (x.line, x.column))) one in
        ap avoided_if now ∙ i ∙ ap (λ (xs : List Avoided). xs ++ a ∷ []) was
    by_same false e =
        let now : get spot_cmp new place ≡ get spot_cmp old place =
        v place ∙ ap (λ (x : Bool). cond x (Some there) (get spot_cmp between place)) (here ∙ e) ∙
        u place ∙ ap (λ (x : Bool). cond x None (get spot_cmp old place)) (here ∙ e) in
        ap avoided_if now ∙ sym (append-nil (avoided_if (get spot_cmp old place)))

-- where it is pushed at a place, the lists of all places are longer
pub pushed_longer : (old new : Avoids) (spot : Spot) (a : Avoided) → ((q : Spot) → avoids_in new q ≡ avoids_in old q ++ cond (same_spot spot q) (a ∷ []) []) →
    (q : Spot) → Longer (avoids_in old q) (avoids_in new q)
pushed_longer old new spot a h q = (cond (same_spot spot q) (a ∷ []) [], h q)

-- a waypoint of a place may be passed there alone
pub there_alone : (ss : List BoundSegment) (m : Avoids) (k : ℕ) (x : Point) (spot : Spot) → point_spot x ≡ Some spot → Stands ss (avoids_in m spot) k x → StandsThere ss m k x
there_alone ss m k x spot e h q f =
    let same : same_spot spot q ≡ true = ap (λ (o : Option Spot). same_place o (Some q)) (sym e) ∙ f in
    subst (λ (r : Spot). Stands ss (avoids_in m r) k x) (same_spots spot q same) h

pub there_nowhere : (ss : List BoundSegment) (m : Avoids) (k : ℕ) (x : Point) → point_spot x ≡ None → StandsThere ss m k x
there_nowhere ss m k x e q f =
    let no : false ≡ true = ap (λ (o : Option Spot). same_place o (Some q)) (sym e) ∙ f in absurd (cc)

-- ---- where none that stands for others is passed, none is

none_passed : (p : Program) (e : Seen) (xs : List Point) → ((i : ℕ) (x : Point) → slice_get xs i ≡ Some x → passes p x e.event e.cells ≡ false) → passes_any p xs e.event e.cells ≡ false
none_passed p e [] h = refl
none_passed p e (x ∷ xs) h =
    ap (λ (b : Bool). b || passes_any p xs e.event e.cells) (h 0 x refl) ∙ none_passed p e xs (λ i y g. h (suc i) y g)

pub avoids_no_one : (p : Program) (e : Seen) (ss : List BoundSegment) (there : List Avoided) (reach : ℕ) →
    ((k i : ℕ) (x : Point) → avoid_at ss k i ≡ Some x → may_pass (event_spot e.event) x ≡ true → Stands ss there k x) →
    ((j : ℕ) (a : Avoided) → slice_get there j ≡ Some a → a.segment < reach → (x : Point) → avoid_at ss a.segment a.at ≡ Some x → passes p x e.event e.cells ≡ false) →
    AvoidsNone p e ss reach
avoids_no_one p e ss there reach covers tested k lt = by_segment (slice_get ss k) refl
  where
    by_place : (i : ℕ) (x : Point) → avoid_at ss k i ≡ Some x → (b : Bool) → may_pass (event_spot e.event) x ≡ b → passes p x e.event e.cells ≡ false
    by_place i x h false m = passed_elsewhere p x e.event e.cells m
    by_place i x h true m =
        let s = covers k i x h m in
        tested s.0 s.1 s.2 (omega (arith, s.3, lt)) x s.4

    by_segment : (o : Option BoundSegment) → slice_get ss k ≡ o → resting.avoids_in p e o ≡ false
    by_segment None q = refl
    by_segment (Some s) q =
        none_passed p e s.avoids (λ i x h. by_place i x (ap (λ (o : Option BoundSegment). avoid_of o i) q ∙ h) (may_pass (event_spot e.event) x) refl)

-- ---- by the segments of a Rust value

pub point_past : (xs : List declared.Point) (i : ℕ) → length xs ≤ i → None ≡ slice_get (points_view xs) i
point_past [] i h = refl
point_past (x ∷ xs) zero h = absurd (omega arith)
point_past (x ∷ xs) (suc i) h = point_past xs i (omega arith)

pub point_there : (xs : List declared.Point) (i : ℕ) (x : declared.Point) → slice_get xs i ≡ Some x → Some (point_view x) ≡ slice_get (points_view xs) i
point_there [] i x h = absurd (cc)
point_there (y ∷ xs) zero x h = let e : x ≡ y = cc in ap (λ (z : declared.Point). Some (point_view z)) e
point_there (y ∷ xs) (suc i) x h = point_there xs i x h

pub avoid_past : (ss : List segment.BoundSegment) (k i : ℕ) → length ss ≤ k → None ≡ avoid_at (each_segment_view ss) k i
avoid_past [] k i h = refl
avoid_past (s ∷ ss) zero i h = absurd (omega arith)
avoid_past (s ∷ ss) (suc k) i h = avoid_past ss k i (omega arith)

pub avoid_there : (ss : List segment.BoundSegment) (k : ℕ) (s : segment.BoundSegment) (i : ℕ) → slice_get ss k ≡ Some s → slice_get (points_view s.avoids) i ≡ avoid_at (each_segment_view ss) k i
avoid_there [] k s i h = absurd (cc)
avoid_there (x ∷ ss) zero s i h = let e : s ≡ x = cc in ap (λ (y : segment.BoundSegment). slice_get (points_view y.avoids) i) e
avoid_there (x ∷ ss) (suc k) s i h = avoid_there ss k s i h

point_here : (xs : List declared.Point) (i : ℕ) (x : declared.Point) → i < length xs → slice_get (points_view xs) i ≡ Some (point_view (get_or xs i x))
point_here [] i x h = absurd (omega arith)
point_here (y ∷ xs) zero x h = refl
point_here (y ∷ xs) (suc i) x h = point_here xs i x (omega arith)

avoids_here : (ss : List segment.BoundSegment) (k : ℕ) (s : segment.BoundSegment) (i : ℕ) → k < length ss →
    avoid_at (each_segment_view ss) k i ≡ slice_get (points_view (get_or ss k s).avoids) i
avoids_here [] k s i h = absurd (omega arith)
avoids_here (x ∷ ss) zero s i h = refl
avoids_here (x ∷ ss) (suc k) s i h = avoids_here ss k s i (omega arith)

pub avoid_here : (ss : List segment.BoundSegment) (k : ℕ) (s : segment.BoundSegment) (i : ℕ) (xs : List declared.Point) (x : declared.Point) → k < length ss → s ≡ get_or ss k s →
    xs ≡ s.avoids → i < length xs → x ≡ get_or xs i x → avoid_at (each_segment_view ss) k i ≡ Some (point_view x)
avoid_here ss k s i xs x h q e l r =
    avoids_here ss k s i h ∙ ap (λ (y : segment.BoundSegment). slice_get (points_view y.avoids) i) (sym q) ∙
    ap (λ (ys : List declared.Point). slice_get (points_view ys) i) (sym e) ∙ point_here xs i x l ∙ ap (λ (y : declared.Point). Some (point_view y)) (sym r)

point_beyond : (xs : List declared.Point) (i : ℕ) (x : Point) → slice_get (points_view xs) i ≡ Some x → i < length xs
point_beyond [] i x h = absurd (cc)
point_beyond (y ∷ xs) zero x h = omega arith
point_beyond (y ∷ xs) (suc i) x h = let l = point_beyond xs i x h in omega (arith, l)

pub avoid_beyond : (ss : List segment.BoundSegment) (k : ℕ) (s : segment.BoundSegment) (i : ℕ) (xs : List declared.Point) (x : Point) → k < length ss → s ≡ get_or ss k s →
    xs ≡ s.avoids → avoid_at (each_segment_view ss) k i ≡ Some x → i < length xs
avoid_beyond ss k s i xs x h q e f =
    point_beyond xs i x
    (ap (λ (ys : List declared.Point). slice_get (points_view ys) i) e ∙ ap (λ (y : segment.BoundSegment). slice_get (points_view y.avoids) i) q ∙ sym (avoids_here ss k s i h) ∙ f)

pub avoid_within : (ss : List segment.BoundSegment) (k i : ℕ) (x : Point) → avoid_at (each_segment_view ss) k i ≡ Some x → k < length ss
avoid_within [] k i x h = absurd (cc)
avoid_within (s ∷ ss) zero i x h = omega arith
avoid_within (s ∷ ss) (suc k) i x h = let l = avoid_within ss k i x h in omega (arith, l)

-- ---- one more

pub itself_there : (xs : List Avoided) (spot : Spot) (a : Avoided) → (xs ++ cond (same_spot spot spot) (a ∷ []) []) ≡ (xs ++ a ∷ [])
itself_there xs spot a =
    let same : same_spot spot spot ≡ true = ap (λ (b : Bool). b && nat_eq spot.column spot.column) (eq-eqb spot.line spot.line refl) ∙ eq-eqb spot.column spot.column refl in
    ap (λ (b : Bool). xs ++ cond b (a ∷ []) []) same

pub on_ok : {A E : Type 0} (answer : Result A E) (P Q : Type 0) → OnOk answer P → (P → Q) → OnOk answer Q
on_ok (Ok a) P Q p f = f p
on_ok (Err e) P Q p f = tt

at_or_before : (k x : ℕ) → k < x + 1 → (k < x) ⊎ (k ≡ x)
at_or_before k x h = grind arith

pub one_there : (ss : List BoundSegment) (old new : Avoids) (k at : ℕ) (y : Point) → avoid_at ss k at ≡ Some y → ((q : Spot) → Longer (avoids_in old q) (avoids_in new q)) →
    ((i : ℕ) (x : Point) → i < at → avoid_at ss k i ≡ Some x → StandsThere ss old k x) → StandsThere ss new k y →
    (i : ℕ) (x : Point) → i < at + 1 → avoid_at ss k i ≡ Some x → StandsThere ss new k x
one_there ss old new k at y here longer before now i x lt h = elim (at_or_before i at lt) [
  | inl l ↦ λ spot m. stands_longer ss (avoids_in old spot) (avoids_in new spot) k x (longer spot) (before i x l h spot m)
  | inr e ↦
      let both : Some y ≡ Some x = sym here ∙ ap (avoid_at ss k) (sym e) ∙ h in
      let same : y ≡ x = cc in
      subst (StandsThere ss new k) same now
]

pub segment_more : (ss : List BoundSegment) (old new : Avoids) (number : ℕ) → ((q : Spot) → Longer (avoids_in old q) (avoids_in new q)) →
    ((k i : ℕ) (x : Point) → k < number → avoid_at ss k i ≡ Some x → StandsThere ss old k x) →
    ((i : ℕ) (x : Point) → avoid_at ss number i ≡ Some x → StandsThere ss new number x) →
    (k i : ℕ) (x : Point) → k < number + 1 → avoid_at ss k i ≡ Some x → StandsThere ss new k x
segment_more ss old new number longer before now k i x lt h = elim (at_or_before k number lt) [
  | inl l ↦ λ spot m. stands_longer ss (avoids_in old spot) (avoids_in new spot) k x (longer spot) (before k i x l h spot m)
  | inr e ↦ subst (λ (j : ℕ). StandsThere ss new j x) (sym e) (now i x (ap (λ (j : ℕ). avoid_at ss j i) (sym e) ∙ h))
]
