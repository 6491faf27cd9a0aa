-- Tolls, one waypoint after the other.
use Rattle.std.proofs.Common.{◌≡◌, ◌<◌, ℕ, ◌+◌, suc, refl, sym, ap, ◌∙◌, Bool, true, false, cond, List, [], ◌∷◌, ◌++◌, length, length-append, append_assoc, drop, drop-cons, get_or, Option, Result, Ok, Err, OnOk, arith}
use Rattle.std.specs.BTreeMap.{BTreeMap}
use Rattle.c_core.specs.Parts.{same_spot}
use Rattle.c_core.specs.Tree.{Exp, Program}
use Rattle.c_core.specs.declared.number.Spot.{Spot}
use Rattle.c_meaning.specs.declared.run.Way.{Way}
use Rattle.sym_weight.specs.Tally.{capped, weight_at}
use Rattle.way_match.specs.Points.{Aim, ReturnTest, Point, Assume, Target, Enter, Return, Branch, BoundSegment}
use Rattle.way_match.specs.View.{each_segment_view, point_view, points_view, segment_view}
use Rattle.way_match.specs.declared.point.BoundSegment as rust
use Rattle.way_match.specs.declared.point.Point as rust_point
use Rattle.seek_weight.specs.Tolls.{Happening, AStatement, ATest, ACall, constraint_weight, placed_weight, points_of}
use Rattle.seek_weight.specs.declared.tolls.Tolls.{Tolls}
use Rattle.seek_weight.specs.inside.Weighing.{Adds, placed_in}

-- weights by line and column
abbrev pub Weights : Type 0
Weights = BTreeMap (ℕ × ℕ) ℕ

added_by : (b : Bool) (old own new w : ℕ) → own ≡ capped (w + 64) → new ≡ cond b (capped (old + own)) old → capped new ≡ capped (old + cond b (64 + w) 0)
added_by true old own new w h e = omega arith
added_by false old own new w h e = omega arith

-- a waypoint is added at its place alone
pub waypoint_added : (spot q : Spot) (old own new w : ℕ) → own ≡ capped (w + 64) → new ≡ cond (same_spot spot q) (capped (old + own)) old → capped new ≡ capped (old + cond (same_spot spot q) (64 + w) 0)
waypoint_added spot q old own new w h e = added_by (same_spot spot q) old own new w h e

-- with its own constraint, as far as numbers go
constrained_by : (b : Bool) (old new w x : ℕ) → w ≡ capped x → capped new ≡ capped (old + cond b (64 + w) 0) → capped new ≡ capped (old + (cond b (64 + x) 0 + 0))
constrained_by true old new w x h e = omega arith
constrained_by false old new w x h e = omega arith

pub constrained : (spot q : Spot) (old new w x : ℕ) → w ≡ capped x → capped new ≡ capped (old + cond (same_spot spot q) (64 + w) 0) → capped new ≡ capped (old + (cond (same_spot spot q) (64 + x) 0 + 0))
constrained spot q old new w x h e = constrained_by (same_spot spot q) old new w x h e

unmoved : (n : ℕ) → capped n ≡ capped (n + 0)
unmoved n = omega arith

-- what was added to one of the maps
abbrev pub IsAdded : Spot → ℕ → Weights → Weights → Type 0
IsAdded spot w old new = (q : Spot) → capped (weight_at new q) ≡ capped (weight_at old q + cond (same_spot spot q) (64 + w) 0)

module _ (p : Program) (t : Tolls) (spot : Spot) where
  pub assume_adds : (e : Exp) (w : ℕ) (m : Weights) → w ≡ capped (constraint_weight p (Assume spot e)) → IsAdded spot w t.statements m → Adds p (Assume spot e ∷ []) t (record t { statements = m })
  assume_adds e w m is h AStatement at = constrained spot at (weight_at t.statements at) (weight_at m at) w (constraint_weight p (Assume spot e)) is (h at)
  assume_adds e w m is h ATest at = unmoved (weight_at t.tests at)
  assume_adds e w m is h ACall at = unmoved (weight_at t.calls at)

  pub enter_adds : (m : Weights) → IsAdded spot 0 t.calls m → Adds p (Enter spot ∷ []) t (record t { calls = m })
  enter_adds m h AStatement at = unmoved (weight_at t.statements at)
  enter_adds m h ATest at = unmoved (weight_at t.tests at)
  enter_adds m h ACall at = constrained spot at (weight_at t.calls at) (weight_at m at) 0 0 refl (h at)

  pub return_adds : (test : Option ReturnTest) (w : ℕ) (m : Weights) → w ≡ capped (constraint_weight p (Return spot test)) → IsAdded spot w t.calls m → Adds p (Return spot test ∷ []) t (record t { calls = m })
  return_adds test w m is h AStatement at = unmoved (weight_at t.statements at)
  return_adds test w m is h ATest at = unmoved (weight_at t.tests at)
  return_adds test w m is h ACall at = constrained spot at (weight_at t.calls at) (weight_at m at) w (constraint_weight p (Return spot test)) is (h at)

  pub branch_adds : (way : Way) (m : Weights) → IsAdded spot 0 t.tests m → Adds p (Branch spot way ∷ []) t (record t { tests = m })
  branch_adds way m h AStatement at = unmoved (weight_at t.statements at)
  branch_adds way m h ATest at = constrained spot at (weight_at t.tests at) (weight_at m at) 0 0 refl (h at)
  branch_adds way m h ACall at = unmoved (weight_at t.calls at)

pub target_adds : (p : Program) (t : Tolls) (aim : Aim) → Adds p (Target aim ∷ []) t t
target_adds p t aim AStatement at = unmoved (weight_at t.statements at)
target_adds p t aim ATest at = unmoved (weight_at t.tests at)
target_adds p t aim ACall at = unmoved (weight_at t.calls at)

-- what holds where a call succeeds
pub where_ok : {A E P Q : Type 0} (r : Result A E) → OnOk r P → (P → Q) → OnOk r Q
where_ok (Ok x) h f = f h
where_ok (Err e) h f = tt

placed_append : (p : Program) (h : Happening) (at : Spot) (xs ys : List Point) → placed_weight p h at (xs ++ ys) ≡ placed_weight p h at xs + placed_weight p h at ys
placed_append p h at [] ys = omega arith
placed_append p h at (x ∷ xs) ys = let e = placed_append p h at xs ys in omega arith

then_sum : (a b c x y z : ℕ) → capped b ≡ capped (a + x) → capped c ≡ capped (b + y) → z ≡ x + y → capped c ≡ capped (a + z)
then_sum a b c x y z h k e = omega arith

-- some waypoints, then others
pub adds_then : (p : Program) (xs ys : List Point) (a b c : Tolls) → Adds p xs a b → Adds p ys b c → Adds p (xs ++ ys) a c
adds_then p xs ys a b c f g h at =
    then_sum (placed_in a h at) (placed_in b h at) (placed_in c h at) (placed_weight p h at xs) (placed_weight p h at ys) (placed_weight p h at (xs ++ ys)) (f h at) (g h at) (placed_append p h at xs ys)

-- waypoints one after the other, then those that are left
pub adds_on : (p : Program) (xs rest all : List Point) (whole : Happening → Spot → ℕ) (a b : Tolls) → all ≡ xs ++ rest → Adds p xs a b
    → ((h : Happening) (at : Spot) → capped (placed_in a h at + placed_weight p h at all) ≡ capped (whole h at))
    → (h : Happening) (at : Spot) → capped (placed_in b h at + placed_weight p h at rest) ≡ capped (whole h at)
adds_on p xs rest all whole a b e f g h at =
    let w : placed_weight p h at all ≡ placed_weight p h at xs + placed_weight p h at rest = ap (placed_weight p h at) e ∙ placed_append p h at xs rest in
    left_over (placed_in a h at) (placed_in b h at) (placed_weight p h at xs) (placed_weight p h at rest) (placed_weight p h at all) (whole h at) w (f h at) (g h at)
  where
    left_over : (a b x y z n : ℕ) → z ≡ x + y → capped b ≡ capped (a + x) → capped (a + z) ≡ capped n → capped (b + y) ≡ capped n
    left_over a b x y z n e f g = omega arith

length_viewed : (xs : List rust_point.Point) → length (points_view xs) ≡ length xs
length_viewed [] = refl
length_viewed (x ∷ xs) = ap (λ n. suc n) (length_viewed xs)

points_joined : (s : BoundSegment) (ss : List BoundSegment) → points_of (s ∷ ss) ≡ points_of (s ∷ []) ++ points_of ss
points_joined s ss = sym (append_assoc s.avoids (s.follow ∷ []) (points_of ss))

-- the next of a list, and those after it
next_of : {A : Type 0} (xs : List A) (i : ℕ) (x : A) → i < length xs → x ≡ get_or xs i x → drop i xs ≡ x ∷ drop (i + 1) xs
next_of xs i x l e = let n : i + 1 ≡ suc i = omega arith in rw n (drop-cons xs i x l ∙ ap (λ y. y ∷ drop (suc i) xs) (sym e))

pub points_from : (xs : List rust_point.Point) (i : ℕ) (x : rust_point.Point) → i < length xs → x ≡ get_or xs i x → points_view (drop i xs) ≡ (point_view x ∷ []) ++ points_view (drop (i + 1) xs)
points_from xs i x l e = ap points_view (next_of xs i x l e)

pub segments_from : (ss : List rust.BoundSegment) (i : ℕ) (s : rust.BoundSegment) → i < length ss → s ≡ get_or ss i s
    → points_of (each_segment_view (drop i ss)) ≡ points_of (segment_view s ∷ []) ++ points_of (each_segment_view (drop (i + 1) ss))
segments_from ss i s l e = ap (λ ts. points_of (each_segment_view ts)) (next_of ss i s l e) ∙ points_joined (segment_view s) (each_segment_view (drop (i + 1) ss))

-- the waypoints of one segment more
pub counted_on : (ss : List rust.BoundSegment) (i : ℕ) (s : rust.BoundSegment) (avoids n a b whole : ℕ) → i < length ss → s ≡ get_or ss i s → avoids ≡ length s.avoids
    → a ≡ capped (n + avoids) → b ≡ capped (a + 1) → capped (n + length (points_of (each_segment_view (drop i ss)))) ≡ whole
    → capped (b + length (points_of (each_segment_view (drop (i + 1) ss)))) ≡ whole
counted_on ss i s avoids n a b whole l e v f g h =
    let rest = points_of (each_segment_view (drop (i + 1) ss)) in
    let split : length (points_of (each_segment_view (drop i ss))) ≡ length (points_of (segment_view s ∷ [])) + length rest =
    ap length (segments_from ss i s l e) ∙ length-append (points_of (segment_view s ∷ [])) rest in
    let own : length (points_of (segment_view s ∷ [])) ≡ length (points_view s.avoids) + 1 = length-append (points_view s.avoids) ((segment_view s).follow ∷ []) in
    sums n a b avoids (length (points_view s.avoids)) (length (points_of (segment_view s ∷ []))) (length rest) (length (points_of (each_segment_view (drop i ss)))) whole
    (v ∙ sym (length_viewed s.avoids)) own split f g h
  where
    sums : (n a b v x y r z whole : ℕ) → v ≡ x → y ≡ x + 1 → z ≡ y + r → a ≡ capped (n + v) → b ≡ capped (a + 1) → capped (n + z) ≡ whole → capped (b + r) ≡ whole
    sums n a b v x y r z whole e f g h i k = omega arith
