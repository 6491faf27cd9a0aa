-- The numbers of the segments that an event can move: none is missed, they ascend, and each is one of a segment.
use Rattle.c_core.specs.Tree.{Program}
use Rattle.std.proofs.lemmas.Bool.{or_parts as or_each, or_from as or_of}
use Rattle.c_core.specs.declared.number.Spot.{Spot}
use Rattle.c_meaning.specs.declared.run.Event.{Event}
use Rattle.c_meaning.specs.declared.run.Event.TheVariants as event
use Rattle.c_meaning.specs.Cells.{Cell}
use Rattle.std.proofs.Common.{◌≡◌, ◌⊎◌, inl, inr, ℕ, zero, suc, ◌+◌, ◌<◌, ◌≤◌, Bool, true, false, cond, ◌&&◌, ◌||◌, List, [], ◌∷◌, ◌++◌, length, drop, get_or, slice_get, Option, Some, None, refl, ◌∙◌, ap, subst, arith}
use Rattle.std.proofs.Math.Seq.{drop-cons}
use Rattle.std.specs.List.{list_any}
use Rattle.way_match.specs.Points.{Point, Assume, Target, Enter, Return, Branch, BoundSegment}
use Rattle.way_match.specs.Passing.{passes, passes_any}
use Rattle.way_match.specs.Matching.{Seen}
use Rattle.c_meaning.specs.Watching.{event_spot}
use Rattle.way_match.specs.inside.ByPlace.{may_pass, may_move, numbers_for, moved}
use Rattle.way_match.specs.inside.Arena.{IsBlank}
use Rattle.way_match.proofs.Skips.{Untouched, IsIdle}

-- ---- a waypoint elsewhere isn't passed

and_false : (a b : Bool) → a ≡ false → (a && b) ≡ false
and_false a b e = ap (λ (x : Bool). x && b) e

pub passed_elsewhere : (p : Program) (x : Point) (e : Event) (cells : List Cell) → may_pass (event_spot e) x ≡ false → passes p x e cells ≡ false
passed_elsewhere p (Assume spot test) (event.At at) cells h = and_false _ _ h
passed_elsewhere p (Assume spot test) (event.Branch at taken) cells h = refl
passed_elsewhere p (Assume spot test) (event.Enter at) cells h = refl
passed_elsewhere p (Assume spot test) (event.Return at v) cells h = refl
passed_elsewhere p (Assume spot test) (event.Fail s f c) cells h = refl
passed_elsewhere p (Target aim) (event.At at) cells h = refl
passed_elsewhere p (Target aim) (event.Branch at taken) cells h = refl
passed_elsewhere p (Target aim) (event.Enter at) cells h = refl
passed_elsewhere p (Target aim) (event.Return at v) cells h = refl
passed_elsewhere p (Target aim) (event.Fail s f c) cells h = absurd (cc)
passed_elsewhere p (Enter close) (event.At at) cells h = refl
passed_elsewhere p (Enter close) (event.Branch at taken) cells h = refl
passed_elsewhere p (Enter close) (event.Enter at) cells h = h
passed_elsewhere p (Enter close) (event.Return at v) cells h = refl
passed_elsewhere p (Enter close) (event.Fail s f c) cells h = refl
passed_elsewhere p (Return close test) (event.At at) cells h = refl
passed_elsewhere p (Return close test) (event.Branch at taken) cells h = refl
passed_elsewhere p (Return close test) (event.Enter at) cells h = refl
passed_elsewhere p (Return close test) (event.Return at v) cells h = and_false _ _ h
passed_elsewhere p (Return close test) (event.Fail s f c) cells h = refl
passed_elsewhere p (Branch spot way) (event.At at) cells h = refl
passed_elsewhere p (Branch spot way) (event.Branch at taken) cells h = and_false _ _ h
passed_elsewhere p (Branch spot way) (event.Enter at) cells h = refl
passed_elsewhere p (Branch spot way) (event.Return at v) cells h = refl
passed_elsewhere p (Branch spot way) (event.Fail s f c) cells h = refl

none_elsewhere : (p : Program) (xs : List Point) (e : Event) (cells : List Cell) → list_any (may_pass (event_spot e)) xs ≡ false → passes_any p xs e cells ≡ false
none_elsewhere p [] e cells h = refl
none_elsewhere p (x ∷ xs) e cells h =
    let o = or_each _ _ h in
    rw (passed_elsewhere p x e cells o.0, none_elsewhere p xs e cells o.1) refl

pub untouched : (p : Program) (e : Seen) (s : BoundSegment) → may_move (event_spot e.event) s ≡ false → Untouched p e s
untouched p e s h =
    let o = or_each _ _ h in
    record { avoids = none_elsewhere p s.avoids e.event e.cells o.0; follow = passed_elsewhere p s.follow e.event e.cells o.1 }

-- ---- the numbers

abbrev pub Absent : ℕ → List ℕ → Type 0
Absent k [] = Unit {0}
Absent k (x ∷ xs) = (x ≡ k → ⊥) × Absent k xs

abbrev pub Above : ℕ → List ℕ → Type 0
Above k [] = Unit {0}
Above k (x ∷ xs) = (k ≤ x) × Above k xs

abbrev pub Below : ℕ → List ℕ → Type 0
Below n [] = Unit {0}
Below n (x ∷ xs) = (x < n) × Below n xs

abbrev pub Ascends : List ℕ → Type 0
Ascends [] = Unit {0}
Ascends (x ∷ xs) = Above x xs × Ascends xs

abbrev pub may_move_if : Option Spot → Option BoundSegment → Bool
may_move_if at None = false
may_move_if at (Some s) = may_move at s

for_absent : (at : Option Spot) (k : ℕ) (xs : List Point) (ys : List ℕ) → Absent k (numbers_for at k xs ++ ys) → (list_any (may_pass at) xs ≡ false) × Absent k ys
for_absent at k [] ys a = (refl, a)
for_absent at k (x ∷ xs) ys a = by_there (may_pass at x) (λ h. for_absent at k xs ys h) a
  where
    by_there : (b : Bool) → (Absent k (numbers_for at k xs ++ ys) → (list_any (may_pass at) xs ≡ false) × Absent k ys) →
        Absent k ((cond b (k ∷ []) [] ++ numbers_for at k xs) ++ ys) → ((b || list_any (may_pass at) xs) ≡ false) × Absent k ys
    by_there true f a = absurd (a.0 refl)
    by_there false f a = f a

either : (a b : Bool) → (a || b) ≡ false → a ≡ false
either true b h = absurd (cc)
either false b h = refl

absent_behind : (at : Option Spot) (k j : ℕ) (xs : List Point) (ys : List ℕ) → Absent j (numbers_for at k xs ++ ys) → Absent j ys
absent_behind at k j [] ys a = a
absent_behind at k j (x ∷ xs) ys a = by_there (may_pass at x) (λ h. absent_behind at k j xs ys h) a
  where
    by_there : (b : Bool) → (Absent j (numbers_for at k xs ++ ys) → Absent j ys) → Absent j ((cond b (k ∷ []) [] ++ numbers_for at k xs) ++ ys) → Absent j ys
    by_there true f a = f a.1
    by_there false f a = f a

-- a segment whose number is missed can't be moved
pub missed : (at : Option Spot) (k : ℕ) (ss : List BoundSegment) (j : ℕ) → Absent (k + j) (moved at k ss) → may_move_if at (slice_get ss j) ≡ false
missed at k [] j a = refl
missed at k (s ∷ ss) zero a =
    let z : k + 0 ≡ k = omega arith in
    let x = for_absent at k s.avoids _ (rw z at a) in
    let y = for_absent at k (s.follow ∷ []) _ x.1 in
    or_of _ _ x.0 (either _ _ y.0)
missed at k (s ∷ ss) (suc j) a =
    let z : k + suc j ≡ k + 1 + j = omega arith in
    let x = absent_behind at k (k + suc j) s.avoids _ a in
    let y = absent_behind at k (k + suc j) (s.follow ∷ []) _ x in
    missed at (k + 1) ss j (rw z at y)

above_for : (at : Option Spot) (k m : ℕ) (xs : List Point) (ys : List ℕ) → m ≤ k → Above m ys → Above m (numbers_for at k xs ++ ys)
above_for at k m [] ys h a = a
above_for at k m (x ∷ xs) ys h a = by_there (may_pass at x) (above_for at k m xs ys h a)
  where
    by_there : (b : Bool) → Above m (numbers_for at k xs ++ ys) → Above m ((cond b (k ∷ []) [] ++ numbers_for at k xs) ++ ys)
    by_there true f = (h, f)
    by_there false f = f

pub above_moved : (at : Option Spot) (k m : ℕ) (ss : List BoundSegment) → m ≤ k → Above m (moved at k ss)
above_moved at k m [] h = tt
above_moved at k m (s ∷ ss) h =
    above_for at k m s.avoids _ h (above_for at k m (s.follow ∷ []) _ h (above_moved at (k + 1) m ss (omega arith)))

ascends_for : (at : Option Spot) (k : ℕ) (xs : List Point) (ys : List ℕ) → Above k ys → Ascends ys → Ascends (numbers_for at k xs ++ ys)
ascends_for at k [] ys a h = h
ascends_for at k (x ∷ xs) ys a h = by_there (may_pass at x) (ascends_for at k xs ys a h)
  where
    by_there : (b : Bool) → Ascends (numbers_for at k xs ++ ys) → Ascends ((cond b (k ∷ []) [] ++ numbers_for at k xs) ++ ys)
    by_there true f = (above_for at k k xs ys (omega arith) a, f)
    by_there false f = f

pub ascends : (at : Option Spot) (k : ℕ) (ss : List BoundSegment) → Ascends (moved at k ss)
ascends at k [] = tt
ascends at k (s ∷ ss) =
    let a = above_moved at (k + 1) k ss (omega arith) in
    ascends_for at k s.avoids _ (above_for at k k (s.follow ∷ []) _ (omega arith) a) (ascends_for at k (s.follow ∷ []) _ a (ascends at (k + 1) ss))

below_for : (at : Option Spot) (k m : ℕ) (xs : List Point) (ys : List ℕ) → k < m → Below m ys → Below m (numbers_for at k xs ++ ys)
below_for at k m [] ys h a = a
below_for at k m (x ∷ xs) ys h a = by_there (may_pass at x) (below_for at k m xs ys h a)
  where
    by_there : (b : Bool) → Below m (numbers_for at k xs ++ ys) → Below m ((cond b (k ∷ []) [] ++ numbers_for at k xs) ++ ys)
    by_there true f = (h, f)
    by_there false f = f

pub below : (at : Option Spot) (k m : ℕ) (ss : List BoundSegment) → k + length ss ≤ m → Below m (moved at k ss)
below at k m [] h = tt
below at k m (s ∷ ss) h =
    below_for at k m s.avoids _ (omega arith) (below_for at k m (s.follow ∷ []) _ (omega arith) (below at (k + 1) m ss (omega arith)))

pub absent_below : (k x : ℕ) (xs : List ℕ) → k < x → Above x xs → Absent k (x ∷ xs)
absent_below k x xs h a = ((λ e. absurd (omega arith)), each x xs h a)
  where
    each : (x : ℕ) (xs : List ℕ) → k < x → Above x xs → Absent k xs
    each x [] h a = tt
    each x (y ∷ ys) h a = ((λ e. absurd (omega (arith, a.0))), each x ys h a.1)

-- ---- the segments ahead: those that no number left names can't be moved, and the numbers left ascend

abbrev pub Ahead : Option Spot → List BoundSegment → ℕ → List ℕ → Type 0
Ahead at ss next rest = ((k : ℕ) → next ≤ k → Absent k rest → may_move_if at (slice_get ss k) ≡ false) × Ascends rest × Below (length ss) rest

pub all_ahead : (at : Option Spot) (ss : List BoundSegment) → Ahead at ss 0 (moved at 0 ss)
all_ahead at ss =
    let m : 0 + length ss ≤ length ss = omega arith in
    ((λ k h a. missed at 0 ss k (subst (λ (j : ℕ). Absent j (moved at 0 ss)) (from_zero k) a)), ascends at 0 ss, below at 0 (length ss) ss m)
  where
    from_zero : (k : ℕ) → k ≡ 0 + k
    from_zero k = omega arith

pub ahead_from : (at : Option Spot) (ss : List BoundSegment) (low : ℕ) (numbers : List ℕ) → Ahead at ss 0 numbers → Ahead at ss low numbers
ahead_from at ss low numbers h = ((λ k g a. h.0 k (omega arith) a), h.1, h.2)

-- the next number, and those behind it
pub next_ahead : (at : Option Spot) (ss : List BoundSegment) (next i : ℕ) (numbers : List ℕ) → i < length numbers → Ahead at ss next (drop i numbers) →
    Ahead at ss next (get_or numbers i 0 ∷ drop (i + 1) numbers)
next_ahead at ss next i numbers lt h =
    let z : suc i ≡ i + 1 = omega arith in
    let d = drop-cons numbers i 0 lt ∙ ap (λ (k : ℕ). get_or numbers i 0 ∷ drop k numbers) z in
    subst (λ (ns : List ℕ). Ahead at ss next ns) d h

pub ahead_more : (at : Option Spot) (ss : List BoundSegment) (next later x : ℕ) (rest : List ℕ) → Ahead at ss next (x ∷ rest) → next ≤ later → x < later → Ahead at ss later rest
ahead_more at ss next later x rest h n l = ((λ k g a. h.0 k (omega arith) ((λ e. absurd (omega arith)), a)), h.1.1, h.2.1)

pub ahead_between : (at : Option Spot) (ss : List BoundSegment) (next x : ℕ) (rest : List ℕ) → Ahead at ss next (x ∷ rest) → (k : ℕ) → next ≤ k → k < x →
    may_move_if at (slice_get ss k) ≡ false
ahead_between at ss next x rest h k n l = h.0 k n (absent_below k x rest l h.1.0)

pub idle_if : (p : Program) (e : Seen) (ss : List BoundSegment) (k : ℕ) (w : Option ℕ) → k < length ss → may_move_if (event_spot e.event) (slice_get ss k) ≡ false ⊎ (w ≡ None) →
    IsIdle p e (slice_get ss k) w
idle_if p e [] k w h m = absurd (omega arith)
idle_if p e (s ∷ ss) zero w h (inl m) = inl (untouched p e s m)
idle_if p e (s ∷ ss) zero w h (inr m) = inr m
idle_if p e (s ∷ ss) (suc k) w h m = idle_if p e ss k w (omega arith) m

split : (k x : ℕ) → (k < x) ⊎ (x ≤ k)
split k zero = inr (omega arith)
split zero (suc x) = inl (omega arith)
split (suc k) (suc x) = elim (split k x) [ inl h ↦ inl (omega (arith, h)) | inr h ↦ inr (omega (arith, h)) ]

-- where no state from the next number on is live, all segments ahead are idle
pub idle_on : (p : Program) (e : Seen) (ss : List BoundSegment) (live : List (Option ℕ)) (next x reach : ℕ) (rest : List ℕ) → Ahead (event_spot e.event) ss next (x ∷ rest) →
    IsBlank reach live → reach ≤ x → (k : ℕ) → next ≤ k → k < length ss → IsIdle p e (slice_get ss k) (get_or live k None)
idle_on p e ss live next x reach rest h b r k n l = elim (split k x) [
  | inl g ↦ idle_if p e ss k (get_or live k None) l (inl (ahead_between (event_spot e.event) ss next x rest h k n g))
  | inr g ↦ idle_if p e ss k (get_or live k None) l (inr (b k (omega (arith, r, g))))
]
