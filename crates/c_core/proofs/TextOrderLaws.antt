-- Parts of a list of places, in its order.
use Rattle.std.proofs.Common.{◌≡◌, ◌<◌, ltb-true, lt-ltb, eqb-true, eq-eqb, nat_eq, nat_lt, arith, Bool, true, false, ◌&&◌, ◌||◌, ◌⊎◌, inl, inr, List, [], ◌∷◌, ◌++◌, refl}
use Rattle.std.proofs.lemmas.Bool.{false≢true}
use Rattle.std.proofs.Math.Bool.{or-true}
use Rattle.std.specs.List.{list_all}
use Rattle.c_core.specs.Parts.{same_spot}
use Rattle.c_core.specs.TextOrder.{is_before, is_before_first, rises}
use Rattle.c_core.specs.declared.number.Spot.{Spot}

pub left : (a b : Bool) → (a && b) ≡ true → a ≡ true
left true b h = refl
left false b h = absurd (false≢true h)

pub right : (a b : Bool) → (a && b) ≡ true → b ≡ true
right true b h = h
right false b h = absurd (false≢true h)

pub either : (a b : Bool) → (a || b) ≡ true → (a ≡ true) ⊎ (b ≡ true)
either true b h = inl refl
either false b h = inr h

pub same_spot-self : (a : Spot) → same_spot a a ≡ true
same_spot-self a = rw (eq-eqb a.line a.line refl) (eq-eqb a.column a.column refl)

Before : Spot → Spot → Type 0
Before a b = (a.line < b.line) ⊎ ((a.line ≡ b.line) × (a.column < b.column))

before_of : (a b : Spot) → is_before a b ≡ true → Before a b
unfolding Before
before_of a b h =
    elim (either (nat_lt a.line b.line) _ h) [
      | inl l ↦ inl (ltb-true a.line b.line l)
      | inr r ↦ inr (eqb-true a.line b.line (left _ _ r), ltb-true a.column b.column (right (nat_eq a.line b.line) _ r))
    ]

of_before : (a b : Spot) → Before a b → is_before a b ≡ true
unfolding Before
of_before a b (inl l) = rw (lt-ltb a.line b.line l) refl
of_before a b (inr (l, c)) = rw (eq-eqb a.line b.line l) (rw (lt-ltb a.column b.column c) (or-true (nat_lt a.line b.line)))

before_then : (a b c : Spot) → Before a b → Before b c → Before a c
unfolding Before
before_then a b c (inl x) (inl y) = inl (omega arith)
before_then a b c (inl x) (inr (y, z)) = inl (omega arith)
before_then a b c (inr (x, w)) (inl y) = inl (omega arith)
before_then a b c (inr (x, w)) (inr (y, z)) = inr (omega arith, omega arith)

pub is_before-then : (a b c : Spot) → is_before a b ≡ true → is_before b c ≡ true → is_before a c ≡ true
is_before-then a b c x y = of_before a c (before_then a b c (before_of a b x) (before_of b c y))

later : (a b : Spot) (spots : List Spot) → is_before a b ≡ true → list_all (is_before b) spots ≡ true → list_all (is_before a) spots ≡ true
later a b [] x h = refl
later a b (c ∷ spots) x h = rw (is_before-then a b c x (left _ _ h)) (later a b spots x (right (is_before b c) _ h))

-- in a rising list the first place stands before all others
pub before_all : (a : Spot) (spots : List Spot) → rises (a ∷ spots) ≡ true → list_all (is_before a) spots ≡ true
before_all a [] h = refl
before_all a (b ∷ spots) h =
    let x = left (is_before a b) _ h in
    rw x (later a b spots x (before_all b spots (right (is_before a b) _ h)))

pub data IsPart : List Spot → List Spot → Type 0 where
  ends : IsPart [] []
  skips : (a : Spot) (part spots : List Spot) → IsPart part spots → IsPart part (a ∷ spots)
  takes : (a : Spot) (part spots : List Spot) → IsPart part spots → IsPart (a ∷ part) (a ∷ spots)

pub part_none : (spots : List Spot) → IsPart [] spots
part_none [] = ends
part_none (a ∷ spots) = skips a [] spots (part_none spots)

pub part_all : (spots : List Spot) → IsPart spots spots
part_all [] = ends
part_all (a ∷ spots) = takes a spots spots (part_all spots)

pub part_append : (part spots part' spots' : List Spot) → IsPart part spots → IsPart part' spots' → IsPart (part ++ part') (spots ++ spots')
part_append _ _ part' spots' ends q = q
part_append _ _ part' spots' (skips a part spots p) q = skips a (part ++ part') (spots ++ spots') (part_append part spots part' spots' p q)
part_append _ _ part' spots' (takes a part spots p) q = takes a (part ++ part') (spots ++ spots') (part_append part spots part' spots' p q)

-- a part of what stands in front, and of what stands behind
pub part_front : (part spots more : List Spot) → IsPart part spots → IsPart part (spots ++ more)
part_front _ _ more ends = part_none more
part_front _ _ more (skips a part spots p) = skips a part (spots ++ more) (part_front part spots more p)
part_front _ _ more (takes a part spots p) = takes a part (spots ++ more) (part_front part spots more p)

pub part_behind : (more part spots : List Spot) → IsPart part spots → IsPart part (more ++ spots)
part_behind [] part spots p = p
part_behind (a ∷ more) part spots p = skips a part (more ++ spots) (part_behind more part spots p)

holds_of_part : (q : Spot → Bool) (part spots : List Spot) → IsPart part spots → list_all q spots ≡ true → list_all q part ≡ true
holds_of_part q _ _ ends h = refl
holds_of_part q _ _ (skips a part spots p) h = holds_of_part q part spots p (right (q a) _ h)
holds_of_part q _ _ (takes a part spots p) h = rw (left (q a) _ h) (holds_of_part q part spots p (right (q a) _ h))

first_of_all : (a : Spot) (spots : List Spot) → list_all (is_before a) spots ≡ true → is_before_first a spots ≡ true
first_of_all a [] h = refl
first_of_all a (b ∷ spots) h = left _ _ h

-- a part of a rising list rises
pub rises-part : (part spots : List Spot) → IsPart part spots → rises spots ≡ true → rises part ≡ true
rises-part _ _ ends h = refl
rises-part _ _ (skips a part spots p) h = rises-part part spots p (right (is_before_first a spots) _ h)
rises-part _ _ (takes a part spots p) h =
    rw (first_of_all a part (holds_of_part (is_before a) part spots p (before_all a spots h))) (rises-part part spots p (right (is_before_first a spots) _ h))
