-- Lists in the order of the text: what a sort gives, and what a search finds in one.
use Rattle.std.proofs.Common.{◌≡◌, ℕ, zero, suc, ◌+◌, ◌<◌, ◌≤◌, refl, sym, ap, ◌∙◌, Bool, true, false, cond, not, ◌&&◌, ◌||◌, List, [], ◌∷◌, Option, Some, None, nat_lt, nat_eq, length, get_or, drop, subst, arith}
use Rattle.std.proofs.lemmas.Bool.{and_from as both_true}
use Rattle.std.proofs.lemmas.Bool.Decides.{nat_tests}
use Rattle.std.proofs.lemmas.List.Sorted.{sorted_far}
use Rattle.std.specs.Cmp.{IsStrictWeakOrder}
use Rattle.std.specs.List.{AllWithin, filter, find, slice_get}
use Rattle.std.specs.List.Sorted.{IsPartitionedBy, IsPartitionPoint, IsSortedBy, IsStableBy, ties}
use Rattle.std.specs.Option.{option_map}
use Rattle.c_core.specs.Parts.{same_spot}
use Rattle.c_core.specs.Places.{is_named, lefter, leftmost, number_of_kind, of_kind, same_kind}
use Rattle.c_core.specs.TextOrder.{is_before}
use Rattle.c_core.specs.declared.number.Spot.{Spot}
use Rattle.c_core.specs.declared.place.Place.{Place}
use Rattle.c_core.specs.declared.place.PlaceKind.{PlaceKind}
use Rattle.c_core.proofs.TextOrderLaws.{left, right}
use Rattle.way_places.specs.Maps.{first_in}
use Rattle.way_places.specs.Ordered.{are_ordered, follow, follow_at, follow_by_spot, kept_if, precedes, precedes_first, stand_from, start}

abbrev before : ℕ → ℕ → ℕ → ℕ → Bool
before al ac bl bc = nat_lt al bl || (nat_eq al bl && nat_lt ac bc)

before_once : (al ac bl bc : ℕ) → before al ac bl bc ≡ true → before bl bc al ac ≡ false
before_once al ac bl bc h = grind (arith, nat_tests)

before_chain : (al ac bl bc dl dc : ℕ) → before al ac bl bc ≡ false → before bl bc dl dc ≡ false → before al ac dl dc ≡ false
before_chain al ac bl bc dl dc h k = grind (arith, nat_tests)

pub not_before : (a b c : Spot) → is_before a b ≡ false → is_before b c ≡ false → is_before a c ≡ false
not_before a b c h k = before_chain a.line a.column b.line b.column c.line c.column h k

pub text_order : {X : Type 0} (at : X → Spot) → IsStrictWeakOrder (λ (x y : X). is_before (at x) (at y))
text_order at = record {
  one_way = λ x y h. before_once (at x).line (at x).column (at y).line (at y).column h;
  chain = λ x y z h k. not_before (at x) (at y) (at z) h k;
}

not_true : (b : Bool) → not b ≡ true → b ≡ false
not_true true h = sym h
not_true false h = refl

-- what a sort gives
stand_all : {X : Type 0} (at : X → Spot) (spot : Spot) (xs : List X) → ((k : ℕ) (d : X) → k < length xs → is_before (at (get_or xs k d)) spot ≡ false) → stand_from at spot xs ≡ true
stand_all at spot [] h = refl
stand_all at spot (x ∷ xs) h = rw (h 0 x (omega arith)) (stand_all at spot xs (λ k d l. h (suc k) d (omega arith)))

pub follow_sorted : {X : Type 0} (at : X → Spot) (xs : List X) → IsSortedBy (λ x y. is_before (at x) (at y)) xs → follow_at at xs ≡ true
follow_sorted at [] h = refl
follow_sorted at (x ∷ xs) h =
    let far = sorted_far (λ x y. is_before (at x) (at y)) (text_order at) (x ∷ xs) h in
    both_true (stand_from at (at x) xs) (follow_at at xs) (stand_all at (at x) xs (λ k d l. far 0 (suc k) d (omega arith) (omega arith)))
    (follow_sorted at xs (λ k d l m. far (suc k) (suc (k + 1)) d (omega arith) (omega arith)))

tied : (al ac bl bc : ℕ) → (not (before al ac bl bc) && not (before bl bc al ac)) ≡ (nat_eq bl al && nat_eq bc ac)
tied al ac bl bc = grind (arith, nat_tests)

first_by : {V : Type 0} (b : Bool) (e : Spot × V) (es : List (Spot × V)) (rest : Option V) (q : Spot) → same_spot e.0 q ≡ b → first_in es q ≡ rest → first_in (cond b (e ∷ es) es) q ≡ cond b (Some e.1) rest
first_by true e es rest q s h = rw s refl
first_by false e es rest q s h = h

first_filtered : {V : Type 0} (xs : List (Spot × V)) (q : Spot) (v : V) → first_in (filter (ties (λ a b. is_before a.0 b.0) (q, v)) xs) q ≡ first_in xs q
first_filtered [] q v = refl
first_filtered (e ∷ es) q v =
    ap (λ b. first_in (cond b (e ∷ filter (ties (λ a b. is_before a.0 b.0) (q, v)) es) (filter (ties (λ a b. is_before a.0 b.0) (q, v)) es)) q) (tied q.line q.column e.0.line e.0.column)
    ∙ first_by (same_spot e.0 q) e (filter (ties (λ a b. is_before a.0 b.0) (q, v)) es) (first_in es q) q refl (first_filtered es q v)

pub first_stable : {V : Type 0} (xs ys : List (Spot × V)) → IsStableBy (λ a b. is_before a.0 b.0) xs ys → (q : Spot) → first_in ys q ≡ first_in xs q
first_stable [] [] h q = refl
first_stable [] (e ∷ es) h q = sym (first_filtered (e ∷ es) q e.1) ∙ ap (λ l. first_in l q) (h (q, e.1))
first_stable (e ∷ es) ys h q = sym (first_filtered ys q e.1) ∙ ap (λ l. first_in l q) (h (q, e.1)) ∙ first_filtered (e ∷ es) q e.1

-- what a search finds: where those that stand before a place come first, the one that is named, if it is there
within : {X : Type 0} (at : X → Spot) (spot : Spot) (xs : List X) (j : ℕ) (d : X) → stand_from at spot xs ≡ true → j < length xs → is_before (at (get_or xs j d)) spot ≡ false
within at spot [] j d h l = absurd (omega arith)
within at spot (x ∷ xs) zero d h l = not_true (is_before (at x) spot) (left _ _ h)
within at spot (x ∷ xs) (suc j) d h l = within at spot xs j d (right (not (is_before (at x) spot)) _ h) (omega arith)

from_false : (b : Bool) → (b ≡ false → b ≡ true) → b ≡ true
from_false true h = refl
from_false false h = h refl

-- what stands before a place comes before what does not
pub parted : {X : Type 0} (at : X → Spot) (q : Spot) (xs : List X) → follow_at at xs ≡ true → IsPartitionedBy (λ x. is_before (at x) q) xs
parted at q [] f i j d l m h = absurd (omega arith)
parted at q (x ∷ xs) f zero zero d l m h = h
parted at q (x ∷ xs) f zero (suc j) d l m h =
    from_false (is_before (at x) q) (λ n. n ∙ sym (not_before (at (get_or xs j d)) (at x) q (within at (at x) xs j d (left _ _ f) (omega arith)) n) ∙ h)
parted at q (x ∷ xs) f (suc i) zero d l m h = absurd (omega arith)
parted at q (x ∷ xs) f (suc i) (suc j) d l m h = parted at q xs (right (stand_from at (at x) xs) _ f) i j d (omega arith) (omega arith) h

module _ {X : Type 0} (at : X → Spot) (early named : Spot → Bool) (passed : (s : Spot) → early s ≡ true → named s ≡ false)
    (past : (s u : Spot) → early s ≡ false → named s ≡ false → is_before u s ≡ false → named u ≡ false) where
  none_past : (s : Spot) → early s ≡ false → named s ≡ false → (xs : List X) → stand_from at s xs ≡ true → find (λ x. named (at x)) xs ≡ None
  none_past s b n [] h = refl
  none_past s b n (x ∷ xs) h =
      rw (past s (at x) b n (not_true (is_before (at x) s) (left _ _ h))) (none_past s b n xs (right (not (is_before (at x) s)) _ h))

  first_or_none : (b : Bool) (x : X) (xs : List X) → named (at x) ≡ b → early (at x) ≡ false → stand_from at (at x) xs ≡ true → cond b (Some x) (find (λ y. named (at y)) xs) ≡ cond b (Some x) None
  first_or_none true x xs n e h = refl
  first_or_none false x xs n e h = none_past (at x) e n xs h

  pub found : (xs : List X) (i : ℕ) → follow_at at xs ≡ true → IsPartitionPoint (λ x. early (at x) ≡ true) (λ x. early (at x) ≡ false) xs i
      → find (λ x. named (at x)) xs ≡ kept_if (λ x. named (at x)) (slice_get (drop i xs) 0)
  found [] zero f p = refl
  found [] (suc i) f p = refl
  found (x ∷ xs) zero f p = first_or_none (named (at x)) x xs refl (p.1 0 x (omega arith) (omega arith)) (left _ _ f)
  found (x ∷ xs) (suc i) f p =
      rw (passed (at x) (p.0 0 x (omega arith) (omega arith)))
      (found xs i (right (stand_from at (at x) xs) _ f) (λ k d l m. p.0 (suc k) d (omega arith) (omega arith), λ k d l m. p.1 (suc k) d (omega arith) (omega arith)))

same_passed : (al ac ql qc : ℕ) → before al ac ql qc ≡ true → (nat_eq al ql && nat_eq ac qc) ≡ false
same_passed al ac ql qc h = grind (arith, nat_tests)

same_past : (al ac bl bc ql qc : ℕ) → before al ac ql qc ≡ false → (nat_eq al ql && nat_eq ac qc) ≡ false → before bl bc al ac ≡ false → (nat_eq bl ql && nat_eq bc qc) ≡ false
same_past al ac bl bc ql qc h n k = grind (arith, nat_tests)

mapped : {V : Type 0} (b : Bool) (e : Spot × V) (o : Option (Spot × V)) (m : Option V) → m ≡ option_map (λ e. e.1) o → cond b (Some e.1) m ≡ option_map (λ e. e.1) (cond b (Some e) o)
mapped true e o m h = refl
mapped false e o m h = h

first_is_find : {V : Type 0} (es : List (Spot × V)) (q : Spot) → first_in es q ≡ option_map (λ e. e.1) (find (λ e. same_spot e.0 q) es)
first_is_find [] q = refl
first_is_find (e ∷ es) q = mapped (same_spot e.0 q) e (find (λ e. same_spot e.0 q) es) (first_in es q) (first_is_find es q)

pub first_found : {V : Type 0} (es : List (Spot × V)) (q : Spot) (i : ℕ) → follow_by_spot es ≡ true → IsPartitionPoint (λ e. is_before e.0 q ≡ true) (λ e. is_before e.0 q ≡ false) es i
    → first_in es q ≡ option_map (λ e. e.1) (kept_if (λ e. same_spot e.0 q) (slice_get (drop i es) 0))
first_found es q i f p =
    first_is_find es q
    ∙ ap (option_map (λ e. e.1)) (found (λ e. e.0) (λ s. is_before s q) (λ s. same_spot s q) (λ s h. same_passed s.line s.column q.line q.column h) (λ s u h n k. same_past s.line s.column u.line u.column q.line q.column h n k) es i f p)

line_passed : (al ac ql : ℕ) → before al ac ql 0 ≡ true → nat_eq al ql ≡ false
line_passed al ac ql h = grind (arith, nat_tests)

line_past : (al ac bl bc ql : ℕ) → before al ac ql 0 ≡ false → nat_eq al ql ≡ false → before bl bc al ac ≡ false → nat_eq bl ql ≡ false
line_past al ac bl bc ql h n k = grind (arith, nat_tests)

named_passed : (line : ℕ) (column : Option ℕ) (s : Spot) → is_before s (start line column) ≡ true → is_named line column s ≡ false
named_passed line None s h = line_passed s.line s.column line h
named_passed line (Some column) s h = same_passed s.line s.column line column h

named_past : (line : ℕ) (column : Option ℕ) (s u : Spot) → is_before s (start line column) ≡ false → is_named line column s ≡ false → is_before u s ≡ false → is_named line column u ≡ false
named_past line None s u h n k = line_past s.line s.column u.line u.column line h n k
named_past line (Some column) s u h n k = same_past s.line s.column u.line u.column line column h n k

line_right : (al ac bl bc ql : ℕ) → nat_eq al ql ≡ true → nat_eq bl ql ≡ true → before bl bc al ac ≡ false → nat_lt bc ac ≡ false
line_right al ac bl bc ql h k n = grind (arith, nat_tests)

named_line : (line : ℕ) (column : Option ℕ) (s : Spot) → is_named line column s ≡ true → nat_eq s.line line ≡ true
named_line line None s h = h
named_line line (Some column) s h = left _ _ h

-- none of those named, of which none stands before it, is left of it
lefter_by : (b : Bool) (s x : Spot) (rest : Option Spot) → (b ≡ true → nat_lt x.column s.column ≡ false) → lefter s rest ≡ s → lefter s (cond b (Some x) rest) ≡ s
lefter_by true s x rest h k = rw (h refl) refl
lefter_by false s x rest h k = k

lefter_stays : (line : ℕ) (column : Option ℕ) (s : Spot) (spots : List Spot) → is_named line column s ≡ true → stand_from (λ x. x) s spots ≡ true → lefter s (find (is_named line column) spots) ≡ s
lefter_stays line column s [] n h = refl
lefter_stays line column s (x ∷ spots) n h =
    lefter_by (is_named line column x) s x (find (is_named line column) spots)
    (λ m. line_right s.line s.column x.line x.column line (named_line line column s n) (named_line line column x m) (not_true (is_before x s) (left _ _ h)))
    (lefter_stays line column s spots n (right (not (is_before x s)) _ h))

leftmost_by : (b : Bool) (line : ℕ) (column : Option ℕ) (s : Spot) (spots : List Spot) → is_named line column s ≡ b → stand_from (λ x. x) s spots ≡ true
    → leftmost (filter (is_named line column) spots) ≡ find (is_named line column) spots
    → leftmost (cond b (s ∷ filter (is_named line column) spots) (filter (is_named line column) spots)) ≡ cond b (Some s) (find (is_named line column) spots)
leftmost_by true line column s spots n h k = ap (λ o. Some (lefter s o)) k ∙ ap Some (lefter_stays line column s spots n h)
leftmost_by false line column s spots n h k = k

leftmost_is_find : (line : ℕ) (column : Option ℕ) (spots : List Spot) → follow spots ≡ true → leftmost (filter (is_named line column) spots) ≡ find (is_named line column) spots
leftmost_is_find line column [] f = refl
leftmost_is_find line column (s ∷ spots) f =
    leftmost_by (is_named line column s) line column s spots refl (left _ _ f) (leftmost_is_find line column spots (right (stand_from (λ x. x) s spots) _ f))

leftmost_at : (line : ℕ) (column : Option ℕ) (spots : List Spot) (i : ℕ) → follow spots ≡ true
    → IsPartitionPoint (λ s. is_before s (start line column) ≡ true) (λ s. is_before s (start line column) ≡ false) spots i
    → leftmost (filter (is_named line column) spots) ≡ kept_if (is_named line column) (slice_get (drop i spots) 0)
leftmost_at line column spots i f p =
    leftmost_is_find line column spots f ∙ found (λ s. s) (λ s. is_before s (start line column)) (is_named line column) (named_passed line column) (named_past line column) spots i f p

pub leftmost_from : (line : ℕ) (column : Option ℕ) (spots : List Spot) (i : ℕ) (q : Spot) → follow spots ≡ true → q ≡ start line column
    → IsPartitionPoint (λ s. is_before s q ≡ true) (λ s. is_before s q ≡ false) spots i
    → leftmost (filter (is_named line column) spots) ≡ kept_if (is_named line column) (slice_get (drop i spots) 0)
leftmost_from line column spots i q f e p =
    let P : Spot → Type 0 = λ r. IsPartitionPoint (λ s. is_before s r ≡ true) (λ s. is_before s r ≡ false) spots i in
    leftmost_at line column spots i f (subst P e p)

-- the places of one kind, among places in their order
not_after : (al ac bl bc j k : ℕ) → (before al ac bl bc || ((nat_eq al bl && nat_eq ac bc) && nat_lt j k)) ≡ true → before bl bc al ac ≡ false
not_after al ac bl bc j k h = grind (arith, nat_tests)

weaker : {X : Type 0} (at : X → Spot) (s t : Spot) (xs : List X) → is_before t s ≡ false → stand_from at t xs ≡ true → stand_from at s xs ≡ true
weaker at s t [] h k = refl
weaker at s t (x ∷ xs) h k =
    rw (not_before (at x) t s (not_true (is_before (at x) t) (left _ _ k)) h) (weaker at s t xs h (right (not (is_before (at x) t)) _ k))

stand_after : (a : Place) (ps : List Place) → precedes_first a ps ≡ true → are_ordered ps ≡ true → stand_from (λ p. p.spot) a.spot ps ≡ true
stand_after a [] h f = refl
stand_after a (b ∷ ps) h f =
    let n = not_after a.spot.line a.spot.column b.spot.line b.spot.column (number_of_kind a.kind) (number_of_kind b.kind) h in
    rw n (weaker (λ p. p.spot) a.spot b.spot ps n (stand_after b ps (left _ _ f) (right (precedes_first b ps) _ f)))

stands_by : (b : Bool) (s x : Spot) (spots : List Spot) → not (is_before x s) ≡ true → stand_from (λ y. y) s spots ≡ true → stand_from (λ y. y) s (cond b (x ∷ spots) spots) ≡ true
stands_by true s x spots h k = both_true (not (is_before x s)) (stand_from (λ y. y) s spots) h k
stands_by false s x spots h k = k

kind_stands : (s : Spot) (kind : PlaceKind) (ps : List Place) → stand_from (λ p. p.spot) s ps ≡ true → stand_from (λ x. x) s (of_kind kind ps) ≡ true
kind_stands s kind [] h = refl
kind_stands s kind (p ∷ ps) h =
    stands_by (same_kind kind p.kind) s p.spot (of_kind kind ps) (left _ _ h) (kind_stands s kind ps (right (not (is_before p.spot s)) _ h))

follows_by : (b : Bool) (x : Spot) (spots : List Spot) → stand_from (λ y. y) x spots ≡ true → follow spots ≡ true → follow (cond b (x ∷ spots) spots) ≡ true
follows_by true x spots h k = both_true (stand_from (λ y. y) x spots) (follow spots) h k
follows_by false x spots h k = k

pub kind_follows : (kind : PlaceKind) (ps : List Place) → are_ordered ps ≡ true → follow (of_kind kind ps) ≡ true
kind_follows kind [] f = refl
kind_follows kind (p ∷ ps) f =
    follows_by (same_kind kind p.kind) p.spot (of_kind kind ps) (kind_stands p.spot kind ps (stand_after p ps (left _ _ f) (right (precedes_first p ps) _ f)))
    (kind_follows kind ps (right (precedes_first p ps) _ f))
