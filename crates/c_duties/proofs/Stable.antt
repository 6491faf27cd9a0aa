-- A list in order in which those that tie stand as they stood is the one that insertion gives.
use Rattle.std.proofs.Common.{◌≡◌, ℕ, suc, ◌<◌, ◌≤◌, refl, sym, ap, ◌∙◌, subst, Bool, true, false, cond, not, ◌&&◌, List, [], ◌∷◌, length, get_or, arith}
use Rattle.std.specs.List.{filter}
use Rattle.std.specs.List.Sorted.{IsPermutation, IsSortedBy, IsStableBy, ties}
use Rattle.std.proofs.lemmas.List.Sorted.{sorted_far, IsPermutation-cons, IsPermutation-middle, IsPermutation-refl, IsPermutation-trans}
use Rattle.c_meaning.specs.declared.run.Duty.{Duty}
use Rattle.c_meaning.specs.Duties.{is_less, inserted, sorted}
use Rattle.c_duties.proofs.Order.{duties_ordered}

-- none of them is less than d
abbrev pub NoneLess : Duty → List Duty → Type 0
NoneLess d [] = Unit {0}
NoneLess d (x ∷ xs) = (is_less x d ≡ false) × NoneLess d xs

-- none is less than one before it
abbrev pub Rises : List Duty → Type 0
Rises [] = Unit {0}
Rises (x ∷ xs) = NoneLess x xs × Rises xs

abbrev pub tied : Duty → Duty → Bool
tied d x = ties is_less d x

none_less_of : (x : Duty) (xs : List Duty) → ((k : ℕ) → k < length xs → is_less (get_or xs k x) x ≡ false) → NoneLess x xs
none_less_of x [] h = tt
none_less_of x (y ∷ ys) h = (h 0 (omega arith), none_less_of x ys (λ k p. h (suc k) (omega arith)))

rises_of : (xs : List Duty) → ((i j : ℕ) (d : Duty) → i ≤ j → j < length xs → is_less (get_or xs j d) (get_or xs i d) ≡ false) → Rises xs
rises_of [] h = tt
rises_of (x ∷ xs) h = (none_less_of x xs (λ k p. h 0 (suc k) x (omega arith) (omega arith)), rises_of xs (λ i j d p q. h (suc i) (suc j) d (omega arith) (omega arith)))

-- what a sort says of a list
pub rises_from : (xs : List Duty) → IsSortedBy is_less xs → Rises xs
rises_from xs h = rises_of xs (sorted_far is_less duties_ordered xs h)

-- ---- what insertion gives

not_itself : (d : Duty) → is_less d d ≡ false
not_itself d = by (is_less d d) (duties_ordered.one_way d d)
  where
    by : (b : Bool) → (b ≡ true → b ≡ false) → b ≡ false
    by true h = h refl
    by false h = refl

tied_itself : (d : Duty) → tied d d ≡ true
tied_itself d = ap (λ b. not b && not b) (not_itself d)

tied_when : (a b : Bool) → a ≡ false → b ≡ false → not a && not b ≡ true
tied_when a b p q = ap (λ x. not x && not b) p ∙ ap not q

not_less : (a b : Bool) → not a && not b ≡ true → (a ≡ false) × (b ≡ false)
not_less false false h = (refl, refl)
not_less false true h = absurd (cc)
not_less true b h = absurd (cc)

-- what isn't less than d isn't less than what is less than d
none_less_above : (d x : Duty) (xs : List Duty) → is_less x d ≡ false → NoneLess x xs → NoneLess d xs
none_less_above d x [] p h = tt
none_less_above d x (y ∷ ys) p h = (duties_ordered.chain y x d h.0 p, none_less_above d x ys p h.1)

none_less_inserted : (x d : Duty) (xs : List Duty) → is_less d x ≡ false → NoneLess x xs → NoneLess x (inserted d xs)
none_less_inserted x d [] p h = (p, tt)
none_less_inserted x d (y ∷ ys) p h = by (is_less y d) (none_less_inserted x d ys p h.1)
  where
    by : (b : Bool) → NoneLess x (inserted d ys) → NoneLess x (cond b (y ∷ inserted d ys) (d ∷ y ∷ ys))
    by true g = (h.0, g)
    by false g = (p, h)

rises_inserted : (d : Duty) (xs : List Duty) → Rises xs → Rises (inserted d xs)
rises_inserted d [] h = (tt, tt)
rises_inserted d (x ∷ xs) h = by (is_less x d) refl (rises_inserted d xs h.1)
  where
    by : (b : Bool) → is_less x d ≡ b → Rises (inserted d xs) → Rises (cond b (x ∷ inserted d xs) (d ∷ x ∷ xs))
    by true e g = (none_less_inserted x d xs (duties_ordered.one_way x d e) h.0, g)
    by false e g = ((e, none_less_above d x xs e h.0), h)

pub rises_sorted : (ds : List Duty) → Rises (sorted ds)
rises_sorted [] = tt
rises_sorted (d ∷ ds) = rises_inserted d (sorted ds) (rises_sorted ds)

-- not both tie, so their order doesn't matter
swapped : (s t : Bool) (x d : Duty) (xs : List Duty) → (s ≡ true → t ≡ true → ⊥) → cond s (x ∷ cond t (d ∷ xs) xs) (cond t (d ∷ xs) xs) ≡ cond t (d ∷ cond s (x ∷ xs) xs) (cond s (x ∷ xs) xs)
swapped true true x d xs h = absurd (h refl refl)
swapped true false x d xs h = refl
swapped false true x d xs h = refl
swapped false false x d xs h = refl

apart : (z x d : Duty) → is_less x d ≡ true → tied z x ≡ true → tied z d ≡ true → ⊥
apart z x d e s t =
    let a = (not_less (is_less z x) (is_less x z) s).1 in
    let b = (not_less (is_less z d) (is_less d z) t).0 in
    let no : is_less x d ≡ false = duties_ordered.chain x z d a b in
    cc

kept_inserted : (z d : Duty) (xs : List Duty) → filter (tied z) (inserted d xs) ≡ filter (tied z) (d ∷ xs)
kept_inserted z d [] = refl
kept_inserted z d (x ∷ xs) = by (is_less x d) refl (kept_inserted z d xs)
  where
    by : (b : Bool) → is_less x d ≡ b → filter (tied z) (inserted d xs) ≡ filter (tied z) (d ∷ xs) → filter (tied z) (cond b (x ∷ inserted d xs) (d ∷ x ∷ xs)) ≡ filter (tied z) (d ∷ x ∷ xs)
    by true e same = ap (λ l. cond (tied z x) (x ∷ l) l) same ∙ swapped (tied z x) (tied z d) x d (filter (tied z) xs) (apart z x d e)
    by false e same = refl

pub kept_sorted : (z : Duty) (ds : List Duty) → filter (tied z) (sorted ds) ≡ filter (tied z) ds
kept_sorted z [] = refl
kept_sorted z (d ∷ ds) = kept_inserted z d (sorted ds) ∙ ap (λ l. cond (tied z d) (d ∷ l) l) (kept_sorted z ds)

-- ---- two lists in order, with the same ones that tie

-- one that is kept is none of those that are less
least : (z y : Duty) (q : Duty → Bool) (ys rest : List Duty) → NoneLess y ys → filter q ys ≡ z ∷ rest → is_less z y ≡ false
least z y q [] rest h e = absurd (cc)
least z y q (x ∷ xs) rest h e = by (q x) e (least z y q xs rest h.1)
  where
    by : (b : Bool) → cond b (x ∷ filter q xs) (filter q xs) ≡ z ∷ rest → (filter q xs ≡ z ∷ rest → is_less z y ≡ false) → is_less z y ≡ false
    by true e f = let same : x ≡ z = cc in subst (λ (w : Duty). is_less w y ≡ false) same h.0
    by false e f = f e

first_kept : (q : Duty → Bool) (x : Duty) (xs : List Duty) → q x ≡ true → filter q (x ∷ xs) ≡ x ∷ filter q xs
first_kept q x xs e = ap (λ b. cond b (x ∷ filter q xs) (filter q xs)) e

rest_same : (b : Bool) (x : Duty) (xs ys : List Duty) → cond b (x ∷ xs) xs ≡ cond b (x ∷ ys) ys → xs ≡ ys
rest_same true x xs ys h = cc
rest_same false x xs ys h = h

pub only_one : (xs ys : List Duty) → Rises xs → Rises ys → ((z : Duty) → filter (tied z) xs ≡ filter (tied z) ys) → xs ≡ ys
only_one [] [] h g f = refl
only_one [] (y ∷ ys) h g f = let e = f y ∙ first_kept (tied y) y ys (tied_itself y) in absurd (cc)
only_one (x ∷ xs) [] h g f = let e = sym (f x) ∙ first_kept (tied x) x xs (tied_itself x) in absurd (cc)
only_one (x ∷ xs) (y ∷ ys) h g f =
    let of_x : filter (tied x) (y ∷ ys) ≡ x ∷ filter (tied x) xs = sym (f x) ∙ first_kept (tied x) x xs (tied_itself x) in
    let of_y : filter (tied y) (x ∷ xs) ≡ y ∷ filter (tied y) ys = f y ∙ first_kept (tied y) y ys (tied_itself y) in
    let a : is_less x y ≡ false = least x y (tied x) (y ∷ ys) (filter (tied x) xs) (not_itself y, g.0) of_x in
    let b : is_less y x ≡ false = least y x (tied y) (x ∷ xs) (filter (tied y) ys) (not_itself x, h.0) of_y in
    let firsts : x ∷ filter (tied x) xs ≡ y ∷ filter (tied x) ys = sym of_x ∙ first_kept (tied x) y ys (tied_when (is_less x y) (is_less y x) a b) in
    let same : x ≡ y = cc in
    let others : xs ≡ ys = only_one xs ys h.1 g.1 (λ z. rest_same (tied z x) x (filter (tied z) xs) (filter (tied z) ys) (f z ∙ ap (λ (w : Duty). cond (tied z w) (w ∷ filter (tied z) ys) (filter (tied z) ys)) (sym same))) in
    ap (λ w. w ∷ xs) same ∙ ap (λ l. y ∷ l) others

-- a stable sort is the sort by insertion
pub stable_is_sorted : (xs ys : List Duty) → IsSortedBy is_less ys → IsStableBy is_less xs ys → ys ≡ sorted xs
stable_is_sorted xs ys up stable = only_one ys (sorted xs) (rises_from ys up) (rises_sorted xs) (λ z. stable z ∙ sym (kept_sorted z xs))

pub inserted_moves : (d : Duty) (xs : List Duty) → IsPermutation (d ∷ xs) (inserted d xs)
inserted_moves d [] = IsPermutation-refl (d ∷ [])
inserted_moves d (x ∷ xs) = by (is_less x d) (inserted_moves d xs)
  where
    by : (b : Bool) → IsPermutation (d ∷ xs) (inserted d xs) → IsPermutation (d ∷ x ∷ xs) (cond b (x ∷ inserted d xs) (d ∷ x ∷ xs))
    by true h = IsPermutation-trans (d ∷ x ∷ xs) (x ∷ d ∷ xs) (x ∷ inserted d xs) (IsPermutation-middle (d ∷ []) x xs) (IsPermutation-cons x (d ∷ xs) (inserted d xs) h)
    by false h = IsPermutation-refl (d ∷ x ∷ xs)

-- sorting only moves them
pub sorted_moves : (ds : List Duty) → IsPermutation ds (sorted ds)
sorted_moves [] = IsPermutation-refl []
sorted_moves (d ∷ ds) = IsPermutation-trans (d ∷ ds) (d ∷ sorted ds) (inserted d (sorted ds)) (IsPermutation-cons d ds (sorted ds) (sorted_moves ds)) (inserted_moves d (sorted ds))
