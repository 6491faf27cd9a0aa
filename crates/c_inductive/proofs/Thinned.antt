-- Some of the invariants of a list, by their places in it; a part of a set of invariants is some of the set's.
use Rattle.std.proofs.Common.{◌≡◌, ◌≤◌, ◌<◌, ◌+◌, ℕ, suc, nat_eq, eqb-true, eq-eqb, Bool, true, false, cond, ◌||◌, List, [], ◌∷◌, length, Option, Some, None, slice_get, refl, sym, ap, ◌∙◌, subst, arith}
use Rattle.c_meaning.specs.Duties.{Placed}
use Rattle.c_inductive.specs.Picking.{picked_from, picked, Rise, IsSelection, IsPartOf}
use Rattle.c_core.specs.Scope.{is_in}

-- of a list counted from i on, those at places that are like that
abbrev pub thinned : (ℕ → Bool) → ℕ → List Placed → List Placed
thinned q i [] = []
thinned q i (x ∷ xs) = cond (q i) (x ∷ thinned q (suc i) xs) (thinned q (suc i) xs)

-- the number is there and among these
abbrev pub among_if : List ℕ → Option ℕ → Bool
among_if ms None = false
among_if ms (Some n) = is_in n ms

-- the k-th number of a set is one of a part
abbrev pub is_kept : List ℕ → List ℕ → ℕ → Bool
is_kept left ms k = among_if ms (slice_get left k)

-- ---- numbers that rise

different : (a b : ℕ) → (a ≡ b → ⊥) → nat_eq a b ≡ false
different a b h = by (nat_eq a b) refl
  where
    by : (v : Bool) → nat_eq a b ≡ v → nat_eq a b ≡ false
    by true e = absurd (h (eqb-true a b e))
    by false e = e

-- what lies before is none of them
pub none_before : (i last : ℕ) (ns : List ℕ) → i ≤ last → Rise last ns → is_in i ns ≡ false
none_before i last [] l h = refl
none_before i last (n ∷ ns) l h =
    let a : last < n = h.0 in
    ap (λ b. b || is_in i ns) (different i n (λ e. omega (arith, e, l, a)))
    ∙ none_before i n ns (omega (arith, l, a)) h.1

-- the next number and another one after it
pub above : (last n : ℕ) → last < n → nat_eq (suc last) n ≡ false → suc last < n
above last n l e =
    let d : suc last ≡ n → ⊥ = (λ f. let g = eq-eqb (suc last) n f in cc) in
    omega (arith, l, d)

-- a number before the first place picks nothing
pub first_is_over : (i n : ℕ) (ns : List ℕ) (xs : List Placed) → n < i → picked_from i (n ∷ ns) xs ≡ picked_from i ns xs
first_is_over i n ns [] l = refl
first_is_over i n ns (x ∷ xs) l =
    let rest : List Placed = picked_from (suc i) (n ∷ ns) xs in
    ap (λ b. cond (b || is_in i ns) (x ∷ rest) rest) (different i n (λ e. omega (arith, e, l)))
    ∙ ap (λ ys. cond (is_in i ns) (x ∷ ys) ys) (first_is_over (suc i) n ns xs (omega (arith, l)))

-- ---- the part of a set is what is kept of it

module _ (q : ℕ → Bool) (ms : List ℕ) where
  -- it tells of the numbers, counted from m on, which are of the part
  abbrev Tells : ℕ → List ℕ → Type 0
  Tells m ns = (k : ℕ) → q (m + k) ≡ among_if ms (slice_get ns k)

  -- what lies behind and is of the part is one of the numbers
  abbrev Covers : ℕ → List ℕ → Type 0
  Covers last ns = (n : ℕ) → last < n → is_in n ms ≡ true → is_in n ns ≡ true

  abbrev Picks : ℕ → List Placed → Type 0
  Picks last xs = (m : ℕ) (ns : List ℕ) → Rise last ns → Tells m ns → Covers last ns
      → thinned q m (picked_from (suc last) ns xs) ≡ picked_from (suc last) ms xs

  tells_next : (m n : ℕ) (ns : List ℕ) → Tells m (n ∷ ns) → Tells (suc m) ns
  tells_next m n ns h k = let e : suc m + k ≡ m + suc k = omega arith in ap q e ∙ h (suc k)

  covers_next : (last : ℕ) (ns : List ℕ) → Covers last ns → Covers (suc last) ns
  covers_next last ns h n l e = h n (omega (arith, l)) e

  covers_rest : (last n : ℕ) (ns : List ℕ) → suc last ≡ n → Covers last (n ∷ ns) → Covers (suc last) ns
  covers_rest last n ns e h k l f =
      let d : nat_eq k n ≡ false = different k n (λ g. omega (arith, e, g, l)) in
      sym (ap (λ b. b || is_in k ns) d) ∙ h k (omega (arith, l)) f

  -- none of them, so none of the part
  none_of_part : (last : ℕ) (ns : List ℕ) → Covers last ns → is_in (suc last) ns ≡ false
      → is_in (suc last) ms ≡ false
  none_of_part last ns h e = by (is_in (suc last) ms) refl
    where
      by : (b : Bool) → is_in (suc last) ms ≡ b → is_in (suc last) ms ≡ false
      by true f = let g = h (suc last) (omega arith) f in absurd (cc)
      by false f = f

  -- the next invariant isn't of the set
  skipped : (last m : ℕ) (x : Placed) (xs : List Placed) (ns : List ℕ) → Picks (suc last) xs → Rise (suc last) ns
      → Tells m ns → Covers last ns
      → thinned q m (picked_from (suc last) ns (x ∷ xs)) ≡ picked_from (suc last) ms (x ∷ xs)
  skipped last m x xs ns later h t c =
      let e : is_in (suc last) ns ≡ false = none_before (suc last) (suc last) ns (omega arith) h in
      let f : is_in (suc last) ms ≡ false = none_of_part last ns c e in
      let rest : List Placed = picked_from (suc (suc last)) ns xs in
      let others : List Placed = picked_from (suc (suc last)) ms xs in
      ap (λ b. thinned q m (cond b (x ∷ rest) rest)) e
      ∙ later m ns h t (covers_next last ns c)
      ∙ sym (ap (λ b. cond b (x ∷ others) others) f)

  -- the next invariant is of the set
  taken : (last m n : ℕ) (x : Placed) (xs : List Placed) (ns : List ℕ) → Picks (suc last) xs → suc last ≡ n → Rise n ns
      → Tells m (n ∷ ns) → Covers last (n ∷ ns)
      → thinned q m (picked_from (suc last) (n ∷ ns) (x ∷ xs)) ≡ picked_from (suc last) ms (x ∷ xs)
  taken last m n x xs ns later e h t c =
      let rest : List Placed = picked_from (suc (suc last)) (n ∷ ns) xs in
      let same : m ≡ m + 0 = omega arith in
      let own : q m ≡ is_in (suc last) ms = ap q same ∙ t 0 ∙ ap (λ k. is_in k ms) (sym e) in
      let there : nat_eq (suc last) n ≡ true = eq-eqb (suc last) n e in
      let rises : Rise (suc last) ns = subst (λ k. Rise k ns) (sym e) h in
      ap (λ b. thinned q m (cond (b || is_in (suc last) ns) (x ∷ rest) rest)) there
      ∙ ap (λ b. cond b (x ∷ thinned q (suc m) rest) (thinned q (suc m) rest)) own
      ∙ ap (λ ys. cond (is_in (suc last) ms) (x ∷ ys) ys)
      (ap (thinned q (suc m)) (first_is_over (suc (suc last)) n ns xs (omega (arith, e)))
      ∙ later (suc m) ns rises (tells_next m n ns t) (covers_rest last n ns e c))

  step : (last : ℕ) (x : Placed) (xs : List Placed) → Picks (suc last) xs → Picks last (x ∷ xs)
  step last x xs later m [] h t c = skipped last m x xs [] later tt t c
  step last x xs later m (n ∷ ns) h t c = by (nat_eq (suc last) n) refl
    where
      by : (b : Bool) → nat_eq (suc last) n ≡ b
          → thinned q m (picked_from (suc last) (n ∷ ns) (x ∷ xs)) ≡ picked_from (suc last) ms (x ∷ xs)
      by true e = taken last m n x xs ns later (eqb-true (suc last) n e) h.1 t c
      by false e = skipped last m x xs (n ∷ ns) later (above last n h.0 e, h.1) t c

  picks : (last : ℕ) (xs : List Placed) → Picks last xs
  picks last [] m ns h t c = refl
  picks last (x ∷ xs) m ns h t c = step last x xs (picks (suc last) xs) m ns h t c

pub kept_is_part : (left ms : List ℕ) (I : List Placed) → IsSelection (length I) left → IsPartOf ms left
    → thinned (is_kept left ms) 0 (picked left I) ≡ picked ms I
kept_is_part left ms I h part =
    picks (is_kept left ms) ms 0 I 0 left h.rising
    (λ k. let e : 0 + k ≡ k = omega arith in ap (is_kept left ms) e) (λ n l e. part n e)
