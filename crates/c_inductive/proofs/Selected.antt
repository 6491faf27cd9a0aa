-- All numbers pick all invariants; what is picked are invariants, as many as numbers.
use Rattle.std.proofs.Common.{◌≡◌, ◌≤◌, ◌<◌, ◌+◌, ℕ, zero, suc, nat_eq, eqb-true, eq-eqb, Bool, true, false, cond, ◌||◌, List, [], ◌∷◌, length, refl, sym, ap, ◌∙◌, subst, arith}
use Rattle.std.specs.List.{All}
use Rattle.std.proofs.lemmas.List.Elements.{All-nil, All-cons, All-head, All-tail}
use Rattle.c_core.specs.Tree.{Program}
use Rattle.c_meaning.specs.Duties.{Placed}
use Rattle.c_meaning.specs.Parts.{numbers_from}
use Rattle.c_meaning.specs.Placing.{IsInvariant}
use Rattle.c_inductive.specs.Picking.{picked_from, Rise, AllArePicked, AsManyArePicked, PartsStayInvariants}
use Rattle.c_core.specs.Scope.{is_in}
use Rattle.c_inductive.proofs.Thinned.{above, first_is_over, none_before}

-- ---- all of them

rise_from : (last count : ℕ) → Rise last (numbers_from (suc last) count)
rise_from last zero = tt
rise_from last (suc count) = (omega arith, rise_from (suc last) count)

within_from : (last count bound : ℕ) → last + count ≤ bound → All (λ n. n ≤ bound) (numbers_from (suc last) count)
within_from last zero bound l = All-nil (λ n. n ≤ bound)
within_from last (suc count) bound l =
    All-cons (λ n. n ≤ bound) (suc last) (numbers_from (suc (suc last)) count) (omega (arith, l))
    (within_from (suc last) count bound (omega (arith, l)))

all_picked : (i : ℕ) (xs : List Placed) → picked_from i (numbers_from i (length xs)) xs ≡ xs
all_picked i [] = refl
all_picked i (x ∷ xs) =
    let rest : List ℕ = numbers_from (suc i) (length xs) in
    let others : List Placed = picked_from (suc i) (i ∷ rest) xs in
    ap (λ b. cond (b || is_in i rest) (x ∷ others) others) (eq-eqb i i refl)
    ∙ ap (λ ys. x ∷ ys) (first_is_over (suc i) i rest xs (omega arith) ∙ all_picked (suc i) xs)

pub all_are_picked : (I : List Placed) → AllArePicked I
all_are_picked I = record {
  selection = record { rising = rise_from 0 (length I); within = within_from 0 (length I) (length I) (omega arith) };
  all = all_picked 1 I;
}

-- ---- what is picked

pub parts_stay : (p : Program) (I : List Placed) → PartsStayInvariants p I
parts_stay p I ns h = stay 1 I h
  where
    stay : (i : ℕ) (xs : List Placed) → All (IsInvariant p) xs → All (IsInvariant p) (picked_from i ns xs)
    stay i [] h = h
    stay i (x ∷ xs) h = by (is_in i ns) (stay (suc i) xs (All-tail (IsInvariant p) x xs h))
      where
        by : (b : Bool) → All (IsInvariant p) (picked_from (suc i) ns xs)
            → All (IsInvariant p) (cond b (x ∷ picked_from (suc i) ns xs) (picked_from (suc i) ns xs))
        by true g = All-cons (IsInvariant p) x (picked_from (suc i) ns xs) (All-head (IsInvariant p) x xs h) g
        by false g = g

-- ---- as many

abbrev Counts : ℕ → List Placed → Type 0
Counts last xs = (ns : List ℕ) → Rise last ns → All (λ n. n ≤ last + length xs) ns
    → length (picked_from (suc last) ns xs) ≡ length ns

-- the next invariant isn't of the set
passed : (last : ℕ) (x : Placed) (xs : List Placed) (ns : List ℕ) → Counts (suc last) xs → Rise (suc last) ns
    → All (λ n. n ≤ last + length (x ∷ xs)) ns → length (picked_from (suc last) ns (x ∷ xs)) ≡ length ns
passed last x xs ns later h w =
    let e : is_in (suc last) ns ≡ false = none_before (suc last) (suc last) ns (omega arith) h in
    let same : last + length (x ∷ xs) ≡ suc last + length xs = omega arith in
    let rest : List Placed = picked_from (suc (suc last)) ns xs in
    ap (λ b. length (cond b (x ∷ rest) rest)) e
    ∙ later ns h (subst (λ k. All (λ n. n ≤ k) ns) same w)

-- the next invariant is of the set
counted_in : (last n : ℕ) (x : Placed) (xs : List Placed) (ns : List ℕ) → Counts (suc last) xs → suc last ≡ n
    → Rise n ns → All (λ m. m ≤ last + length (x ∷ xs)) (n ∷ ns)
    → length (picked_from (suc last) (n ∷ ns) (x ∷ xs)) ≡ length (n ∷ ns)
counted_in last n x xs ns later e h w =
    let rest : List Placed = picked_from (suc (suc last)) (n ∷ ns) xs in
    let same : last + length (x ∷ xs) ≡ suc last + length xs = omega arith in
    let there : nat_eq (suc last) n ≡ true = eq-eqb (suc last) n e in
    let rises : Rise (suc last) ns = subst (λ k. Rise k ns) (sym e) h in
    let behind : All (λ m. m ≤ last + length (x ∷ xs)) ns = All-tail (λ m. m ≤ last + length (x ∷ xs)) n ns w in
    ap (λ b. length (cond (b || is_in (suc last) ns) (x ∷ rest) rest)) there
    ∙ ap suc (ap length (first_is_over (suc (suc last)) n ns xs (omega (arith, e)))
    ∙ later ns rises (subst (λ k. All (λ m. m ≤ k) ns) same behind))

counts : (last : ℕ) (xs : List Placed) → Counts last xs
counts last [] [] h w = refl
counts last [] (n ∷ ns) h w =
    let l : last < n = h.0 in
    let b : n ≤ last + 0 = All-head (λ m. m ≤ last + 0) n ns w in
    absurd (omega (arith, l, b))
counts last (x ∷ xs) [] h w = passed last x xs [] (counts (suc last) xs) tt w
counts last (x ∷ xs) (n ∷ ns) h w = by (nat_eq (suc last) n) refl (counts (suc last) xs)
  where
    by : (b : Bool) → nat_eq (suc last) n ≡ b → Counts (suc last) xs
        → length (picked_from (suc last) (n ∷ ns) (x ∷ xs)) ≡ length (n ∷ ns)
    by true e later = counted_in last n x xs ns later (eqb-true (suc last) n e) h.1 w
    by false e later = passed last x xs (n ∷ ns) later (above last n h.0 e, h.1) w

pub as_many : (I : List Placed) → AsManyArePicked I
as_many I ns h =
    let e : length I ≡ 0 + length I = omega arith in
    counts 0 I ns h.rising (subst (λ k. All (λ n. n ≤ k) ns) e h.within)
