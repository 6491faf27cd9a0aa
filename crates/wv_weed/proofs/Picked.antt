-- What numbers that rise pick.
use Rattle.std.proofs.Common.{◌≡◌, ℕ, zero, suc, ◌+◌, ◌-◌, ◌<◌, ◌≤◌, Bool, true, false, cond, List, [], ◌∷◌, ◌++◌, length, drop, get_or, refl, sym, ◌∙◌, ap, subst, arith, inl, inr, Some}
use Rattle.std.specs.Prelude.{slice_get, nat_eq, ◌||◌}
use Rattle.std.proofs.lemmas.Bool.{cases_lt, ne_eqb, eq-eqb}
use Rattle.std.proofs.lemmas.List.{drop_more, append_assoc}
use Rattle.std.proofs.lemmas.Option.{none-some, same_Some}
use Rattle.c_meaning.specs.Duties.{Placed}
use Rattle.c_inductive.specs.Picking.{picked_from, picked, Rise, IsSelection}
use Rattle.c_core.specs.Scope.{is_in}

or_false : (a b : Bool) → a ≡ false → b ≡ false → (a || b) ≡ false
or_false true b p q = p
or_false false b p q = q

or_right : (a b : Bool) → a ≡ false → (a || b) ≡ b
or_right true b p = let e : true ≡ false = p in cc
or_right false b p = refl

or_left : (a b : Bool) → a ≡ true → (a || b) ≡ true
or_left true b p = refl
or_left false b p = let e : false ≡ true = p in cc

-- one more in front, or not
abbrev front : Bool → Placed → List Placed → List Placed
front b x xs = cond b (x ∷ xs) xs

same_front : (a b : Bool) (x : Placed) (xs ys : List Placed) → a ≡ b → xs ≡ ys → front a x xs ≡ front b x ys
same_front a b x xs ys p q = ap (λ c. front c x xs) p ∙ ap (front b x) q

-- no number up to the last before is one of those that rise
not_among : (i last : ℕ) (ns : List ℕ) → Rise last ns → i ≤ last → is_in i ns ≡ false
not_among i last [] rise le = refl
not_among i last (n ∷ ns) rise le =
    let less : last < n = rise.0 in
    or_false (nat_eq i n) (is_in i ns) (ne_eqb i n (λ e. omega (arith, less, le, e)))
    (not_among i n ns rise.1 (omega (arith, less, le)))

pub rise_weaker : (low last : ℕ) (ns : List ℕ) → low ≤ last → Rise last ns → Rise low ns
rise_weaker low last [] le rise = tt
rise_weaker low last (n ∷ ns) le rise = let less : last < n = rise.0 in (omega (arith, less, le), rise.1)

rise_drop : (i last : ℕ) (ns : List ℕ) → Rise last ns → Rise last (drop i ns)
rise_drop zero last ns rise = rise
rise_drop (suc i) last [] rise = tt
rise_drop (suc i) last (n ∷ ns) rise =
    let less : last < n = rise.0 in
    rise_weaker last n (drop i ns) (omega (arith, less)) (rise_drop i n ns rise.1)

pub picked_none : (i : ℕ) (xs : List Placed) → picked_from i [] xs ≡ []
picked_none i [] = refl
picked_none i (x ∷ xs) = picked_none (suc i) xs

-- a number that was passed picks nothing more
picked_passed : (i n : ℕ) (ns : List ℕ) (xs : List Placed) → n < i → picked_from i (n ∷ ns) xs ≡ picked_from i ns xs
picked_passed i n ns [] lt = refl
picked_passed i n ns (x ∷ xs) lt =
    same_front (nat_eq i n || is_in i ns) (is_in i ns) x (picked_from (suc i) (n ∷ ns) xs)
    (picked_from (suc i) ns xs)
    (or_right (nat_eq i n) (is_in i ns) (ne_eqb i n (λ e. omega (arith, lt, e))))
    (picked_passed (suc i) n ns xs (omega (arith, lt)))

-- the first number picks the first
picked_next : (i n : ℕ) (ns : List ℕ) (xs : List Placed) (y : Placed) → i ≤ n → Rise n ns
    → slice_get xs (n - i) ≡ Some y → picked_from i (n ∷ ns) xs ≡ y ∷ picked_from i ns xs
picked_next i n ns [] y le rise at = absurd (none-some y at)
picked_next i n ns (x ∷ xs) y le rise at =
    let none = not_among i n ns rise le in
    let rest = picked_from (suc i) (n ∷ ns) xs in
    let others = ap (λ b. y ∷ front b x (picked_from (suc i) ns xs)) (sym none) in
    elim (cases_lt i n) as (λ _. picked_from i (n ∷ ns) (x ∷ xs) ≡ y ∷ picked_from i ns (x ∷ xs)) [
      | inl lt ↦
          let there : slice_get xs (n - suc i) ≡ Some y = ap (slice_get (x ∷ xs)) (later i n lt) ∙ at in
          ap (λ b. front b x rest) (or_false (nat_eq i n) (is_in i ns) (ne_eqb i n (λ e. omega (arith, lt, e))) none)
          ∙ picked_next (suc i) n ns xs y (omega (arith, lt)) rise there ∙ others
      | inr ge ↦
          let here : Some x ≡ Some y = ap (slice_get (x ∷ xs)) (now i n ge) ∙ at in
          ap (λ b. front b x rest) (or_left (nat_eq i n) (is_in i ns) (eq-eqb i n (omega (arith, le, ge))))
          ∙ ap (λ (z : Placed). z ∷ rest) (same_Some x y here)
          ∙ ap (λ (zs : List Placed). y ∷ zs) (picked_passed (suc i) n ns xs (omega (arith, ge)))
          ∙ others
    ]
  where
    later : (i n : ℕ) → i < n → suc (n - suc i) ≡ n - i
    later i n lt = omega (arith, lt)

    now : (i n : ℕ) → n ≤ i → 0 ≡ n - i
    now i n le = omega (arith, le)

-- where these numbers were looked at, the next one picks the next
pub next_picked : (ns : List ℕ) (I : List Placed) (i n : ℕ) (y : Placed) (before : List Placed)
    → IsSelection (length I) ns → i < length ns → n ≡ get_or ns i 0 → slice_get I (n - 1) ≡ Some y
    → before ++ picked (drop i ns) I ≡ picked ns I → (before ++ y ∷ []) ++ picked (drop (i + 1) ns) I ≡ picked ns I
next_picked ns I i n y before selection lt item at so_far =
    let shape : drop i ns ≡ n ∷ drop (i + 1) ns = drop_more ns i 0 lt ∙ ap (λ m. m ∷ drop (i + 1) ns) (sym item) in
    let rise : Rise 0 (n ∷ drop (i + 1) ns) = subst (Rise 0) shape (rise_drop i 0 ns selection.rising) in
    append_assoc before (y ∷ []) (picked (drop (i + 1) ns) I)
    ∙ ap (λ zs. before ++ zs) (sym (picked_next 1 n (drop (i + 1) ns) I y (omega (arith, rise.0)) rise.1 at))
    ∙ ap (λ ms. before ++ picked ms I) (sym shape) ∙ so_far

-- numbers of a selection are from 1 on, and within
pub within_at : (count : ℕ) (ns : List ℕ) (i n : ℕ) → IsSelection count ns → i < length ns → n ≡ get_or ns i 0
    → (0 < n) × (n ≤ count)
within_at count ns i n selection lt item =
    let shape : drop i ns ≡ n ∷ drop (i + 1) ns = drop_more ns i 0 lt ∙ ap (λ m. m ∷ drop (i + 1) ns) (sym item) in
    let rise : Rise 0 (n ∷ drop (i + 1) ns) = subst (Rise 0) shape (rise_drop i 0 ns selection.rising) in
    (rise.0, subst (λ m. m ≤ count) (sym item) (selection.within i 0 lt))
