-- Numbers read in two's complement.
use Rattle.std.proofs.Common.{◌≡◌, ℕ, suc, ◌+◌, ◌-◌, ◌*◌, ◌%◌, ◌^◌, ◌<◌, ◌≤◌, Bool, true, false, cond, not, ◌&&◌, nat_lt, nat_eq, ℤ, pos, negsuc, ◌+ℤ◌, ◌-ℤ◌, ◌≤ℤ◌, ◌<ℤ◌, neg_ℤ, int_lt, unsigned_abs, bit_xor, inl, inr, refl, sym, ◌∙◌, ap, arith}
use Rattle.std.proofs.lemmas.Int.{ints, int_rem_euclid_is}
use Rattle.std.proofs.lemmas.Nat.{pow_pos, and_le_l, and_le_r}
use Rattle.std.proofs.Math.Nat.{mod-eq_of_lt, add-mul-mod_self_left, pow-succ'}
use Rattle.std.proofs.lemmas.Bool.{le-ltb, lt-ltb, ltb-true, ltb-false, eqb-true, eq-eqb}
use Rattle.std.proofs.lemmas.Bool.Decides.{leb_tells, same_from_decides, Decides-int_eq}
use Rattle.std.specs.Ordering.{int_eq}
use Rattle.std.specs.Int.Bits.{xor_self, xor_add_and}
use Rattle.c_core.specs.Types.{residue, signed_of, fits_signed, fits_unsigned}
use Rattle.circuits.specs.Net.{xor}
use Rattle.circuits.specs.Numbers.{digit, read}
use Rattle.circuits.specs.Gates.{negative}

pub half : (w : ℕ) → 0 < w → 2 ^ w ≡ 2 * 2 ^ (w - 1)
half w h = let e : w ≡ suc (w - 1) = omega arith in ap (λ k. 2 ^ k) e ∙ pow-succ' 2 (w - 1)

-- a number below 2P in two's complement, and whether a whole number is in that range
pub two : ℕ → ℕ → ℤ
two P m = cond (nat_lt m P) (pos m) (negsuc (2 * P - suc m))

abbrev pub fits : ℕ → ℤ → Bool
fits P (pos n) = nat_lt n P
fits P (negsuc n) = nat_lt n P

pub fits_is : (w : ℕ) (z : ℤ) → fits_signed w z ≡ fits (2 ^ (w - 1)) z
fits_is w (pos n) = refl
fits_is w (negsuc n) = refl

pub signed_is : (w n : ℕ) → 0 < w → signed_of w n ≡ two (2 ^ (w - 1)) n
unfolding signed_of two
signed_is w n h = ap (λ M. cond (nat_lt n (2 ^ (w - 1))) (pos n) (negsuc (M - suc n))) (half w h)

pub fits_yes : (P : ℕ) (z : ℤ) → neg_ℤ (pos P) ≤ℤ z → z <ℤ pos P → fits P z ≡ true
fits_yes P (pos n) a b = lt-ltb n P (omega (arith, ints))
fits_yes P (negsuc n) a b = lt-ltb n P (omega (arith, ints))

pub fits_high : (P : ℕ) (z : ℤ) → pos P ≤ℤ z → fits P z ≡ false
fits_high P (pos n) a = le-ltb n P (omega (arith, ints))
fits_high P (negsuc n) a = absurd (omega (arith, ints))

pub fits_low : (P : ℕ) (z : ℤ) → z <ℤ neg_ℤ (pos P) → fits P z ≡ false
fits_low P (pos n) a = absurd (omega (arith, ints))
fits_low P (negsuc n) a = le-ltb n P (omega (arith, ints))

-- m is below 2P, and d is its top digit
abbrev pub IsTop : ℕ → ℕ → Bool → Type 0
IsTop P m true = (P ≤ m) × (m < 2 * P)
IsTop P m false = m < P

pub two_top : (P m : ℕ) → P ≤ m → two P m ≡ negsuc (2 * P - suc m)
unfolding two
two_top P m h = ap (λ b. cond b (pos m) (negsuc (2 * P - suc m))) (le-ltb m P h)

pub two_low : (P m : ℕ) → m < P → two P m ≡ pos m
unfolding two
two_low P m h = ap (λ b. cond b (pos m) (negsuc (2 * P - suc m))) (lt-ltb m P h)

-- the digit, found by comparing
pub top_of : (P m : ℕ) (d : Bool) → IsTop P m d → not (nat_lt m P) ≡ d
top_of P m true h = ap not (le-ltb m P h.0)
top_of P m false h = ap not (lt-ltb m P h)

by_half : (P m : ℕ) (b : Bool) → nat_lt m P ≡ b → m < 2 * P → IsTop P m (not b)
by_half P m true e h = ltb-true m P e
by_half P m false e h = (ltb-false m P e, h)

pub is_top : (P m : ℕ) → m < 2 * P → IsTop P m (not (nat_lt m P))
is_top P m h = by_half P m (nat_lt m P) refl h

pub sum_over : (P m n t : ℕ) (c da db dt : Bool) → IsTop P m da → IsTop P n db → IsTop P t dt → t + cond c (2 * P) 0 ≡ m + n
    → (not (xor da db) && xor da dt) ≡ not (fits P (two P m +ℤ two P n))
sum_over P m n t false false false false a b d e = rw (two_low P m a, two_low P n b, fits_yes P (pos m +ℤ pos n) (omega (arith, ints)) (omega (arith, ints))) refl
sum_over P m n t true false false false a b d e = rw (two_low P m a, two_low P n b, fits_yes P (pos m +ℤ pos n) (omega (arith, ints)) (omega (arith, ints))) refl
sum_over P m n t false false false true a b d e = rw (two_low P m a, two_low P n b, fits_high P (pos m +ℤ pos n) (omega (arith, ints))) refl
sum_over P m n t true false false true a b d e = rw (two_low P m a, two_low P n b, fits_high P (pos m +ℤ pos n) (omega (arith, ints))) refl
sum_over P m n t false true true true a b d e = rw (two_top P m a.0, two_top P n b.0, fits_yes P (negsuc (2 * P - suc m) +ℤ negsuc (2 * P - suc n)) (omega (arith, ints)) (omega (arith, ints))) refl
sum_over P m n t true true true true a b d e = rw (two_top P m a.0, two_top P n b.0, fits_yes P (negsuc (2 * P - suc m) +ℤ negsuc (2 * P - suc n)) (omega (arith, ints)) (omega (arith, ints))) refl
sum_over P m n t false true true false a b d e = rw (two_top P m a.0, two_top P n b.0, fits_low P (negsuc (2 * P - suc m) +ℤ negsuc (2 * P - suc n)) (omega (arith, ints))) refl
sum_over P m n t true true true false a b d e = rw (two_top P m a.0, two_top P n b.0, fits_low P (negsuc (2 * P - suc m) +ℤ negsuc (2 * P - suc n)) (omega (arith, ints))) refl
sum_over P m n t false false true dt a b d e = rw (two_low P m a, two_top P n b.0, fits_yes P (pos m +ℤ negsuc (2 * P - suc n)) (omega (arith, ints)) (omega (arith, ints))) refl
sum_over P m n t true false true dt a b d e = rw (two_low P m a, two_top P n b.0, fits_yes P (pos m +ℤ negsuc (2 * P - suc n)) (omega (arith, ints)) (omega (arith, ints))) refl
sum_over P m n t false true false dt a b d e = rw (two_top P m a.0, two_low P n b, fits_yes P (negsuc (2 * P - suc m) +ℤ pos n) (omega (arith, ints)) (omega (arith, ints))) refl
sum_over P m n t true true false dt a b d e = rw (two_top P m a.0, two_low P n b, fits_yes P (negsuc (2 * P - suc m) +ℤ pos n) (omega (arith, ints)) (omega (arith, ints))) refl

-- the same of a difference, t being m - n modulo 2P
pub difference_over : (P m n t : ℕ) (c da db dt : Bool) → IsTop P m da → IsTop P n db → IsTop P t dt → t + cond c (2 * P) 0 ≡ m + (2 * P - n)
    → (not (xor da (not db)) && xor da dt) ≡ not (fits P (two P m -ℤ two P n))
difference_over P m n t false false false dt a b d e = rw (two_low P m a, two_low P n b, fits_yes P (pos m -ℤ pos n) (omega (arith, ints)) (omega (arith, ints))) refl
difference_over P m n t true false false dt a b d e = rw (two_low P m a, two_low P n b, fits_yes P (pos m -ℤ pos n) (omega (arith, ints)) (omega (arith, ints))) refl
difference_over P m n t false true true dt a b d e = rw (two_top P m a.0, two_top P n b.0, fits_yes P (negsuc (2 * P - suc m) -ℤ negsuc (2 * P - suc n)) (omega (arith, ints)) (omega (arith, ints))) refl
difference_over P m n t true true true dt a b d e = rw (two_top P m a.0, two_top P n b.0, fits_yes P (negsuc (2 * P - suc m) -ℤ negsuc (2 * P - suc n)) (omega (arith, ints)) (omega (arith, ints))) refl
difference_over P m n t false false true false a b d e = rw (two_low P m a, two_top P n b.0, fits_yes P (pos m -ℤ negsuc (2 * P - suc n)) (omega (arith, ints)) (omega (arith, ints))) refl
difference_over P m n t true false true false a b d e = rw (two_low P m a, two_top P n b.0, fits_yes P (pos m -ℤ negsuc (2 * P - suc n)) (omega (arith, ints)) (omega (arith, ints))) refl
difference_over P m n t false false true true a b d e = rw (two_low P m a, two_top P n b.0, fits_high P (pos m -ℤ negsuc (2 * P - suc n)) (omega (arith, ints))) refl
difference_over P m n t true false true true a b d e = rw (two_low P m a, two_top P n b.0, fits_high P (pos m -ℤ negsuc (2 * P - suc n)) (omega (arith, ints))) refl
difference_over P m n t false true false true a b d e = rw (two_top P m a.0, two_low P n b, fits_yes P (negsuc (2 * P - suc m) -ℤ pos n) (omega (arith, ints)) (omega (arith, ints))) refl
difference_over P m n t true true false true a b d e = rw (two_top P m a.0, two_low P n b, fits_yes P (negsuc (2 * P - suc m) -ℤ pos n) (omega (arith, ints)) (omega (arith, ints))) refl
difference_over P m n t false true false false a b d e = rw (two_top P m a.0, two_low P n b, fits_low P (negsuc (2 * P - suc m) -ℤ pos n) (omega (arith, ints))) refl
difference_over P m n t true true false false a b d e = rw (two_top P m a.0, two_low P n b, fits_low P (negsuc (2 * P - suc m) -ℤ pos n) (omega (arith, ints))) refl

pub negative_top : (w n : ℕ) → 0 < w → n < 2 ^ w → IsTop (2 ^ (w - 1)) n (negative w true n)
negative_top w n hw h = is_top (2 ^ (w - 1)) n (omega (arith, half w hw))

carried : (P M t s : ℕ) (c : Bool) → M ≡ 2 * P → t + M * digit c ≡ s → t + cond c (2 * P) 0 ≡ s
carried P M t s true h e = omega (arith, h, e)
carried P M t s false h e = omega (arith, e)

abbrev pub ranged : ℕ → Bool → ℤ → Bool
ranged w s z = cond s (fits_signed w z) (fits_unsigned w z)

pub sum_turned : (w : ℕ) (s : Bool) (m n t : ℕ) (c : Bool) → 0 < w → m < 2 ^ w → n < 2 ^ w → t < 2 ^ w → t + 2 ^ w * digit c ≡ m + n
    → (not (xor (negative w s m) (negative w s n)) && xor (negative w s m) (negative w s t)) ≡ (s && not (ranged w s (read w s m +ℤ read w s n)))
sum_turned w false m n t c hw hm hn ht e = refl
sum_turned w true m n t c hw hm hn ht e =
    let P = 2 ^ (w - 1) in
    sum_over P m n t c (negative w true m) (negative w true n) (negative w true t) (negative_top w m hw hm) (negative_top w n hw hn) (negative_top w t hw ht) (carried P (2 ^ w) t (m + n) c (half w hw) e)
    ∙ ap not (sym (fits_is w (read w true m +ℤ read w true n) ∙ ap (λ x. fits P (x +ℤ read w true n)) (signed_is w m hw) ∙ ap (λ y. fits P (two P m +ℤ y)) (signed_is w n hw)))

pub difference_turned : (w : ℕ) (s : Bool) (m n t : ℕ) (c : Bool) → 0 < w → m < 2 ^ w → n < 2 ^ w → t < 2 ^ w → t + 2 ^ w * digit c ≡ m + (2 ^ w - n)
    → (not (xor (negative w s m) (not (negative w s n))) && xor (negative w s m) (negative w s t)) ≡ (s && not (ranged w s (read w s m -ℤ read w s n)))
difference_turned w false m n t c hw hm hn ht e = refl
difference_turned w true m n t c hw hm hn ht e =
    let P = 2 ^ (w - 1) in
    let e' : t + 2 ^ w * digit c ≡ m + (2 * P - n) = e ∙ ap (λ M. m + (M - n)) (half w hw) in
    difference_over P m n t c (negative w true m) (negative w true n) (negative w true t) (negative_top w m hw hm) (negative_top w n hw hn) (negative_top w t hw ht) (carried P (2 ^ w) t (m + (2 * P - n)) c (half w hw) e')
    ∙ ap not (sym (fits_is w (read w true m -ℤ read w true n) ∙ ap (λ x. fits P (x -ℤ read w true n)) (signed_is w m hw) ∙ ap (λ y. fits P (two P m -ℤ y)) (signed_is w n hw)))

-- ---- residues
pub residue_is : (w : ℕ) (z : ℤ) (k m : ℕ) → z +ℤ pos (k * 2 ^ w) ≡ pos m → residue w z ≡ m % 2 ^ w
unfolding residue
residue_is w z k m e = ap unsigned_abs (int_rem_euclid_is z (pos (2 ^ w)) (2 ^ w) k m (pow_pos w) refl e)

off : (b : Bool) (n M : ℕ) → n < M → cond b (pos n) (negsuc (M - suc n)) +ℤ pos (digit (not b) * M) ≡ pos n
off true n M h = omega (arith, ints)
off false n M h = omega (arith, ints)

pub read_off : (w : ℕ) (s : Bool) (n : ℕ) → n < 2 ^ w → read w s n +ℤ pos (digit (negative w s n) * 2 ^ w) ≡ pos n
unfolding signed_of
read_off w false n h = omega (arith, ints)
read_off w true n h = off (nat_lt n (2 ^ (w - 1))) n (2 ^ w) h

pub mod_low : (t d c : ℕ) → t < d → (t + d * c) % d ≡ t
mod_low t d c h = add-mul-mod_self_left t d c ∙ mod-eq_of_lt h

pub residue_read : (w : ℕ) (s : Bool) (n : ℕ) → n < 2 ^ w → residue w (read w s n) ≡ n
residue_read w s n h = residue_is w (read w s n) (digit (negative w s n)) n (read_off w s n h) ∙ mod-eq_of_lt h

pub residue_sum : (w : ℕ) (s : Bool) (m n : ℕ) → m < 2 ^ w → n < 2 ^ w → residue w (read w s m +ℤ read w s n) ≡ (m + n) % 2 ^ w
residue_sum w s m n hm hn = residue_is w (read w s m +ℤ read w s n) (digit (negative w s m) + digit (negative w s n)) (m + n)
    (omega (arith, ints, read_off w s m hm, read_off w s n hn))

pub residue_difference : (w : ℕ) (s : Bool) (m n : ℕ) → m < 2 ^ w → n < 2 ^ w → residue w (read w s m -ℤ read w s n) ≡ (m + (2 ^ w - n)) % 2 ^ w
residue_difference w s m n hm hn = residue_is w (read w s m -ℤ read w s n) (digit (negative w s m) + 1) (m + (2 ^ w - n) + 2 ^ w * digit (negative w s n))
    (omega (arith, ints, read_off w s m hm, read_off w s n hn))
    ∙ add-mul-mod_self_left (m + (2 ^ w - n)) (2 ^ w) (digit (negative w s n))

-- ---- comparisons
pub lt_same : (a b c d : ℕ) → (b ≤ a → d ≤ c) → (a < b → c < d) → nat_lt a b ≡ nat_lt c d
lt_same a b c d f g = elim (leb_tells b a) as (λ _. nat_lt a b ≡ nat_lt c d) [
  | inl t ↦ le-ltb a b t.1 ∙ sym (le-ltb c d (f t.1))
  | inr t ↦ lt-ltb a b t.1 ∙ sym (lt-ltb c d (g t.1))
]

lt_back : (M m n : ℕ) → m < M → n < M → nat_lt m n ≡ nat_lt (M - suc n) (M - suc m)
lt_back M m n p q = lt_same m n (M - suc n) (M - suc m) (λ e. omega arith) (λ e. omega arith)

two_below : (P m n : ℕ) (da db : Bool) → IsTop P m da → IsTop P n db → cond (xor da db) da (nat_lt m n) ≡ int_lt (two P m) (two P n)
two_below P m n false false a b = sym (ap (λ x. int_lt x (two P n)) (two_low P m a) ∙ ap (int_lt (pos m)) (two_low P n b))
two_below P m n false true a b = sym (ap (λ x. int_lt x (two P n)) (two_low P m a) ∙ ap (int_lt (pos m)) (two_top P n b.0))
two_below P m n true false a b = sym (ap (λ x. int_lt x (two P n)) (two_top P m a.0) ∙ ap (int_lt (negsuc (2 * P - suc m))) (two_low P n b))
two_below P m n true true a b = lt_back (2 * P) m n a.1 b.1 ∙ sym (ap (λ x. int_lt x (two P n)) (two_top P m a.0) ∙ ap (int_lt (negsuc (2 * P - suc m))) (two_top P n b.0))

pub read_below : (w : ℕ) (s : Bool) (m n : ℕ) → 0 < w → m < 2 ^ w → n < 2 ^ w → cond (xor (negative w s m) (negative w s n)) (negative w s m) (nat_lt m n) ≡ int_lt (read w s m) (read w s n)
read_below w false m n hw hm hn = refl
read_below w true m n hw hm hn =
    two_below (2 ^ (w - 1)) m n (negative w true m) (negative w true n) (negative_top w m hw hm) (negative_top w n hw hn)
    ∙ sym (ap (λ x. int_lt x (read w true n)) (signed_is w m hw) ∙ ap (int_lt (two (2 ^ (w - 1)) m)) (signed_is w n hw))

xor_apart : (m n : ℕ) → bit_xor m n ≡ 0 → m ≡ n
xor_apart m n e = omega (arith, xor_add_and m n, and_le_l m n, and_le_r m n)

pub read_equal : (w : ℕ) (s : Bool) (m n : ℕ) → m < 2 ^ w → n < 2 ^ w → nat_eq (bit_xor m n) 0 ≡ int_eq (read w s m) (read w s n)
read_equal w s m n hm hn = same_from_decides (nat_eq (bit_xor m n) 0) (int_eq (read w s m) (read w s n)) (
  (λ z. ap (read w s) (xor_apart m n (eqb-true (bit_xor m n) 0 z))),
  (λ z. eq-eqb (bit_xor m n) 0 (ap (bit_xor m) (sym (sym (residue_read w s m hm) ∙ ap (residue w) z ∙ residue_read w s n hn)) ∙ xor_self m)),
)
    (Decides-int_eq (read w s m) (read w s n))

-- numbers are equal as they are read
pub equal_read : (w : ℕ) (s : Bool) (m n : ℕ) → m < 2 ^ w → n < 2 ^ w → nat_eq m n ≡ int_eq (read w s m) (read w s n)
equal_read w s m n hm hn = same_from_decides (nat_eq m n) (int_eq (read w s m) (read w s n)) (
  (λ z. ap (read w s) (eqb-true m n z)),
  (λ z. eq-eqb m n (sym (residue_read w s m hm) ∙ ap (residue w) z ∙ residue_read w s n hn)),
)
    (Decides-int_eq (read w s m) (read w s n))
