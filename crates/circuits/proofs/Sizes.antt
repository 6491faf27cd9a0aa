-- Numbers as a sign and a distance from 0.
use Rattle.std.proofs.Common.{◌≡◌, ℕ, zero, suc, ◌+◌, ◌-◌, ◌*◌, ◌/◌, ◌%◌, ◌^◌, ◌<◌, inl, inr, Bool, true, false, cond, not, ◌&&◌, nat_lt, ℤ, pos, negsuc, neg_ℤ, ◌+ℤ◌, ◌*ℤ◌, int_div, int_rem, unsigned_abs, refl, sym, ◌∙◌, ap, arith}
use Rattle.std.proofs.lemmas.Int.{ints}
use Rattle.std.proofs.Math.IntN.{negsuc-*ℤ-negsuc, negsuc-*ℤ-pos, pos-*ℤ-negsuc, pos-*ℤ-pos, *ℤ-zero, zero-*ℤ}
use Rattle.std.proofs.lemmas.Nat.{pow_pos, mod_below}
use Rattle.std.proofs.Math.Nat.{mod-eq_of_lt, div-eq_of_lt}
use Rattle.std.proofs.lemmas.Bool.{cases_lt, lt-ltb, le-ltb, ltb-false}
use Rattle.c_core.specs.Types.{residue, signed_of}
use Rattle.circuits.specs.Net.{xor}
use Rattle.circuits.specs.Numbers.{digit, read}
use Rattle.circuits.specs.Gates.{negative, size}
use Rattle.circuits.proofs.Reading.{fits, fits_is, residue_is, ranged}

unfoldable pub signed_number : Bool → ℕ → ℤ
signed_number true m = neg_ℤ (pos m)
signed_number false m = pos m

turned_is : (P M n : ℕ) (t : Bool) → n < M → cond t (pos n) (negsuc (M - suc n)) ≡ signed_number (not t) (cond (not t) (M - n) n)
unfolding signed_number
turned_is P M n true h = refl
turned_is P M n false h = let e : M - n ≡ suc (M - suc n) = omega arith in sym (ap (λ k. neg_ℤ (pos k)) e)

pub read_size : (w : ℕ) (s : Bool) (n : ℕ) → n < 2 ^ w → read w s n ≡ signed_number (negative w s n) (size w s n)
unfolding signed_of signed_number
read_size w true n h = turned_is (2 ^ (w - 1)) (2 ^ w) n (nat_lt n (2 ^ (w - 1))) h
read_size w false n h = refl

pub signed_mul : (s t : Bool) (m n : ℕ) → signed_number s m *ℤ signed_number t n ≡ signed_number (xor s t) (m * n)
unfolding signed_number
signed_mul false false m n = pos-*ℤ-pos m n
signed_mul false true m zero = *ℤ-zero (pos m) ∙ (let e : m * 0 ≡ 0 = omega arith in ap (λ k. neg_ℤ (pos k)) (sym e))
signed_mul false true m (suc n) = pos-*ℤ-negsuc m n
signed_mul true false zero n = zero-*ℤ (pos n) ∙ (let e : 0 * n ≡ 0 = omega arith in ap (λ k. neg_ℤ (pos k)) (sym e))
signed_mul true false (suc m) n = negsuc-*ℤ-pos m n
signed_mul true true zero n = zero-*ℤ (neg_ℤ (pos n)) ∙ (let e : 0 * n ≡ 0 = omega arith in ap (λ k. pos k) (sym e))
signed_mul true true (suc m) zero = *ℤ-zero (negsuc m) ∙ (let e : suc m * 0 ≡ 0 = omega arith in ap (λ k. pos k) (sym e))
signed_mul true true (suc m) (suc n) = negsuc-*ℤ-negsuc m n

lt_suc : (n P : ℕ) → nat_lt n P ≡ nat_lt (suc n) (P + 1)
lt_suc n P = elim (cases_lt n P) as (λ _. nat_lt n P ≡ nat_lt (suc n) (P + 1)) [
  | inl l ↦ lt-ltb n P l ∙ sym (lt-ltb (suc n) (P + 1) (omega arith))
  | inr g ↦ le-ltb n P g ∙ sym (le-ltb (suc n) (P + 1) (omega arith))
]

fits_size : (P m : ℕ) (s : Bool) → 0 < P → fits P (signed_number s m) ≡ nat_lt m (P + digit s)
unfolding signed_number
fits_size P m false h = ap (nat_lt m) (let e : P ≡ P + 0 = omega arith in e)
fits_size P zero true h = lt-ltb 0 P h ∙ sym (lt-ltb 0 (P + 1) (omega arith))
fits_size P (suc m) true h = lt_suc m P

-- whether a type doesn't hold a number
pub out_of_range : (w : ℕ) (s t : Bool) (m : ℕ) → (s && not (ranged w s (signed_number t m))) ≡ (s && not (nat_lt m (2 ^ (w - 1) + digit t)))
out_of_range w false t m = refl
out_of_range w true t m = ap not (fits_is w (signed_number t m) ∙ fits_size (2 ^ (w - 1)) m t (pow_pos (w - 1)))

back : (M m q r : ℕ) → M * q + r ≡ m → r < M → neg_ℤ (pos m) +ℤ pos ((q + 1) * M) ≡ pos (M - r)
back M m q r e h = omega (arith, ints, e)

-- the digits of a number
pub residue_size : (w : ℕ) (t : Bool) (m : ℕ) → residue w (signed_number t m) ≡ cond t ((2 ^ w - m % 2 ^ w) % 2 ^ w) (m % 2 ^ w)
unfolding signed_number
residue_size w false m = residue_is w (pos m) 0 m (omega (arith, ints))
residue_size w true m =
    let p : 0 < 2 ^ w = pow_pos w in
    residue_is w (neg_ℤ (pos m)) (m / 2 ^ w + 1) (2 ^ w - m % 2 ^ w) (back (2 ^ w) m (m / 2 ^ w) (m % 2 ^ w) (omega arith) (mod_below m (2 ^ w) p))

size_below : (P M n : ℕ) (t : Bool) → nat_lt n P ≡ t → 0 < P → n < M → cond (not t) ((M - n) % M) n ≡ cond (not t) (M - n) n
size_below P M n true e p h = refl
size_below P M n false e p h = let le = ltb-false n P e in mod-eq_of_lt (omega arith)

pub size_mod : (w : ℕ) (s : Bool) (n : ℕ) → n < 2 ^ w → cond (negative w s n) ((2 ^ w - n) % 2 ^ w) n ≡ size w s n
size_mod w true n h = size_below (2 ^ (w - 1)) (2 ^ w) n (nat_lt n (2 ^ (w - 1))) refl (pow_pos (w - 1)) h
size_mod w false n h = refl

-- ---- quotients
no_number : (n : ℕ) → n ≡ 0 → neg_ℤ (pos n) ≡ pos n
no_number n e = rw e refl

pub signed_div : (s t : Bool) (m n : ℕ) → 0 < n → int_div (signed_number s m) (signed_number t n) ≡ signed_number (xor s t) (m / n)
unfolding signed_number
signed_div false false m n h = refl
signed_div false true m zero h = absurd (omega arith)
signed_div false true m (suc n) h = refl
signed_div true false zero n h = sym (no_number (0 / n) (div-eq_of_lt h))
signed_div true false (suc m) n h = refl
signed_div true true m zero h = absurd (omega arith)
signed_div true true zero (suc n) h = no_number (0 / suc n) (div-eq_of_lt h)
signed_div true true (suc m) (suc n) h = refl

size_is : (t : Bool) (n : ℕ) → unsigned_abs (signed_number t n) ≡ n
unfolding signed_number
size_is false n = refl
size_is true zero = refl
size_is true (suc n) = refl

pub signed_rem : (s t : Bool) (m n : ℕ) → 0 < n → int_rem (signed_number s m) (signed_number t n) ≡ signed_number s (m % n)
unfolding signed_number
signed_rem false t m n h = ap (λ k. pos (m % k)) (size_is t n)
signed_rem true t zero n h = ap (λ k. pos (0 % k)) (size_is t n) ∙ sym (no_number (0 % n) (mod-eq_of_lt h))
signed_rem true t (suc m) n h = ap (λ k. neg_ℤ (pos (suc m % k))) (size_is t n)
