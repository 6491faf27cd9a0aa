-- Operators at an unsigned type, over its width.
use Rattle.std.proofs.Common.{◌≡◌, ℕ, ◌+◌, ◌-◌, ◌*◌, ◌/◌, ◌%◌, ◌^◌, ◌<◌, ◌≤◌, false, ℤ, pos, negsuc, ◌+ℤ◌, ◌-ℤ◌, ◌*ℤ◌, ◌≤ℤ◌, inl, inr, refl, sym, ◌∙◌, ap, arith, unsigned_abs}
use Rattle.std.specs.Int.RustNames.{int_div, int_rem}
use Rattle.std.specs.Int.{FitsUnsigned, Width}
use mir.Val.{bits}
use Rattle.std.proofs.lemmas.Int.{ints}
use Rattle.std.proofs.Math.Nat.{mod-eq_of_lt, div-le_self, mod-le}
use Rattle.std.proofs.lemmas.Nat.{mod-mul-add, shr_le}
use Rattle.std.proofs.lemmas.Bool.{cases_lt}
use Rattle.c_core.specs.Types.{residue, wrapped}
use Rattle.c_core.specs.Operators.{quotient_down}
use Rattle.c_core.proofs.SignedOperators.{shift_down}

-- a number in range is the natural that the cast gives
whole : (b : ℤ) → pos 0 ≤ℤ b → b ≡ pos (unsigned_abs b)
whole (pos n) h = refl
whole (negsuc n) h = absurd (omega (arith, ints))

pub below : (w : Width) (b : ℤ) → FitsUnsigned w b → unsigned_abs b < 2 ^ bits w
below w (pos n) f = omega (arith, ints, f.1)
below w (negsuc n) f = absurd (omega (arith, ints, f.0))

wrapped_pos : (w n : ℕ) → n < 2 ^ w → pos n ≡ wrapped w false (pos n)
unfolding wrapped residue
wrapped_pos w n h = ap pos (sym (mod-eq_of_lt h))

pub sum : (w : Width) (a : ℕ) (b : ℤ) → FitsUnsigned w b → pos ((a + unsigned_abs b) % 2 ^ bits w) ≡ wrapped (bits w) false (pos a +ℤ b)
unfolding wrapped residue
sum w a (pos m) f = refl
sum w a (negsuc m) f = absurd (omega (arith, ints, f.0))

pub product : (w : Width) (a : ℕ) (b : ℤ) → FitsUnsigned w b → pos (a * unsigned_abs b % 2 ^ bits w) ≡ wrapped (bits w) false (pos a *ℤ b)
unfolding wrapped residue
product w a (pos m) f = refl
product w a (negsuc m) f = absurd (omega (arith, ints, f.0))

-- the number that m brings to a modulo p
minus : (p a m r : ℕ) → r < p → a < p → m < p → (r + m) % p ≡ a → (m ≤ a → r ≡ a - m) × (a < m → r ≡ p - (m - a))
minus p a m r lr la lm e = elim (cases_lt (r + m) p) [
  | inl lt ↦ let s : r + m ≡ a = sym (mod-eq_of_lt lt) ∙ e in (λ h. omega arith, λ h. absurd (omega arith))
  | inr ge ↦
      let t : r + m ≡ 1 * p + (r + m - p) = omega arith in
      let s : r + m - p ≡ a = sym (mod-mul-add 1 p (r + m - p) (omega arith)) ∙ ap (λ k. k % p) (sym t) ∙ e in
      (λ h. absurd (omega arith), λ h. omega arith)
]

difference_of : (w a m r : ℕ) → r < 2 ^ w → a < 2 ^ w → m < 2 ^ w → (r + m) % 2 ^ w ≡ a → pos r ≡ wrapped w false (pos a -ℤ pos m)
unfolding wrapped residue
difference_of w a m r lr la lm e =
    let k = minus (2 ^ w) a m r lr la lm e in
    elim (cases_lt a m) [
      | inl lt ↦
          let z : pos a -ℤ pos m ≡ negsuc (m - a - 1) = omega (arith, ints) in
          let l : m - a - 1 < 2 ^ w = omega arith in
          rw (z, mod-eq_of_lt l) (ap pos (omega (arith, k.1 lt)))
      | inr ge ↦
          let z : pos a -ℤ pos m ≡ pos (a - m) = omega (arith, ints) in
          let l : a - m < 2 ^ w = omega arith in
          rw (z, mod-eq_of_lt l) (ap pos (k.0 ge))
    ]

pub difference : (w : Width) (a r : ℕ) (b : ℤ) → FitsUnsigned w b → r < 2 ^ bits w → a < 2 ^ bits w → (r + unsigned_abs b) % 2 ^ bits w ≡ a
    → pos r ≡ wrapped (bits w) false (pos a -ℤ b)
difference w a r b f lr la e = difference_of (bits w) a (unsigned_abs b) r lr la (below w b f) e ∙ ap (λ z. wrapped (bits w) false (pos a -ℤ z)) (sym (whole b f.0))

pub quotient : (w : Width) (a : ℕ) (b : ℤ) → FitsUnsigned w b → a < 2 ^ bits w → pos (a / unsigned_abs b) ≡ wrapped (bits w) false (int_div (pos a) b)
quotient w a (pos m) f h = wrapped_pos (bits w) (a / m) (omega (arith, div-le_self a m))
quotient w a (negsuc m) f h = absurd (omega (arith, ints, f.0))

pub remainder : (w : Width) (a : ℕ) (b : ℤ) → FitsUnsigned w b → a < 2 ^ bits w → pos (a % unsigned_abs b) ≡ wrapped (bits w) false (int_rem (pos a) b)
remainder w a (pos m) f h = wrapped_pos (bits w) (a % m) (omega (arith, mod-le a m))
remainder w a (negsuc m) f h = absurd (omega (arith, ints, f.0))

pub bits_of : (w : Width) (f : ℕ → ℕ → ℕ) (a : ℕ) (b : ℤ) → FitsUnsigned w b → a < 2 ^ bits w → f a (unsigned_abs b) < 2 ^ bits w
    → pos (f a (unsigned_abs b)) ≡ wrapped (bits w) false (pos (f (residue (bits w) (pos a)) (residue (bits w) b)))
unfolding residue
bits_of w f a (pos m) i h l =
    let k : m < 2 ^ bits w = below w (pos m) i in
    rw (mod-eq_of_lt h, mod-eq_of_lt k) (wrapped_pos (bits w) (f a m) l)
bits_of w f a (negsuc m) i h l = absurd (omega (arith, ints, i.0))

pub left : (w : Width) (a k : ℕ) → pos (a * 2 ^ k % 2 ^ bits w) ≡ wrapped (bits w) false (pos a *ℤ pos (2 ^ k))
unfolding wrapped residue
left w a k = refl

pub right : (w : Width) (a k : ℕ) → a < 2 ^ bits w → pos (a / 2 ^ k) ≡ wrapped (bits w) false (quotient_down (pos a) (pos (2 ^ k)))
right w a k h = wrapped_pos (bits w) (a / 2 ^ k) (omega (arith, shr_le a k)) ∙ ap (wrapped (bits w) false) (shift_down (pos a) k)
