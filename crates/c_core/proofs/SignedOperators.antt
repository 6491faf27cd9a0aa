-- Operators at a signed type, over its width.
use Rattle.std.proofs.Common.{◌≡◌, ℕ, zero, suc, ◌+◌, ◌-◌, ◌*◌, ◌/◌, ◌%◌, ◌^◌, ◌<◌, ◌≤◌, Bool, true, false, cond, not, ◌&&◌, ◌||◌, nat_lt, leb, Option, Some, None, ℤ, pos, negsuc, ◌-ℤ◌, ◌*ℤ◌, ◌≤ℤ◌, ◌<ℤ◌, neg_ℤ, int_lt, int_le, inl, inr, refl, sym, ◌∙◌, ap, arith, FitsSigned, SomeIff, unsigned_abs, is_some}
use Rattle.std.specs.Int.RustNames.{int_div, int_rem}
use Rattle.std.specs.Int.{Width, w8, w16, w32, w64, w128, int_wrap, cast_unsigned, cast_signed, CanDivide, IsNonZero, int_wrapping_div, leading_zeros, int_shr}
use Rattle.std.specs.Bool.{FalseIff}
use mir.Val.{bits, hbits}
use lib.Signed.{mag}
use Rattle.std.proofs.lemmas.Int.{ints, int_wrap_fits, to_z-of_z, rem_below, fits_signed_from_abs, wrapping_mul-bits, int_wrap-mul_right}
use Rattle.std.proofs.Math.Nat.{pow-le-pow_right, mod-eq_of_lt, mul-le-mul_right, div-le_self}
use Rattle.std.proofs.lemmas.Nat.{pow_pos, pow_below, shl-shr, shr_split, shr_le, shl_below, pow-add, mod_below, leading_top, leading_length}
use Rattle.std.proofs.lemmas.Bool.{le-ltb, lt-ltb, le-leb, lt-leb, ne_eqb, ltb-true, cases_lt}
use Rattle.c_core.specs.Types.{residue, signed_of, wrapped, fits_signed, is_zero}
use Rattle.c_core.specs.Operators.{quotient_down}
use Rattle.c_core.specs.declared.number.Done.{Done}
use Rattle.c_core.specs.declared.number.Done.TheVariants.{Value, Overflow}

half : (w : Width) → hbits w ≡ bits w - 1
half w8 = refl
half _ = refl

double : (w : Width) → 2 ^ bits w ≡ 2 * 2 ^ hbits w
double w8 = refl
double w16 = refl
double w32 = refl
double w64 = refl
double w128 = refl

pub digits_below : (w : Width) (a : ℤ) → FitsSigned w a → cast_unsigned w a < 2 ^ bits w
digits_below w (pos n) f = let e = double w in omega (arith, f.sfits)
digits_below w (negsuc n) f = let e = double w in omega (arith, f.sfits)

pub wrap_is : (w : Width) (z : ℤ) → int_wrap w z ≡ wrapped (bits w) true z
unfolding int_wrap wrapped residue signed_of
wrap_is w8 z = refl
wrap_is _ z = refl

pub fits_is : (w : Width) (r : ℤ) → FitsSigned w r → fits_signed (bits w) r ≡ true
fits_is w (pos n) f = let e = half w in rw (← e) (lt-ltb n (2 ^ hbits w) f.sfits)
fits_is w (negsuc n) f = let e = half w in rw (← e) (lt-ltb n (2 ^ hbits w) f.sfits)

pub fits_from : (w : Width) (r : ℤ) → fits_signed (bits w) r ≡ true → FitsSigned w r
fits_from w (pos n) h = let e = half w in record { sfits = rw e (ltb-true n (2 ^ (bits w - 1)) h) }
fits_from w (negsuc n) h = let e = half w in record { sfits = rw e (ltb-true n (2 ^ (bits w - 1)) h) }

by_not_lt : (a b : ℕ) → (a < b → ⊥) → b ≤ a
by_not_lt a b h = grind arith

pub fits_not : (w : Width) (r : ℤ) → (FitsSigned w r → ⊥) → fits_signed (bits w) r ≡ false
fits_not w (pos n) f = let e = half w in rw (← e) (le-ltb n (2 ^ hbits w) (by_not_lt n (2 ^ hbits w) (λ l. f (record { sfits = l }))))
fits_not w (negsuc n) f = let e = half w in rw (← e) (le-ltb n (2 ^ hbits w) (by_not_lt n (2 ^ hbits w) (λ l. f (record { sfits = l }))))

-- the whole-number result r, wrapped
pub told : (w : Width) (r x : ℤ) (over test : Bool) (d : Done) → d ≡ cond over (Overflow x) (Value x) → x ≡ int_wrap w r → over ≡ test
    → d ≡ cond test (Overflow (wrapped (bits w) true r)) (Value (wrapped (bits w) true r))
told w r x over test d e h t = e ∙ ap (λ b. cond b (Overflow x) (Value x)) t ∙ ap (λ z. cond test (Overflow z) (Value z)) (h ∙ wrap_is w r)

pub over_is : (w : Width) (r : ℤ) (over : Bool) → FalseIff over (FitsSigned w r) → over ≡ not (fits_signed (bits w) r)
over_is w r true f = rw (fits_not w r f) refl
over_is w r false f = rw (fits_is w r f) refl

pub over_checked : (P : Type 0) (o : Option ℤ) (v : ℤ) (over : Bool) → SomeIff o P v → is_some o ≡ not over → FalseIff over P
over_checked P None v true h e = h
over_checked P None v false h e = cc
over_checked P (Some x) v true h e = cc
over_checked P (Some x) v false h e = h.0

divides : (w : Width) (a b : ℤ) (over : Bool) → IsNonZero w b → FalseIff over (CanDivide w a b) → FalseIff over (FitsSigned w (int_div a b))
divides w a b true z h = λ f. h (z, f)
divides w a b false z h = h.1

nonzero_in : (w : Width) (b : ℤ) → FitsSigned w b → (cast_unsigned w128 b ≡ 0 → ⊥) → IsNonZero w b
nonzero_in w (pos zero) f h = absurd (h refl)
nonzero_in w (pos (suc n)) f h = omega arith
nonzero_in w (negsuc n) f h = let e = double w in omega (arith, f.sfits)

-- `checked_div` and `checked_rem` refuse where the quotient leaves the range
pub over_quotient : (w : Width) (a b : ℤ) (o : Option ℤ) (v : ℤ) (over : Bool) → FitsSigned w b → (cast_unsigned w128 b ≡ 0 → ⊥)
    → SomeIff o (CanDivide w a b) v → is_some o ≡ not over → over ≡ not (fits_signed (bits w) (int_div a b))
over_quotient w a b o v over f h s e = over_is w (int_div a b) over (divides w a b over (nonzero_in w b f h) (over_checked (CanDivide w a b) o v over s e))

pub residue_is : (w : Width) (a : ℤ) → mag a < 2 ^ bits w → residue (bits w) a ≡ cast_unsigned w a
unfolding residue
residue_is w (pos n) l = mod-eq_of_lt l
residue_is w (negsuc n) l = rw (mod-eq_of_lt l) (omega arith)

mag_neg : (m : ℕ) → mag (neg_ℤ (pos m)) ≤ m
mag_neg zero = omega arith
mag_neg (suc m) = omega arith

quotient_small : (a b : ℤ) → mag (int_div a b) ≤ suc (mag a)
quotient_small (pos a) (pos b) = omega (arith, div-le_self a b)
quotient_small (pos a) (negsuc b) = omega (arith, mag_neg (a / suc b), div-le_self a (suc b))
quotient_small (negsuc a) (pos b) = omega (arith, mag_neg (suc a / b), div-le_self (suc a) b)
quotient_small (negsuc a) (negsuc b) = omega (arith, div-le_self (suc a) (suc b))

pub quotient_wraps : (w : Width) (a b : ℤ) → FitsSigned w a → int_wrapping_div w a b ≡ int_wrap w (int_div a b)
unfolding int_wrap residue
quotient_wraps w a b f =
    let e = double w in
    let l : mag (int_div a b) < 2 ^ bits w = omega (arith, quotient_small a b, pow_pos (hbits w), f.sfits) in
    ap (cast_signed w) (sym (residue_is w (int_div a b) l))

abs_fits : (w : Width) (b : ℤ) → FitsSigned w b → unsigned_abs b ≤ 2 ^ hbits w
abs_fits w (pos n) f = omega (arith, f.sfits)
abs_fits w (negsuc n) f = f.sfits

abs_nonzero : (b : ℤ) → (cast_unsigned w128 b ≡ 0 → ⊥) → 0 < unsigned_abs b
abs_nonzero (pos zero) h = absurd (h refl)
abs_nonzero (pos (suc n)) h = omega arith
abs_nonzero (negsuc n) h = omega arith

pub remainder_wraps : (w : Width) (a b : ℤ) → FitsSigned w b → (cast_unsigned w128 b ≡ 0 → ⊥) → int_rem a b ≡ int_wrap w (int_rem a b)
remainder_wraps w a b f h =
    let l = rem_below a b (abs_nonzero b h) in
    sym (int_wrap_fits w (int_rem a b) (fits_signed_from_abs w (int_rem a b) (omega (arith, l, abs_fits w b f))))

pub not_zero : (b : ℤ) → (cast_unsigned w128 b ≡ 0 → ⊥) → is_zero b ≡ false
not_zero (pos n) h = ne_eqb n 0 h
not_zero (negsuc n) h = refl

-- ---- bits

small : (w : Width) (a : ℤ) → FitsSigned w a → mag a < 2 ^ bits w
small w a f = let e = double w in omega (arith, f.sfits)

pub read_is : (w : Width) (n : ℕ) → n < 2 ^ bits w → cast_signed w n ≡ int_wrap w (pos n)
unfolding int_wrap
read_is w n h = rw (mod-eq_of_lt h) refl

pub bits_is : (w : Width) (f : ℕ → ℕ → ℕ) (a b : ℤ) → FitsSigned w a → FitsSigned w b → f (cast_unsigned w a) (cast_unsigned w b) < 2 ^ bits w
    → cast_signed w (f (cast_unsigned w a) (cast_unsigned w b)) ≡ wrapped (bits w) true (pos (f (residue (bits w) a) (residue (bits w) b)))
bits_is w f a b fa fb h = rw (residue_is w a (small w a fa), residue_is w b (small w b fb)) (read_is w _ h ∙ wrap_is w _)

-- ---- shifts

pub counted_is : (b : ℤ) (width : ℕ) → (pos 0 ≤ℤ b) → (b <ℤ pos width) → (int_le (pos 0) b && int_lt b (pos width)) ≡ true
counted_is (pos n) width l h = rw (le-leb 0 n (omega arith)) (lt-ltb n width (omega (arith, ints)))
counted_is (negsuc n) width l h = absurd (omega (arith, ints))

pub count_below : (b : ℤ) (k width : ℕ) → (pos 0 ≤ℤ b) → (b <ℤ pos width) → k ≡ unsigned_abs b → k < width
count_below (pos n) k width l h e = omega (arith, ints)
count_below (negsuc n) k width l h e = absurd (omega (arith, ints))

pub shift_down : (a : ℤ) (k : ℕ) → int_shr a k ≡ quotient_down a (pos (2 ^ k))
shift_down (pos n) k =
    let e : pos n -ℤ pos (n % 2 ^ k) ≡ pos (n / 2 ^ k * 2 ^ k) = omega (arith, ints, shr_split n k) in
    rw e (ap pos (sym (shl-shr (n / 2 ^ k) k)))
shift_down (negsuc n) k =
    let r : n % 2 ^ k < 2 ^ k = mod_below n (2 ^ k) (pow_pos k) in
    let e : negsuc n -ℤ pos (2 ^ k - 1 - n % 2 ^ k) ≡ negsuc (suc (n / 2 ^ k) * 2 ^ k - 1) = omega (arith, ints, shr_split n k) in
    let s : suc (suc (n / 2 ^ k) * 2 ^ k - 1) ≡ suc (n / 2 ^ k) * 2 ^ k = omega (arith, pow_pos k) in
    rw (e, s, shl-shr (suc (n / 2 ^ k)) k) refl

shr_fits : (w : Width) (a : ℤ) (k : ℕ) → FitsSigned w a → FitsSigned w (int_shr a k)
shr_fits w (pos n) k f = record { sfits = omega (arith, shr_le n k, f.sfits) }
shr_fits w (negsuc n) k f = record { sfits = omega (arith, shr_le n k, f.sfits) }

pub shifted_right : (w : Width) (a x : ℤ) (k : ℕ) → FitsSigned w a → x ≡ cast_signed w (cast_unsigned w (int_shr a k)) → x ≡ wrapped (bits w) true (quotient_down a (pos (2 ^ k)))
shifted_right w a x k f e =
    let g = shr_fits w a k f in
    e ∙ to_z-of_z w (int_shr a k) g ∙ sym (int_wrap_fits w (int_shr a k) g) ∙ wrap_is w (int_shr a k) ∙ ap (wrapped (bits w) true) (shift_down a k)

-- what `<<` leaves is the product, wrapped
pub shifted_left : (w : Width) (a : ℤ) (k : ℕ) → FitsSigned w a → k < bits w → cast_signed w (cast_unsigned w a * 2 ^ k % 2 ^ bits w) ≡ int_wrap w (a *ℤ pos (2 ^ k))
shifted_left w a k f h =
    let p : 2 ^ k < 2 ^ bits w = pow_below k (bits w) h in
    wrapping_mul-bits w (cast_unsigned w a) (2 ^ k) (digits_below w a f) p
    ∙ ap (λ z. int_wrap w (z *ℤ cast_signed w (2 ^ k))) (to_z-of_z w a f)
    ∙ ap (λ z. int_wrap w (a *ℤ z)) (read_is w (2 ^ k) p)
    ∙ int_wrap-mul_right w a (pos (2 ^ k))

pow_le : (i j : ℕ) → i ≤ j → 2 ^ i ≤ 2 ^ j
pow_le i j h = pow-le-pow_right {n = 2} (omega arith) h

-- j is the place of the highest digit of m, above which c zeros stand
fits_shifted : (w m k c j : ℕ) → c + suc j ≡ w → 2 ^ j ≤ m → m < 2 ^ suc j → leb c k ≡ not (nat_lt (m * 2 ^ k) (2 ^ (w - 1)))
fits_shifted w m k c j e l h = elim (cases_lt k c) [
  | inl lt ↦
      let below : m * 2 ^ k < 2 ^ (suc j + k) = shl_below m (suc j) k h in
      let bound : 2 ^ (suc j + k) ≤ 2 ^ (w - 1) = pow_le (suc j + k) (w - 1) (omega arith) in
      rw (lt-leb c k lt, lt-ltb (m * 2 ^ k) (2 ^ (w - 1)) (omega arith)) refl
  | inr ge ↦
      let above : 2 ^ j * 2 ^ k ≤ m * 2 ^ k = mul-le-mul_right (2 ^ k) l in
      let bound : 2 ^ (w - 1) ≤ 2 ^ (j + k) = pow_le (w - 1) (j + k) (omega arith) in
      rw (le-leb c k ge, le-ltb (m * 2 ^ k) (2 ^ (w - 1)) (omega (arith, pow-add 2 j k))) refl
]

no_place : (m : ℕ) → 2 ^ m ≤ 1 → m ≡ 0
no_place zero h = refl
no_place (suc m) h = absurd (omega (arith, pow_le 1 (suc m) (omega arith)))

top_place : (w : Width) (m j : ℕ) → 2 ^ hbits w ≤ m → m < 2 ^ suc j → bits w ≤ suc j
top_place w m j l h = elim (cases_lt (suc j) (bits w)) [
  | inl lt ↦ let e = half w in absurd (omega (arith, pow_le (suc j) (hbits w) (omega arith)))
  | inr ge ↦ ge
]

-- a shifted number stays in range where it has more leading zeros than places
pub leaves_range : (w : Width) (a : ℤ) (k : ℕ) → FitsSigned w a → k < bits w
    → leb (leading_zeros w (cast_unsigned w a)) k ≡ (int_lt a (pos 0) || not (fits_signed (bits w) (a *ℤ pos (2 ^ k))))
leaves_range w (pos zero) k f h =
    let top = leading_length (bits w) 0 (pow_pos (bits w)) in
    let m : top.0 ≡ 0 = no_place top.0 (omega (arith, top.3)) in
    let l : k < leading_zeros w 0 = omega (arith, top.1) in
    rw (lt-leb (leading_zeros w 0) k l, lt-ltb (0 * 2 ^ k) (2 ^ (bits w - 1)) (omega (arith, pow_pos (bits w - 1)))) refl
leaves_range w (pos (suc n)) k f h =
    let top = leading_top (bits w) (suc n) (omega arith) (digits_below w (pos (suc n)) f) in
    rw (le-ltb (suc n) 0 (omega arith)) (fits_shifted (bits w) (suc n) k _ top.0 top.1 top.2 top.3)
leaves_range w (negsuc n) k f h =
    let e = double w in
    let top = leading_top (bits w) (2 ^ bits w - suc n) (omega (arith, f.sfits)) (digits_below w (negsuc n) f) in
    let l : bits w ≤ suc top.0 = top_place w (2 ^ bits w - suc n) top.0 (omega (arith, f.sfits)) top.3 in
    le-leb (leading_zeros w (2 ^ bits w - suc n)) k (omega (arith, top.1))
