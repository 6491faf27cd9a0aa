-- Each value of a type is a number of its bits, and each number of so many bits is drawn under some inputs.
use Rattle.std.proofs.Common.{◌≡◌, ℕ, zero, suc, ◌+◌, ◌-◌, ◌*◌, ◌^◌, ◌<◌, ◌≤◌, Bool, true, false, cond, not, nat_eq, nat_lt, ℤ, pos, negsuc, refl, ◌∙◌, ap, ap₂, arith}
use Rattle.std.proofs.Math.Nat.{pow-succ'}
use Rattle.std.proofs.lemmas.Nat.{pow_pos, mod_below}
use Rattle.std.proofs.lemmas.Bool.{eq-eqb, ne_eqb, ltb-true, ltb-false}
use Rattle.c_core.specs.Types.{width_of, is_signed, residue, fit, wrapped, number_of, is_zero}
use Rattle.c_core.specs.declared.number.DataModel.{DataModel}
use Rattle.c_core.specs.declared.number.IntType.{IntType}
use Rattle.c_core.specs.declared.number.IntType.TheVariants.{Bool as BoolType, Char, SChar, UChar, Short, UShort, Int, UInt, Long, ULong, LongLong, ULongLong}
use Rattle.circuits.specs.Numbers.{read, drawn, digit}

residue_below : (w : ℕ) (v : ℤ) → residue w v < 2 ^ w
unfolding residue
residue_below w (pos n) = mod_below n (2 ^ w) (pow_pos w)
residue_below w (negsuc n) = omega (arith, pow_pos w)

by_residue : (w : ℕ) (s : Bool) (z : ℤ) → (n : ℕ) × (n < 2 ^ w) × (read w s n ≡ wrapped w s z)
unfolding wrapped
by_residue w s z = (residue w z, residue_below w z, refl)

by_truth : (b : Bool) → (n : ℕ) × (n < 2 ^ 1) × (pos n ≡ number_of b)
by_truth true = (1, omega arith, refl)
by_truth false = (0, omega arith, refl)

pub number_in : (m : DataModel) (ty : IntType) (z : ℤ) → (n : ℕ) × (n < 2 ^ width_of m ty) × (read (width_of m ty) (is_signed ty) n ≡ fit m ty z)
number_in m BoolType z = by_truth (not (is_zero z))
number_in m Char z = by_residue (width_of m Char) (is_signed Char) z
number_in m SChar z = by_residue (width_of m SChar) (is_signed SChar) z
number_in m UChar z = by_residue (width_of m UChar) (is_signed UChar) z
number_in m Short z = by_residue (width_of m Short) (is_signed Short) z
number_in m UShort z = by_residue (width_of m UShort) (is_signed UShort) z
number_in m Int z = by_residue (width_of m Int) (is_signed Int) z
number_in m UInt z = by_residue (width_of m UInt) (is_signed UInt) z
number_in m Long z = by_residue (width_of m Long) (is_signed Long) z
number_in m ULong z = by_residue (width_of m ULong) (is_signed ULong) z
number_in m LongLong z = by_residue (width_of m LongLong) (is_signed LongLong) z
number_in m ULongLong z = by_residue (width_of m ULongLong) (is_signed ULongLong) z

-- ---- inputs
-- the inputs below n are the same
abbrev pub Agree : ℕ → (ℕ → Bool) → (ℕ → Bool) → Type 0
Agree n v u = (k : ℕ) → k < n → u k ≡ v k

abbrev pub with_input : ℕ → Bool → (ℕ → Bool) → ℕ → Bool
with_input j b v k = cond (nat_eq k j) b (v k)

input_there : (j : ℕ) (b : Bool) (v : ℕ → Bool) → with_input j b v j ≡ b
input_there j b v = ap (λ t. cond t b (v j)) (eq-eqb j j refl)

input_below : (j : ℕ) (b : Bool) (v : ℕ → Bool) → Agree j v (with_input j b v)
input_below j b v k h = ap (λ t. cond t b (v k)) (ne_eqb k j (λ e. absurd (omega (arith, e, h))))

pub drawn_agrees : (v u : ℕ → Bool) (k n : ℕ) → Agree (k + n) v u → drawn u k n ≡ drawn v k n
unfolding drawn
drawn_agrees v u k zero h = refl
drawn_agrees v u k (suc n) h = ap₂ (λ x y. x + 2 ^ n * digit y) (drawn_agrees v u k n (λ i q. h i (omega (arith, q)))) (h (k + n) (omega arith))

-- one more digit
one_more : (v r : ℕ → Bool) (k n x y : ℕ) (b : Bool) → Agree k v r → drawn r k n ≡ y → y + 2 ^ n * digit b ≡ x → (u : ℕ → Bool) × Agree k v u × (drawn u k (suc n) ≡ x)
unfolding drawn
one_more v r k n x y b a d e = (
  with_input (k + n) b r,
  (λ i q. input_below (k + n) b r i (omega (arith, q)) ∙ a i q),
  ap₂ (λ s t. s + 2 ^ n * digit t) (drawn_agrees r (with_input (k + n) b r) k n (input_below (k + n) b r) ∙ d) (input_there (k + n) b r) ∙ e,
)

-- by the digits of what is left
more_found : (v : ℕ → Bool) (k n x : ℕ) → x < 2 ^ suc n → ((y : ℕ) → y < 2 ^ n → (u : ℕ → Bool) × Agree k v u × (drawn u k n ≡ y)) → (t : Bool) → nat_lt x (2 ^ n) ≡ t → (u : ℕ → Bool) × Agree k v u × (drawn u k (suc n) ≡ x)
more_found v k n x h next true e =
    let r = next x (ltb-true x (2 ^ n) e) in
    one_more v r.0 k n x x false r.1 r.2 (omega arith)
more_found v k n x h next false e =
    let high : 2 ^ n ≤ x = ltb-false x (2 ^ n) e in
    let r = next (x - 2 ^ n) (omega (arith, h, high, pow-succ' 2 n)) in
    one_more v r.0 k n x (x - 2 ^ n) true r.1 r.2 (omega (arith, high))

pub digits_found : (v : ℕ → Bool) (k n x : ℕ) → x < 2 ^ n → (u : ℕ → Bool) × Agree k v u × (drawn u k n ≡ x)
unfolding drawn
digits_found v k zero x h = (v, (λ i q. refl), omega (arith, h))
digits_found v k (suc n) x h = more_found v k n x h (digits_found v k n) (nat_lt x (2 ^ n)) refl
