-- Shifts in a type: what the digits of the count tell, and what the moved digits stand for.
use Rattle.std.proofs.Common.{◌≡◌, ℕ, suc, ◌+◌, ◌-◌, ◌*◌, ◌/◌, ◌%◌, ◌^◌, ◌<◌, ◌≤◌, ◌⊎◌, inl, inr, Bool, true, false, cond, not, ◌&&◌, ◌||◌, nat_lt, nat_le, nat_eq, pos, negsuc, neg_ℤ, ◌+ℤ◌, ◌-ℤ◌, ◌*ℤ◌, int_lt, int_le, int_div, unsigned_abs, refl, sym, ◌∙◌, ap, arith}
use Rattle.std.specs.Int.{int_rem_euclid}
use Rattle.std.proofs.lemmas.Int.{ints, int_rem_euclid_is}
use Rattle.std.proofs.Math.IntN.{pos-*ℤ-pos}
use Rattle.std.proofs.lemmas.Nat.{pow_pos, mod_below, div-mul-add}
use Rattle.std.proofs.Math.Nat.{mod-eq_of_lt, div-eq_of_lt, div-le_self}
use Rattle.std.proofs.lemmas.Bool.{cases_lt, lt-ltb, le-ltb, ltb-false, eq-eqb, ne_eqb, le-leb}
use Rattle.c_core.specs.Types.{width_of, promote_of, residue, signed_of}
use Rattle.c_core.specs.Operators.{quotient_down}
use Rattle.c_core.specs.declared.number.DataModel.{DataModel}
use Rattle.c_core.specs.declared.number.DataModel.TheVariants.{Ilp32, Lp64}
use Rattle.c_core.specs.declared.number.IntType.{IntType}
use Rattle.c_core.specs.declared.number.IntType.TheVariants.{Bool as BoolType, Char, SChar, UChar, Short, UShort, Int, UInt, Long, ULong, LongLong, ULongLong}
use Rattle.circuits.specs.Numbers.{read, digit}
use Rattle.circuits.specs.Gates.{negative, size}
use Rattle.circuits.proofs.Reading.{residue_is, ranged}
use Rattle.circuits.proofs.Sizes.{signed_number, read_size, signed_mul, signed_div}

pub width_power : (m : DataModel) (ty : IntType) → promote_of ty ≡ ty → (width_of m ty ≡ 32) ⊎ (width_of m ty ≡ 64)
width_power m BoolType p = cc
width_power m Char p = cc
width_power m SChar p = cc
width_power m UChar p = cc
width_power m Short p = cc
width_power m UShort p = cc
width_power m Int p = inl refl
width_power m UInt p = inl refl
width_power Ilp32 Long p = inl refl
width_power Lp64 Long p = inr refl
width_power Ilp32 ULong p = inl refl
width_power Lp64 ULong p = inr refl
width_power m LongLong p = inr refl
width_power m ULongLong p = inr refl

-- a number is below w where its digits from w's on are 0
pub small_div : (n w : ℕ) → 0 < w → nat_lt n w ≡ nat_eq (n / w) 0
small_div n w h = elim (cases_lt n w) as (λ _. nat_lt n w ≡ nat_eq (n / w) 0) [
  | inl l ↦ lt-ltb n w l ∙ sym (eq-eqb (n / w) 0 (div-eq_of_lt l))
  | inr g ↦ le-ltb n w g ∙ sym (ne_eqb (n / w) 0 (λ e. absurd (omega (arith, ap (λ k. w * k) e))))
]

from_zero : (n : ℕ) → nat_le 0 n ≡ true
from_zero n = le-leb 0 n (omega arith)

count_of : (P w n k : ℕ) (t : Bool) → nat_lt n P ≡ t → w ≤ P → 0 < w → (int_le (pos 0) (cond t (pos n) (negsuc k)) && int_lt (cond t (pos n) (negsuc k)) (pos w)) ≡ nat_eq (n / w) 0
count_of P w n k true e h p = ap (λ b. b && nat_lt n w) (from_zero n) ∙ small_div n w p
count_of P w n k false e h p = let le = ltb-false n P e in sym (sym (small_div n w p) ∙ le-ltb n w (omega arith))

pub count_is : (w r n : ℕ) (s : Bool) → 0 < w → w ≤ 2 ^ (r - 1) → (int_le (pos 0) (read r s n) && int_lt (read r s n) (pos w)) ≡ nat_eq (n / w) 0
unfolding signed_of
count_is w r n true p h = count_of (2 ^ (r - 1)) w n (2 ^ r - suc n) (nat_lt n (2 ^ (r - 1))) refl h p
count_is w r n false p h = ap (λ b. b && nat_lt n w) (from_zero n) ∙ small_div n w p

places_of : (P w n k : ℕ) (t : Bool) → nat_lt n P ≡ t → w ≤ P → n < w → unsigned_abs (cond t (pos n) (negsuc k)) ≡ n
places_of P w n k true e h l = refl
places_of P w n k false e h l = let le = ltb-false n P e in absurd (omega arith)

pub places_is : (w r n : ℕ) (s : Bool) → w ≤ 2 ^ (r - 1) → n < w → unsigned_abs (read r s n) ≡ n
unfolding signed_of
places_is w r n true h l = places_of (2 ^ (r - 1)) w n (2 ^ r - suc n) (nat_lt n (2 ^ (r - 1))) refl h l
places_is w r n false h l = refl

-- ---- to the left
left_off : (M m p : ℕ) (t : Bool) → m < M → signed_number t (cond t (M - m) m * p) +ℤ pos (digit t * p * M) ≡ pos (m * p)
unfolding signed_number
left_off M m p true h = let e : (M - m) * p + m * p ≡ M * p = (let f : M - m + m ≡ M = omega arith in omega (arith, ap (λ k. k * p) f)) in omega (arith, ints, e)
left_off M m p false h = omega (arith, ints)

times : (t : Bool) (q p : ℕ) → signed_number t q *ℤ pos p ≡ signed_number t (q * p)
unfolding signed_number
times true q p = signed_mul true false q p
times false q p = signed_mul false false q p

pub left_residue : (w m p : ℕ) (s : Bool) → m < 2 ^ w → residue w (read w s m *ℤ pos p) ≡ (m * p) % 2 ^ w
left_residue w m p s h =
    let t = negative w s m in
    ap (λ x. residue w (x *ℤ pos p)) (read_size w s m h) ∙ ap (residue w) (times t (size w s m) p)
    ∙ residue_is w (signed_number t (size w s m * p)) (digit t * p) (m * p) (left_off (2 ^ w) m p t h)

lost_of : (w m p k : ℕ) (t : Bool) → nat_lt m (2 ^ (w - 1)) ≡ t → (not t || not (nat_eq ((m * p) / 2 ^ (w - 1)) 0)) ≡ (int_lt (cond t (pos m) (negsuc k)) (pos 0) || not (ranged w true (cond t (pos m) (negsuc k) *ℤ pos p)))
lost_of w m p k true e =
    ap not (sym (small_div (m * p) (2 ^ (w - 1)) (pow_pos (w - 1))))
    ∙ sym (ap (λ b. b || not (ranged w true (pos m *ℤ pos p))) (le-ltb m 0 (omega arith)) ∙ ap (λ z. not (ranged w true z)) (pos-*ℤ-pos m p))
lost_of w m p k false e = refl

pub lost_is : (w m p : ℕ) (s : Bool) → (s && (negative w s m || not (nat_eq ((m * p) / 2 ^ (w - 1)) 0))) ≡ (s && (int_lt (read w s m) (pos 0) || not (ranged w s (read w s m *ℤ pos p))))
unfolding signed_of
lost_is w m p true = lost_of w m p (2 ^ w - suc m) (nat_lt m (2 ^ (w - 1))) refl
lost_is w m p false = refl

-- ---- to the right
back_up : (q p r y : ℕ) → 0 < q → p * y + r ≡ q - 1 → r < p → neg_ℤ (pos q) +ℤ pos ((y + 1) * p) ≡ pos (p - 1 - r)
back_up q p r y h e l = omega (arith, ints, e)

take_off : (q p r y : ℕ) → 0 < q → p * y + r ≡ q - 1 → r < p → neg_ℤ (pos q) -ℤ pos (p - 1 - r) ≡ neg_ℤ (pos ((y + 1) * p))
take_off q p r y h e l = omega (arith, ints, e)

multiple : (y p : ℕ) → 0 < p → (y * p) / p ≡ y
multiple y p h = ap (λ k. k / p) (let e : y * p ≡ y * p + 0 = omega arith in e) ∙ div-mul-add y p 0 h

down_below : (q p : ℕ) → 0 < q → 0 < p → quotient_down (signed_number true q) (pos p) ≡ signed_number true ((q - 1) / p + 1)
unfolding signed_number
down_below q p h hp =
    let y = (q - 1) / p in
    let r = (q - 1) % p in
    let l : r < p = mod_below (q - 1) p hp in
    let e : p * y + r ≡ q - 1 = omega arith in
    let rest : int_rem_euclid (neg_ℤ (pos q)) (pos p) ≡ pos (p - 1 - r) =
    int_rem_euclid_is (neg_ℤ (pos q)) (pos p) p (y + 1) (p - 1 - r) hp refl (back_up q p r y h e l) ∙ ap (λ k. pos k) (mod-eq_of_lt (omega arith)) in
    ap (λ z. int_div (neg_ℤ (pos q) -ℤ z) (pos p)) rest ∙ ap (λ z. int_div z (pos p)) (take_off q p r y h e l)
    ∙ signed_div true false ((y + 1) * p) p hp ∙ ap (signed_number true) (multiple (y + 1) p hp)

down_above : (q p : ℕ) → 0 < p → quotient_down (signed_number false q) (pos p) ≡ signed_number false (q / p)
unfolding signed_number
down_above q p hp =
    let e : p * (q / p) + q % p ≡ q = omega arith in
    let rest : int_rem_euclid (pos q) (pos p) ≡ pos (q % p) = int_rem_euclid_is (pos q) (pos p) p 0 q hp refl (omega (arith, ints)) in
    ap (λ z. int_div (pos q -ℤ z) (pos p)) rest ∙ ap (λ z. int_div z (pos p)) (let f : pos q -ℤ pos (q % p) ≡ pos (q / p * p) = omega (arith, ints, e) in f)
    ∙ ap (λ k. pos k) (multiple (q / p) p hp)

below_zero : (M y : ℕ) → y + 1 ≤ M → neg_ℤ (pos (y + 1)) +ℤ pos (1 * M) ≡ pos (M - 1 - y)
below_zero M y h = omega (arith, ints)

right_of : (w m p : ℕ) (t : Bool) → 0 < p → m < 2 ^ w → residue w (quotient_down (signed_number t (cond t (2 ^ w - m) m)) (pos p)) ≡ cond t (2 ^ w - 1 - (2 ^ w - 1 - m) / p) (m / p)
unfolding signed_number
right_of w m p true hp h =
    let M = 2 ^ w in
    let y = (M - 1 - m) / p in
    let le : y ≤ M - 1 - m = div-le_self (M - 1 - m) p in
    ap (residue w) (down_below (M - m) p (omega arith) hp ∙ ap (λ k. signed_number true (k / p + 1)) (let e : M - m - 1 ≡ M - 1 - m = omega arith in e))
    ∙ residue_is w (neg_ℤ (pos (y + 1))) 1 (M - 1 - y) (below_zero M y (omega arith)) ∙ mod-eq_of_lt (omega arith)
right_of w m p false hp h =
    let le : m / p ≤ m = div-le_self m p in
    ap (residue w) (down_above m p hp) ∙ residue_is w (pos (m / p)) 0 (m / p) (omega (arith, ints)) ∙ mod-eq_of_lt (omega arith)

pub right_residue : (w m p : ℕ) (s : Bool) → 0 < p → m < 2 ^ w → residue w (quotient_down (read w s m) (pos p)) ≡ cond (negative w s m) (2 ^ w - 1 - (2 ^ w - 1 - m) / p) (m / p)
right_residue w m p s hp h = ap (λ x. residue w (quotient_down x (pos p))) (read_size w s m h) ∙ right_of w m p (negative w s m) hp h
