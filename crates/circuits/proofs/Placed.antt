-- Shifts in a type, from what the circuits on lists count.
use Rattle.std.proofs.Common.{◌≡◌, ℕ, ◌+◌, ◌-◌, ◌*◌, ◌/◌, ◌%◌, ◌^◌, ◌<◌, ◌≤◌, inl, inr, Bool, true, false, cond, not, ◌&&◌, ◌||◌, nat_eq, ℤ, pos, ◌*ℤ◌, int_lt, unsigned_abs, List, length, take, refl, sym, ◌∙◌, ap, arith}
use Rattle.std.proofs.lemmas.Nat.{pow_pos}
use Rattle.std.proofs.lemmas.Bool.{ltb-true}
use Rattle.c_core.specs.Types.{width_of, is_signed, promote_of, in_range, residue, fit}
use Rattle.c_core.specs.Operators.{apply_of, judged, quotient_down, power}
use Rattle.c_core.specs.declared.number.DataModel.{DataModel}
use Rattle.c_core.specs.declared.number.IntType.{IntType}
use Rattle.c_core.specs.declared.number.BinOp.TheVariants.{Shl, Shr}
use Rattle.c_core.specs.declared.number.Done.{Done}
use Rattle.c_core.specs.declared.number.Done.TheVariants.{Value, Undefined}
use Rattle.circuits.specs.declared.net.Bit.{Bit}
use Rattle.circuits.specs.declared.net.NetNode.{NetNode}
use Rattle.circuits.specs.declared.bits.Outcome.{Outcome}
use Rattle.circuits.specs.Net.{holds, Means}
use Rattle.circuits.specs.Numbers.{number, typed, read, AreTyped, Counts}
use Rattle.circuits.specs.Gates.{negative}
use Rattle.circuits.specs.Outcome.{Gives}
use Rattle.circuits.proofs.Nets.{means_by}
use Rattle.circuits.proofs.Carrying.{counts_lt}
use Rattle.circuits.proofs.Summed.{typed_counts, width_pos}
use Rattle.circuits.proofs.Multiplied.{width_few}
use Rattle.circuits.proofs.Reading.{ranged}
use Rattle.circuits.proofs.Judged.{gives_partial, gives_same, judged_never}
use Rattle.std.proofs.Math.Nat.{mul-le-mul_left, mod-eq_of_lt}
use Rattle.circuits.specs.Net.{Grown}
use Rattle.circuits.specs.Numbers.{AreIn}
use Rattle.circuits.proofs.Counting.{number_stays}
use Rattle.circuits.proofs.Carrying.{number_low}
use Rattle.circuits.proofs.Moved.{width_power, small_div, count_is, places_is, left_residue, lost_is, right_residue}

pub room_for : (m : DataModel) (ty right : IntType) → promote_of right ≡ right → width_of m ty ≤ 2 ^ (width_of m right - 1)
room_for m ty right p = elim (width_power m right p) as (λ _. width_of m ty ≤ 2 ^ (width_of m right - 1)) [
  | inl e ↦ let f : 2 ^ (width_of m right - 1) ≡ 2 ^ 31 = ap (λ k. 2 ^ (k - 1)) e in omega (arith, width_few m ty)
  | inr e ↦ let f : 2 ^ (width_of m right - 1) ≡ 2 ^ 63 = ap (λ k. 2 ^ (k - 1)) e in omega (arith, width_few m ty)
]

from_not : (b : Bool) → not b ≡ false → b ≡ true
from_not true e = refl
from_not false e = cc

flipped : (z : Bool) (d : Done) → cond (not z) Undefined d ≡ cond z d Undefined
flipped true d = refl
flipped false d = refl

-- a count that is a place tells itself
place : (w r n : ℕ) (s : Bool) → 0 < w → w ≤ 2 ^ (r - 1) → nat_eq (n / w) 0 ≡ true → unsigned_abs (read r s n) ≡ n
place w r n s p h e = places_is w r n s h (ltb-true n w (small_div n w p ∙ e))

lost_at : (w r m n c : ℕ) (s t : Bool) → 0 < w → w ≤ 2 ^ (r - 1) → (nat_eq (n / w) 0 ≡ true → c ≡ n) → (z : Bool) → nat_eq (n / w) 0 ≡ z
    → (not (not z) && (s && (negative w s m || not (nat_eq ((m * 2 ^ c) / 2 ^ (w - 1)) 0)))) ≡ (not (not z) && (s && (int_lt (read w s m) (pos 0) || not (ranged w s (read w s m *ℤ pos (2 ^ unsigned_abs (read r t n)))))))
lost_at w r m n c s t p h same false e = refl
lost_at w r m n c s t p h same true e =
    ap (λ k. s && (negative w s m || not (nat_eq ((m * 2 ^ k) / 2 ^ (w - 1)) 0))) (same e) ∙ lost_is w m (2 ^ n) s
    ∙ ap (λ k. s && (int_lt (read w s m) (pos 0) || not (ranged w s (read w s m *ℤ pos (2 ^ k))))) (sym (place w r n t p h e))

pub shift_left_gives : {m : DataModel} {ty right : IntType} {old new : List NetNode} {o : Outcome} {bits : List Bit} (a b : List Bit) (c : (ℕ → Bool) → ℕ)
    → promote_of ty ≡ ty → promote_of right ≡ right → AreTyped m ty old a → AreTyped m right old b
    → ((v : ℕ → Bool) → nat_eq (number v old b / width_of m ty) 0 ≡ true → c v ≡ number v old b)
    → Means new o.overflow (λ v. not (not (nat_eq (number v old b / width_of m ty) 0)) && (is_signed ty && (negative (width_of m ty) (is_signed ty) (number v old a) || not (nat_eq ((number v old a * 2 ^ c v) / 2 ^ (width_of m ty - 1)) 0))))
    → Means new o.undefined (λ v. not (nat_eq (number v old b / width_of m ty) 0))
    → Counts new bits (width_of m ty) (λ v. (number v old a * 2 ^ c v) % 2 ^ width_of m ty) → o.value.bits ≡ bits
    → Gives m ty new o (λ v. apply_of m Shl ty (typed m ty v old a) (typed m right v old b))
shift_left_gives {m} {ty} {right} {old} {new} {o} {bits} a b c p pr ha hb same over undef value e =
    let w = width_of m ty in
    let s = is_signed ty in
    let h = room_for m ty right pr in
    let some = width_pos m ty in
    let over_of : (ℕ → Bool) → Bool = λ v. int_lt (typed m ty v old a) (pos 0) || not (in_range m ty (typed m ty v old a *ℤ power (typed m right v old b))) in
    let result : (ℕ → Bool) → ℤ = λ v. typed m ty v old a *ℤ power (typed m right v old b) in
    gives_same
    (gives_partial {u = λ v. not (nat_eq (number v old b / w) 0)} over_of result p
    (record { inside = rw e value.inside; wide = ap length e ∙ value.wide })
    (λ v z. let y = from_not (nat_eq (number v old b / w) 0) z in
    ap (number v new) e ∙ value.is v ∙ ap (λ k. (number v old a * 2 ^ k) % 2 ^ w) (same v y)
    ∙ sym (left_residue w (number v old a) (2 ^ number v old b) s (counts_lt (typed_counts ha) v))
    ∙ ap (λ k. residue w (typed m ty v old a *ℤ pos (2 ^ k))) (sym (place w (width_of m right) (number v old b) (is_signed right) some h y)))
    (means_by _ _ _ _ over (λ v. lost_at w (width_of m right) (number v old a) (number v old b) (c v) s (is_signed right) some h (same v) (nat_eq (number v old b / w) 0) refl))
    undef)
    (λ v. flipped (nat_eq (number v old b / w) 0) (judged m ty (over_of v) (result v))
    ∙ ap (λ t. cond t (judged m ty (over_of v) (result v)) Undefined) (sym (count_is w (width_of m right) (number v old b) (is_signed right) some h)))

and_never : (a b : Bool) → false ≡ (a && (b && false))
and_never true true = refl
and_never true false = refl
and_never false b = refl

turned_back : (t : Bool) (M m p : ℕ) → cond t (M - 1 - cond t (M - 1 - m) m / p) (cond t (M - 1 - m) m / p) ≡ cond t (M - 1 - (M - 1 - m) / p) (m / p)
turned_back true M m p = refl
turned_back false M m p = refl

pub shift_right_gives : {m : DataModel} {ty right : IntType} {old new : List NetNode} {o : Outcome} {bits : List Bit} (a b : List Bit) (c : (ℕ → Bool) → ℕ)
    → promote_of ty ≡ ty → promote_of right ≡ right → AreTyped m ty old a → AreTyped m right old b
    → ((v : ℕ → Bool) → nat_eq (number v old b / width_of m ty) 0 ≡ true → c v ≡ number v old b)
    → Means new o.overflow (λ v. false)
    → Means new o.undefined (λ v. not (nat_eq (number v old b / width_of m ty) 0))
    → Counts new bits (width_of m ty) (λ v. cond (negative (width_of m ty) (is_signed ty) (number v old a))
    (2 ^ width_of m ty - 1 - cond (negative (width_of m ty) (is_signed ty) (number v old a)) (2 ^ width_of m ty - 1 - number v old a) (number v old a) / 2 ^ c v)
    (cond (negative (width_of m ty) (is_signed ty) (number v old a)) (2 ^ width_of m ty - 1 - number v old a) (number v old a) / 2 ^ c v)) → o.value.bits ≡ bits
    → Gives m ty new o (λ v. apply_of m Shr ty (typed m ty v old a) (typed m right v old b))
shift_right_gives {m} {ty} {right} {old} {new} {o} {bits} a b c p pr ha hb same over undef value e =
    let w = width_of m ty in
    let s = is_signed ty in
    let h = room_for m ty right pr in
    let some = width_pos m ty in
    let result : (ℕ → Bool) → ℤ = λ v. quotient_down (typed m ty v old a) (power (typed m right v old b)) in
    gives_same
    (gives_partial {u = λ v. not (nat_eq (number v old b / w) 0)} (λ v. false) result p
    (record { inside = rw e value.inside; wide = ap length e ∙ value.wide })
    (λ v z. let y = from_not (nat_eq (number v old b / w) 0) z in
    ap (number v new) e ∙ value.is v ∙ turned_back (negative w s (number v old a)) (2 ^ w) (number v old a) (2 ^ c v)
    ∙ sym (right_residue w (number v old a) (2 ^ c v) s (pow_pos (c v)) (counts_lt (typed_counts ha) v))
    ∙ ap (λ k. residue w (quotient_down (typed m ty v old a) (pos (2 ^ k)))) (same v y ∙ sym (place w (width_of m right) (number v old b) (is_signed right) some h y)))
    (means_by _ _ _ _ over (λ v. and_never (not (not (nat_eq (number v old b / w) 0))) s))
    undef)
    (λ v. ap (λ d. cond (not (nat_eq (number v old b / w) 0)) Undefined d) (judged_never m ty (result v))
    ∙ flipped (nat_eq (number v old b / w) 0) (Value (fit m ty (result v)))
    ∙ ap (λ t. cond t (Value (fit m ty (result v))) Undefined) (sym (count_is w (width_of m right) (number v old b) (is_signed right) some h)))

pub left_cost : (j w tail n : ℕ) → j ≤ 6 → 32 ≤ w → tail ≤ 64 → n ≤ tail + j * (3 * (w + w)) + w + 3 → n ≤ 64 * w
left_cost j w tail n h hw ht l = let m : (3 * (w + w)) * j ≤ (3 * (w + w)) * 6 = mul-le-mul_left (3 * (w + w)) h in omega arith

pub loses_of : {old mid new : List NetNode} {lost : Bit} {most n w : ℕ} {seen moved : List Bit} {f : (ℕ → Bool) → ℕ} (a : List Bit) (s : Bool) → Grown most old mid → AreIn old a → length a ≡ w → seen ≡ moved → Counts mid moved n f
    → Means new lost (λ v. s && (negative (length a) s (number v mid a) || not (nat_eq (number v mid seen / 2 ^ (length a - 1)) 0))) → Means new lost (λ v. s && (negative w s (number v old a) || not (nat_eq (f v / 2 ^ (w - 1)) 0)))
loses_of {old} {mid} {new} {lost} {most} {n} {w} {seen} {moved} {f} a s g ha ew es c m = means_by _ _ _ _ m (λ v.
    ap (λ k. s && (negative k s (number v mid a) || not (nat_eq (number v mid seen / 2 ^ (k - 1)) 0))) ew
    ∙ ap (λ k. s && (negative w s k || not (nat_eq (number v mid seen / 2 ^ (w - 1)) 0))) (number_stays v most old mid a g ha)
    ∙ ap (λ k. s && (negative w s (number v old a) || not (nat_eq (k / 2 ^ (w - 1)) 0))) (ap (number v mid) es ∙ c.is v))

pub low_same : (v : ℕ → Bool) (net : List NetNode) (b : List Bit) (k w : ℕ) → k ≤ length b → 2 ^ k ≡ w → 0 < w → nat_eq (number v net b / w) 0 ≡ true → number v net (take k b) ≡ number v net b
low_same v net b k w h e p z = let lt : number v net b < w = ltb-true (number v net b) w (small_div (number v net b) w p ∙ z) in number_low v net b k h ∙ mod-eq_of_lt (omega arith)

pub right_cost : (j w tail n : ℕ) → j ≤ 6 → 32 ≤ w → tail ≤ 64 → n ≤ tail + 3 * w + j * (3 * w) + 3 * w → n ≤ 64 * w
right_cost j w tail n h hw ht l = let m : (3 * w) * j ≤ (3 * w) * 6 = mul-le-mul_left (3 * w) h in omega arith

pub complemented_of : {old new : List NetNode} {out xs : List Bit} {t : Bit} {w : ℕ} {f : (ℕ → Bool) → Bool} {g : (ℕ → Bool) → ℕ}
    → Counts new out (length xs) (λ v. cond (holds v old t) (2 ^ length xs - 1 - number v old xs) (number v old xs)) → Means old t f → Counts old xs w g
    → Counts new out w (λ v. cond (f v) (2 ^ w - 1 - g v) (g v))
complemented_of {old} {new} {out} {xs} {t} {w} {f} {g} c m d = record {
  inside = c.inside;
  wide = c.wide ∙ d.wide;
  is = λ v.
      c.is v ∙ ap (λ k. cond (holds v old t) (2 ^ k - 1 - number v old xs) (number v old xs)) d.wide
      ∙ ap (λ b. cond b (2 ^ w - 1 - number v old xs) (number v old xs)) (m.is v) ∙ ap (λ n. cond (f v) (2 ^ w - 1 - n) n) (d.is v);
}

pub lowered_of : {old mid new : List NetNode} {out xs : List Bit} {most w : ℕ} {f : (ℕ → Bool) → ℕ} (ts : List Bit) → Grown most old mid → AreIn old ts → Counts mid xs w f
    → Counts new out (length xs) (λ v. number v mid xs / 2 ^ number v mid ts) → Counts new out w (λ v. f v / 2 ^ number v old ts)
lowered_of {old} {mid} {new} {out} {xs} {most} {w} {f} ts g h d c = record {
  inside = c.inside;
  wide = c.wide ∙ d.wide;
  is = λ v. c.is v ∙ ap (λ n. n / 2 ^ number v mid ts) (d.is v) ∙ ap (λ n. f v / 2 ^ n) (number_stays v most old mid ts g h);
}
