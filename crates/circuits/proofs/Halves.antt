-- Quotients and remainders in a type, from the distances from 0.
use Rattle.std.proofs.Common.{◌≡◌, ℕ, ◌+◌, ◌-◌, ◌/◌, ◌%◌, ◌^◌, ◌<◌, Bool, true, false, cond, not, ◌&&◌, nat_lt, nat_eq, pos, negsuc, int_div, int_rem, List, length, refl, sym, ◌∙◌, ap, arith, suc}
use Rattle.std.proofs.lemmas.Nat.{pow_pos}
use Rattle.std.proofs.Math.Nat.{mod-eq_of_lt}
use Rattle.std.proofs.lemmas.Bool.{ltb-false, eqb-false, ne_eqb}
use Rattle.c_core.specs.Types.{width_of, is_signed, promote_of, in_range, residue, signed_of, is_zero}
use Rattle.c_core.specs.Operators.{apply_of, judged}
use Rattle.c_core.specs.declared.number.DataModel.{DataModel}
use Rattle.c_core.specs.declared.number.IntType.{IntType}
use Rattle.c_core.specs.declared.number.BinOp.TheVariants.{Div, Rem}
use Rattle.c_core.specs.declared.number.Done.TheVariants.{Undefined}
use Rattle.circuits.specs.declared.net.Bit.{Bit}
use Rattle.circuits.specs.declared.net.NetNode.{NetNode}
use Rattle.circuits.specs.declared.bits.Outcome.{Outcome}
use Rattle.circuits.specs.declared.quotients.Division.{Division}
use Rattle.circuits.specs.Net.{xor, Means}
use Rattle.circuits.specs.Numbers.{number, digit, typed, read, AreTyped}
use Rattle.circuits.specs.Gates.{negative, size}
use Rattle.circuits.specs.Division.{Divides, IsDivision}
use Rattle.circuits.specs.Outcome.{Gives}
use Rattle.circuits.proofs.Nets.{means_by}
use Rattle.circuits.proofs.Carrying.{counts_lt}
use Rattle.circuits.proofs.Summed.{typed_counts}
use Rattle.circuits.proofs.Reading.{ranged}
use Rattle.circuits.proofs.Sizes.{signed_number, read_size, signed_div, signed_rem, out_of_range, residue_size}
use Rattle.circuits.proofs.Judged.{gives_partial, gives_same}

zero_of : (P M n : ℕ) (t : Bool) → nat_lt n P ≡ t → 0 < P → is_zero (cond t (pos n) (negsuc (M - suc n))) ≡ nat_eq n 0
zero_of P M n true e h = refl
zero_of P M n false e h = let le = ltb-false n P e in sym (ne_eqb n 0 (λ q. absurd (omega arith)))

pub zero_read : (w : ℕ) (s : Bool) (n : ℕ) → is_zero (read w s n) ≡ nat_eq n 0
unfolding signed_of
zero_read w true n = zero_of (2 ^ (w - 1)) (2 ^ w) n (nat_lt n (2 ^ (w - 1))) refl (pow_pos (w - 1))
zero_read w false n = refl

positive_of : (M n : ℕ) (t : Bool) → n < M → 0 < n → 0 < cond t (M - n) n
positive_of M n true h p = omega arith
positive_of M n false h p = p

above_zero : (n : ℕ) → nat_eq n 0 ≡ false → 0 < n
above_zero n e = let d = eqb-false n 0 e in omega arith

pub size_pos : (w : ℕ) (s : Bool) (n : ℕ) → n < 2 ^ w → nat_eq n 0 ≡ false → 0 < size w s n
size_pos w s n h e = positive_of (2 ^ w) n (negative w s n) h (above_zero n e)

pub division_is : (w : ℕ) (s : Bool) (m n : ℕ) → m < 2 ^ w → n < 2 ^ w → nat_eq n 0 ≡ false → int_div (read w s m) (read w s n) ≡ signed_number (xor (negative w s m) (negative w s n)) (size w s m / size w s n)
division_is w s m n hm hn e =
    ap (λ x. int_div x (read w s n)) (read_size w s m hm) ∙ ap (λ y. int_div (signed_number (negative w s m) (size w s m)) y) (read_size w s n hn)
    ∙ signed_div (negative w s m) (negative w s n) (size w s m) (size w s n) (size_pos w s n hn e)

pub remainder_is : (w : ℕ) (s : Bool) (m n : ℕ) → m < 2 ^ w → n < 2 ^ w → nat_eq n 0 ≡ false → int_rem (read w s m) (read w s n) ≡ signed_number (negative w s m) (size w s m % size w s n)
remainder_is w s m n hm hn e =
    ap (λ x. int_rem x (read w s n)) (read_size w s m hm) ∙ ap (λ y. int_rem (signed_number (negative w s m) (size w s m)) y) (read_size w s n hn)
    ∙ signed_rem (negative w s m) (negative w s n) (size w s m) (size w s n) (size_pos w s n hn e)

over_at : (w : ℕ) (s : Bool) (m n q : ℕ) → m < 2 ^ w → n < 2 ^ w → (nat_eq n 0 ≡ false → q ≡ size w s m / size w s n) → (z : Bool) → nat_eq n 0 ≡ z
    → (not z && (s && not (nat_lt q (2 ^ (w - 1) + digit (xor (negative w s m) (negative w s n)))))) ≡ (not z && (s && not (ranged w s (int_div (read w s m) (read w s n)))))
over_at w s m n q hm hn h true e = refl
over_at w s m n q hm hn h false e =
    ap (λ k. s && not (nat_lt k (2 ^ (w - 1) + digit (xor (negative w s m) (negative w s n))))) (h e)
    ∙ sym (out_of_range w s (xor (negative w s m) (negative w s n)) (size w s m / size w s n))
    ∙ ap (λ z. s && not (ranged w s z)) (sym (division_is w s m n hm hn e))

pub signed_residue : (w : ℕ) (t : Bool) (q : ℕ) → q < 2 ^ w → cond t ((2 ^ w - q) % 2 ^ w) q ≡ residue w (signed_number t q)
signed_residue w t q h = sym (residue_size w t q ∙ ap (λ k. cond t ((2 ^ w - k) % 2 ^ w) k) (mod-eq_of_lt h))

-- the overflow bit of both operators
pub division_over : {m : DataModel} {ty : IntType} {old mid new : List NetNode} {quotient rest : List Bit} {r : Bit} (a b : List Bit) → AreTyped m ty old a → AreTyped m ty old b
    → Divides mid (width_of m ty) (width_of m ty) (λ v. size (width_of m ty) (is_signed ty) (number v old a)) (λ v. size (width_of m ty) (is_signed ty) (number v old b)) quotient rest
    → Means new r (λ v. not (nat_eq (number v old b) 0) && (is_signed ty && not (nat_lt (number v mid quotient) (2 ^ (width_of m ty - 1) + digit (xor (negative (width_of m ty) (is_signed ty) (number v old a)) (negative (width_of m ty) (is_signed ty) (number v old b)))))))
    → Means new r (λ v. not (nat_eq (number v old b) 0) && (is_signed ty && not (in_range m ty (int_div (typed m ty v old a) (typed m ty v old b)))))
division_over {m} {ty} {old} {mid} {new} {quotient} {rest} {r} a b ha hb d over =
    let w = width_of m ty in
    let s = is_signed ty in
    let lb : (v : ℕ → Bool) → number v old b < 2 ^ w = counts_lt (typed_counts hb) in
    means_by _ _ _ _ over (λ v. over_at w s (number v old a) (number v old b) (number v mid quotient) (counts_lt (typed_counts ha) v) (lb v)
    (λ e. d.quotient_is v (size_pos w s (number v old b) (lb v) e)) (nat_eq (number v old b) 0) refl)

pub quotient_gives : {m : DataModel} {ty : IntType} {old new : List NetNode} {d : Division} {o : Outcome} (a b : List Bit)
    → promote_of ty ≡ ty → IsDivision m ty old new a b d
    → Means new o.overflow (λ v. not (nat_eq (number v old b) 0) && (is_signed ty && not (in_range m ty (int_div (typed m ty v old a) (typed m ty v old b)))))
    → Means new o.undefined (λ v. nat_eq (number v old b) 0)
    → o.value.bits ≡ d.quotient.items
    → Gives m ty new o (λ v. apply_of m Div ty (typed m ty v old a) (typed m ty v old b))
quotient_gives {m} {ty} {old} {new} {d} {o} a b p k over undef e =
    gives_same
    (gives_partial {u = λ v. nat_eq (number v old b) 0} (λ v. not (in_range m ty (int_div (typed m ty v old a) (typed m ty v old b)))) (λ v. int_div (typed m ty v old a) (typed m ty v old b)) p
    (record { inside = rw e k.quotient_in.inside; wide = ap length e ∙ k.quotient_in.wide })
    (λ v z. ap (number v new) e ∙ k.quotient_is v z)
    over undef)
    (λ v. ap (λ z. cond z Undefined (judged m ty (not (in_range m ty (int_div (typed m ty v old a) (typed m ty v old b)))) (int_div (typed m ty v old a) (typed m ty v old b)))) (sym (zero_read (width_of m ty) (is_signed ty) (number v old b))))

pub remainder_gives : {m : DataModel} {ty : IntType} {old new : List NetNode} {d : Division} {o : Outcome} (a b : List Bit)
    → promote_of ty ≡ ty → IsDivision m ty old new a b d
    → Means new o.overflow (λ v. not (nat_eq (number v old b) 0) && (is_signed ty && not (in_range m ty (int_div (typed m ty v old a) (typed m ty v old b)))))
    → Means new o.undefined (λ v. nat_eq (number v old b) 0)
    → o.value.bits ≡ d.rest.items
    → Gives m ty new o (λ v. apply_of m Rem ty (typed m ty v old a) (typed m ty v old b))
remainder_gives {m} {ty} {old} {new} {d} {o} a b p k over undef e =
    gives_same
    (gives_partial {u = λ v. nat_eq (number v old b) 0} (λ v. not (in_range m ty (int_div (typed m ty v old a) (typed m ty v old b)))) (λ v. int_rem (typed m ty v old a) (typed m ty v old b)) p
    (record { inside = rw e k.rest_in.inside; wide = ap length e ∙ k.rest_in.wide })
    (λ v z. ap (number v new) e ∙ k.rest_is v z)
    over undef)
    (λ v. ap (λ z. cond z Undefined (judged m ty (not (in_range m ty (int_div (typed m ty v old a) (typed m ty v old b)))) (int_rem (typed m ty v old a) (typed m ty v old b)))) (sym (zero_read (width_of m ty) (is_signed ty) (number v old b))))

-- twice negated
pub twice : {net : List NetNode} {r : Bit} {f : (ℕ → Bool) → Bool} → Means net r (λ v. not (not (f v))) → Means net r f
twice {net} {r} {f} m = record { inside = m.inside; is = λ v. m.is v ∙ back (f v) }
  where
    back : (b : Bool) → not (not b) ≡ b
    back true = refl
    back false = refl
