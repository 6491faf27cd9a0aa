-- Products and quotients in a type, from what the circuits on lists count.
use Rattle.std.proofs.Common.{◌≡◌, ℕ, ◌+◌, ◌-◌, ◌*◌, ◌%◌, ◌^◌, ◌≤◌, Bool, false, cond, not, ◌&&◌, nat_lt, ◌*ℤ◌, List, length, sym, ◌∙◌, ap, subst, arith, lit≤}
use Rattle.std.proofs.Math.Nat.{pow-succ', pow-zero, mul-le-mul_left}
use Rattle.c_core.specs.Types.{width_of, width_of_long, is_signed, promote_of, in_range, residue}
use Rattle.c_core.specs.Operators.{apply_of}
use Rattle.c_core.specs.declared.number.DataModel.{DataModel}
use Rattle.c_core.specs.declared.number.DataModel.TheVariants.{Ilp32, Lp64}
use Rattle.c_core.specs.declared.number.IntType.{IntType}
use Rattle.c_core.specs.declared.number.IntType.TheVariants.{Bool as BoolType, Char, SChar, UChar, Short, UShort, Int, UInt, Long, ULong, LongLong, ULongLong}
use Rattle.c_core.specs.declared.number.BinOp.TheVariants.{Mul}
use Rattle.circuits.specs.declared.net.Bit.{Bit}
use Rattle.circuits.specs.declared.net.NetNode.{NetNode}
use Rattle.circuits.specs.declared.bits.Outcome.{Outcome}
use Rattle.circuits.specs.Net.{xor, Means, Grown}
use Rattle.circuits.specs.Numbers.{number, digit, typed, AreTyped, Counts}
use Rattle.circuits.specs.Gates.{negative, size}
use Rattle.circuits.specs.Outcome.{Gives}
use Rattle.circuits.proofs.Nets.{grown_then, means_by}
use Rattle.circuits.proofs.Carrying.{counts_lt}
use Rattle.circuits.proofs.Summed.{typed_counts}
use Rattle.circuits.proofs.Sizes.{signed_number, read_size, signed_mul, out_of_range, residue_size}
use Rattle.circuits.proofs.Judged.{gives_judged}

long_large : (m : DataModel) → 32 ≤ width_of_long m
long_large Ilp32 = lit≤ tt
long_large Lp64 = lit≤ tt

pub width_large : (m : DataModel) (ty : IntType) → promote_of ty ≡ ty → 32 ≤ width_of m ty
width_large m BoolType p = cc
width_large m Char p = cc
width_large m SChar p = cc
width_large m UChar p = cc
width_large m Short p = cc
width_large m UShort p = cc
width_large m Int p = lit≤ tt
width_large m UInt p = lit≤ tt
width_large m Long p = long_large m
width_large m ULong p = long_large m
width_large m LongLong p = lit≤ tt
width_large m ULongLong p = lit≤ tt

long_few : (m : DataModel) → width_of_long m ≤ 64
long_few Ilp32 = lit≤ tt
long_few Lp64 = lit≤ tt

pub width_few : (m : DataModel) (ty : IntType) → width_of m ty ≤ 64
width_few m BoolType = lit≤ tt
width_few m Char = lit≤ tt
width_few m SChar = lit≤ tt
width_few m UChar = lit≤ tt
width_few m Short = lit≤ tt
width_few m UShort = lit≤ tt
width_few m Int = lit≤ tt
width_few m UInt = lit≤ tt
width_few m Long = long_few m
width_few m ULong = long_few m
width_few m LongLong = lit≤ tt
width_few m ULongLong = lit≤ tt

square : (w : ℕ) → w ^ 2 ≡ w * w
square w = let z : w ^ 0 ≡ 1 = pow-zero w in let e : w ^ 2 ≡ w * w ^ 1 = pow-succ' w 1 in let f : w ^ 1 ≡ w * w ^ 0 = pow-succ' w 0 in e ∙ ap (λ k. w * k) (f ∙ ap (λ k. w * k) z ∙ (let g : w * 1 ≡ w = omega arith in g))

-- the and-nodes of a product or a quotient of w digits
pub enough : (w k : ℕ) → 32 ≤ w → k ≤ 12 * (w * w) + 66 * w + 8 → k ≤ 32 * w ^ 2
enough w k h le = let l : w * 32 ≤ w * w = mul-le-mul_left w h in omega (arith, square w)

pub four : {a b c d e : List NetNode} {i j k l : ℕ} (n : ℕ) → Grown i a b → Grown j b c → Grown k c d → Grown l d e → i + j + k + l ≤ n → Grown n a e
four {a} {b} {c} {d} {e} {i} {j} {k} {l} n p q r s h = grown_then (i + j + k) l n a d e (grown_then (i + j) k (i + j + k) a c d (grown_then i j (i + j) a b c p q (omega arith)) r (omega arith)) s h

pub widened : {new : List NetNode} {out : List Bit} {i w : ℕ} (old : List NetNode) (a b : List Bit) (s : Bool) → i ≡ w → Counts new out (i + i) (λ v. size i s (number v old a) * size i s (number v old b)) → Counts new out (w + w) (λ v. size w s (number v old a) * size w s (number v old b))
widened {new} {out} {i} {w} old a b s e c = subst (λ (k : ℕ). Counts new out (k + k) (λ v. size k s (number v old a) * size k s (number v old b))) e c

-- a product with its sign and its distance from 0
pub product_gives : {m : DataModel} {ty : IntType} {old new : List NetNode} {o : Outcome} {bits : List Bit} (a b : List Bit)
    → promote_of ty ≡ ty → AreTyped m ty old a → AreTyped m ty old b
    → Means new o.overflow (λ v. is_signed ty && not (nat_lt (size (width_of m ty) (is_signed ty) (number v old a) * size (width_of m ty) (is_signed ty) (number v old b)) (2 ^ (width_of m ty - 1) + digit (xor (negative (width_of m ty) (is_signed ty) (number v old a)) (negative (width_of m ty) (is_signed ty) (number v old b))))))
    → Counts new bits (width_of m ty) (λ v. cond (xor (negative (width_of m ty) (is_signed ty) (number v old a)) (negative (width_of m ty) (is_signed ty) (number v old b)))
    ((2 ^ width_of m ty - size (width_of m ty) (is_signed ty) (number v old a) * size (width_of m ty) (is_signed ty) (number v old b) % 2 ^ width_of m ty) % 2 ^ width_of m ty)
    (size (width_of m ty) (is_signed ty) (number v old a) * size (width_of m ty) (is_signed ty) (number v old b) % 2 ^ width_of m ty))
    → o.value.bits ≡ bits → Means new o.undefined (λ v. false)
    → Gives m ty new o (λ v. apply_of m Mul ty (typed m ty v old a) (typed m ty v old b))
product_gives {m} {ty} {old} {new} {o} {bits} a b p ha hb over value e never =
    let w = width_of m ty in
    let s = is_signed ty in
    let q : (ℕ → Bool) → ℕ = λ v. size w s (number v old a) * size w s (number v old b) in
    let t : (ℕ → Bool) → Bool = λ v. xor (negative w s (number v old a)) (negative w s (number v old b)) in
    let is : (v : ℕ → Bool) → typed m ty v old a *ℤ typed m ty v old b ≡ signed_number (t v) (q v) = λ v.
    ap (λ x. x *ℤ typed m ty v old b) (read_size w s (number v old a) (counts_lt (typed_counts ha) v))
    ∙ ap (λ y. signed_number (negative w s (number v old a)) (size w s (number v old a)) *ℤ y) (read_size w s (number v old b) (counts_lt (typed_counts hb) v))
    ∙ signed_mul (negative w s (number v old a)) (negative w s (number v old b)) (size w s (number v old a)) (size w s (number v old b)) in
    gives_judged (λ v. not (in_range m ty (typed m ty v old a *ℤ typed m ty v old b))) (λ v. typed m ty v old a *ℤ typed m ty v old b) p
    (record { inside = rw e value.inside; wide = ap length e ∙ value.wide })
    (λ v. ap (number v new) e ∙ value.is v ∙ sym (residue_size w (t v) (q v)) ∙ ap (λ z. residue w z) (sym (is v)))
    (means_by _ _ _ _ over (λ v. sym (out_of_range w s (t v) (q v)) ∙ ap (λ z. s && not (in_range m ty z)) (sym (is v))))
    never
