-- Sums, differences and comparisons in a type, from what the circuits on lists count.
use Rattle.std.proofs.Common.{◌≡◌, ℕ, ◌+◌, ◌-◌, ◌%◌, ◌^◌, ◌<◌, Bool, false, cond, not, ◌&&◌, nat_eq, nat_lt, bit_xor, ◌+ℤ◌, ◌-ℤ◌, int_lt, List, take, get_or, refl, sym, ◌∙◌, ap, arith, lit<}
use Rattle.std.specs.Ordering.{int_eq}
use Rattle.c_core.specs.Types.{width_of, width_of_long, is_signed, promote_of, in_range}
use Rattle.c_core.specs.Operators.{apply_of}
use Rattle.c_core.specs.declared.number.DataModel.{DataModel}
use Rattle.c_core.specs.declared.number.DataModel.TheVariants.{Ilp32, Lp64}
use Rattle.c_core.specs.declared.number.IntType.{IntType}
use Rattle.c_core.specs.declared.number.IntType.TheVariants.{Bool as BoolType, Char, SChar, UChar, Short, UShort, Int, UInt, Long, ULong, LongLong, ULongLong}
use Rattle.c_core.specs.declared.number.BinOp.TheVariants.{Add, Sub}
use Rattle.circuits.specs.declared.net.Bit.{Bit}
use Rattle.circuits.specs.declared.net.NetNode.{NetNode}
use Rattle.circuits.specs.declared.bits.Outcome.{Outcome}
use Rattle.circuits.specs.Net.{holds, xor, Means, Grown}
use Rattle.circuits.specs.Numbers.{number, typed, AreTyped, Counts}
use Rattle.circuits.specs.Outcome.{Gives}
use Rattle.circuits.specs.Gates.{negative}
use Rattle.circuits.proofs.Nets.{means_by}
use Rattle.circuits.proofs.Counting.{counts_later}
use Rattle.circuits.proofs.Carrying.{counts_same, counts_lt, low_counts, top_counts}
use Rattle.circuits.proofs.Reading.{sum_turned, difference_turned, residue_sum, residue_difference, read_below, read_equal}
use Rattle.circuits.proofs.Judged.{gives_judged}
use Rattle.std.proofs.lemmas.Nat.{mod_below, pow_pos}

long_pos : (m : DataModel) → 0 < width_of_long m
long_pos Ilp32 = lit< tt
long_pos Lp64 = lit< tt

pub width_pos : (m : DataModel) (ty : IntType) → 0 < width_of m ty
width_pos m BoolType = lit< tt
width_pos m Char = lit< tt
width_pos m SChar = lit< tt
width_pos m UChar = lit< tt
width_pos m Short = lit< tt
width_pos m UShort = lit< tt
width_pos m Int = lit< tt
width_pos m UInt = lit< tt
width_pos m Long = long_pos m
width_pos m ULong = long_pos m
width_pos m LongLong = lit< tt
width_pos m ULongLong = lit< tt

pub typed_counts : {m : DataModel} {ty : IntType} {net : List NetNode} {xs : List Bit} → AreTyped m ty net xs → Counts net xs (width_of m ty) (λ v. number v net xs)
typed_counts {m} {ty} {net} {xs} a = record { inside = a.inside; wide = a.wide; is = λ v. refl }

zeroth : Bit
zeroth = record { node = 0; negated = false }

pub sum_gives : {m : DataModel} {ty : IntType} {old mid new : List NetNode} {k : ℕ} {full : List Bit} {o : Outcome} (a b : List Bit)
    → promote_of ty ≡ ty → AreTyped m ty old a → AreTyped m ty old b → Grown k mid new
    → Counts mid full (width_of m ty + 1) (λ v. number v old a + number v old b)
    → Means new o.overflow (λ v. not (xor (negative (width_of m ty) (is_signed ty) (number v old a)) (negative (width_of m ty) (is_signed ty) (number v old b))) && xor (negative (width_of m ty) (is_signed ty) (number v old a)) (negative (width_of m ty) (is_signed ty) ((number v old a + number v old b) % 2 ^ width_of m ty)))
    → o.value.bits ≡ take (width_of m ty) full → Means new o.undefined (λ v. false)
    → Gives m ty new o (λ v. apply_of m Add ty (typed m ty v old a) (typed m ty v old b))
sum_gives {m} {ty} {old} {mid} {new} {k} {full} {o} a b p ha hb g c turned bits never =
    let w = width_of m ty in
    let la : (v : ℕ → Bool) → number v old a < 2 ^ w = counts_lt (typed_counts ha) in
    let lb : (v : ℕ → Bool) → number v old b < 2 ^ w = counts_lt (typed_counts hb) in
    let low = counts_same bits (counts_later g (low_counts w (omega arith) c)) in
    gives_judged (λ v. not (in_range m ty (typed m ty v old a +ℤ typed m ty v old b))) (λ v. typed m ty v old a +ℤ typed m ty v old b) p
    (record { inside = low.inside; wide = low.wide })
    (λ v. low.is v ∙ sym (residue_sum w (is_signed ty) (number v old a) (number v old b) (la v) (lb v)))
    (means_by _ _ _ _ turned (λ v. sum_turned w (is_signed ty) (number v old a) (number v old b) ((number v old a + number v old b) % 2 ^ w) (holds v mid (get_or full w zeroth)) (width_pos m ty) (la v) (lb v) (mod_below _ _ (pow_pos w)) (top_counts w zeroth c v)))
    never

pub difference_gives : {m : DataModel} {ty : IntType} {old mid new : List NetNode} {k : ℕ} {full : List Bit} {o : Outcome} (a b : List Bit)
    → promote_of ty ≡ ty → AreTyped m ty old a → AreTyped m ty old b → Grown k mid new
    → Counts mid full (width_of m ty + 1) (λ v. number v old a + (2 ^ width_of m ty - number v old b))
    → Means new o.overflow (λ v. not (xor (negative (width_of m ty) (is_signed ty) (number v old a)) (not (negative (width_of m ty) (is_signed ty) (number v old b)))) && xor (negative (width_of m ty) (is_signed ty) (number v old a)) (negative (width_of m ty) (is_signed ty) ((number v old a + (2 ^ width_of m ty - number v old b)) % 2 ^ width_of m ty)))
    → o.value.bits ≡ take (width_of m ty) full → Means new o.undefined (λ v. false)
    → Gives m ty new o (λ v. apply_of m Sub ty (typed m ty v old a) (typed m ty v old b))
difference_gives {m} {ty} {old} {mid} {new} {k} {full} {o} a b p ha hb g c turned bits never =
    let w = width_of m ty in
    let la : (v : ℕ → Bool) → number v old a < 2 ^ w = counts_lt (typed_counts ha) in
    let lb : (v : ℕ → Bool) → number v old b < 2 ^ w = counts_lt (typed_counts hb) in
    let low = counts_same bits (counts_later g (low_counts w (omega arith) c)) in
    gives_judged (λ v. not (in_range m ty (typed m ty v old a -ℤ typed m ty v old b))) (λ v. typed m ty v old a -ℤ typed m ty v old b) p
    (record { inside = low.inside; wide = low.wide })
    (λ v. low.is v ∙ sym (residue_difference w (is_signed ty) (number v old a) (number v old b) (la v) (lb v)))
    (means_by _ _ _ _ turned (λ v. difference_turned w (is_signed ty) (number v old a) (number v old b) ((number v old a + (2 ^ w - number v old b)) % 2 ^ w) (holds v mid (get_or full w zeroth)) (width_pos m ty) (la v) (lb v) (mod_below _ _ (pow_pos w)) (top_counts w zeroth c v)))
    never

pub below_means : {m : DataModel} {ty : IntType} {old new : List NetNode} {r : Bit} (a b : List Bit)
    → AreTyped m ty old a → AreTyped m ty old b
    → Means new r (λ v. cond (xor (negative (width_of m ty) (is_signed ty) (number v old a)) (negative (width_of m ty) (is_signed ty) (number v old b))) (negative (width_of m ty) (is_signed ty) (number v old a)) (nat_lt (number v old a) (number v old b)))
    → Means new r (λ v. int_lt (typed m ty v old a) (typed m ty v old b))
below_means {m} {ty} {old} {new} {r} a b ha hb means =
    means_by _ _ _ _ means (λ v. read_below (width_of m ty) (is_signed ty) (number v old a) (number v old b) (width_pos m ty) (counts_lt (typed_counts ha) v) (counts_lt (typed_counts hb) v))

pub differ_means : {m : DataModel} {ty : IntType} {old new : List NetNode} {r : Bit} (a b : List Bit)
    → AreTyped m ty old a → AreTyped m ty old b
    → Means new r (λ v. not (nat_eq (bit_xor (number v old a) (number v old b)) 0))
    → Means new r (λ v. not (int_eq (typed m ty v old a) (typed m ty v old b)))
differ_means {m} {ty} {old} {new} {r} a b ha hb means =
    means_by _ _ _ _ means (λ v. ap not (read_equal (width_of m ty) (is_signed ty) (number v old a) (number v old b) (counts_lt (typed_counts ha) v) (counts_lt (typed_counts hb) v)))
