-- Orders of numbers in two's complement are those of the numbers with their sign digit turned.
use Rattle.std.proofs.Common.{◌≡◌, ℕ, suc, ◌+◌, ◌-◌, ◌*◌, ◌%◌, ◌^◌, ◌<◌, ◌≤◌, Bool, true, false, cond, nat_lt, int_lt, List, length, sym, ◌∙◌, ap, arith}
use Rattle.std.proofs.lemmas.Bool.{le-ltb, lt-ltb}
use Rattle.std.proofs.Math.Nat.{mod-eq_of_lt, add-mul-mod_self_left}
use Rattle.c_core.specs.Types.{width_of, is_signed}
use Rattle.c_core.specs.declared.number.DataModel.{DataModel}
use Rattle.c_core.specs.declared.number.IntType.{IntType}
use Rattle.circuits.specs.declared.net.Bit.{Bit}
use Rattle.circuits.specs.declared.net.NetNode.{NetNode}
use Rattle.circuits.specs.Net.{Grown, Means}
use Rattle.circuits.specs.Numbers.{number, read, typed, AreTyped}
use Rattle.circuits.specs.Gates.{negative}
use Rattle.circuits.proofs.Nets.{means_by}
use Rattle.circuits.proofs.Counting.{number_stays}
use Rattle.circuits.proofs.Carrying.{counts_lt}
use Rattle.circuits.proofs.Reading.{half, two, two_low, two_top, IsTop, negative_top, signed_is, lt_same}
use Rattle.circuits.proofs.Summed.{typed_counts, width_pos}

low_moved : (P m : ℕ) → m < P → (m + P) % (2 * P) ≡ m + P
low_moved P m h = let l : m + P < 2 * P = omega arith in mod-eq_of_lt l

top_moved : (P m : ℕ) → P ≤ m → m < 2 * P → (m + P) % (2 * P) ≡ m - P
top_moved P m a b =
    let e : m + P ≡ m - P + 2 * P * 1 = omega arith in
    let l : m - P < 2 * P = omega arith in
    ap (λ k. k % (2 * P)) e ∙ add-mul-mod_self_left (m - P) (2 * P) 1 ∙ mod-eq_of_lt l

two_moved : (P m n : ℕ) (da db : Bool) → IsTop P m da → IsTop P n db → nat_lt ((m + P) % (2 * P)) ((n + P) % (2 * P)) ≡ int_lt (two P m) (two P n)
two_moved P m n false false a b =
    rw (low_moved P m a, low_moved P n b, two_low P m a, two_low P n b) (lt_same (m + P) (n + P) m n (λ e. omega arith) (λ e. omega arith))
two_moved P m n false true a b = rw (low_moved P m a, top_moved P n b.0 b.1, two_low P m a, two_top P n b.0) (le-ltb (m + P) (n - P) (omega arith))
two_moved P m n true false a b = rw (top_moved P m a.0 a.1, low_moved P n b, two_top P m a.0, two_low P n b) (lt-ltb (m - P) (n + P) (omega arith))
two_moved P m n true true a b =
    rw (top_moved P m a.0 a.1, top_moved P n b.0 b.1, two_top P m a.0, two_top P n b.0)
    (lt_same (m - P) (n - P) (2 * P - suc n) (2 * P - suc m) (λ e. omega arith) (λ e. omega arith))

plain_moved : (w n : ℕ) → n < 2 ^ w → (n + 0) % 2 ^ w ≡ n
plain_moved w n h = let e : n + 0 ≡ n = omega arith in ap (λ k. k % 2 ^ w) e ∙ mod-eq_of_lt h

-- numbers are in order as they are read
pub moved_read : (w : ℕ) (s : Bool) (m n : ℕ) → 0 < w → m < 2 ^ w → n < 2 ^ w
    → int_lt (read w s m) (read w s n) ≡ nat_lt ((m + cond s (2 ^ (w - 1)) 0) % 2 ^ w) ((n + cond s (2 ^ (w - 1)) 0) % 2 ^ w)
moved_read w false m n hw hm hn = sym (ap (λ k. nat_lt k ((n + 0) % 2 ^ w)) (plain_moved w m hm) ∙ ap (nat_lt m) (plain_moved w n hn))
moved_read w true m n hw hm hn =
    let P = 2 ^ (w - 1) in
    ap (λ x. int_lt x (read w true n)) (signed_is w m hw)
    ∙ ap (int_lt (two P m)) (signed_is w n hw)
    ∙ sym (two_moved P m n (negative w true m) (negative w true n) (negative_top w m hw hm) (negative_top w n hw hn))
    ∙ ap (λ M. nat_lt ((m + P) % M) ((n + P) % M)) (sym (half w hw))

-- a bit that tells of two numbers of an older net which is less
pub below_noted : {m : DataModel} {ty : IntType} {most k : ℕ} {old new : List NetNode} {r : Bit} (a b : List Bit) → Grown most old new → AreTyped m ty old a → AreTyped m ty old b
    → Means new r (λ v. int_lt (typed m ty v old a) (typed m ty v old b)) → k ≡ cond (is_signed ty) (2 ^ (length a - 1)) 0
    → Means new r (λ v. nat_lt ((number v new a + k) % 2 ^ length a) ((number v new b + k) % 2 ^ length a))
below_noted {m} {ty} {most} {k} {old} {new} {r} a b g ha hb means e =
    let w = width_of m ty in
    means_by _ _ _ _ means (λ v.
    moved_read w (is_signed ty) (number v old a) (number v old b) (width_pos m ty) (counts_lt (typed_counts ha) v) (counts_lt (typed_counts hb) v)
    ∙ ap (λ x. nat_lt ((number v old a + cond (is_signed ty) (2 ^ (x - 1)) 0) % 2 ^ x) ((number v old b + cond (is_signed ty) (2 ^ (x - 1)) 0) % 2 ^ x)) (sym ha.wide)
    ∙ ap (λ x. nat_lt ((number v old a + x) % 2 ^ length a) ((number v old b + x) % 2 ^ length a)) (sym e)
    ∙ ap (λ x. nat_lt ((x + k) % 2 ^ length a) ((number v old b + k) % 2 ^ length a)) (sym (number_stays v most old new a g ha.inside))
    ∙ ap (λ x. nat_lt ((number v new a + k) % 2 ^ length a) ((x + k) % 2 ^ length a)) (sym (number_stays v most old new b g hb.inside)))
