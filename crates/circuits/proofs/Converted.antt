-- Constants and conversions, from what the circuits on lists count.
use Rattle.std.proofs.Common.{◌≡◌, ℕ, suc, ◌+◌, ◌-◌, ◌*◌, ◌/◌, ◌%◌, ◌^◌, ◌<◌, ◌≤◌, Bool, true, false, cond, not, nat_eq, nat_lt, ℤ, pos, negsuc, ◌+ℤ◌, unsigned_abs, List, [], ◌∷◌, ◌++◌, take, length, refl, sym, ◌∙◌, ap, subst, arith, add-one, lit≤}
use Rattle.std.proofs.lemmas.Int.{ints}
use Rattle.std.specs.Int.{int_rem_euclid}
use Rattle.std.proofs.Math.Nat.{mod-eq_of_lt, pow-succ'}
use Rattle.std.proofs.lemmas.Nat.{mod-pow-add, shr-shr, pow-add, pow_pos, mod_below}
use Rattle.std.proofs.lemmas.Bool.{eqb-true, eqb-false, ltb-true, ltb-false, le-ltb, ne_eqb}
use Rattle.c_core.specs.Types.{width_of, is_signed, residue, in_range, fits_signed, fits_unsigned, fit, wrapped, number_of, is_zero, signed_of}
use Rattle.c_core.specs.declared.number.DataModel.{DataModel}
use Rattle.c_core.specs.declared.number.IntType.{IntType}
use Rattle.c_core.specs.declared.number.IntType.TheVariants.{Bool as BoolType, Char, SChar, UChar, Short, UShort, Int, UInt, Long, ULong, LongLong, ULongLong}
use Rattle.circuits.specs.declared.net.Bit.{Bit}
use Rattle.circuits.specs.declared.net.NetNode.{NetNode}
use Rattle.circuits.specs.Net.{holds, IsIn, Means}
use Rattle.circuits.specs.Numbers.{number, digit, read, typed, AreTyped, Counts, Reads}
use Rattle.circuits.specs.Gates.{negative}
use Rattle.circuits.specs.Outcome.{conversion_cost}
use Rattle.circuits.proofs.Nets.{own}
use Rattle.circuits.proofs.Counting.{in_none}
use Rattle.circuits.proofs.Carrying.{counts_by, counts_same, counts_lt, low_counts, joined_counts, sign_of}
use Rattle.circuits.proofs.Reading.{residue_is, read_off, half}
use Rattle.circuits.proofs.Digits.{one_counts}
use Rattle.circuits.proofs.Summed.{typed_counts, width_pos}

-- ---- the digits of a number, one by one
pub record Taken (net : List NetNode) (out : List Bit) (rest x n : ℕ) : Type 0 where
  pub counts : Counts net out n (λ v. x % 2 ^ n)
  pub rest_is : rest ≡ x / 2 ^ n

pub taken_none : (net : List NetNode) (x : ℕ) → Taken net [] x x 0
unfolding number
taken_none net x = record { counts = record { inside = in_none (λ b. IsIn net b); wide = refl; is = λ v. omega arith }; rest_is = omega arith }

by_odd : (r : ℕ) (b : Bool) → nat_eq r 1 ≡ b → r < 2 → digit b ≡ r
by_odd r true e h = sym (eqb-true r 1 e)
by_odd r false e h = omega (arith, eqb-false r 1 e)

odd_digit : (r : ℕ) → r < 2 → digit (nat_eq r 1) ≡ r
odd_digit r h = by_odd r (nat_eq r 1) refl h

comm : (n : ℕ) → n + 1 ≡ 1 + n
comm n = omega arith

pub taken_next : {net : List NetNode} {out : List Bit} {bit : Bit} {rest x n : ℕ} → Taken net out rest x n → Means net bit (λ v. nat_eq (rest % 2) 1) → Taken net (out ++ bit ∷ []) (rest / 2) x (n + 1)
taken_next {net} {out} {bit} {rest} {x} {n} t m = record {
  counts = counts_by (λ v. x % 2 ^ (n + 1)) (joined_counts t.counts (one_counts m)) (λ v.
      ap (λ d. x % 2 ^ n + 2 ^ n * d) (odd_digit (rest % 2) (omega arith) ∙ ap (λ r. r % 2) t.rest_is)
      ∙ omega (arith, mod-pow-add x 1 n, ap (λ k. x % 2 ^ k) (comm n)));
  rest_is = ap (λ r. r / 2) t.rest_is ∙ shr-shr x n 1;
}

pub taken_end : {net : List NetNode} {out : List Bit} {rest x n : ℕ} (k : ℕ) → Taken net out rest x n → n ≡ k → Counts net out k (λ v. x % 2 ^ k)
taken_end {net} {out} {rest} {x} {n} k t e = subst (λ (j : ℕ). Counts net out j (λ v. x % 2 ^ j)) e t.counts

-- ---- a number in the range of a type is read back from its residue
low_back : (M P n : ℕ) → nat_lt n P ≡ true → M ≡ 2 * P → n % M ≡ n
low_back M P n e h = mod-eq_of_lt (omega (arith, ltb-true n P e, h))

signed_back : (w : ℕ) (v : ℤ) → 0 < w → fits_signed w v ≡ true → signed_of w (residue w v) ≡ v
unfolding signed_of residue
signed_back w (pos n) hw e =
    let r : n % 2 ^ w ≡ n = low_back (2 ^ w) (2 ^ (w - 1)) n e (half w hw) in
    ap (λ x. cond (nat_lt x (2 ^ (w - 1))) (pos x) (negsuc (2 ^ w - suc x))) r ∙ ap (λ b. cond b (pos n) (negsuc (2 ^ w - suc n))) e
signed_back w (negsuc n) hw e =
    let r : 2 ^ w - 1 - n % 2 ^ w ≡ 2 ^ w - 1 - n = ap (λ x. 2 ^ w - 1 - x) (low_back (2 ^ w) (2 ^ (w - 1)) n e (half w hw)) in
    let lt : n < 2 ^ (w - 1) = ltb-true n (2 ^ (w - 1)) e in
    let d : 2 ^ w - suc (2 ^ w - 1 - n) ≡ n = omega (arith, half w hw) in
    ap (λ x. cond (nat_lt x (2 ^ (w - 1))) (pos x) (negsuc (2 ^ w - suc x))) r
    ∙ ap (λ b. cond b (pos (2 ^ w - 1 - n)) (negsuc (2 ^ w - suc (2 ^ w - 1 - n)))) (le-ltb (2 ^ w - 1 - n) (2 ^ (w - 1)) (omega (arith, half w hw)))
    ∙ ap negsuc d

unsigned_back : (w : ℕ) (v : ℤ) → fits_unsigned w v ≡ true → pos (residue w v) ≡ v
unfolding residue
unsigned_back w (pos n) e = ap pos (mod-eq_of_lt (ltb-true n (2 ^ w) e))
unsigned_back w (negsuc n) e = cc

range_back : (w : ℕ) (s : Bool) (v : ℤ) → 0 < w → cond s (fits_signed w v) (fits_unsigned w v) ≡ true → read w s (residue w v) ≡ v
range_back w true v hw e = signed_back w v hw e
range_back w false v hw e = unsigned_back w v e

pub residue_lt : (w : ℕ) (v : ℤ) → residue w v < 2 ^ w
unfolding residue
residue_lt w (pos n) = mod_below n (2 ^ w) (pow_pos w)
residue_lt w (negsuc n) = omega (arith, pow_pos w)

pub constant_reads : {m : DataModel} {ty : IntType} {net : List NetNode} {out : List Bit} (v : ℤ) (x : ℕ)
    → in_range m ty v ≡ true → x ≡ residue (width_of m ty) v → Counts net out (width_of m ty) (λ i. x % 2 ^ width_of m ty) → Reads m ty net out (λ i. v)
constant_reads {m} {ty} {net} {out} v x h e c =
    let w = width_of m ty in
    record {
      bits_in = record { inside = c.inside; wide = c.wide };
      is = λ i. ap (read w (is_signed ty)) (c.is i ∙ mod-eq_of_lt (subst (λ (k : ℕ). k < 2 ^ w) (sym e) (residue_lt w v)) ∙ e) ∙ range_back w (is_signed ty) v (width_pos m ty) h;
    }

-- ---- conversions
pub fit_other : (m : DataModel) (ty : IntType) (z : ℤ) → (ty ≡ BoolType → ⊥) → fit m ty z ≡ read (width_of m ty) (is_signed ty) (residue (width_of m ty) z)
unfolding wrapped
fit_other m BoolType z p = absurd (p refl)
fit_other m Char z p = refl
fit_other m SChar z p = refl
fit_other m UChar z p = refl
fit_other m Short z p = refl
fit_other m UShort z p = refl
fit_other m Int z p = refl
fit_other m UInt z p = refl
fit_other m Long z p = refl
fit_other m ULong z p = refl
fit_other m LongLong z p = refl
fit_other m ULongLong z p = refl

residue_cut : (w j : ℕ) (s : Bool) (n : ℕ) → n < 2 ^ (w + j) → residue w (read (w + j) s n) ≡ n % 2 ^ w
residue_cut w j s n h = residue_is w (read (w + j) s n) (digit (negative (w + j) s n) * 2 ^ j) n
    (omega (arith, ints, read_off (w + j) s n h, ap (λ p. digit (negative (w + j) s n) * p) (pow-add 2 w j)))

pub cut_reads : {m : DataModel} {from to : IntType} {net : List NetNode} {out : List Bit} (a : List Bit) → AreTyped m from net a → (to ≡ BoolType → ⊥) → width_of m to ≤ length a → out ≡ take (width_of m to) a
    → Reads m to net out (λ v. fit m to (typed m from v net a))
cut_reads {m} {from} {to} {net} {out} a h p le e =
    let w = width_of m to in
    let j = width_of m from - w in
    let wj : width_of m from ≡ w + j = omega (arith, h.wide) in
    let low = counts_same e (low_counts w (omega (arith, h.wide)) (typed_counts h)) in
    record {
      bits_in = record { inside = low.inside; wide = low.wide };
      is = λ v. ap (read w (is_signed to)) (low.is v ∙ sym (ap (λ k. residue w (read k (is_signed from) (number v net a))) wj
          ∙ residue_cut w j (is_signed from) (number v net a) (subst (λ (k : ℕ). number v net a < 2 ^ k) wj (counts_lt (typed_counts h) v))))
          ∙ sym (fit_other m to (typed m from v net a) p);
    }

stretch_by : (M N : ℕ) → 0 < N → M * N ≡ M + M * (N - 1)
stretch_by M N h = let e : N ≡ 1 + (N - 1) = omega arith in ap (λ k. M * k) e ∙ omega arith

stretched : (b : Bool) (M N n MN : ℕ) (z : ℤ) → MN ≡ M * N → 0 < N → z +ℤ pos (digit b * M) ≡ pos n → z +ℤ pos (digit b * MN) ≡ pos (n + M * (digit b * (N - 1)))
stretched true M N n MN z e h f = let d : M * N ≡ M + M * (N - 1) = stretch_by M N h in omega (arith, ints, e, f, d)
stretched false M N n MN z e h f = omega (arith, ints, f)

residue_stretch : (w j : ℕ) (s : Bool) (n : ℕ) → n < 2 ^ w → n + 2 ^ w * (digit (negative w s n) * (2 ^ j - 1)) < 2 ^ (w + j) → residue (w + j) (read w s n) ≡ n + 2 ^ w * (digit (negative w s n) * (2 ^ j - 1))
residue_stretch w j s n h lt = residue_is (w + j) (read w s n) (digit (negative w s n)) (n + 2 ^ w * (digit (negative w s n) * (2 ^ j - 1)))
    (stretched (negative w s n) (2 ^ w) (2 ^ j) n (2 ^ (w + j)) (read w s n) (pow-add 2 w j) (pow_pos j) (read_off w s n h))
    ∙ mod-eq_of_lt lt

pub stretch_reads : {m : DataModel} {from to : IntType} {net : List NetNode} {out high : List Bit} {top : Bit} (a : List Bit) (k : ℕ) → AreTyped m from net a → (to ≡ BoolType → ⊥) → length a < width_of m to
    → Means net top (λ v. negative (length a) (is_signed from) (number v net a))
    → k ≡ width_of m to - length a → Counts net high k (λ v. digit (holds v net top) * (2 ^ k - 1)) → out ≡ a ++ high
    → Reads m to net out (λ v. fit m to (typed m from v net a))
stretch_reads {m} {from} {to} {net} {out} {high} {top} a k h p lt t ek c e =
    let w = width_of m from in
    let wj : w + k ≡ width_of m to = omega (arith, h.wide, ek) in
    let top' = sign_of (is_signed from) t (typed_counts h) in
    let all = counts_same e (joined_counts (typed_counts h) (counts_by (λ v. digit (negative w (is_signed from) (number v net a)) * (2 ^ k - 1)) c (λ v. ap (λ b. digit b * (2 ^ k - 1)) (top'.is v)))) in
    record {
      bits_in = record { inside = all.inside; wide = all.wide ∙ wj };
      is = λ v. ap (read (width_of m to) (is_signed to)) (all.is v ∙ sym (ap (λ j. residue j (typed m from v net a)) (sym wj) ∙ residue_stretch w k (is_signed from) (number v net a) (counts_lt (typed_counts h) v) (counts_lt all v)))
          ∙ sym (fit_other m to (typed m from v net a) p);
    }

pub repeated_none : (net : List NetNode) (bit : Bit) → Counts net [] 0 (λ v. digit (holds v net bit) * (2 ^ 0 - 1))
unfolding number
repeated_none net bit = record { inside = in_none (λ b. IsIn net b); wide = refl; is = λ v. omega arith }

comm_times : (p d : ℕ) → p * d ≡ d * p
comm_times p d = omega arith

one_more : (d p : ℕ) → 0 < p → d * (p - 1) + p * d ≡ d * (2 * p - 1)
one_more d p h = let e : p ≡ 1 + (p - 1) = omega arith in let f : 2 * p - 1 ≡ (p - 1) + p = omega arith in ap (λ k. d * (p - 1) + k) (comm_times p d) ∙ sym (ap (λ k. d * k) f ∙ omega arith)

pub repeated_next : {net : List NetNode} {out : List Bit} (bit : Bit) {i : ℕ} → IsIn net bit → Counts net out i (λ v. digit (holds v net bit) * (2 ^ i - 1)) → Counts net (out ++ bit ∷ []) (i + 1) (λ v. digit (holds v net bit) * (2 ^ (i + 1) - 1))
repeated_next {net} {out} bit {i} h c = counts_by (λ v. digit (holds v net bit) * (2 ^ (i + 1) - 1)) (joined_counts c (one_counts (own net bit h)))
    (λ v. one_more (digit (holds v net bit)) (2 ^ i) (pow_pos i) ∙ ap (λ k. digit (holds v net bit) * (k - 1)) (sym (ap (λ j. 2 ^ j) (add-one i) ∙ pow-succ' 2 i)))

-- to `_Bool`, whether the number is 0
is_zero_off : (b : Bool) (n M : ℕ) → nat_eq n 0 ≡ b → pos (digit (not b)) ≡ number_of (not b)
is_zero_off true n M e = refl
is_zero_off false n M e = refl

zero_signed : (n P M : ℕ) (b : Bool) → nat_lt n P ≡ b → 0 < P → nat_eq n 0 ≡ is_zero (cond b (pos n) (negsuc (M - suc n)))
zero_signed n P M true e h = refl
zero_signed n P M false e h = ne_eqb n 0 (λ z. absurd (omega (arith, ltb-false n P e)))

zero_of_read : (w : ℕ) (s : Bool) (n : ℕ) → nat_eq n 0 ≡ is_zero (read w s n)
unfolding signed_of
zero_of_read w false n = refl
zero_of_read w true n = zero_signed n (2 ^ (w - 1)) (2 ^ w) (nat_lt n (2 ^ (w - 1))) refl (pow_pos (w - 1))

zero_read : (m : DataModel) (w : ℕ) (s : Bool) (n : ℕ) → pos (digit (not (nat_eq n 0))) ≡ fit m BoolType (read w s n)
zero_read m w s n = is_zero_off (nat_eq n 0) n 0 refl ∙ ap (λ b. number_of (not b)) (zero_of_read w s n)

small_by : (n : ℕ) (b : Bool) → nat_eq n 0 ≡ b → n < 2 → n ≡ digit (not b)
small_by n true e h = eqb-true n 0 e
small_by n false e h = omega (arith, eqb-false n 0 e)

small : (n : ℕ) → n < 2 ^ 1 → n ≡ digit (not (nat_eq n 0))
small n h = small_by n (nat_eq n 0) refl h

bool_fit : (m : DataModel) (from : IntType) (n : ℕ) → n < 2 ^ width_of m from → pos (digit (not (nat_eq n 0))) ≡ fit m BoolType (read (width_of m from) (is_signed from) n)
bool_fit m from n h = zero_read m (width_of m from) (is_signed from) n

pub some_reads : {m : DataModel} {from : IntType} {old new : List NetNode} {bit : Bit} {out : List Bit} (a : List Bit) → AreTyped m from old a
    → Means new bit (λ v. not (nat_eq (number v old a) 0)) → out ≡ bit ∷ [] → Reads m BoolType new out (λ v. fit m BoolType (typed m from v old a))
some_reads {m} {from} {old} {new} {bit} {out} a h t e =
    let one = counts_same e (one_counts t) in
    record {
      bits_in = record { inside = one.inside; wide = one.wide };
      is = λ v. ap pos (one.is v) ∙ bool_fit m from (number v old a) (counts_lt (typed_counts h) v);
    }

pub same_reads : {m : DataModel} {net : List NetNode} {out : List Bit} (a : List Bit) → AreTyped m BoolType net a → out ≡ a → Reads m BoolType net out (λ v. fit m BoolType (typed m BoolType v net a))
same_reads {m} {net} {out} a h e =
    let all = counts_same e (typed_counts h) in
    record {
      bits_in = record { inside = all.inside; wide = all.wide };
      is = λ v. ap pos (all.is v ∙ small (number v net a) (counts_lt (typed_counts h) v)) ∙ bool_fit m BoolType (number v net a) (counts_lt (typed_counts h) v);
    }

-- what the digits are taken of
pub rest_is_residue : (k : ℕ) (v u q r d : ℤ) → q ≡ r → r ≡ int_rem_euclid u d → u ≡ v → d ≡ pos (2 ^ k) → unsigned_abs q ≡ residue k v
unfolding residue
rest_is_residue k v u q r d a e f g = ap unsigned_abs (a ∙ e) ∙ ap (λ x. unsigned_abs (int_rem_euclid x d)) f ∙ ap (λ x. unsigned_abs (int_rem_euclid v x)) g

pub constant_counts : {net : List NetNode} {out : List Bit} {n : ℕ} (w x : ℕ) → n ≡ w → Counts net out n (λ v. x % 2 ^ n) → Counts net out w (λ v. x % 2 ^ w)
constant_counts {net} {out} {n} w x e c = subst (λ (k : ℕ). Counts net out k (λ v. x % 2 ^ k)) e c

pub same_reads_at : {m : DataModel} {from to : IntType} {net : List NetNode} {out : List Bit} (a : List Bit) → to ≡ BoolType → from ≡ BoolType → AreTyped m from net a → out ≡ a
    → Reads m to net out (λ v. fit m to (typed m from v net a))
same_reads_at {m} {from} {to} {net} {out} a et ef h e = rw (et, ef) (same_reads a (subst (λ (t : IntType). AreTyped m t net a) ef h) e)

pub some_reads_at : {m : DataModel} {from to : IntType} {old new : List NetNode} {bit : Bit} {out : List Bit} (a : List Bit) → to ≡ BoolType → AreTyped m from old a
    → Means new bit (λ v. not (nat_eq (number v old a) 0)) → out ≡ bit ∷ [] → Reads m to new out (λ v. fit m to (typed m from v old a))
some_reads_at {m} {from} {to} {old} {new} {bit} {out} a et h t e = rw et (some_reads a h t e)

some_cost : (m : DataModel) (from : IntType) → (from ≡ BoolType → ⊥) → width_of m from ≤ conversion_cost m from BoolType
some_cost m BoolType p = absurd (p refl)
some_cost m Char p = lit≤ tt
some_cost m SChar p = lit≤ tt
some_cost m UChar p = lit≤ tt
some_cost m Short p = lit≤ tt
some_cost m UShort p = lit≤ tt
some_cost m Int p = lit≤ tt
some_cost m UInt p = lit≤ tt
some_cost m Long p = omega arith
some_cost m ULong p = omega arith
some_cost m LongLong p = lit≤ tt
some_cost m ULongLong p = lit≤ tt

pub conversion_costs : (m : DataModel) (from to : IntType) → to ≡ BoolType → (from ≡ BoolType → ⊥) → width_of m from ≤ conversion_cost m from to
conversion_costs m from to e p = rw e (some_cost m from p)

pub reads_at : {m : DataModel} {ty : IntType} {net : List NetNode} {xs ys : List Bit} {u : ℤ} (v : ℤ) → ys ≡ xs → u ≡ v → Reads m ty net xs (λ i. u) → Reads m ty net ys (λ i. v)
reads_at {m} {ty} {net} {xs} {ys} {u} v e h r = rw e (record { bits_in = r.bits_in; is = λ i. r.is i ∙ h })
