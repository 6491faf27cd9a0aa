-- What circuits let the hints know.
use Rattle.std.proofs.Common.{◌≡◌, ℕ, ◌+◌, ◌-◌, ◌*◌, ◌%◌, ◌^◌, ◌<◌, ◌≤◌, Bool, true, false, cond, not, ◌&&◌, nat_eq, ℤ, ◌+ℤ◌, ◌-ℤ◌, ◌*ℤ◌, List, length, take, refl, sym, ◌∙◌, ap, subst, arith}
use Rattle.std.proofs.lemmas.Nat.{pow_pos, mod_below}
use Rattle.std.proofs.Math.Nat.{add-mul-mod_self_right}
use Rattle.std.specs.Ordering.{int_eq}
use Rattle.c_core.specs.Types.{width_of, is_signed, promote_of, in_range, residue, fit}
use Rattle.c_core.specs.Operators.{apply_of, exact}
use Rattle.c_core.specs.declared.number.DataModel.{DataModel}
use Rattle.c_core.specs.declared.number.IntType.{IntType}
use Rattle.c_core.specs.declared.number.BinOp.TheVariants.{Add, Sub, Mul}
use Rattle.c_core.specs.declared.number.Done.TheVariants.{Value, Overflow}
use Rattle.polynomials.specs.Values.{Same}
use Rattle.polynomials.proofs.Sameness.{same_refl, same_by, same_sym, same_trans, same_add, same_mod, same_cancel}
use Rattle.circuits.specs.declared.net.Bit.{Bit}
use Rattle.circuits.specs.declared.net.NetNode.{NetNode}
use Rattle.circuits.specs.declared.bits.Outcome.{Outcome}
use Rattle.circuits.specs.Net.{holds, opposite, xor, Grown, Means, IsIn}
use Rattle.circuits.specs.Numbers.{number, typed, AreIn, AreTyped, Counts}
use Rattle.circuits.specs.Gates.{negative, size}
use Rattle.circuits.specs.Outcome.{Gives, HasValue}
use Rattle.circuits.specs.Words.{AreOperands}
use Rattle.circuits.proofs.Nets.{stays, means_by, opp}
use Rattle.circuits.proofs.Counting.{number_stays, are_in_later, counts_later}
use Rattle.circuits.proofs.Carrying.{counts_lt, counts_same, own_counts, low_counts}
use Rattle.circuits.proofs.Reading.{equal_read, residue_read, residue_sum, residue_difference}
use Rattle.circuits.proofs.Sizes.{signed_number, read_size, signed_mul, residue_size}
use Rattle.circuits.proofs.Judged.{fit_is}
use Rattle.circuits.proofs.Compared.{not_not}
use Rattle.circuits.proofs.Converted.{residue_lt}
use Rattle.circuits.proofs.Multiplied.{width_few}
use Rattle.circuits.proofs.Congruence.{vanishes}
use Rattle.circuits.proofs.Summed.{typed_counts}

-- numbers of one type
pub operands_of : {m : DataModel} {ty : IntType} {net : List NetNode} {a b : List Bit} → AreTyped m ty net a → AreTyped m ty net b → AreOperands net a b
operands_of {m} {ty} {net} {a} {b} ha hb = record { left = ha.inside; right = hb.inside; same = hb.wide ∙ sym ha.wide; wide = omega (arith, ha.wide, width_few m ty) }

-- a result that is known modulo 2^w
pub low_noted : {net : List NetNode} {out : List Bit} {w : ℕ} {f : (ℕ → Bool) → ℕ} (g : (ℕ → Bool) → ℕ) → Counts net out w f → ((v : ℕ → Bool) → Same w (f v) (g v))
    → (v : ℕ → Bool) → Same (length out) (number v net out) (g v)
low_noted {net} {out} {w} {f} g c e v = subst (λ (k : ℕ). Same k (number v net out) (g v)) (sym c.wide) (same_trans (same_by (c.is v)) (e v))

judged_value : (b : Bool) (f z : ℤ) → HasValue (cond b (Overflow f) (Value f)) z → z ≡ f
judged_value true f z h = h
judged_value false f z h = h

-- the number of what an operator gives
pub given_counts : {m : DataModel} {ty : IntType} {net : List NetNode} {o : Outcome} {out : List Bit} (r : (ℕ → Bool) → ℤ) → promote_of ty ≡ ty → Gives m ty net o (λ v. exact m ty (r v)) → out ≡ o.value.bits
    → Counts net out (width_of m ty) (λ v. residue (width_of m ty) (r v))
given_counts {m} {ty} {net} {o} {out} r p g e =
    let w = width_of m ty in
    let s = is_signed ty in
    let bits = o.value.bits in
    counts_same e (record {
      inside = g.value.inside;
      wide = g.value.wide;
      is = λ v.
          sym (residue_read w s (number v net bits) (counts_lt (typed_counts g.value) v))
          ∙ ap (residue w) (judged_value (s && not (in_range m ty (r v))) (fit m ty (r v)) (typed m ty v net bits) (g.value_is v) ∙ fit_is m ty (r v) p)
          ∙ residue_read w s (residue w (r v)) (residue_lt w (r v));
    })

-- ---- sums and differences
pub sum_noted : {m : DataModel} {ty : IntType} {old mid : List NetNode} {o : Outcome} {out : List Bit} {most : ℕ} (a b : List Bit) → promote_of ty ≡ ty → Grown most old mid → AreTyped m ty old a → AreTyped m ty old b
    → Gives m ty mid o (λ v. apply_of m Add ty (typed m ty v old a) (typed m ty v old b)) → out ≡ o.value.bits
    → (v : ℕ → Bool) → Same (length out) (number v mid out) (number v mid a + 1 * number v mid b)
sum_noted {m} {ty} {old} {mid} {o} {out} {most} a b p g ha hb given e =
    let w = width_of m ty in
    low_noted (λ v. number v mid a + 1 * number v mid b) (given_counts (λ v. typed m ty v old a +ℤ typed m ty v old b) p given e)
    (λ v. same_trans (same_by (residue_sum w (is_signed ty) (number v old a) (number v old b) (counts_lt (typed_counts ha) v) (counts_lt (typed_counts hb) v)))
    (same_trans (same_mod w (number v old a + number v old b))
    (same_by (omega (arith, number_stays v most old mid a g ha.inside, number_stays v most old mid b g hb.inside)))))

pub same_whole : (w k : ℕ) → Same w (k * 2 ^ w) 0
same_whole w k =
    let e : k * 2 ^ w ≡ 0 + k * 2 ^ w = omega arith in
    record { is = ap (λ n. n % 2 ^ w) e ∙ add-mul-mod_self_right 0 k (2 ^ w) }

wraps : (w m n : ℕ) → w ≤ 64 → n < 2 ^ w → Same w (m + (2 ^ w - n)) (m + 18446744073709551615 * n)
wraps w m n h l =
    let left : m + (2 ^ w - n) + n ≡ m + 1 * 2 ^ w = omega arith in
    let right : m + (n + 18446744073709551615 * n) ≡ m + 18446744073709551615 * n + n = omega arith in
    let none : Same w (1 * 2 ^ w) (n + 18446744073709551615 * n) = same_trans (same_whole w 1) (same_sym (vanishes w 18446744073709551615 n h refl)) in
    same_cancel n (same_trans (same_by left) (same_trans (same_add (same_refl w m) none) (same_by right)))

pub difference_noted : {m : DataModel} {ty : IntType} {old mid : List NetNode} {o : Outcome} {out : List Bit} {most : ℕ} (a b : List Bit) → promote_of ty ≡ ty → Grown most old mid → AreTyped m ty old a → AreTyped m ty old b
    → Gives m ty mid o (λ v. apply_of m Sub ty (typed m ty v old a) (typed m ty v old b)) → out ≡ o.value.bits
    → (v : ℕ → Bool) → Same (length out) (number v mid out) (number v mid a + 18446744073709551615 * number v mid b)
difference_noted {m} {ty} {old} {mid} {o} {out} {most} a b p g ha hb given e =
    let w = width_of m ty in
    low_noted (λ v. number v mid a + 18446744073709551615 * number v mid b) (given_counts (λ v. typed m ty v old a -ℤ typed m ty v old b) p given e)
    (λ v. same_trans (same_by (residue_difference w (is_signed ty) (number v old a) (number v old b) (counts_lt (typed_counts ha) v) (counts_lt (typed_counts hb) v)))
    (same_trans (same_mod w (number v old a + (2 ^ w - number v old b)))
    (same_trans (wraps w (number v old a) (number v old b) (width_few m ty) (counts_lt (typed_counts hb) v))
    (same_by (omega (arith, number_stays v most old mid a g ha.inside, number_stays v most old mid b g hb.inside))))))

-- ---- products
turned_same : (w q x k : ℕ) → q + x ≡ k * 2 ^ w → Same w ((2 ^ w - q % 2 ^ w) % 2 ^ w) x
turned_same w q x k e =
    let left : 2 ^ w - q % 2 ^ w + q % 2 ^ w ≡ 1 * 2 ^ w = omega (arith, mod_below q (2 ^ w) (pow_pos w)) in
    let right : x + q ≡ k * 2 ^ w = omega (arith, e) in
    same_cancel q
    (same_trans (same_add (same_mod w (2 ^ w - q % 2 ^ w)) (same_sym (same_mod w q)))
    (same_trans (same_by left) (same_trans (same_whole w 1) (same_trans (same_sym (same_whole w k)) (same_by (sym right))))))

-- a number and the rest of a whole, times another
left_whole : (p m n k : ℕ) → p + m ≡ k → p * n + m * n ≡ n * k
left_whole p m n k e = omega (arith, ap (λ x. n * x) e)

right_whole : (m q n k : ℕ) → q + n ≡ k → m * q + m * n ≡ m * k
right_whole m q n k e = omega (arith, ap (λ x. m * x) e)

pub both_turned : (w p q m n : ℕ) → p + m ≡ 2 ^ w → q + n ≡ 2 ^ w → Same w (p * q) (m * n)
both_turned w p q m n e f =
    let left : p * q + p * n ≡ p * 2 ^ w = right_whole p q n (2 ^ w) f in
    let right : m * n + p * n ≡ n * 2 ^ w = (let r : p * n + m * n ≡ n * 2 ^ w = left_whole p m n (2 ^ w) e in omega (arith, r)) in
    same_cancel (p * n) (same_trans (same_by left) (same_trans (same_whole w p) (same_trans (same_sym (same_whole w n)) (same_by (sym right)))))

rest_whole : (k m : ℕ) → m < k → k - m + m ≡ k
rest_whole k m h = omega arith

product_same : (w m n : ℕ) (x y : Bool) → m < 2 ^ w → n < 2 ^ w
    → Same w (cond (xor x y) ((2 ^ w - cond x (2 ^ w - m) m * cond y (2 ^ w - n) n % 2 ^ w) % 2 ^ w) (cond x (2 ^ w - m) m * cond y (2 ^ w - n) n % 2 ^ w)) (m * n)
product_same w m n false false hm hn = same_mod w (m * n)
product_same w m n true true hm hn =
    same_trans (same_mod w ((2 ^ w - m) * (2 ^ w - n))) (both_turned w (2 ^ w - m) (2 ^ w - n) m n (rest_whole (2 ^ w) m hm) (rest_whole (2 ^ w) n hn))
product_same w m n true false hm hn = turned_same w ((2 ^ w - m) * n) (m * n) n (left_whole (2 ^ w - m) m n (2 ^ w) (rest_whole (2 ^ w) m hm))
product_same w m n false true hm hn = turned_same w (m * (2 ^ w - n)) (m * n) m (right_whole m (2 ^ w - n) n (2 ^ w) (rest_whole (2 ^ w) n hn))

pub product_noted : {m : DataModel} {ty : IntType} {old mid : List NetNode} {o : Outcome} {out : List Bit} {most : ℕ} (a b : List Bit) → promote_of ty ≡ ty → Grown most old mid → AreTyped m ty old a → AreTyped m ty old b
    → Gives m ty mid o (λ v. apply_of m Mul ty (typed m ty v old a) (typed m ty v old b)) → out ≡ o.value.bits
    → (v : ℕ → Bool) → Same (length out) (number v mid out) (number v mid a * number v mid b)
product_noted {m} {ty} {old} {mid} {o} {out} {most} a b p g ha hb given e =
    let w = width_of m ty in
    let s = is_signed ty in
    low_noted (λ v. number v mid a * number v mid b) (given_counts (λ v. typed m ty v old a *ℤ typed m ty v old b) p given e) (λ v.
    let la : number v old a < 2 ^ w = counts_lt (typed_counts ha) v in
    let lb : number v old b < 2 ^ w = counts_lt (typed_counts hb) v in
    let na = negative w s (number v old a) in
    let nb = negative w s (number v old b) in
    let is : typed m ty v old a *ℤ typed m ty v old b ≡ signed_number (xor na nb) (size w s (number v old a) * size w s (number v old b)) =
    ap (λ x. x *ℤ typed m ty v old b) (read_size w s (number v old a) la)
    ∙ ap (λ y. signed_number na (size w s (number v old a)) *ℤ y) (read_size w s (number v old b) lb)
    ∙ signed_mul na nb (size w s (number v old a)) (size w s (number v old b)) in
    same_trans (same_by (ap (residue w) is ∙ residue_size w (xor na nb) (size w s (number v old a) * size w s (number v old b))))
    (same_trans (product_same w (number v old a) (number v old b) na nb la lb)
    (same_by (ap (λ k. k * number v old b) (sym (number_stays v most old mid a g ha.inside)) ∙ ap (λ k. number v mid a * k) (sym (number_stays v most old mid b g hb.inside))))))

-- ---- choices and cuts
pub chosen_operands : {most : ℕ} {old new : List NetNode} {a b xs ys : List Bit} → Grown most old new → a ≡ xs → b ≡ ys → AreIn old xs → AreIn old ys → length ys ≡ length xs → length xs ≤ 64 → AreOperands new a b
chosen_operands {most} {old} {new} {a} {b} {xs} {ys} g ea eb ha hb e l =
    rw (ea, eb) (record { left = are_in_later most old new xs g ha; right = are_in_later most old new ys g hb; same = e; wide = l })

pub choice_noted : {old mid : List NetNode} {out a b xs ys : List Bit} {most n : ℕ} (t : Bit) → Grown most old mid → IsIn old t → a ≡ xs → b ≡ ys → AreIn old xs → AreIn old ys
    → Counts mid out n (λ v. cond (holds v old t) (number v old a) (number v old b))
    → (v : ℕ → Bool) → number v mid out ≡ cond (holds v mid t) (number v mid a) (number v mid b)
choice_noted {old} {mid} {out} {a} {b} {xs} {ys} {most} {n} t g ht ea eb hx hy c v =
    let ha : AreIn old a = rw ea hx in
    let hb : AreIn old b = rw eb hy in
    c.is v
    ∙ ap (λ x. cond x (number v old a) (number v old b)) (sym (stays v most old mid t g ht))
    ∙ ap (λ k. cond (holds v mid t) k (number v old b)) (sym (number_stays v most old mid a g ha))
    ∙ ap (λ k. cond (holds v mid t) (number v mid a) k) (sym (number_stays v most old mid b g hb))

pub chosen_later : (old : List NetNode) {new last : List NetNode} {out bits a b xs ys : List Bit} (t : Bit) → last ≡ new → bits ≡ out → a ≡ xs → b ≡ ys
    → Counts new out (length a) (λ v. cond (holds v old t) (number v old a) (number v old b))
    → Counts last bits (length xs) (λ v. cond (holds v old t) (number v old xs) (number v old ys))
chosen_later old {new} {last} {out} {bits} {a} {b} {xs} {ys} t e eo ea eb c = record {
  inside = rw (e, eo) c.inside;
  wide = ap length eo ∙ c.wide ∙ ap length ea;
  is = λ v. rw (e, eo, ← ea, ← eb) (c.is v);
}

pub cut_counts : {m : DataModel} {ty : IntType} {net : List NetNode} {out low all : List Bit} (a : List Bit) (n : ℕ) → AreTyped m ty net a → n ≤ length a → out ≡ low → low ≡ take n all → all ≡ a
    → Counts net out n (λ v. number v net a % 2 ^ n)
cut_counts {m} {ty} {net} {out} {low} {all} a n h l eo el ea = counts_same (eo ∙ el ∙ ap (λ x. take n x) ea) (low_counts n l (own_counts net a h.inside))

pub cut_noted : {net : List NetNode} {out : List Bit} {w : ℕ} (a : List Bit) → Counts net out w (λ v. number v net a % 2 ^ w) → (v : ℕ → Bool) → Same (length out) (number v net out) (number v net a)
cut_noted {net} {out} {w} a c = low_noted (λ v. number v net a) c (λ v. same_mod w (number v net a))

-- ---- comparisons
known_here : {m : DataModel} {ty : IntType} {net : List NetNode} {r : Bit} (a b : List Bit) → AreTyped m ty net a → AreTyped m ty net b
    → Means net r (λ v. not (nat_eq (number v net a) (number v net b))) → Means net r (λ v. not (int_eq (typed m ty v net a) (typed m ty v net b)))
known_here {m} {ty} {net} {r} a b ha hb means =
    means_by _ _ _ _ means (λ v. ap not (equal_read (width_of m ty) (is_signed ty) (number v net a) (number v net b) (counts_lt (typed_counts ha) v) (counts_lt (typed_counts hb) v)))

-- the opposite of a bit that tells whether they are equal
pub known_differ : {m : DataModel} {ty : IntType} {old new : List NetNode} {r equal : Bit} (a b : List Bit) → new ≡ old → AreTyped m ty old a → AreTyped m ty old b
    → Means new equal (λ v. nat_eq (number v new a) (number v new b)) → r ≡ opposite equal → Means new r (λ v. not (int_eq (typed m ty v old a) (typed m ty v old b)))
known_differ {m} {ty} {old} {new} {r} {equal} a b e ha hb means turned =
    let known : Means old equal (λ v. nat_eq (number v old a) (number v old b)) = rw (← e) means in
    rw e (known_here a b ha hb (opp turned known))

-- a bit that tells of two numbers of an older net whether they are equal
pub differ_noted : {m : DataModel} {ty : IntType} {most : ℕ} {old mid new : List NetNode} {r x : Bit} (a b : List Bit) → mid ≡ old → Grown most mid new → AreTyped m ty old a → AreTyped m ty old b
    → Means new r (λ v. not (int_eq (typed m ty v mid a) (typed m ty v mid b))) → x ≡ opposite r → Means new x (λ v. nat_eq (number v new a) (number v new b))
differ_noted {m} {ty} {most} {old} {mid} {new} {r} {x} a b e g ha hb means turned =
    let ia : AreTyped m ty mid a = rw e ha in
    let ib : AreTyped m ty mid b = rw e hb in
    means_by _ _ _ _ (opp turned means) (λ v.
    not_not (int_eq (typed m ty v mid a) (typed m ty v mid b))
    ∙ sym (equal_read (width_of m ty) (is_signed ty) (number v mid a) (number v mid b) (counts_lt (typed_counts ia) v) (counts_lt (typed_counts ib) v))
    ∙ ap (λ k. nat_eq k (number v mid b)) (sym (number_stays v most mid new a g ia.inside))
    ∙ ap (λ k. nat_eq (number v new a) k) (sym (number_stays v most mid new b g ib.inside)))

pub differ_after : {old mid new last : List NetNode} {r : Bit} (m : DataModel) (ty : IntType) (a b : List Bit) → mid ≡ old → last ≡ new
    → Means new r (λ v. not (int_eq (typed m ty v mid a) (typed m ty v mid b))) → Means last r (λ v. not (int_eq (typed m ty v old a) (typed m ty v old b)))
differ_after {old} {mid} {new} {last} {r} m ty a b e f means = rw (f, ← e) means

-- the number 0 beside another
pub zero_operands : {net : List NetNode} {zero : List Bit} (a : List Bit) → AreIn net a → length a ≤ 64 → Counts net zero (length a) (λ v. 0) → AreOperands net a zero
zero_operands {net} {zero} a h l c = record { left = h; right = c.inside; same = c.wide; wide = l }

pub zero_operands_later : {most : ℕ} {old new : List NetNode} {zero : List Bit} (a : List Bit) → Grown most old new → AreIn old a → length a ≤ 64 → Counts old zero (length a) (λ v. 0) → AreOperands new a zero
zero_operands_later {most} {old} {new} {zero} a g h l c = zero_operands a (are_in_later most old new a g h) l (counts_later g c)

pub zero_known : {old new : List NetNode} {r equal : Bit} {zero : List Bit} {n : ℕ} (a : List Bit) → new ≡ old → Counts old zero n (λ v. 0)
    → Means new equal (λ v. nat_eq (number v new a) (number v new zero)) → r ≡ opposite equal → Means new r (λ v. not (nat_eq (number v old a) 0))
zero_known {old} {new} {r} {equal} {zero} {n} a e c means turned =
    let known : Means old equal (λ v. nat_eq (number v old a) (number v old zero)) = rw (← e) means in
    rw e (means_by _ _ _ _ (opp turned known) (λ v. ap (λ k. not (nat_eq (number v old a) k)) (c.is v)))

pub zero_noted : {old mid new : List NetNode} {r x : Bit} {zero : List Bit} {most n : ℕ} (a : List Bit) → mid ≡ old → Grown most mid new → AreIn old a → Counts old zero n (λ v. 0)
    → Means new r (λ v. not (nat_eq (number v mid a) 0)) → x ≡ opposite r → Means new x (λ v. nat_eq (number v new a) (number v new zero))
zero_noted {old} {mid} {new} {r} {x} {zero} {most} {n} a e g ha c means turned =
    let ia : AreIn mid a = rw e ha in
    let none : Counts mid zero n (λ v. 0) = rw e c in
    means_by _ _ _ _ (opp turned means) (λ v.
    not_not (nat_eq (number v mid a) 0)
    ∙ ap (λ k. nat_eq k 0) (sym (number_stays v most mid new a g ia))
    ∙ ap (λ k. nat_eq (number v new a) k) (sym (number_stays v most mid new zero g none.inside ∙ none.is v)))

pub zero_after : {old mid new last : List NetNode} {r : Bit} (a : List Bit) → mid ≡ old → last ≡ new → Means new r (λ v. not (nat_eq (number v mid a) 0)) → Means last r (λ v. not (nat_eq (number v old a) 0))
zero_after {old} {mid} {new} {last} {r} a e f means = rw (f, ← e) means
