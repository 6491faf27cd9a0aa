-- The values of bits wherever a condition is met: of conjunctions by their parts, of orders by known ones.
use Rattle.std.proofs.Common.{◌≡◌, ℕ, ◌+◌, ◌%◌, ◌^◌, nat_lt, Bool, true, false, not, ◌&&◌, ◌||◌, List, refl, sym, ◌∙◌, ap, subst, arith}
use Rattle.std.proofs.Math.Bool.{beq}
use Rattle.polynomials.specs.Values.{Same, value}
use Rattle.polynomials.specs.declared.polynomial.Term.{Term}
use Rattle.polynomials.proofs.Sameness.{same_refl, same_by, same_sym, same_trans, same_add}
use Rattle.circuits.specs.declared.net.Bit.{Bit}
use Rattle.circuits.specs.declared.net.NetNode.{NetNode}
use Rattle.circuits.specs.declared.inequalities.Known.{Known}
use Rattle.circuits.specs.declared.orders.Order.{Order}
use Rattle.circuits.specs.Net.{holds, opposite, IsIn, IsNet, Means}
use Rattle.circuits.specs.Words.{unknown, IsOrderOf}
use Rattle.circuits.specs.Facts.{Condition, AllFollow, AreArms, IsAlike, IsAnswer, IsBoth, IsConjunction, IsRest, IsZeroWhere}
use Rattle.circuits.specs.Arms.{IsOfArms}
use Rattle.circuits.specs.declared.answers.Arm.TheVariants.{Never, Constant}
use Rattle.circuits.specs.Inequalities.{IsDifference, IsKnown, IsMoreBy, IsOrderWhere, IsOtherDifference, IsSameOrder, IsValueWhere}
use Rattle.circuits.proofs.Congruence.{zero_same}
use Rattle.circuits.proofs.Nets.{holds-opposite, means_yes}
use Rattle.circuits.proofs.FactLaws.{plain_sign, sign_known, zero_of}
use Rattle.circuits.proofs.WordLaws.{truths}

-- ---- bits that are alike
pub alike_itself : {net : List NetNode} {here : Condition} (b : Bit) → IsIn net b → IsAlike net here b b
alike_itself b h = record { inside = h; is = λ v e. refl }

pub alike_constant : {net : List NetNode} {here : Condition} {b c : Bit} {value_is : Bool} → IsAnswer net here b value_is → Means net c (λ v. value_is) → IsAlike net here b c
alike_constant a m = record { inside = m.inside; is = λ v e. a.is v e ∙ sym (m.is v) }

plain_not : (t : Bool) → beq false t ≡ not t
plain_not true = refl
plain_not false = refl

-- a bit that is a constant wherever a condition is met
pub answer_constant : {net : List NetNode} {here : Condition} {b : Bit} (c : Bit) → IsNet net → c.node ≡ 0 → IsAlike net here b c → IsAnswer net here b (not c.negated)
answer_constant {net} {here} {b} c n z like = record {
  is = λ v h.
      like.is v h ∙ sign_known v net (record { node = 0; negated = false }) c true (sym z) ((means_yes net n).is v) ∙ plain_sign (beq false c.negated) ∙ plain_not c.negated;
}

by_either : (one other x y r value_is : Bool) → one ≡ x → other ≡ y → (x || y) ≡ true → (one ≡ true → r ≡ value_is) → (other ≡ true → r ≡ value_is) → r ≡ value_is
by_either one other true y r value_is e f h first second = first e
by_either one other false true r value_is e f h first second = second f
by_either one other false false r value_is e f h first second = cc

-- ---- arms
pub of_two_constants : (x y : Bool) → x ≡ y → IsOfArms (Constant x) (Constant y) x
of_two_constants x y e = λ net b one other first second.
    record { is = λ v h. by_either (one v) (other v) (one v) (other v) (holds v net b) x refl refl h (λ k. first.is v k) (λ k. second.is v k ∙ sym e) }

pub of_second_constant : (x : Bool) → IsOfArms Never (Constant x) x
of_second_constant x = λ net b one other first second. record { is = λ v h. by_either (one v) (other v) (one v) (other v) (holds v net b) x refl refl h (λ k. absurd (first v k)) (λ k. second.is v k) }

pub of_first_constant : (x : Bool) → IsOfArms (Constant x) Never x
of_first_constant x = λ net b one other first second. record { is = λ v h. by_either (one v) (other v) (one v) (other v) (holds v net b) x refl refl h (λ k. first.is v k) (λ k. absurd (second v k)) }

both_arms : (h x y : Bool) → h ≡ true → (x || y) ≡ true → ((h && x) || (h && y)) ≡ true
both_arms true x y e f = f
both_arms false x y e f = e

-- a bit whose value is known in both arms
pub answer_in_arms : {net : List NetNode} {here : Condition} {known : List Bit} {value_is : Bool} (left right b : Bit) → AreArms net known left right → AllFollow net here known
    → IsAnswer net (λ v. (here v && holds v net left) || (here v && holds v net right)) b value_is → IsAnswer net here b value_is
answer_in_arms {net} {here} left right b arms f answer = record { is = λ v h. answer.is v (both_arms (here v) (holds v net left) (holds v net right) h (arms.is here f v h)) }

left_decides : (x y : Bool) → x ≡ false → (x && y) ≡ x
left_decides false y e = refl
left_decides true y e = ap (λ k. k && y) e ∙ sym e

right_decides : (x y : Bool) → y ≡ false → (x && y) ≡ y
right_decides true y e = refl
right_decides false y e = sym e

left_is_true : (x y : Bool) → x ≡ true → (x && y) ≡ y
left_is_true x y e = ap (λ k. k && y) e

right_is_true : (x y : Bool) → y ≡ true → (x && y) ≡ x
right_is_true true y e = e
right_is_true false y e = refl

is_constant : {net : List NetNode} {b c : Bit} {value_is : Bool} (v : ℕ → Bool) → b ≡ c → Means net c (λ v. value_is) → holds v net b ≡ value_is
is_constant {net} v e m = ap (holds v net) e ∙ m.is v

pub left_false_decides : {net : List NetNode} (left right : Bit) {c : Bit} → IsIn net left → left ≡ c → Means net c (λ v. false) → IsConjunction net left right left
left_false_decides {net} left right h e m = record { inside = h; is = λ v. left_decides (holds v net left) (holds v net right) (is_constant v e m) }

pub right_false_decides : {net : List NetNode} (left right : Bit) {c : Bit} → IsIn net right → right ≡ c → Means net c (λ v. false) → IsConjunction net left right right
right_false_decides {net} left right h e m = record { inside = h; is = λ v. right_decides (holds v net left) (holds v net right) (is_constant v e m) }

pub left_true_decides : {net : List NetNode} (left right : Bit) {c : Bit} → IsIn net right → left ≡ c → Means net c (λ v. true) → IsConjunction net left right right
left_true_decides {net} left right h e m = record { inside = h; is = λ v. left_is_true (holds v net left) (holds v net right) (is_constant v e m) }

pub right_true_decides : {net : List NetNode} (left right : Bit) {c : Bit} → IsIn net left → right ≡ c → Means net c (λ v. true) → IsConjunction net left right left
right_true_decides {net} left right h e m = record { inside = h; is = λ v. right_is_true (holds v net left) (holds v net right) (is_constant v e m) }

beq_false : (r : Bool) → beq r (beq false true) ≡ not r
beq_false true = refl
beq_false false = refl

beq_true : (r : Bool) → beq r (beq false false) ≡ r
beq_true true = refl
beq_true false = refl

-- a conjunction is what its parts are like
plain_like : {net : List NetNode} {here : Condition} {plain l r left right part : Bit} → IsBoth net plain l r → IsAlike net here l left → IsAlike net here r right → IsConjunction net left right part
    → IsAlike net here plain part
plain_like {net} {here} {plain} {l} {r} {left} {right} {part} both a b c = record {
  inside = c.inside;
  is = λ v h. both.is v ∙ ap (λ k. k && holds v net r) (a.is v h) ∙ ap (λ k. holds v net left && k) (b.is v h) ∙ c.is v;
}

pub part_like : {net : List NetNode} {here : Condition} {l r left right part : Bit} (whole : Bit) → whole.negated ≡ false → IsBoth net (record { node = whole.node; negated = false }) l r
    → IsAlike net here l left → IsAlike net here r right → IsConjunction net left right part → IsAlike net here whole part
part_like {net} {here} {l} {r} {left} {right} {part} whole s both a b c =
    let plain = plain_like both a b c in
    record {
      inside = c.inside;
      is = λ v h. sign_known v net (record { node = whole.node; negated = false }) whole (holds v net part) refl (plain.is v h) ∙ ap (λ k. beq (holds v net part) (beq false k)) s ∙ beq_true (holds v net part);
    }

pub opposite_like : {net : List NetNode} {here : Condition} {l r left right part out : Bit} (whole : Bit) → whole.negated ≡ true → out ≡ opposite part → IsIn net out
    → IsBoth net (record { node = whole.node; negated = false }) l r → IsAlike net here l left → IsAlike net here r right → IsConjunction net left right part → IsAlike net here whole out
opposite_like {net} {here} {l} {r} {left} {right} {part} {out} whole s e inside both a b c =
    let plain = plain_like both a b c in
    record {
      inside = inside;
      is = λ v h.
          sign_known v net (record { node = whole.node; negated = false }) whole (holds v net part) refl (plain.is v h) ∙ ap (λ k. beq (holds v net part) (beq false k)) s ∙ beq_false (holds v net part)
          ∙ sym (ap (holds v net) e ∙ holds-opposite v net part);
    }

-- ---- orders
same_where_none : {w x y p : ℕ} → Same w (p + y) x → Same w p 0 → Same w x y
same_where_none {w} {x} {y} {p} d z = same_trans (same_sym d) (same_trans (same_add z (same_refl w y)) (same_by (omega arith)))

same_no_more : {w x y : ℕ} → Same w x (y + 0) → Same w x y
same_no_more {w} {x} {y} s = same_trans s (same_by (omega arith))

-- two pairs whose first or second polynomials are the same
pub others_of_lesser : {w : ℕ} (a b c d p : List Term) → IsMoreBy w 0 a c → IsDifference w b d p → IsOtherDifference w a b c d p
others_of_lesser a b c d p m apart = record { lesser = λ v t z. same_no_more (m.is v t); greater = λ v t z. same_where_none (apart.is v t) z }

pub others_of_greater : {w : ℕ} (a b c d p : List Term) → IsMoreBy w 0 b d → IsDifference w a c p → IsOtherDifference w a b c d p
others_of_greater a b c d p m apart = record { lesser = λ v t z. same_where_none (apart.is v t) z; greater = λ v t z. same_no_more (m.is v t) }

pub same_order : {net : List NetNode} {words : List (List Bit)} {here : Condition} {w : ℕ} {a b c d p : List Term} → IsOtherDifference w a b c d p → IsZeroWhere net words here w p true
    → IsSameOrder net words here w a b c d
same_order {net} {words} {here} {w} {a} {b} {c} {d} {p} o z =
    let none : (v : ℕ → Bool) → here v ≡ true → Same w (value (unknown v net words) p) 0 = λ v h. zero_same (zero_of (value (unknown v net words) p % 2 ^ w) (z.is v h)) in
    record { lesser = λ v h. o.lesser (unknown v net words) (truths v net words) (none v h); greater = λ v h. o.greater (unknown v net words) (truths v net words) (none v h) }

-- an order of the same numbers as a known one
pub value_of_same : {net : List NetNode} {words : List (List Bit)} {here : Condition} {w : ℕ} {a b : List Term} (k : Known) → k.width ≡ w → IsSameOrder net words here w a b k.lesser k.greater
    → IsKnown net words here k → IsValueWhere net words here w a b k.is_less
value_of_same {net} {words} {here} {w} {a} {b} k e same known =
    let at_width = subst (λ x. IsOrderWhere net words here x k.lesser k.greater k.is_less) e known in
    record {
      is = λ v h.
          let f = unknown v net words in
          ap (λ x. nat_lt x (value f b % 2 ^ w)) (same.lesser v h).is ∙ ap (λ x. nat_lt (value f k.lesser % 2 ^ w) x) (same.greater v h).is ∙ at_width.is v h;
    }

-- a comparison of what is left of two polynomials
pub value_of_rests : {net : List NetNode} {words : List (List Bit)} {here : Condition} {w : ℕ} {a b c d : List Term} {is : Bool} → IsRest net words here w a c → IsRest net words here w b d
    → IsValueWhere net words here w c d is → IsValueWhere net words here w a b is
value_of_rests {net} {words} {here} {w} {a} {b} {c} {d} one other value_is = record {
  is = λ v h.
      let f = unknown v net words in
      ap (λ x. nat_lt x (value f b % 2 ^ w)) (one.is v h).is ∙ ap (λ x. nat_lt (value f c % 2 ^ w) x) (other.is v h).is ∙ value_is.is v h;
}

-- the value of a bit that tells an order
pub answer_order : {net : List NetNode} {words : List (List Bit)} {here : Condition} {b : Bit} {is : Bool} (o : Order) → IsOrderOf net words o.width o.lesser o.greater o.bit
    → IsValueWhere net words here o.width o.lesser o.greater is → o.bit.node ≡ b.node → IsAnswer net here b (beq is (beq o.bit.negated b.negated))
answer_order {net} {words} {here} {b} {is} o order known n = record { is = λ v h. sign_known v net o.bit b is n (sym (order.is v) ∙ known.is v h) }
