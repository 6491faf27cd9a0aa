-- What follows wherever a bit is true, and how it is found.
use Rattle.std.proofs.Common.{◌≡◌, ℕ, ◌+◌, ◌*◌, ◌%◌, ◌^◌, ◌<◌, ◌≤◌, nat_eq, Bool, true, false, not, ◌&&◌, ◌||◌, Option, Some, None, List, [], ◌∷◌, ◌++◌, length, get_or, slice_get, refl, sym, ◌∙◌, ap, subst, arith}
use Rattle.std.specs.Option.{IfSome}
use Rattle.std.proofs.lemmas.List.Elements.{All-push, All-nil, All-head, All-get_or, All-weaker}
use Rattle.std.proofs.lemmas.Bool.Decides.{nat_tests}
use Rattle.std.proofs.lemmas.Option.{IfSome_then, get_or_from_slice_get, slice_get_within}
use Rattle.std.proofs.Math.Bool.{beq}
use Rattle.polynomials.specs.Values.{AreBelow, Same, factor, value}
use Rattle.polynomials.specs.Calls.{IsWithTerm, IsConstant}
use Rattle.polynomials.specs.Elimination.{IsReduced}
use Rattle.polynomials.specs.declared.polynomial.Term.{Term}
use Rattle.polynomials.proofs.Sameness.{same_by, same_sym, same_trans, same_narrow}
use Rattle.circuits.specs.declared.net.Bit.{Bit}
use Rattle.circuits.specs.declared.net.NetNode.{NetNode}
use Rattle.circuits.specs.declared.net.NetNode.TheVariants.{Constant, And}
use Rattle.circuits.specs.declared.words.Word.{Word}
use Rattle.circuits.specs.declared.zeros.Zero.{Zero}
use Rattle.circuits.specs.Net.{holds, opposite, IsIn, IsNet, Means}
use Rattle.circuits.specs.Numbers.{digit, AreIn}
use Rattle.circuits.specs.Words.{unknown, bits_of, AreWords, AreZeros, IsWord, IsZero, IsZeroOf}
use Rattle.circuits.specs.Facts.{Condition, AllFollow, AreArms, AreFacts, AreParted, IsAnswer, IsBoth, IsConjoined, IsDigit, IsDisjunction, IsEither, IsFact, IsLeftOut, IsNowhere, IsRest, IsTruthFact, IsZeroWhere}
use Rattle.circuits.proofs.Nodes.{and_arguments, and_swapped, means_found, found}
use Rattle.circuits.proofs.Nets.{holds-opposite, means_by, means_yes, opp}
use Rattle.circuits.proofs.Unknowns.{factor_of, found_word, place_within, product_one, unknown_odd}
use Rattle.circuits.proofs.Congruence.{vanishes, zero_same}
use Rattle.circuits.proofs.HintLaws.{none_below}
use Rattle.circuits.proofs.WordLaws.{truths}

-- ---- bits
by_signs : (v : ℕ → Bool) (net : List NetNode) (n : ℕ) (s t r : Bool) → holds v net (record { node = n; negated = s }) ≡ r → holds v net (record { node = n; negated = t }) ≡ beq r (beq s t)
by_signs v net n true true true h = h
by_signs v net n true true false h = h
by_signs v net n false false true h = h
by_signs v net n false false false h = h
by_signs v net n true false true h = holds-opposite v net (record { node = n; negated = true }) ∙ ap not h
by_signs v net n true false false h = holds-opposite v net (record { node = n; negated = true }) ∙ ap not h
by_signs v net n false true true h = holds-opposite v net (record { node = n; negated = false }) ∙ ap not h
by_signs v net n false true false h = holds-opposite v net (record { node = n; negated = false }) ∙ ap not h

-- a bit of a node whose bit is known
pub sign_known : (v : ℕ → Bool) (net : List NetNode) (a b : Bit) (r : Bool) → a.node ≡ b.node → holds v net a ≡ r → holds v net b ≡ beq r (beq a.negated b.negated)
sign_known v net a b r e h =
    by_signs v net b.node a.negated b.negated r (ap (λ n. holds v net (record { node = n; negated = a.negated })) (sym e) ∙ h)

-- an and-node, and what it conjoins
pub both_found : (net : List NetNode) (b left right : Bit) → IsNet net → b.negated ≡ false → Some (And left right) ≡ slice_get net b.node → IsBoth net b left right
both_found net b left right h e f =
    let here = found net b.node (And left right) (Constant true) f in
    let before = and_arguments net h b.node left right here.0 here.1 in
    let means = means_found net left right b.node h f in
    record {
      left_in = omega (arith, here.0, before.left.1);
      right_in = omega (arith, here.0, before.right.1);
      is = λ v. ap (λ n. holds v net (record { node = b.node; negated = n })) e ∙ means.is v;
    }

pub both_swapped : {net : List NetNode} {b left right : Bit} → IsBoth net b left right → IsBoth net b right left
both_swapped {net} {b} {left} {right} h = record {
  left_in = h.right_in;
  right_in = h.left_in;
  is = λ v. h.is v ∙ and_swapped (holds v net right) (holds v net left);
}

parts_are_it : (x y : Bool) → x ≡ ((x && not y) || (x && y))
parts_are_it true true = refl
parts_are_it true false = refl
parts_are_it false true = refl
parts_are_it false false = refl

-- two bits that a test parts
pub either_of : {net : List NetNode} {a b x y z w : Bit} → IsBoth net a x y → IsBoth net b z w → x ≡ z → y ≡ opposite w → IsEither net a b x
either_of {net} {a} {b} {x} {y} {z} {w} left right e f = record {
  inside = left.left_in;
  is = λ v.
      parts_are_it (holds v net x) (holds v net w)
      ∙ ap (λ k. (holds v net x && k) || (holds v net x && holds v net w)) (sym (ap (holds v net) f ∙ holds-opposite v net w))
      ∙ ap (λ k. k || (holds v net x && holds v net w)) (sym (left.is v))
      ∙ ap (λ k. holds v net a || (k && holds v net w)) (ap (holds v net) e)
      ∙ ap (λ k. holds v net a || k) (sym (right.is v));
}

pub parted_either : {net : List NetNode} {a b x y z w l m n o r : Bit} → IsBoth net a x y → IsBoth net b z w → l ≡ x → m ≡ y → n ≡ z → o ≡ w → AreParted l m n o r → IsEither net a b r
parted_either {net} {a} {b} {x} {y} {z} {w} {l} {m} {n} {o} {r} left right el em en eo p =
    subst (λ k. IsEither net a b k) (sym (p.is ∙ el)) (either_of left right (sym el ∙ p.same ∙ en) (sym em ∙ p.apart ∙ ap opposite eo))

-- ---- bits that follow
pub follow_own : (net : List NetNode) (b : Bit) → IsIn net b → AllFollow net (λ v. holds v net b) (b ∷ [])
follow_own net b h = record {
  inside = All-push (λ x. IsIn net x) [] b (All-nil (λ x. IsIn net x)) h;
  is = λ v e. All-push (λ x. holds v net x ≡ true) [] b (All-nil (λ x. holds v net x ≡ true)) e;
}

left_true : (x y : Bool) → (x && y) ≡ true → x ≡ true
left_true true y h = refl
left_true false y h = h

right_true : (x y : Bool) → (x && y) ≡ true → y ≡ true
right_true true y h = h
right_true false y h = cc

-- what a bit that follows conjoins follows too
pub follow_both : {net : List NetNode} {here : Condition} (bits : List Bit) (at : ℕ) (d left right : Bit) → AllFollow net here bits → at < length bits → IsBoth net (get_or bits at d) left right
    → AllFollow net here ((bits ++ left ∷ []) ++ right ∷ [])
follow_both {net} {here} bits at d left right f lt both =
    let parts : (v : ℕ → Bool) → here v ≡ true → (holds v net left && holds v net right) ≡ true =
    λ v h. sym (both.is v) ∙ All-get_or (λ x. holds v net x ≡ true) bits at d lt (f.is v h) in
    record {
      inside = All-push (λ x. IsIn net x) (bits ++ left ∷ []) right (All-push (λ x. IsIn net x) bits left f.inside both.left_in) both.right_in;
      is = λ v h.
          All-push (λ x. holds v net x ≡ true) (bits ++ left ∷ []) right
          (All-push (λ x. holds v net x ≡ true) bits left (f.is v h) (left_true (holds v net left) (holds v net right) (parts v h)))
          (right_true (holds v net left) (holds v net right) (parts v h));
    }

-- what follows where a bit is true besides
pub follow_assumed : {net : List NetNode} {here : Condition} (known : List Bit) (b : Bit) → IsIn net b → AllFollow net here known → AllFollow net (λ v. here v && holds v net b) (known ++ b ∷ [])
follow_assumed {net} {here} known b h f = record {
  inside = All-push (λ x. IsIn net x) known b f.inside h;
  is = λ v e. All-push (λ x. holds v net x ≡ true) known b (f.is v (left_true (here v) (holds v net b) e)) (right_true (here v) (holds v net b) e);
}

pub follow_left_out : {net : List NetNode} {here : Condition} (known all : List Bit) (b r : Bit) → IsLeftOut net known b r → AllFollow net here known
    → AllFollow net (λ v. here v && holds v net b) all → AllFollow net (λ v. here v && holds v net b) (all ++ r ∷ [])
follow_left_out {net} {here} known all b r o f g = record {
  inside = All-push (λ x. IsIn net x) all r g.inside o.inside;
  is = λ v e. All-push (λ x. holds v net x ≡ true) all r (g.is v e) (o.is here f v (left_true (here v) (holds v net b) e) (right_true (here v) (holds v net b) e));
}

right_is_not : (x y b : Bool) → not b ≡ (x && y) → b ≡ true → x ≡ true → not y ≡ true
right_is_not x y b e f g = ap (λ k. not (k && y)) (sym g) ∙ ap not (sym e) ∙ ap (λ k. not (not k)) f

-- the other part of a conjunction that isn't true
pub left_out_of : {net : List NetNode} {known : List Bit} {b whole left right r : Bit} → whole ≡ opposite b → IsBoth net whole left right → IsIn net right → r ≡ opposite right
    → ((here : Condition) → AllFollow net here known → IsAnswer net here left true) → IsLeftOut net known b r
left_out_of {net} {known} {b} {whole} {left} {right} {r} ew both inside er answers = record {
  inside = subst (λ k. IsIn net k) (sym er) inside;
  is = λ here f v h k.
      ap (holds v net) er ∙ holds-opposite v net right
      ∙ right_is_not (holds v net left) (holds v net right) (holds v net b) (sym (holds-opposite v net b) ∙ ap (holds v net) (sym ew) ∙ both.is v) k ((answers here f).is v h);
}

opposites : (x y b : Bool) → not b ≡ (x && y) → b ≡ true → (not x || not y) ≡ true
opposites true y b e f = sym (ap not e) ∙ ap (λ k. not (not k)) f
opposites false y b e f = refl

not_not : (b : Bool) → not (not b) ≡ b
not_not true = refl
not_not false = refl

neither : (x y b : Bool) → not b ≡ (x && y) → b ≡ (not x || not y)
neither true y b e = sym (not_not b) ∙ ap not e
neither false y b e = sym (not_not b) ∙ ap not e

-- the opposites of what is conjoined in the opposite of a bit
pub disjunction_of : {net : List NetNode} {b whole left right l r : Bit} → whole ≡ opposite b → IsBoth net whole left right → l ≡ opposite left → r ≡ opposite right → IsDisjunction net b l r
disjunction_of {net} {b} {whole} {left} {right} {l} {r} ew both el er = record {
  left_in = rw el both.left_in;
  right_in = rw er both.right_in;
  is = λ v.
      neither (holds v net left) (holds v net right) (holds v net b) (sym (holds-opposite v net b) ∙ ap (holds v net) (sym ew) ∙ both.is v)
      ∙ ap (λ k. k || not (holds v net right)) (sym (ap (holds v net) el ∙ holds-opposite v net left))
      ∙ ap (λ k. holds v net l || k) (sym (ap (holds v net) er ∙ holds-opposite v net right));
}

-- one at least of what is disjoined in a bit that follows
pub arms_of : {net : List NetNode} {b l r : Bit} (known : List Bit) (at : ℕ) (d : Bit) → at < length known → b ≡ get_or known at d → IsDisjunction net b l r → AreArms net known l r
arms_of {net} {b} {l} {r} known at d lt eb either = record {
  left_in = either.left_in;
  right_in = either.right_in;
  is = λ here f v h. sym (either.is v) ∙ ap (holds v net) eb ∙ All-get_or (λ x. holds v net x ≡ true) known at d lt (f.is v h);
}

-- a bit that follows is false, so no inputs meet the condition
pub nowhere_of : {net : List NetNode} {here : Condition} (known : List Bit) (at : ℕ) (d b : Bit) → at < length known → b ≡ get_or known at d → AllFollow net here known → IsAnswer net here b false → IsNowhere here
nowhere_of {net} {here} known at d b lt eb f answer = λ v h.
    let yes : holds v net b ≡ true = ap (holds v net) eb ∙ All-get_or (λ x. holds v net x ≡ true) known at d lt (f.is v h) in
    let no : holds v net b ≡ false = answer.is v h in
    cc

-- ---- answers
pub at_some : {A : Type 0} (P : A → Type 0) (o : Option A) (x : A) → o ≡ Some x → IfSome o P → P x
at_some {A} P o x e h = subst (λ (k : Option A). IfSome k P) e h

pub plain_sign : (t : Bool) → beq true t ≡ t
plain_sign true = refl
plain_sign false = refl

pub answer_known : (net : List NetNode) (here : Condition) (known : List Bit) (at : ℕ) (d b : Bit) → at < length known → (get_or known at d).node ≡ b.node → AllFollow net here known
    → IsAnswer net here b (beq (get_or known at d).negated b.negated)
answer_known net here known at d b lt n f = record {
  is = λ v h. sign_known v net (get_or known at d) b true n (All-get_or (λ x. holds v net x ≡ true) known at d lt (f.is v h)) ∙ plain_sign (beq (get_or known at d).negated b.negated);
}

pub answer_test : {net : List NetNode} {words : List (List Bit)} {here : Condition} {b : Bit} {is : Bool} (z : Zero) → IsZeroOf net words z.width z.polynomial z.bit → z.bit.node ≡ b.node
    → IsZeroWhere net words here z.width z.polynomial is → IsAnswer net here b (beq is (beq z.bit.negated b.negated))
answer_test {net} {words} {here} {b} {is} z zero n where_here = record {
  is = λ v h. sign_known v net z.bit b is n (sym (zero.is v) ∙ where_here.is v h);
}

turned : (r t : Bool) → beq r (beq false t) ≡ not (beq r t)
turned true true = refl
turned true false = refl
turned false true = refl
turned false false = refl

left_false : (x y : Bool) → x ≡ false → (x && y) ≡ false
left_false x y e = ap (λ k. k && y) e

right_false : (x y : Bool) → y ≡ false → (x && y) ≡ false
right_false true y e = e
right_false false y e = refl

pub conjoined_left : (right : Option Bool) → IsConjoined (Some false) right false
conjoined_left right = record { is = λ x y e f. left_false x y e }

pub conjoined_right : (left : Option Bool) → IsConjoined left (Some false) false
conjoined_right left = record { is = λ x y e f. right_false x y f }

pub conjoined_true : IsConjoined (Some true) (Some true) true
conjoined_true = record { is = λ x y e f. ap (λ k. k && y) e ∙ f }

pub answers_at : (net : List NetNode) (known : List Bit) (b : Bit) (here : Condition) (o : Option Bool) → IfSome o (λ r. (h : Condition) → AllFollow net h known → IsAnswer net h b r) → AllFollow net here known
    → IfSome o (λ r. IsAnswer net here b r)
answers_at net known b here (Some r) a f = a here f
answers_at net known b here None a f = tt

-- a conjunction, or its opposite, by its parts
pub answer_conjoined : {net : List NetNode} {here : Condition} {left right : Bit} {o p : Option Bool} {value : Bool} (plain b : Bit) → IsBoth net plain left right → plain.negated ≡ false → plain.node ≡ b.node
    → IfSome o (λ l. IsAnswer net here left l) → IfSome p (λ k. IsAnswer net here right k) → IsConjoined o p value → IsAnswer net here b (not (beq value b.negated))
answer_conjoined {net} {here} {left} {right} {o} {p} {value} plain b both s n l r c = record {
  is = λ v h.
      sign_known v net plain b value n (both.is v ∙ c.is (holds v net left) (holds v net right) (IfSome_then o l (λ x a. a.is v h)) (IfSome_then p r (λ x a. a.is v h)))
      ∙ ap (λ k. beq value (beq k b.negated)) s ∙ turned value b.negated;
}

-- ---- facts
pub zero_at : {net : List NetNode} {words : List (List Bit)} (zeros : List Zero) (at : ℕ) (d : Zero) → AreZeros net words zeros → at < length zeros → IsZero net words (get_or zeros at d)
zero_at {net} {words} zeros at d all lt = All-get_or (λ z. IsZero net words z) zeros at d lt all

pub zero_of : (x : ℕ) → nat_eq x 0 ≡ true → x ≡ 0
zero_of x e = grind (arith, nat_tests)

unsigned : (t : Bool) → t ≡ false → beq false t ≡ true
unsigned true e = sym e
unsigned false e = refl

-- a test that is true wherever a bit is
pub fact_of_test : {net : List NetNode} {words : List (List Bit)} {here : Condition} (known : List Bit) (at width : ℕ) (d : Bit) (z : Zero) → IsZeroOf net words z.width z.polynomial z.bit
    → AllFollow net here known → at < length known → z.bit ≡ get_or known at d → z.width ≡ width → IsFact net words here width z.polynomial
fact_of_test {net} {words} {here} known at width d z zero f lt same w = record {
  over = zero.over;
  is = λ v h.
      let true_here : holds v net z.bit ≡ true = ap (holds v net) same ∙ All-get_or (λ x. holds v net x ≡ true) known at d lt (f.is v h) in
      subst (λ k. Same k (value (unknown v net words) z.polynomial) 0) w (zero_same (zero_of (value (unknown v net words) z.polynomial % 2 ^ z.width) (zero.is v ∙ true_here)));
}

-- a polynomial that is 0 under every input
pub fact_of_law : {net : List NetNode} {words : List (List Bit)} {here : Condition} {w : ℕ} (z : Zero) → IsNet net → IsZeroOf net words z.width z.polynomial z.bit → z.bit.node ≡ 0 → z.bit.negated ≡ false
    → z.width ≡ w → IsFact net words here w z.polynomial
fact_of_law {net} {words} {here} {w} z n zero e s same =
    let yes : (v : ℕ → Bool) → holds v net z.bit ≡ true =
    λ v. sign_known v net (record { node = 0; negated = false }) z.bit true (sym e) ((means_yes net n).is v) ∙ plain_sign (beq false z.bit.negated) ∙ unsigned z.bit.negated s in
    record {
      over = zero.over;
      is = λ v h. subst (λ k. Same k (value (unknown v net words) z.polynomial) 0) same (zero_same (zero_of (value (unknown v net words) z.polynomial % 2 ^ z.width) (zero.is v ∙ yes v)));
    }

pub digit_of : (words : List Word) (w : Word) {b : Bit} {above : List Bit} (at x : ℕ) → slice_get words at ≡ Some w → w.bits.items ≡ b ∷ above → x ≡ 2 * at + 3 → IsDigit (bits_of words) x b
digit_of words w {b} {above} at x e f h =
    let place : Some (b ∷ above) ≡ slice_get (bits_of words) at = found_word words w (b ∷ above) at e f in
    let lt : at < length (bits_of words) = place_within (bits_of words) at place in
    record {
      some = omega (arith, h);
      over = omega (arith, h, lt);
      is = λ v net. ap (unknown v net (bits_of words)) h ∙ unknown_odd v net (bits_of words) b above at place;
    }

-- the first digit of a word is a bit of the net
pub digit_inside : {net : List NetNode} (words : List Word) (w : Word) {b : Bit} {above : List Bit} (at : ℕ) → slice_get words at ≡ Some w → w.bits.items ≡ b ∷ above → AreWords net words → IsIn net b
digit_inside {net} words w {b} {above} at e f all =
    let word : IsWord net (bits_of words) w =
    subst (λ k. IsWord net (bits_of words) k) (get_or_from_slice_get words at w w e) (All-get_or (λ k. IsWord net (bits_of words) k) words at w (slice_get_within words at w e) all) in
    All-head (λ k. IsIn net k) b above (subst (λ l. AreIn net l) f word.inside)

pub truth_is_0 : {w x : ℕ} {p : List Term} → ((v : ℕ → ℕ) → value v p ≡ factor v x) → ((n : ℕ) → x < n → AreBelow n p) → IsTruthFact w x false p
truth_is_0 {w} {x} {p} e h = record { within = h; is = λ v f. same_by (e v ∙ f) }

pub truth_is_1 : {w x m : ℕ} {old new : List Term} → w ≤ 64 → m + 1 ≡ 2 ^ 64 → ((v : ℕ → ℕ) → value v old ≡ factor v x) → ((n : ℕ) → x < n → AreBelow n old)
    → IsWithTerm w old m (0 ∷ 0 ∷ 0 ∷ 0 ∷ 0 ∷ 0 ∷ []) new → IsTruthFact w x true new
truth_is_1 {w} {x} {m} {old} {new} l k e h t = record {
  within = λ n lt. t.within n (h n lt) (none_below n (omega arith));
  is = λ v f.
      same_trans (t.is v)
      (same_trans (same_by (ap (λ p. value v old + m * p) (product_one v) ∙ ap (λ p. p + m * 1) (e v ∙ f))) (vanishes w m 1 l k));
}

-- a truth whose bit is known
pub fact_of_truth : {net : List NetNode} {words : List (List Bit)} {here : Condition} {b : Bit} {w x : ℕ} {is : Bool} {p : List Term} → IsTruthFact w x is p → IsDigit words x b → IsAnswer net here b is
    → IsFact net words here w p
fact_of_truth {net} {words} {here} {b} {w} {x} {is} {p} f d a = record {
  over = f.within (2 * length words + 2) d.over;
  is = λ v h. f.is (unknown v net words) (factor_of (unknown v net words) x d.some ∙ d.is v net ∙ ap digit (a.is v h));
}

pub facts_pushed : {net : List NetNode} {words : List (List Bit)} {here : Condition} {w : ℕ} {p : List Term} (facts : List (List Term)) → AreFacts net words here w facts → IsFact net words here w p
    → AreFacts net words here w (facts ++ p ∷ [])
facts_pushed {net} {words} {here} {w} {p} facts all f = All-push (λ x. IsFact net words here w x) facts p all f

pub no_facts : {net : List NetNode} {words : List (List Bit)} {here : Condition} {w : ℕ} → AreFacts net words here w []
no_facts {net} {words} {here} {w} = All-nil (λ x. IsFact net words here w x)

-- what facts leave of a question
pub rest_where : {net : List NetNode} {words : List (List Bit)} {here : Condition} {facts : List (List Term)} {w : ℕ} {question rest : List Term} → AreFacts net words here w facts
    → IsReduced w facts question rest → IsRest net words here w question rest
rest_where {net} {words} {here} {facts} {w} {question} {rest} all reduced = record {
  over = λ o.
      let n = 2 * length words + 2 in
      reduced.within n (All-weaker (λ p. IsFact net words here w p) (λ p. AreBelow n p) (λ p k. k.over) facts all) o;
  is = λ v h.
      let f = unknown v net words in
      same_sym (reduced.is f (truths v net words) (All-weaker (λ p. IsFact net words here w p) (λ p. Same w (value f p) 0) (λ p k. k.is v h) facts all));
}

pub rest_itself : {net : List NetNode} {words : List (List Bit)} {here : Condition} {w : ℕ} {question rest : List Term} → rest ≡ question → IsRest net words here w question rest
rest_itself {net} {words} {here} {w} {question} {rest} e = record { over = λ o. rw e o; is = λ v h. same_by (ap (value (unknown v net words)) (sym e)) }

pub rest_then : {net : List NetNode} {words : List (List Bit)} {here : Condition} {w : ℕ} {a b c : List Term} → IsRest net words here w a b → IsRest net words here w b c → IsRest net words here w a c
rest_then one other = record { over = λ o. other.over (one.over o); is = λ v h. same_trans (one.is v h) (other.is v h) }

pub one_fact : {net : List NetNode} {words : List (List Bit)} {here : Condition} {w : ℕ} {p : List Term} (facts : List (List Term)) (at : ℕ) (d : List Term) → AreFacts net words here w facts → at < length facts → p ≡ get_or facts at d
    → AreFacts net words here w (p ∷ [])
one_fact {net} {words} {here} {w} {p} facts at d all lt e =
    facts_pushed [] no_facts (subst (λ x. IsFact net words here w x) (sym e) (All-get_or (λ x. IsFact net words here w x) facts at d lt all))

-- a question of which a number is left
pub zero_left : {net : List NetNode} {words : List (List Bit)} {here : Condition} {w c r : ℕ} {question rest : List Term} → w ≤ 64 → IsRest net words here w question rest
    → IsConstant rest c → r ≡ c % 2 ^ w → IsZeroWhere net words here w question (nat_eq r 0)
zero_left {net} {words} {here} {w} {c} {r} {question} {rest} l left constant e = record {
  is = λ v h.
      let f = unknown v net words in
      let same : Same w (value f question) c = same_trans (left.is v h) (same_narrow l (constant.is f)) in
      ap (λ k. nat_eq k 0) (same.is ∙ sym e);
}

pub same_answer : (x y : Bool) → beq x y ≡ true → x ≡ y
same_answer true true e = refl
same_answer false false e = refl
same_answer true false e = sym e
same_answer false true e = e

zero_in_case : {net : List NetNode} {words : List (List Bit)} (here : Condition) {w : ℕ} {question : List Term} {is other : Bool} (b c : Bit) (v : ℕ → Bool) (k : Bool) → here v ≡ true
    → holds v net b ≡ k → c ≡ opposite b → other ≡ is → IsZeroWhere net words (λ v. here v && holds v net b) w question is
    → IsZeroWhere net words (λ v. here v && holds v net c) w question other → nat_eq (value (unknown v net words) question % 2 ^ w) 0 ≡ is
zero_in_case {net} {words} here b c v true h g e f first second = first.is v (ap (λ x. x && holds v net b) h ∙ g)
zero_in_case {net} {words} here b c v false h g e f first second =
    second.is v (ap (λ x. x && holds v net c) h ∙ ap (holds v net) e ∙ holds-opposite v net b ∙ ap not g) ∙ f

-- a question that has one answer in both cases of a bit
pub zero_by_cases : {net : List NetNode} {words : List (List Bit)} {here : Condition} {w : ℕ} {question : List Term} {is other : Bool} (b c : Bit) → c ≡ opposite b → other ≡ is
    → IsZeroWhere net words (λ v. here v && holds v net b) w question is → IsZeroWhere net words (λ v. here v && holds v net c) w question other → IsZeroWhere net words here w question is
zero_by_cases {net} {words} {here} b c e f first second = record { is = λ v h. zero_in_case here b c v (holds v net b) h refl e f first second }

-- ---- conjunctions under a bit
and_here : (x y : Bool) → (x ≡ true → y ≡ true) → x ≡ (x && y)
and_here true y f = sym (f refl)
and_here false y f = refl

and_nowhere : (x y : Bool) → (x ≡ true → y ≡ false) → false ≡ (x && y)
and_nowhere true y f = sym (f refl)
and_nowhere false y f = refl

pub under_true : {net : List NetNode} (here b : Bit) → IsIn net here → IsAnswer net (λ v. holds v net here) b true → Means net here (λ v. holds v net here && holds v net b)
under_true {net} here b h a = record { inside = h; is = λ v. and_here (holds v net here) (holds v net b) (a.is v) }

pub under_false : {net : List NetNode} {never : Bit} (here b : Bit) → Means net never (λ v. false) → IsAnswer net (λ v. holds v net here) b false → Means net never (λ v. holds v net here && holds v net b)
under_false {net} {never} here b m a = record { inside = m.inside; is = λ v. m.is v ∙ and_nowhere (holds v net here) (holds v net b) (a.is v) }

neither_not : (x y : Bool) → not (not x && not y) ≡ (x || y)
neither_not true y = refl
neither_not false true = refl
neither_not false false = refl

-- what neither of two bits is not
pub means_either : (old : List NetNode) {new : List NetNode} (a b : Bit) {r out c d : Bit} → c ≡ opposite a → d ≡ opposite b → Means new r (λ v. holds v old c && holds v old d) → out ≡ opposite r
    → Means new out (λ v. holds v old a || holds v old b)
means_either old {new} a b {r} {out} {c} {d} ec ed m e =
    means_by _ _ _ _ (opp e m)
    (λ v. ap (λ k. not (k && holds v old d)) (ap (holds v old) ec ∙ holds-opposite v old a) ∙ ap (λ k. not (not (holds v old a) && k)) (ap (holds v old) ed ∙ holds-opposite v old b) ∙ neither_not (holds v old a) (holds v old b))
