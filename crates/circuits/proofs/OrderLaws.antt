-- What known orders of numbers modulo 2^w, and of polynomials over words, give.
use Rattle.std.proofs.Common.{◌≡◌, ℕ, ◌+◌, ◌*◌, ◌%◌, ◌^◌, ◌<◌, ◌≤◌, Bool, true, false, nat_lt, Option, Result, List, [], ◌∷◌, ◌++◌, length, get_or, refl, sym, ◌∙◌, ap, subst, arith}
use Rattle.std.specs.List.{All}
use Rattle.std.specs.Option.{IfSome}
use Rattle.std.specs.Result.{IfOk}
use Rattle.std.proofs.lemmas.Option.{IfSome_then}
use Rattle.std.proofs.lemmas.Result.{IfOk-weaker}
use Rattle.std.proofs.lemmas.Nat.{pow_pos, mod_below}
use Rattle.std.proofs.lemmas.Bool.{ltb-true, ltb-false}
use Rattle.std.proofs.lemmas.List.Elements.{All-push, All-get_or}
use Rattle.std.proofs.Math.Nat.{mod-eq_of_lt}
use Rattle.std.proofs.Math.Bool.{beq}
use Rattle.polynomials.specs.Values.{Same, product_of, value}
use Rattle.polynomials.specs.Calls.{IsWithMultiple, IsConstant}
use Rattle.polynomials.specs.declared.polynomial.Term.{Term}
use Rattle.polynomials.proofs.Sameness.{same_refl, same_by, same_sym, same_trans, same_add, same_mod, same_cancel, same_narrow}
use Rattle.circuits.specs.declared.net.Bit.{Bit}
use Rattle.circuits.specs.declared.net.NetNode.{NetNode}
use Rattle.circuits.specs.declared.orders.Order.{Order}
use Rattle.circuits.specs.declared.inequalities.Known.{Known}
use Rattle.circuits.specs.declared.inequalities.Equality.{Equality}
use Rattle.circuits.specs.Net.{holds}
use Rattle.circuits.specs.Words.{unknown, AreOrders, IsOrder, IsOver}
use Rattle.circuits.specs.Facts.{AllFollow, Condition, IsAnswer, IsFact, IsRest}
use Rattle.circuits.specs.Inequalities.{IsOrderWhere, IsKnown, AreKnown, AreEqualities, Follows, IsDifference, IsMoreBy}
use Rattle.circuits.proofs.Congruence.{vanishes}
use Rattle.circuits.proofs.Unknowns.{product_one}
use Rattle.circuits.proofs.HintLaws.{none_below}
use Rattle.circuits.proofs.WordLaws.{truths}
use Rattle.circuits.proofs.FactLaws.{sign_known}

-- ---- numbers
pub no_more : {w a : ℕ} (b : ℕ) → Same w a (b + 0) → a % 2 ^ w ≡ b % 2 ^ w
no_more {w} {a} b s = let e : b + 0 ≡ b = omega arith in s.is ∙ ap (λ k. k % 2 ^ w) e

pub one_more : {w a : ℕ} (b : ℕ) → Same w a (b + 1) → b % 2 ^ w + 1 < 2 ^ w → a % 2 ^ w ≡ b % 2 ^ w + 1
one_more {w} {a} b s l = s.is ∙ (same_sym (same_add (same_mod w b) (same_refl w 1))).is ∙ mod-eq_of_lt l

pub same_of_neither : (w a b c d : ℕ) → nat_lt (a % 2 ^ w) (b % 2 ^ w) ≡ false → nat_lt (c % 2 ^ w) (d % 2 ^ w) ≡ false → Same w a (d + 0) → Same w c (b + 0) → Same w a b
same_of_neither w a b c d h k s t =
    record { is = omega (arith, ltb-false (a % 2 ^ w) (b % 2 ^ w) h, ltb-false (c % 2 ^ w) (d % 2 ^ w) k, no_more d s, no_more b t) }

pub below_whole : (w a : ℕ) → a % 2 ^ w < 2 ^ w
below_whole w a = mod_below a (2 ^ w) (pow_pos w)

-- a < b, and b isn't above a + 1
pub same_of_next : (w a b c d : ℕ) → nat_lt (a % 2 ^ w) (b % 2 ^ w) ≡ true → nat_lt (c % 2 ^ w) (d % 2 ^ w) ≡ false → Same w b (d + 0) → Same w c (a + 1) → Same w b c
same_of_next w a b c d h k s t =
    let less = ltb-true (a % 2 ^ w) (b % 2 ^ w) h in
    let whole = below_whole w b in
    let next : c % 2 ^ w ≡ a % 2 ^ w + 1 = one_more a t (omega arith) in
    record { is = omega (arith, less, ltb-false (c % 2 ^ w) (d % 2 ^ w) k, no_more d s, next) }

-- a < b, which is d + 1, and a isn't below d
pub same_of_last : (w a b c d : ℕ) → nat_lt (a % 2 ^ w) (b % 2 ^ w) ≡ true → nat_lt (c % 2 ^ w) (d % 2 ^ w) ≡ false → Same w c (a + 0) → Same w b (d + 1) → Same w a d
same_of_last w a b c d h k s t =
    let less = ltb-true (a % 2 ^ w) (b % 2 ^ w) h in
    let not_less = ltb-false (c % 2 ^ w) (d % 2 ^ w) k in
    let same = no_more a s in
    let whole = below_whole w b in
    let next : b % 2 ^ w ≡ d % 2 ^ w + 1 = one_more d t (omega arith) in
    record { is = omega (arith, less, not_less, same, next) }

-- ---- polynomials
pub difference_of : {w m : ℕ} {factors : List ℕ} {p q new : List Term} → w ≤ 64 → m + 1 ≡ 2 ^ 64 → factors ≡ 0 ∷ 0 ∷ 0 ∷ 0 ∷ 0 ∷ 0 ∷ [] → IsWithMultiple w p m factors q new → IsDifference w p q new
difference_of {w} {m} {factors} {p} {q} {new} l k e h = record {
  is = λ v t.
      let alone : m * product_of v factors ≡ m = ap (λ x. m * product_of v x) e ∙ ap (λ n. m * n) (product_one v) ∙ omega arith in
      let made : Same w (value v new) (value v p + m * value v q) = same_trans (h.is v t) (same_by (ap (λ n. value v p + n * value v q) alone)) in
      let apart : value v p + m * value v q + value v q ≡ value v p + (value v q + m * value v q) = omega arith in
      let back : value v p + 0 ≡ value v p = omega arith in
      same_trans (same_add made (same_refl w (value v q)))
      (same_trans (same_by apart) (same_trans (same_add (same_refl w (value v p)) (vanishes w m (value v q) l k)) (same_by back)));
  within = λ n z a b. h.within n a (rw e (none_below n z)) b;
}

pub more_by : {w by c r : ℕ} {p q new : List Term} → w ≤ 64 → IsDifference w p q new → IsConstant new c → r ≡ c % 2 ^ w → r ≡ by → IsMoreBy w by p q
more_by {w} {by} {c} {r} {p} {q} {new} l d k e f = record {
  is = λ v t.
      let number : Same w (value v new) by = same_trans (same_narrow l (k.is v)) (same_trans (same_sym (same_mod w c)) (same_by (sym e ∙ f))) in
      let turned : by + value v q ≡ value v q + by = omega arith in
      same_trans (same_sym (d.is v t)) (same_trans (same_add number (same_refl w (value v q))) (same_by turned));
}

-- a difference of what is the same wherever a condition is met
fact_of_difference : {net : List NetNode} {words : List (List Bit)} {here : Condition} {w : ℕ} {p q new : List Term} → IsDifference w p q new → IsOver words p → IsOver words q
    → ((v : ℕ → Bool) → here v ≡ true → Same w (value (unknown v net words) p) (value (unknown v net words) q)) → IsFact net words here w new
fact_of_difference {net} {words} {here} {w} {p} {q} {new} d op oq e = record {
  over = d.within (2 * length words + 2) (omega arith) op oq;
  is = λ v h.
      let u : ℕ → ℕ = unknown v net words in
      let none : value u q ≡ 0 + value u q = omega arith in
      same_cancel (value u q) (same_trans (d.is u (truths v net words)) (same_trans (e v h) (same_by none)));
}

-- ---- known orders
-- a known order, by the width of another
width_known : {net : List NetNode} {words : List (List Bit)} {here : Condition} {w n : ℕ} {lesser greater : List Term} {is : Bool} → n ≡ w → IsOrderWhere net words here n lesser greater is
    → IsOrderWhere net words here w lesser greater is
width_known {net} {words} {here} {w} {n} {lesser} {greater} {is} e k = subst (λ x. IsOrderWhere net words here x lesser greater is) e k

pub follows_neither : {p : List Term} (x y : Known) → y.width ≡ x.width → x.is_less ≡ false → y.is_less ≡ false → IsMoreBy x.width 0 x.lesser y.greater → IsMoreBy x.width 0 y.lesser x.greater
    → IsDifference x.width x.lesser x.greater p → Follows x y p
follows_neither {p} x y w ex ey m n d = λ net words here kx ky.
    fact_of_difference d kx.lesser_over kx.greater_over (λ v h.
    let u : ℕ → ℕ = unknown v net words in
    let other = width_known {net = net} {words = words} {here = here} w ky in
    same_of_neither x.width (value u x.lesser) (value u x.greater) (value u y.lesser) (value u y.greater) (kx.is v h ∙ ex) (other.is v h ∙ ey) (m.is u (truths v net words)) (n.is u (truths v net words)))

pub follows_next : {p : List Term} (x y : Known) → y.width ≡ x.width → x.is_less ≡ true → y.is_less ≡ false → IsMoreBy x.width 0 x.greater y.greater → IsMoreBy x.width 1 y.lesser x.lesser
    → IsDifference x.width x.greater y.lesser p → Follows x y p
follows_next {p} x y w ex ey m n d = λ net words here kx ky.
    fact_of_difference d kx.greater_over ky.lesser_over (λ v h.
    let u : ℕ → ℕ = unknown v net words in
    let other = width_known {net = net} {words = words} {here = here} w ky in
    same_of_next x.width (value u x.lesser) (value u x.greater) (value u y.lesser) (value u y.greater) (kx.is v h ∙ ex) (other.is v h ∙ ey) (m.is u (truths v net words)) (n.is u (truths v net words)))

pub follows_last : {p : List Term} (x y : Known) → y.width ≡ x.width → x.is_less ≡ true → y.is_less ≡ false → IsMoreBy x.width 0 y.lesser x.lesser → IsMoreBy x.width 1 x.greater y.greater
    → IsDifference x.width x.lesser y.greater p → Follows x y p
follows_last {p} x y w ex ey m n d = λ net words here kx ky.
    fact_of_difference d kx.lesser_over ky.greater_over (λ v h.
    let u : ℕ → ℕ = unknown v net words in
    let other = width_known {net = net} {words = words} {here = here} w ky in
    same_of_last x.width (value u x.lesser) (value u x.greater) (value u y.lesser) (value u y.greater) (kx.is v h ∙ ex) (other.is v h ∙ ey) (m.is u (truths v net words)) (n.is u (truths v net words)))

pub follows_swapped : {p : List Term} (x y : Known) → y.width ≡ x.width → Follows y x p → Follows x y p
follows_swapped {p} x y e f = λ net words here kx ky. subst (λ w. IsFact net words here w p) e (f net words here ky kx)

plain_sign : (t : Bool) → beq true t ≡ t
plain_sign true = refl
plain_sign false = refl

-- the order of a bit of a node whose bit is true
pub order_known : {net : List NetNode} {words : List (List Bit)} {here : Condition} {p q : List Term} (orders : List Order) (at : ℕ) (o : Order) (bit : Bit) → o ≡ get_or orders at o → at < length orders → o.bit.node ≡ bit.node
    → IsRest net words here o.width o.lesser p → IsRest net words here o.width o.greater q → AreOrders net words orders → IsAnswer net here bit true
    → IsOrderWhere net words here o.width p q (beq bit.negated o.bit.negated)
order_known {net} {words} {here} {p} {q} orders at o bit e lt n lesser greater all a =
    let order : IsOrder net words o = subst (λ x. IsOrder net words x) (sym e) (All-get_or (λ x. IsOrder net words x) orders at o lt all) in
    record {
      lesser_over = lesser.over order.lesser_over;
      greater_over = greater.over order.greater_over;
      is = λ v h.
          let f : ℕ → ℕ = unknown v net words in
          ap (λ x. nat_lt x (value f q % 2 ^ o.width)) (sym (lesser.is v h).is) ∙ ap (λ x. nat_lt (value f o.lesser % 2 ^ o.width) x) (sym (greater.is v h).is)
          ∙ order.is v ∙ sign_known v net bit o.bit true (sym n) (a.is v h) ∙ plain_sign (beq bit.negated o.bit.negated);
    }

-- a bit that follows is true
pub follows_at : {net : List NetNode} {here : Condition} (known : List Bit) (at : ℕ) (d : Bit) → AllFollow net here known → at < length known → IsAnswer net here (get_or known at d) true
follows_at {net} {here} known at d f lt = record { is = λ v h. All-get_or (λ x. holds v net x ≡ true) known at d lt (f.is v h) }

pub narrow_pushed : (known : List Known) (k : Known) → All (λ x. x.width ≤ 64) known → k.width ≤ 64 → All (λ x. x.width ≤ 64) (known ++ k ∷ [])
narrow_pushed known k all l = All-push (λ x. x.width ≤ 64) known k all l

pub known_pushed : {net : List NetNode} {words : List (List Bit)} {here : Condition} (known : List Known) (k : Known) → AreKnown net words here known → IsKnown net words here k → AreKnown net words here (known ++ k ∷ [])
known_pushed {net} {words} {here} known k all f = All-push (λ x. IsKnown net words here x) known k all f

pub known_at : {net : List NetNode} {words : List (List Bit)} {here : Condition} (known : List Known) (at : ℕ) (k : Known) → k ≡ get_or known at k → at < length known → AreKnown net words here known → IsKnown net words here k
known_at {net} {words} {here} known at k f lt all = subst (λ x. IsKnown net words here x) (sym f) (All-get_or (λ x. IsKnown net words here x) known at k lt all)

pub narrow_at : (known : List Known) (at : ℕ) (k : Known) → k ≡ get_or known at k → at < length known → All (λ x. x.width ≤ 64) known → k.width ≤ 64
narrow_at known at k f lt all = subst (λ x. x.width ≤ 64) (sym f) (All-get_or (λ x. x.width ≤ 64) known at k lt all)

pub equality_pushed : {net : List NetNode} {words : List (List Bit)} {here : Condition} (equalities : List Equality) (e : Equality) → AreEqualities net words here equalities → IsFact net words here e.width e.polynomial
    → AreEqualities net words here (equalities ++ e ∷ [])
equality_pushed {net} {words} {here} equalities e all f = All-push (λ x. IsFact net words here x.width x.polynomial) equalities e all f

-- ---- what a call finds
pub found_then : {A E : Type 0} {P Q : A → Type 0} (r : Result (Option A) E) → IfOk r (λ o. IfSome o P) → ((x : A) → P x → Q x) → IfOk r (λ o. IfSome o Q)
found_then {A} {E} {P} {Q} r h f = IfOk-weaker r (λ o. IfSome o P) (λ o. IfSome o Q) (λ o k. IfSome_then o k f) h
