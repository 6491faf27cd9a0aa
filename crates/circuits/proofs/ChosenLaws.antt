-- Words that tests chose: what is left of them where the test is known.
use Rattle.std.proofs.Common.{◌≡◌, ℕ, ◌+◌, ◌*◌, ◌^◌, ◌<◌, Bool, true, false, not, ◌&&◌, ◌||◌, List, [], ◌∷◌, ◌++◌, length, get_or, take, refl, sym, ◌∙◌, ap, ap₂, subst, arith, length-append}
use Rattle.std.proofs.Math.Bool.{beq}
use Rattle.std.proofs.lemmas.List.Elements.{All-append, All-cons}
use Rattle.std.proofs.lemmas.List.{take_more, take_all, length-take-le}
use Rattle.c_core.specs.declared.number.DataModel.{DataModel}
use Rattle.c_core.specs.declared.number.IntType.{IntType}
use Rattle.circuits.specs.declared.net.Bit.{Bit}
use Rattle.circuits.specs.declared.net.NetNode.{NetNode}
use Rattle.circuits.specs.Net.{holds, opposite, IsIn}
use Rattle.circuits.specs.Numbers.{digit, AreIn, AreTyped}
use Rattle.circuits.specs.Facts.{Condition, AllFollow, AreArms, IsAlike, IsAnswer, IsNowhere}
use Rattle.circuits.specs.Chosen.{AreAlike, AreInEither}
use Rattle.circuits.proofs.Counting.{in_none, snoc}
use Rattle.circuits.proofs.FactLaws.{plain_sign, sign_known}
use Rattle.circuits.proofs.Nets.{holds-opposite}

second_of : (x y : Bool) → (x || y) ≡ true → (x ≡ true → ⊥) → y ≡ true
second_of true y e n = absurd (n refl)
second_of false y e n = e

first_of : (x y : Bool) → (x || y) ≡ true → (y ≡ true → ⊥) → x ≡ true
first_of true y e n = refl
first_of false y e n = absurd (n e)

-- ---- places
pub only_second : {here one : Condition} (other : Condition) → ((v : ℕ → Bool) → here v ≡ true → (one v || other v) ≡ true) → IsNowhere one → (v : ℕ → Bool) → here v ≡ true → other v ≡ true
only_second {here} {one} other e n v h = second_of (one v) (other v) (e v h) (n v)

pub only_first : {here other : Condition} (one : Condition) → ((v : ℕ → Bool) → here v ≡ true → (one v || other v) ≡ true) → IsNowhere other → (v : ℕ → Bool) → here v ≡ true → one v ≡ true
only_first {here} {other} one e n v h = first_of (one v) (other v) (e v h) (n v)

-- what follows from a condition follows from one that is met less often
pub follow_within : {net : List NetNode} {here one : Condition} {bits : List Bit} → ((v : ℕ → Bool) → here v ≡ true → one v ≡ true) → AllFollow net one bits → AllFollow net here bits
follow_within inside f = record { inside = f.inside; is = λ v h. f.is v (inside v h) }

pub in_either : {net : List NetNode} {here one other : Condition} {first second : List Bit} → ((v : ℕ → Bool) → here v ≡ true → (one v || other v) ≡ true) → AllFollow net one first → AllFollow net other second → AreInEither net here first second
in_either {net} {here} {one} {other} e f g = record { one = one; other = other; either = e; in_one = f; in_other = g }

by_places : (one other x value_is : Bool) → (one || other) ≡ true → (one ≡ true → x ≡ value_is) → (other ≡ true → x ≡ value_is) → x ≡ value_is
by_places true other x value_is e f g = f refl
by_places false other x value_is e f g = g e

-- a value in both places
pub answer_in_either : {net : List NetNode} {here : Condition} {first second : List Bit} {b : Bit} {value_is : Bool} → AreInEither net here first second → ((one : Condition) → AllFollow net one first → IsAnswer net one b value_is)
    → ((other : Condition) → AllFollow net other second → IsAnswer net other b value_is) → IsAnswer net here b value_is
answer_in_either {net} {here} {b = b} {value_is} h first second = record {
  is = λ v e. by_places (h.one v) (h.other v) (holds v net b) value_is (h.either v e) (λ k. (first h.one h.in_one).is v k) (λ k. (second h.other h.in_other).is v k);
}

both_arms : (h x y : Bool) → h ≡ true → (x || y) ≡ true → ((h && x) || (h && y)) ≡ true
both_arms true x y e f = f
both_arms false x y e f = e

-- where bits are known, runs are in one of two arms
pub in_arms : {net : List NetNode} {here : Condition} {known : List Bit} (left right : Bit) → AreArms net known left right → AllFollow net here known
    → (v : ℕ → Bool) → here v ≡ true → ((here v && holds v net left) || (here v && holds v net right)) ≡ true
in_arms {net} {here} left right arms f v h = both_arms (here v) (holds v net left) (holds v net right) h (arms.is here f v h)

-- ---- tests
beq_swapped : (x y : Bool) → beq x y ≡ beq y x
beq_swapped true true = refl
beq_swapped true false = refl
beq_swapped false true = refl
beq_swapped false false = refl

-- the value of a bit of a test's node
pub answer_test : {net : List NetNode} {here : Condition} (t b : Bit) → b.node ≡ t.node → IsAnswer net here t true → IsAnswer net here b (beq b.negated t.negated)
answer_test {net} {here} t b e a = record { is = λ v h. sign_known v net t b true (sym e) (a.is v h) ∙ plain_sign (beq t.negated b.negated) ∙ beq_swapped t.negated b.negated }

-- a bit that is false has an opposite that is true
pub answer_opposite : {net : List NetNode} {here : Condition} {b : Bit} {value_is : Bool} (r : Bit) → r ≡ opposite b → value_is ≡ false → IsAnswer net here b value_is → IsAnswer net here r true
answer_opposite {net} {b = b} r e f a = record { is = λ v h. ap (holds v net) e ∙ holds-opposite v net b ∙ ap not (a.is v h ∙ f) }

-- ---- words
pub alike_words : {net : List NetNode} {here : Condition} (bits : List Bit) → AreIn net bits → AreAlike net here bits bits
alike_words bits h = record { inside = h; wide = refl; is = λ v e. refl }

-- bits that have the number of others are of the same type
pub alike_typed : {here : Condition} {bits rest : List Bit} (model : DataModel) (net : List NetNode) (ty : IntType) → AreTyped model ty net bits → AreAlike net here bits rest → AreTyped model ty net rest
alike_typed model net ty h a = record { inside = a.inside; wide = a.wide ∙ h.wide }

pub alike_then : {net : List NetNode} {here : Condition} {a b c : List Bit} → AreAlike net here a b → AreAlike net here b c → AreAlike net here a c
alike_then x y = record { inside = y.inside; wide = y.wide ∙ x.wide; is = λ v e. x.is v e ∙ y.is v e }

pub alike_none : (net : List NetNode) (here : Condition) (bits : List Bit) → AreAlike net here (take 0 bits) []
alike_none net here bits = record { inside = in_none (λ b. IsIn net b); wide = refl; is = λ v e. refl }

-- one digit more
pub alike_next : {net : List NetNode} {here : Condition} {out : List Bit} {i : ℕ} {s : Bit} (bits : List Bit) (d : Bit) → AreAlike net here (take i bits) out → IsAlike net here (get_or bits i d) s → i < length bits
    → AreAlike net here (take (i + 1) bits) (out ++ s ∷ [])
alike_next {net} {here} {out} {i} {s} bits d a m lt =
    let x = get_or bits i d in
    let w : length (take i bits) ≡ i = length-take-le i bits (omega arith) in
    rw (take_more bits i d lt) (record {
      inside = All-append (λ b. IsIn net b) out (s ∷ []) a.inside (All-cons (λ b. IsIn net b) s [] m.inside (in_none (λ b. IsIn net b)));
      wide = omega (arith, a.wide, length-append out (s ∷ []), length-append (take i bits) (x ∷ []));
      is = λ v e.
          snoc v net (take i bits) x i w ∙ ap₂ (λ n t. n + 2 ^ i * digit t) (a.is v e) (m.is v e)
          ∙ sym (snoc v net out s i (a.wide ∙ w));
    })

pub alike_end : {net : List NetNode} {here : Condition} {out : List Bit} {n : ℕ} (bits : List Bit) → AreAlike net here (take n bits) out → n ≡ length bits → AreAlike net here bits out
alike_end {net} {here} {out} {n} bits a e = subst (λ l. AreAlike net here l out) (take_all n bits (omega arith)) a
