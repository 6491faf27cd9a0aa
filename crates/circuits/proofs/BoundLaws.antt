-- What known orders give by the constants in them: ranges of numbers modulo 2^w, and comparisons.
use Rattle.std.proofs.Common.{◌≡◌, ℕ, ◌+◌, ◌-◌, ◌%◌, ◌^◌, ◌<◌, ◌≤◌, nat_lt, true, false, List, sym, ◌∙◌, ap, subst, arith}
use Rattle.std.proofs.lemmas.Nat.{pow_pos, mod_below}
use Rattle.std.proofs.lemmas.Bool.{ltb-true, ltb-false}
use Rattle.std.proofs.lemmas.Bool.{lt-ltb, le-ltb}
use Rattle.std.proofs.Math.Nat.{add-mod_right, mod-eq_of_lt}
use Rattle.polynomials.specs.Values.{Same, value}
use Rattle.polynomials.specs.Calls.{IsConstant}
use Rattle.polynomials.specs.declared.polynomial.Term.{Term}
use Rattle.polynomials.proofs.Sameness.{same_add, same_mod, same_narrow, same_refl}
use Rattle.circuits.specs.declared.net.Bit.{Bit}
use Rattle.circuits.specs.declared.net.NetNode.{NetNode}
use Rattle.circuits.specs.declared.inequalities.Known.{Known}
use Rattle.circuits.specs.declared.ranges.Range.{Range}
use Rattle.circuits.specs.Words.{unknown}
use Rattle.circuits.specs.Facts.{Condition}
use Rattle.circuits.specs.Ranges.{IsWithin, IsMoved, Wraps}
use Rattle.circuits.specs.Inequalities.{IsKnown, IsMoreBy, IsOrderWhere, IsShifted, IsValueWhere, IsWithinWhere}
use Rattle.circuits.proofs.WordLaws.{truths}
use Rattle.circuits.proofs.OrderLaws.{no_more}

-- ---- ranges
-- a number alone
pub constant_within : {w m c : ℕ} {r : Range} {p : List Term} → w ≤ 64 → IsConstant p c → m ≡ c % 2 ^ w → IsWithin r m → (v : ℕ → ℕ) → IsWithin r (value v p % 2 ^ w)
constant_within {w} {m} {c} {r} l k e h v = subst (λ n. IsWithin r n) (e ∙ sym (same_narrow l (k.is v)).is) h

pub below_all : (w n : ℕ) (r : Range) → r.least ≡ 0 → r.most + 1 ≡ 2 ^ w → IsWithin r (n % 2 ^ w)
below_all w n r e f = let below = mod_below n (2 ^ w) (pow_pos w) in record { above = omega (arith, e); below = omega (arith, f, below) }

-- a polynomial that is another and a constant
moved_sum : {w p : ℕ} {r new : Range} (by q : ℕ) → Same w p (q + by) → IsMoved w r by new → IsWithin r (q % 2 ^ w) → IsWithin new (p % 2 ^ w)
moved_sum {w} {p} {r} {new} by q s m h =
    let whole = mod_below q (2 ^ w) (pow_pos w) in
    let sum : (q % 2 ^ w + by) % 2 ^ w ≡ (q + by) % 2 ^ w = (same_add (same_mod w q) (same_refl w by)).is in
    subst (λ n. IsWithin new n) (sum ∙ sym s.is) (m (q % 2 ^ w) whole h)

pub range_moved : {net : List NetNode} {words : List (List Bit)} {here : Condition} {w by : ℕ} {p q : List Term} {r new : Range} → IsMoreBy w by p q → IsWithinWhere net words here w q r → IsMoved w r by new
    → IsWithinWhere net words here w p new
range_moved {net} {words} {here} {w} {by} {p} {q} {r} {new} more within moved = record {
  is = λ v h. moved_sum by (value (unknown v net words) q) (more.is (unknown v net words) (truths v net words)) moved (within.is v h);
}

-- the range of a polynomial that is what an order's first is
pub range_below : {net : List NetNode} {words : List (List Bit)} {here : Condition} {w : ℕ} {p : List Term} {other new : Range} (k : Known) → k.width ≡ w → IsKnown net words here k
    → IsMoreBy w 0 p k.lesser → IsWithinWhere net words here w k.greater other
    → ((x y : ℕ) → IsWithin other y → x < 2 ^ w → nat_lt x y ≡ k.is_less → IsWithin new x) → IsWithinWhere net words here w p new
range_below {net} {words} {here} {w} {p} {other} {new} k e known more within below =
    let at_width = subst (λ x. IsOrderWhere net words here x k.lesser k.greater k.is_less) e known in
    record {
      is = λ v h.
          let f = unknown v net words in
          let whole = mod_below (value f k.lesser) (2 ^ w) (pow_pos w) in
          subst (λ n. IsWithin new n) (sym (no_more (value f k.lesser) (more.is f (truths v net words))))
          (below (value f k.lesser % 2 ^ w) (value f k.greater % 2 ^ w) (within.is v h) whole (at_width.is v h));
    }

-- the same of an order's second
pub range_above : {net : List NetNode} {words : List (List Bit)} {here : Condition} {w : ℕ} {p : List Term} {other new : Range} (k : Known) → k.width ≡ w → IsKnown net words here k
    → IsMoreBy w 0 p k.greater → IsWithinWhere net words here w k.lesser other
    → ((x y : ℕ) → IsWithin other x → y < 2 ^ w → nat_lt x y ≡ k.is_less → IsWithin new y) → IsWithinWhere net words here w p new
range_above {net} {words} {here} {w} {p} {other} {new} k e known more within above =
    let at_width = subst (λ x. IsOrderWhere net words here x k.lesser k.greater k.is_less) e known in
    record {
      is = λ v h.
          let f = unknown v net words in
          let whole = mod_below (value f k.greater) (2 ^ w) (pow_pos w) in
          subst (λ n. IsWithin new n) (sym (no_more (value f k.greater) (more.is f (truths v net words))))
          (above (value f k.lesser % 2 ^ w) (value f k.greater % 2 ^ w) (within.is v h) whole (at_width.is v h));
    }

pub range_both : {net : List NetNode} {words : List (List Bit)} {here : Condition} {w : ℕ} {p : List Term} {a b new : Range} → ((n : ℕ) → IsWithin a n → IsWithin b n → IsWithin new n)
    → IsWithinWhere net words here w p a → IsWithinWhere net words here w p b → IsWithinWhere net words here w p new
range_both {net} {words} {here} {w} {p} h one other = record { is = λ v k. h (value (unknown v net words) p % 2 ^ w) (one.is v k) (other.is v k) }

pub range_own : {net : List NetNode} {words : List (List Bit)} {here : Condition} {w : ℕ} {p : List Term} {r : Range} → ((v : ℕ → ℕ) → IsWithin r (value v p % 2 ^ w)) → IsWithinWhere net words here w p r
range_own {net} {words} h = record { is = λ v k. h (unknown v net words) }

-- ---- shifts
not_moved : {w p : ℕ} (q : ℕ) → Same w p (q + 0) → p % 2 ^ w + 2 ^ w ≡ q % 2 ^ w + 2 ^ w
not_moved {w} {p} q s = ap (λ n. n + 2 ^ w) (no_more q s)

pub shifted_nowhere : {net : List NetNode} {words : List (List Bit)} {here : Condition} {w by whole : ℕ} {p q : List Term} → IsMoreBy w by p q → by ≡ 0 → whole ≡ 2 ^ w → IsShifted net words here w p q whole
shifted_nowhere {net} {words} {here} {w} {by} {whole} {p} {q} more z e = record {
  is = λ v h.
      let f = unknown v net words in
      not_moved (value f q) (subst (λ n. Same w (value f p) (value f q + n)) z (more.is f (truths v net words))) ∙ ap (λ n. value f q % 2 ^ w + n) (sym e);
}

rest_of : {w p : ℕ} (by q : ℕ) → Same w p (q + by) → p % 2 ^ w ≡ (q % 2 ^ w + by) % 2 ^ w
rest_of {w} {p} by q s = s.is ∙ sym (same_add (same_mod w q) (same_refl w by)).is

-- no sum wraps
pub shifted : {net : List NetNode} {words : List (List Bit)} {here : Condition} {w by whole : ℕ} {p q : List Term} (r : Range) → IsMoreBy w by p q → IsWithinWhere net words here w q r → Wraps w r by false
    → whole ≡ 2 ^ w → IsShifted net words here w p q (by + whole)
shifted {net} {words} {here} {w} {by} {whole} {p} {q} r more within none e = record {
  is = λ v h.
      let f = unknown v net words in
      let small : value f q % 2 ^ w + by < 2 ^ w = none (value f q % 2 ^ w) (within.is v h) in
      let is : value f p % 2 ^ w ≡ value f q % 2 ^ w + by = rest_of by (value f q) (more.is f (truths v net words)) ∙ mod-eq_of_lt small in
      omega (arith, is, e);
}

wrapped : (m n : ℕ) → n < m + m → m ≤ n → n % m + m ≡ n
wrapped m n l h =
    let parts : n - m + m ≡ n = omega (arith, h) in
    ap (λ k. k % m + m) (sym parts) ∙ ap (λ k. k + m) (add-mod_right (n - m) m ∙ mod-eq_of_lt (omega (arith, l, h))) ∙ parts

-- all sums wrap
pub shifted_back : {net : List NetNode} {words : List (List Bit)} {here : Condition} {w by : ℕ} {p q : List Term} (r : Range) → by < 2 ^ w → IsMoreBy w by p q → IsWithinWhere net words here w q r
    → Wraps w r by true → IsShifted net words here w p q by
shifted_back {net} {words} {here} {w} {by} {p} {q} r l more within all = record {
  is = λ v h.
      let f = unknown v net words in
      let whole = mod_below (value f q) (2 ^ w) (pow_pos w) in
      ap (λ n. n + 2 ^ w) (rest_of by (value f q) (more.is f (truths v net words))) ∙ wrapped (2 ^ w) (value f q % 2 ^ w + by) (omega (arith, whole, l)) (all (value f q % 2 ^ w) (within.is v h));
}

-- ---- comparisons
-- a number is less where it is moved by no more, and not less where by no less
less_beside : (m x y a b i j : ℕ) → nat_lt x y ≡ true → a + m ≡ x + i → b + m ≡ y + j → i ≤ j → nat_lt a b ≡ true
less_beside m x y a b i j h e f l = lt-ltb a b (omega (arith, ltb-true x y h, e, f, l))

not_less_beside : (m x y a b i j : ℕ) → nat_lt x y ≡ false → a + m ≡ x + i → b + m ≡ y + j → j ≤ i → nat_lt a b ≡ false
not_less_beside m x y a b i j h e f l = le-ltb a b (omega (arith, ltb-false x y h, e, f, l))

not_less_across : (m x y a b i j : ℕ) → nat_lt x y ≡ true → a + m ≡ y + i → b + m ≡ x + j → j ≤ i + 1 → nat_lt a b ≡ false
not_less_across m x y a b i j h e f l = le-ltb a b (omega (arith, ltb-true x y h, e, f, l))

less_across : (m x y a b i j : ℕ) → nat_lt x y ≡ false → a + m ≡ y + i → b + m ≡ x + j → i < j → nat_lt a b ≡ true
less_across m x y a b i j h e f l = lt-ltb a b (omega (arith, ltb-false x y h, e, f, l))

pub value_less_beside : {net : List NetNode} {words : List (List Bit)} {here : Condition} {w i j : ℕ} {a b : List Term} (k : Known) → k.width ≡ w → k.is_less ≡ true → IsKnown net words here k
    → IsShifted net words here w a k.lesser i → IsShifted net words here w b k.greater j → i ≤ j → IsValueWhere net words here w a b true
value_less_beside {net} {words} {here} {w} {i} {j} {a} {b} k e less known one other l =
    let at_width = subst (λ x. IsOrderWhere net words here x k.lesser k.greater k.is_less) e known in
    record {
      is = λ v h.
          let f = unknown v net words in
          less_beside (2 ^ w) (value f k.lesser % 2 ^ w) (value f k.greater % 2 ^ w) (value f a % 2 ^ w) (value f b % 2 ^ w) i j (at_width.is v h ∙ less) (one.is v h) (other.is v h) l;
    }

pub value_not_less_beside : {net : List NetNode} {words : List (List Bit)} {here : Condition} {w i j : ℕ} {a b : List Term} (k : Known) → k.width ≡ w → k.is_less ≡ false → IsKnown net words here k
    → IsShifted net words here w a k.lesser i → IsShifted net words here w b k.greater j → j ≤ i → IsValueWhere net words here w a b false
value_not_less_beside {net} {words} {here} {w} {i} {j} {a} {b} k e less known one other l =
    let at_width = subst (λ x. IsOrderWhere net words here x k.lesser k.greater k.is_less) e known in
    record {
      is = λ v h.
          let f = unknown v net words in
          not_less_beside (2 ^ w) (value f k.lesser % 2 ^ w) (value f k.greater % 2 ^ w) (value f a % 2 ^ w) (value f b % 2 ^ w) i j (at_width.is v h ∙ less) (one.is v h) (other.is v h) l;
    }

pub value_not_less_across : {net : List NetNode} {words : List (List Bit)} {here : Condition} {w i j : ℕ} {a b : List Term} (k : Known) → k.width ≡ w → k.is_less ≡ true → IsKnown net words here k
    → IsShifted net words here w a k.greater i → IsShifted net words here w b k.lesser j → j ≤ i + 1 → IsValueWhere net words here w a b false
value_not_less_across {net} {words} {here} {w} {i} {j} {a} {b} k e less known one other l =
    let at_width = subst (λ x. IsOrderWhere net words here x k.lesser k.greater k.is_less) e known in
    record {
      is = λ v h.
          let f = unknown v net words in
          not_less_across (2 ^ w) (value f k.lesser % 2 ^ w) (value f k.greater % 2 ^ w) (value f a % 2 ^ w) (value f b % 2 ^ w) i j (at_width.is v h ∙ less) (one.is v h) (other.is v h) l;
    }

pub value_less_across : {net : List NetNode} {words : List (List Bit)} {here : Condition} {w i j : ℕ} {a b : List Term} (k : Known) → k.width ≡ w → k.is_less ≡ false → IsKnown net words here k
    → IsShifted net words here w a k.greater i → IsShifted net words here w b k.lesser j → i < j → IsValueWhere net words here w a b true
value_less_across {net} {words} {here} {w} {i} {j} {a} {b} k e less known one other l =
    let at_width = subst (λ x. IsOrderWhere net words here x k.lesser k.greater k.is_less) e known in
    record {
      is = λ v h.
          let f = unknown v net words in
          less_across (2 ^ w) (value f k.lesser % 2 ^ w) (value f k.greater % 2 ^ w) (value f a % 2 ^ w) (value f b % 2 ^ w) i j (at_width.is v h ∙ less) (one.is v h) (other.is v h) l;
    }

-- ranges that don't meet
pub value_of_lesser_range : {net : List NetNode} {words : List (List Bit)} {here : Condition} {w : ℕ} {a b : List Term} (r s : Range) → IsWithinWhere net words here w a r → IsWithinWhere net words here w b s
    → r.most < s.least → IsValueWhere net words here w a b true
value_of_lesser_range {net} {words} {here} {w} {a} {b} r s one other l = record {
  is = λ v h.
      let f = unknown v net words in
      lt-ltb (value f a % 2 ^ w) (value f b % 2 ^ w) (omega (arith, (one.is v h).below, (other.is v h).above, l));
}

pub value_of_greater_range : {net : List NetNode} {words : List (List Bit)} {here : Condition} {w : ℕ} {a b : List Term} (r s : Range) → IsWithinWhere net words here w a r → IsWithinWhere net words here w b s
    → s.most ≤ r.least → IsValueWhere net words here w a b false
value_of_greater_range {net} {words} {here} {w} {a} {b} r s one other l = record {
  is = λ v h.
      let f = unknown v net words in
      le-ltb (value f a % 2 ^ w) (value f b % 2 ^ w) (omega (arith, (one.is v h).above, (other.is v h).below, l));
}
