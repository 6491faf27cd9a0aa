-- Where b isn't 0, quotient * b + rest is a, modulo 2^w.
use Rattle.std.proofs.Common.{◌≡◌, ℕ, ◌+◌, ◌-◌, ◌*◌, ◌/◌, ◌%◌, ◌^◌, ◌<◌, ◌≤◌, Bool, true, false, cond, not, ◌&&◌, nat_eq, int_div, List, length, refl, sym, ◌∙◌, ap, subst, arith}
use Rattle.std.proofs.lemmas.Nat.{div-add-mod'}
use Rattle.c_core.specs.Types.{width_of, is_signed, in_range, residue}
use Rattle.c_core.specs.declared.number.DataModel.{DataModel}
use Rattle.c_core.specs.declared.number.IntType.{IntType}
use Rattle.polynomials.specs.Values.{Same}
use Rattle.polynomials.proofs.Sameness.{same_refl, same_by, same_sym, same_trans, same_add, same_mul, same_mod, same_cancel}
use Rattle.circuits.specs.declared.net.Bit.{Bit}
use Rattle.circuits.specs.declared.net.NetNode.{NetNode}
use Rattle.circuits.specs.declared.quotients.Division.{Division}
use Rattle.circuits.specs.Net.{holds, xor, Means, Grown}
use Rattle.circuits.specs.Numbers.{number, typed, AreTyped, Counts}
use Rattle.circuits.specs.Gates.{negative, size}
use Rattle.circuits.specs.Words.{AreOperands}
use Rattle.circuits.specs.Division.{Divides, IsDivision}
use Rattle.circuits.proofs.Counting.{number_lt, number_stays}
use Rattle.circuits.proofs.Carrying.{counts_lt}
use Rattle.circuits.proofs.Summed.{typed_counts}
use Rattle.circuits.proofs.Sizes.{signed_number}
use Rattle.circuits.proofs.Halves.{size_pos, division_is, remainder_is, signed_residue}
use Rattle.circuits.proofs.Noted.{operands_of, same_whole, both_turned}

-- ---- numbers
filled : (m n : ℕ) → n ≤ m → m - n + n ≡ m
filled m n h = omega arith

-- p is the opposite of one factor, r that of the rest
left_filled : (m p q b r s : ℕ) → p + q ≡ m → r + s ≡ m → p * b + r + (q * b + s) ≡ (b + 1) * m
left_filled m p q b r s e f = omega (arith, f, ap (λ k. b * k) e)

right_filled : (m q p b r s : ℕ) → p + b ≡ m → r + s ≡ m → q * p + r + (q * b + s) ≡ (q + 1) * m
right_filled m q p b r s e f = omega (arith, f, ap (λ k. q * k) e)

-- what fills up to multiples of 2^w with the same number is the same
filled_same : (w x y a i j : ℕ) → x + a ≡ i * 2 ^ w → y + a ≡ j * 2 ^ w → Same w x y
filled_same w x y a i j e f =
    same_cancel a (same_trans (same_by e) (same_trans (same_whole w i) (same_trans (same_sym (same_whole w j)) (same_by (sym f)))))

-- the law of numbers of which signs are known
law_at : (w q b r a : ℕ) (s t : Bool) → q ≤ 2 ^ w → b ≤ 2 ^ w → r ≤ 2 ^ w → a ≤ 2 ^ w → q * b + r ≡ a
    → Same w (cond (xor s t) ((2 ^ w - q) % 2 ^ w) q * cond t (2 ^ w - b) b + cond s ((2 ^ w - r) % 2 ^ w) r) (cond s (2 ^ w - a) a)
law_at w q b r a false false hq hb hr ha e = same_by e
law_at w q b r a false true hq hb hr ha e =
    same_trans
    (same_add (same_trans (same_mul (same_mod w (2 ^ w - q)) (same_refl w (2 ^ w - b))) (both_turned w (2 ^ w - q) (2 ^ w - b) q b (filled (2 ^ w) q hq) (filled (2 ^ w) b hb))) (same_refl w r))
    (same_by e)
law_at w q b r a true false hq hb hr ha e =
    let whole : 2 ^ w - a + (q * b + r) ≡ 1 * 2 ^ w = omega (arith, e) in
    same_trans (same_add (same_mul (same_mod w (2 ^ w - q)) (same_refl w b)) (same_mod w (2 ^ w - r)))
    (filled_same w ((2 ^ w - q) * b + (2 ^ w - r)) (2 ^ w - a) (q * b + r) (b + 1) 1
    (left_filled (2 ^ w) (2 ^ w - q) q b (2 ^ w - r) r (filled (2 ^ w) q hq) (filled (2 ^ w) r hr)) whole)
law_at w q b r a true true hq hb hr ha e =
    let whole : 2 ^ w - a + (q * b + r) ≡ 1 * 2 ^ w = omega (arith, e) in
    same_trans (same_add (same_refl w (q * (2 ^ w - b))) (same_mod w (2 ^ w - r)))
    (filled_same w (q * (2 ^ w - b) + (2 ^ w - r)) (2 ^ w - a) (q * b + r) (q + 1) 1
    (right_filled (2 ^ w) q (2 ^ w - b) b (2 ^ w - r) r (filled (2 ^ w) b hb) (filled (2 ^ w) r hr)) whole)

-- a number from its sign and its distance from 0
sized_of : (m n : ℕ) (t : Bool) → n < m → cond t (m - cond t (m - n) n) (cond t (m - n) n) ≡ n
sized_of m n true h = omega arith
sized_of m n false h = refl

sized : (w : ℕ) (s : Bool) (n : ℕ) → n < 2 ^ w → cond (negative w s n) (2 ^ w - size w s n) (size w s n) ≡ n
sized w s n h = sized_of (2 ^ w) n (negative w s n) h

size_le_of : (m n : ℕ) (t : Bool) → n < m → cond t (m - n) n ≤ m
size_le_of m n true h = omega arith
size_le_of m n false h = omega arith

size_le : (w : ℕ) (s : Bool) (n : ℕ) → n < 2 ^ w → size w s n ≤ 2 ^ w
size_le w s n h = size_le_of (2 ^ w) n (negative w s n) h

number_law : (w : ℕ) (s : Bool) (m n q r x y : ℕ) → m < 2 ^ w → n < 2 ^ w → q < 2 ^ w → r < 2 ^ w → q * size w s n + r ≡ size w s m
    → x ≡ cond (xor (negative w s m) (negative w s n)) ((2 ^ w - q) % 2 ^ w) q → y ≡ cond (negative w s m) ((2 ^ w - r) % 2 ^ w) r
    → Same w (x * n + y) m
number_law w s m n q r x y hm hn hq hr e ex ey =
    let law = law_at w q (size w s n) r (size w s m) (negative w s m) (negative w s n) (omega arith) (size_le w s n hn) (omega arith) (size_le w s m hm) e in
    let left : x * n + y ≡ cond (xor (negative w s m) (negative w s n)) ((2 ^ w - q) % 2 ^ w) q * cond (negative w s n) (2 ^ w - size w s n) (size w s n) + cond (negative w s m) ((2 ^ w - r) % 2 ^ w) r =
    ap (λ k. k * n + y) ex ∙ ap (λ k. cond (xor (negative w s m) (negative w s n)) ((2 ^ w - q) % 2 ^ w) q * k + y) (sym (sized w s n hn))
    ∙ ap (λ k. cond (xor (negative w s m) (negative w s n)) ((2 ^ w - q) % 2 ^ w) q * cond (negative w s n) (2 ^ w - size w s n) (size w s n) + k) ey in
    same_trans (same_by left) (same_trans law (same_by (sized w s m hm)))

-- ---- the circuit
counted_lt : {w : ℕ} (v : ℕ → Bool) (net : List NetNode) (bits : List Bit) → length bits ≡ w → number v net bits < 2 ^ w
counted_lt {w} v net bits e = subst (λ (k : ℕ). number v net bits < 2 ^ k) e (number_lt v net bits)

-- both results with their signs
pub division_made : {m : DataModel} {ty : IntType} {old mid new : List NetNode} {quotient rest : List Bit} {d : Division} (a b : List Bit)
    → AreTyped m ty old a → AreTyped m ty old b
    → Divides mid (width_of m ty) (width_of m ty) (λ v. size (width_of m ty) (is_signed ty) (number v old a)) (λ v. size (width_of m ty) (is_signed ty) (number v old b)) quotient rest
    → Means new d.some (λ v. not (nat_eq (number v old b) 0))
    → Means new d.overflow (λ v. not (nat_eq (number v old b) 0) && (is_signed ty && not (in_range m ty (int_div (typed m ty v old a) (typed m ty v old b)))))
    → Counts new d.quotient.items (width_of m ty) (λ v. cond (xor (negative (width_of m ty) (is_signed ty) (number v old a)) (negative (width_of m ty) (is_signed ty) (number v old b))) ((2 ^ width_of m ty - number v mid quotient) % 2 ^ width_of m ty) (number v mid quotient))
    → Counts new d.rest.items (width_of m ty) (λ v. cond (negative (width_of m ty) (is_signed ty) (number v old a)) ((2 ^ width_of m ty - number v mid rest) % 2 ^ width_of m ty) (number v mid rest))
    → IsDivision m ty old new a b d
division_made {m} {ty} {old} {mid} {new} {quotient} {rest} {d} a b ha hb k some over q r =
    let w = width_of m ty in
    let s = is_signed ty in
    let la : (v : ℕ → Bool) → number v old a < 2 ^ w = counts_lt (typed_counts ha) in
    let lb : (v : ℕ → Bool) → number v old b < 2 ^ w = counts_lt (typed_counts hb) in
    let lq : (v : ℕ → Bool) → number v mid quotient < 2 ^ w = λ (v : ℕ → Bool). counted_lt v mid quotient k.quotient_wide in
    let lr : (v : ℕ → Bool) → number v mid rest < 2 ^ w = λ (v : ℕ → Bool). counted_lt v mid rest k.rest_wide in
    let t : (ℕ → Bool) → Bool = λ v. xor (negative w s (number v old a)) (negative w s (number v old b)) in
    let whole : (v : ℕ → Bool) → nat_eq (number v old b) 0 ≡ false → number v mid quotient * size w s (number v old b) + number v mid rest ≡ size w s (number v old a) =
    λ (v : ℕ → Bool) (z : nat_eq (number v old b) 0 ≡ false).
    let p : 0 < size w s (number v old b) = size_pos w s (number v old b) (lb v) z in
    ap (λ i. i * size w s (number v old b) + number v mid rest) (k.quotient_is v p)
    ∙ ap (λ i. size w s (number v old a) / size w s (number v old b) * size w s (number v old b) + i) (k.rest_is v p)
    ∙ div-add-mod' (size w s (number v old a)) (size w s (number v old b)) in
    record {
      quotient_in = record { inside = q.inside; wide = q.wide };
      rest_in = record { inside = r.inside; wide = r.wide };
      some = some;
      overflow = over;
      quotient_is = λ v z.
          q.is v ∙ signed_residue w (t v) (number v mid quotient) (lq v)
          ∙ ap (λ i. residue w (signed_number (t v) i)) (k.quotient_is v (size_pos w s (number v old b) (lb v) z))
          ∙ ap (λ i. residue w i) (sym (division_is w s (number v old a) (number v old b) (la v) (lb v) z));
      rest_is = λ v z.
          r.is v ∙ signed_residue w (negative w s (number v old a)) (number v mid rest) (lr v)
          ∙ ap (λ i. residue w (signed_number (negative w s (number v old a)) i)) (k.rest_is v (size_pos w s (number v old b) (lb v) z))
          ∙ ap (λ i. residue w i) (sym (remainder_is w s (number v old a) (number v old b) (la v) (lb v) z));
      law = λ v z.
          number_law w s (number v old a) (number v old b) (number v mid quotient) (number v mid rest) (number v new d.quotient.items) (number v new d.rest.items)
          (la v) (lb v) (lq v) (lr v) (whole v z) (q.is v) (r.is v);
    }

-- both results are operands
pub results_of : {m : DataModel} {ty : IntType} {old new : List NetNode} {a b quotient rest : List Bit} {d : Division} → IsDivision m ty old new a b d → quotient ≡ d.quotient.items → rest ≡ d.rest.items → AreOperands new quotient rest
results_of {m} {ty} {old} {new} {a} {b} {quotient} {rest} {d} k eq er = rw (eq, er) (operands_of k.quotient_in k.rest_in)

some_true : (b : Bool) → not b ≡ true → b ≡ false
some_true true e = cc
some_true false e = refl

-- the law where there is a quotient, as it is kept
pub law_noted : {m : DataModel} {ty : IntType} {old new : List NetNode} {d : Division} {quotient rest : List Bit} {most : ℕ} (a b : List Bit) → Grown most old new
    → AreTyped m ty old a → AreTyped m ty old b → IsDivision m ty old new a b d → quotient ≡ d.quotient.items → rest ≡ d.rest.items
    → (v : ℕ → Bool) → holds v new d.some ≡ true → Same (length a) (number v new quotient * number v new b + number v new rest) (number v new a)
law_noted {m} {ty} {old} {new} {d} {quotient} {rest} {most} a b g ha hb k eq er v h =
    let some : nat_eq (number v old b) 0 ≡ false = some_true (nat_eq (number v old b) 0) (sym (k.some.is v) ∙ h) in
    let left : number v new quotient * number v new b + number v new rest ≡ number v new d.quotient.items * number v old b + number v new d.rest.items =
    ap (λ l. number v new l * number v new b + number v new rest) eq
    ∙ ap (λ l. number v new d.quotient.items * number v new b + number v new l) er
    ∙ ap (λ i. number v new d.quotient.items * i + number v new d.rest.items) (number_stays v most old new b g hb.inside) in
    subst (λ (n : ℕ). Same n (number v new quotient * number v new b + number v new rest) (number v new a)) (sym ha.wide)
    (same_trans (same_by left) (same_trans (k.law v some) (same_by (sym (number_stays v most old new a g ha.inside)))))
