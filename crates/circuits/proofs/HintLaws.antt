-- What sums, products and choices of polynomials over words tell.
use Rattle.std.proofs.Common.{◌≡◌, ℕ, ◌+◌, ◌*◌, ◌%◌, ◌^◌, ◌<◌, ◌≤◌, nat_eq, nat_lt, cond, Bool, true, false, List, [], ◌∷◌, length, not, refl, sym, ◌∙◌, ap, subst, arith}
use Rattle.std.proofs.lemmas.List.Elements.{All-nil, All-replicate}
use Rattle.polynomials.specs.Values.{AreFactorsBelow, product_of, value, Same}
use Rattle.polynomials.specs.Calls.{IsWithMultiple, IsWithTerm, Multiplies, HasSameZeros, IsConstant}
use Rattle.polynomials.specs.declared.polynomial.Term.{Term}
use Rattle.polynomials.proofs.Sameness.{same_refl, same_by, same_trans, same_add, same_mul, same_narrow}
use Rattle.circuits.specs.declared.net.Bit.{Bit}
use Rattle.circuits.specs.declared.net.NetNode.{NetNode}
use Rattle.circuits.specs.declared.words.Words.{Words}
use Rattle.circuits.specs.declared.hints.Hints.{Hints}
use Rattle.circuits.specs.Net.{holds, IsNet, Means}
use Rattle.circuits.specs.Numbers.{digit, number}
use Rattle.circuits.specs.Words.{unknown, Tells, IsZeroOf, IsOrderOf, AreOperands, AreWords, AreTrue, Asks, Continues}
use Rattle.circuits.proofs.Nets.{means_yes, opp}
use Rattle.circuits.proofs.Counting.{number_lt}
use Rattle.circuits.proofs.WordLaws.{truths, tells_by, zeros_after, orders_after}
use Rattle.circuits.proofs.Congruence.{choice, equal_where_zero, same_fewer, same_zero, vanishes}

-- as many digits, by another name
pub tells_wide : {net : List NetNode} {ws : List (List Bit)} {w x : ℕ} {p : List Term} {f : (ℕ → Bool) → ℕ} → w ≡ x → Tells net ws w p f → Tells net ws x p f
tells_wide {net} {ws} {w} {x} {p} {f} e t = subst (λ (n : ℕ). Tells net ws n p f) e t

-- fewer digits
pub tells_fewer : {net : List NetNode} {ws : List (List Bit)} {n : ℕ} {p : List Term} {f : (ℕ → Bool) → ℕ} (w : ℕ) → w ≤ n → Tells net ws n p f → Tells net ws w p f
tells_fewer {net} {ws} {n} {p} {f} w l t = record { over = t.over; is = λ v. same_fewer w l (t.is v) }

-- no factors
product_of_none : (v : ℕ → ℕ) → product_of v (0 ∷ 0 ∷ 0 ∷ 0 ∷ 0 ∷ 0 ∷ []) ≡ 1
unfolding product_of
product_of_none v = refl

pub none_below : (n : ℕ) → 0 < n → AreFactorsBelow n (0 ∷ 0 ∷ 0 ∷ 0 ∷ 0 ∷ 0 ∷ [])
none_below n h =
    All-replicate (λ (x : ℕ). x < n) 6 0 h

-- a multiple of another polynomial more
pub tells_multiple : {net : List NetNode} {ws : List (List Bit)} {w k : ℕ} {factors : List ℕ} {p q r : List Term} {f g : (ℕ → Bool) → ℕ}
    → IsWithMultiple w p k factors q r → factors ≡ 0 ∷ 0 ∷ 0 ∷ 0 ∷ 0 ∷ 0 ∷ [] → Tells net ws w p f → Tells net ws w q g → Tells net ws w r (λ v. f v + k * g v)
tells_multiple {net} {ws} {w} {k} {factors} {p} {q} {r} {f} {g} m e s t = record {
  over = m.within (2 * length ws + 2) s.over (rw e (none_below (2 * length ws + 2) (omega arith))) t.over;
  is = λ v.
      let u : ℕ → ℕ = unknown v net ws in
      let alone : k * product_of u factors ≡ k = ap (λ l. k * product_of u l) e ∙ ap (λ n. k * n) (product_of_none u) ∙ omega arith in
      same_trans (m.is u (truths v net ws)) (same_add (s.is v) (same_trans (same_by (ap (λ n. n * value u q) alone)) (same_mul (same_refl w k) (t.is v))));
}

pub tells_product : {net : List NetNode} {ws : List (List Bit)} {w : ℕ} {p q r : List Term} {f g : (ℕ → Bool) → ℕ}
    → Multiplies w p q r → Tells net ws w p f → Tells net ws w q g → Tells net ws w r (λ v. f v * g v)
tells_product {net} {ws} {w} {p} {q} {r} {f} {g} m s t = record {
  over = m.within (2 * length ws + 2) s.over t.over;
  is = λ v. same_trans (m.is (unknown v net ws) (truths v net ws)) (same_mul (s.is v) (t.is v));
}

-- b + test * (a - b)
pub tells_choice : {net : List NetNode} {ws : List (List Bit)} {w : ℕ} {p : List Term} (test : Bit) (a b : List Bit) (m : ℕ) → w ≤ 64 → m + 1 ≡ 2 ^ 64
    → Tells net ws w p (λ v. number v net b + 1 * (digit (holds v net test) * (number v net a + m * number v net b)))
    → Tells net ws w p (λ v. cond (holds v net test) (number v net a) (number v net b))
tells_choice {net} {ws} {w} {p} test a b m l e t =
    tells_by (λ v. cond (holds v net test) (number v net a) (number v net b)) t
    (λ v. choice w m (holds v net test) (number v net a) (number v net b) l e)

-- the constant 0 tells 0
pub tells_none : {net : List NetNode} {ws : List (List Bit)} {w : ℕ} {p : List Term} → p ≡ [] → Tells net ws w p (λ v. 0)
tells_none {net} {ws} {w} {p} e = rw e (record { over = All-nil (λ t. AreFactorsBelow (2 * length ws + 2) t.factors); is = λ v. same_refl w 0 })

-- a difference in its normal form
pub asks_normal : {net : List NetNode} {ws : List (List Bit)} {a b : List Bit} {p q : List Term} (m : ℕ) → m + 1 ≡ 2 ^ 64 → AreOperands net a b
    → Tells net ws (length a) p (λ v. number v net a + m * number v net b) → HasSameZeros (length a) p q → Asks net ws a b q
asks_normal {net} {ws} {a} {b} {p} {q} m e o t h = record {
  over = h.within (2 * length ws + 2) t.over;
  is = λ v.
      let u : ℕ → ℕ = unknown v net ws in
      let below : number v net b < 2 ^ length a = rw (← o.same) (number_lt v net b) in
      equal_where_zero (length a) m (number v net a) (number v net b) (value u p) (value u q) o.wide e (number_lt v net a) below (t.is v) (h.kept u) (h.only u);
}

-- a bit that tells where a difference is 0
pub means_asked : {net : List NetNode} {ws : List (List Bit)} {a b : List Bit} {q : List Term} {bit : Bit} → Asks net ws a b q → IsZeroOf net ws (length a) q bit
    → Means net bit (λ v. nat_eq (number v net a) (number v net b))
means_asked {net} {ws} {a} {b} {q} {bit} k z = record { inside = z.inside; is = λ v. sym (z.is v) ∙ k.is v }

pub zero_asked : {net : List NetNode} {ws : List (List Bit)} {a b : List Bit} {q : List Term} {bit : Bit} → Asks net ws a b q
    → Means net bit (λ v. nat_eq (number v net a) (number v net b)) → IsZeroOf net ws (length a) q bit
zero_asked {net} {ws} {a} {b} {q} {bit} k m = record { inside = m.inside; over = k.over; is = λ v. k.is v ∙ sym (m.is v) }

pub constant_bit : (net : List NetNode) (b : Bool) (f : (ℕ → Bool) → Bool) → IsNet net → ((v : ℕ → Bool) → b ≡ f v) → Means net (record { node = 0; negated = not b }) f
constant_bit net true f n e = let yes = means_yes net n in record { inside = yes.inside; is = λ v. yes.is v ∙ e v }
constant_bit net false f n e = let no = opp refl (means_yes net n) in record { inside = no.inside; is = λ v. no.is v ∙ e v }

-- a constant tells it for all inputs
pub means_constant : {net : List NetNode} {ws : List (List Bit)} {a b : List Bit} {q : List Term} {c r : ℕ} → IsNet net → length a ≤ 64 → Asks net ws a b q → IsConstant q c
    → r ≡ c % 2 ^ length a → Means net (record { node = 0; negated = not (nat_eq r 0) }) (λ v. nat_eq (number v net a) (number v net b))
means_constant {net} {ws} {a} {b} {q} {c} {r} n l k i e =
    let same : (v : ℕ → Bool) → nat_eq r 0 ≡ nat_eq (number v net a) (number v net b) =
    λ v. ap (λ x. nat_eq x 0) (e ∙ sym (same_narrow l (i.is (unknown v net ws))).is) ∙ k.is v in
    constant_bit net (nat_eq r 0) (λ v. nat_eq (number v net a) (number v net b)) n same

-- a number more
pub tells_sum : {net : List NetNode} {ws : List (List Bit)} {w k : ℕ} {factors : List ℕ} {p r : List Term} {f : (ℕ → Bool) → ℕ}
    → IsWithTerm w p k factors r → factors ≡ 0 ∷ 0 ∷ 0 ∷ 0 ∷ 0 ∷ 0 ∷ [] → Tells net ws w p f → Tells net ws w r (λ v. f v + k)
tells_sum {net} {ws} {w} {k} {factors} {p} {r} {f} m e t = record {
  over = m.within (2 * length ws + 2) t.over (rw e (none_below (2 * length ws + 2) (omega arith)));
  is = λ v.
      let u : ℕ → ℕ = unknown v net ws in
      let alone : k * product_of u factors ≡ k = ap (λ l. k * product_of u l) e ∙ ap (λ n. k * n) (product_of_none u) ∙ omega arith in
      same_trans (m.is u) (same_add (t.is v) (same_by alone));
}

-- a bit that tells which of two numbers is less
pub order_told : {net : List NetNode} {ws : List (List Bit)} {w : ℕ} {lesser greater : List Term} {f g : (ℕ → Bool) → ℕ} {bit : Bit} → Tells net ws w lesser f → Tells net ws w greater g
    → Means net bit (λ v. nat_lt (f v % 2 ^ w) (g v % 2 ^ w)) → IsOrderOf net ws w lesser greater bit
order_told {net} {ws} {w} {lesser} {greater} {f} {g} {bit} l r m = record {
  inside = m.inside;
  lesser_over = l.over;
  greater_over = r.over;
  is = λ v.
      ap (λ k. nat_lt k (value (unknown v net ws) greater % 2 ^ w)) (l.is v).is
      ∙ ap (λ k. nat_lt (f v % 2 ^ w) k) (r.is v).is
      ∙ sym (m.is v);
}

-- ---- laws
-- a truth times what is 0 where it is 1
law_zero : (w m q b r a : ℕ) (truth : Bool) → w ≤ 64 → m + 1 ≡ 2 ^ 64 → (truth ≡ true → Same w (q * b + r) a)
    → Same w (digit truth * (q * b + 1 * r + m * a)) 0
law_zero w m q b r a false l e h = same_by (omega arith)
law_zero w m q b r a true l e h =
    let apart : 1 * (q * b + 1 * r + m * a) ≡ q * b + r + m * a = omega arith in
    same_trans (same_by apart) (same_trans (same_add (h refl) (same_refl w (m * a))) (vanishes w m a l e))

-- a law in its normal form
pub zero_law : {net : List NetNode} {ws : List (List Bit)} {w : ℕ} {p q : List Term} (some : Bit) (quotient b rest a : List Bit) (m : ℕ) → IsNet net → w ≤ 64 → m + 1 ≡ 2 ^ 64
    → Tells net ws w p (λ v. digit (holds v net some) * (number v net quotient * number v net b + 1 * number v net rest + m * number v net a))
    → ((v : ℕ → Bool) → holds v net some ≡ true → Same w (number v net quotient * number v net b + number v net rest) (number v net a))
    → HasSameZeros w p q → IsZeroOf net ws w q (record { node = 0; negated = false })
zero_law {net} {ws} {w} {p} {q} some quotient b rest a m n l e t is z =
    let yes = means_yes net n in
    record {
      inside = yes.inside;
      over = z.within (2 * length ws + 2) t.over;
      is = λ v.
          let none : Same w (value (unknown v net ws) p) 0 =
          same_trans (t.is v) (law_zero w m (number v net quotient) (number v net b) (number v net rest) (number v net a) (holds v net some) l e (is v)) in
          ap (λ k. nat_eq k 0) (same_zero (z.kept (unknown v net ws) none)) ∙ sym (yes.is v);
    }

-- all hints, as words are added
pub true_after : {net : List NetNode} {hints : Hints} (words : Words) → AreTrue net hints → AreWords net words.list.items
    → Continues hints.words.list.items words.list.items → AreTrue net (record { alloc = hints.alloc; words = words; zeros = hints.zeros; orders = hints.orders })
true_after {net} {hints} words t w c = record {
  words = w;
  zeros = zeros_after hints.zeros.list.items c t.zeros;
  orders = orders_after hints.orders.list.items c t.orders;
}
