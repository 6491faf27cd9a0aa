-- The clauses of a bit are clauses, over its variables, and few.
use Rattle.std.proofs.Common.{◌≡◌, ◌≢◌, ℕ, zero, suc, ◌+◌, ◌*◌, ◌^◌, ◌<◌, ◌≤◌, inl, inr, Bool, true, false, cond, not, List, [], ◌∷◌, ◌++◌, length, ℤ, pos, negsuc, neg_ℤ, ◌<ℤ◌, ◌≤ℤ◌, int_lt, unsigned_abs, refl, sym, ◌∙◌, ap, arith, length-append}
use Rattle.std.proofs.lemmas.Int.{ints}
use Rattle.std.specs.List.{All, Contains}
use Rattle.std.proofs.lemmas.List.Elements.{All-nil, All-cons, All-append, All-contains}
use Rattle.std.proofs.lemmas.Bool.{cases_lt}
use Rattle.circuits.specs.declared.net.Bit.{Bit}
use Rattle.circuits.specs.declared.net.NetNode.{NetNode}
use Rattle.circuits.specs.declared.net.NetNode.TheVariants.{Constant, Input, And}
use Rattle.circuits.specs.Net.{count_inputs, IsNet}
use Rattle.clauses.specs.Clause.{IsNumber, IsClause, CanJoin}
use Rattle.clauses.specs.Within.{IsOf, AreOf}
use Rattle.clauses.specs.Marks.{IsClosed}
use Rattle.clauses.specs.Tseitin.{node_at, flag_at, variable, number_of, literal, rising_two, gate_clauses, node_clauses, clauses_below, ands_below}
use Rattle.circuits.proofs.Nets.{inputs_few}
use Rattle.clauses.proofs.Nodes.{and_arguments}
use Rattle.clauses.proofs.Variables.{ands_few, variable_ranged, variable_below, variables_apart}
use Rattle.clauses.proofs.Truth.{flagged_named, size_of}

pub size_neg : (x : ℤ) → unsigned_abs (neg_ℤ x) ≡ unsigned_abs x
size_neg (pos zero) = refl
size_neg (pos (suc n)) = refl
size_neg (negsuc n) = refl

not_own : (x : ℤ) → 0 < unsigned_abs x → x ≡ neg_ℤ x → ⊥
not_own (pos zero) h e = absurd (omega arith)
not_own (pos (suc n)) h e = cc
not_own (negsuc n) h e = cc

-- ---- numbers of different size, none 0, are apart
Differ : List ℤ → Type 0
Differ [] = Unit {0}
Differ (x ∷ xs) = (0 < unsigned_abs x) × All (λ y. unsigned_abs y ≢ unsigned_abs x) xs × Differ xs

apart_by : (xs : List ℤ) → Differ xs → (z : ℤ) → Contains xs z → Contains xs (neg_ℤ z) → ⊥
unfolding Differ
apart_by [] d z (k, lt, e) c = absurd (omega arith)
apart_by (x ∷ xs) d z (zero, lt, e) (zero, lu, f) = not_own x d.0 (f ∙ ap neg_ℤ (sym e))
apart_by (x ∷ xs) d z (zero, lt, e) (suc j, lu, f) = All-contains (λ y. unsigned_abs y ≢ unsigned_abs x) xs (neg_ℤ z) d.1 (j, omega arith, f) (size_neg z ∙ ap unsigned_abs (sym e))
apart_by (x ∷ xs) d z (suc k, lt, e) (zero, lu, f) = All-contains (λ y. unsigned_abs y ≢ unsigned_abs x) xs z d.1 (k, omega arith, e) (sym (size_neg z) ∙ ap unsigned_abs (sym f))
apart_by (x ∷ xs) d z (suc k, lt, e) (suc j, lu, f) = apart_by xs d.2 z (k, omega arith, e) (j, omega arith, f)

pub two_clause : (x y : ℤ) → IsNumber x → IsNumber y → (unsigned_abs x ≡ unsigned_abs y → ⊥) → x <ℤ y → IsClause (x ∷ y ∷ [])
unfolding Differ
two_clause x y hx hy d lt = record {
  rising = (lt, tt);
  real = All-cons (λ z. IsNumber z) x (y ∷ []) hx (All-cons (λ z. IsNumber z) y [] hy (All-nil (λ z. IsNumber z)));
  apart = apart_by (x ∷ y ∷ []) (hx.0, All-cons (λ z. unsigned_abs z ≢ unsigned_abs x) y [] (λ e. d (sym e)) (All-nil (λ z. unsigned_abs z ≢ unsigned_abs x)), (hy.0, All-nil (λ z. unsigned_abs z ≢ unsigned_abs y), tt));
}

pub three_clause : (x y z : ℤ) → IsNumber x → IsNumber y → IsNumber z → (unsigned_abs x ≡ unsigned_abs y → ⊥) → (unsigned_abs x ≡ unsigned_abs z → ⊥) → (unsigned_abs y ≡ unsigned_abs z → ⊥) → x <ℤ y → y <ℤ z → IsClause (x ∷ y ∷ z ∷ [])
unfolding Differ
three_clause x y z hx hy hz d e f lt lu = record {
  rising = (lt, (lu, tt));
  real = All-cons (λ k. IsNumber k) x (y ∷ z ∷ []) hx (All-cons (λ k. IsNumber k) y (z ∷ []) hy (All-cons (λ k. IsNumber k) z [] hz (All-nil (λ k. IsNumber k))));
  apart = apart_by (x ∷ y ∷ z ∷ []) (
    hx.0,
    All-cons (λ k. unsigned_abs k ≢ unsigned_abs x) y (z ∷ []) (λ q. d (sym q)) (All-cons (λ k. unsigned_abs k ≢ unsigned_abs x) z [] (λ q. e (sym q)) (All-nil (λ k. unsigned_abs k ≢ unsigned_abs x))),
    (hy.0, All-cons (λ k. unsigned_abs k ≢ unsigned_abs y) z [] (λ q. f (sym q)) (All-nil (λ k. unsigned_abs k ≢ unsigned_abs y)), (hz.0, All-nil (λ k. unsigned_abs k ≢ unsigned_abs z), tt)),
  );
}

-- ---- the clauses of a gate
above : (a : ℤ) (v : ℕ) → unsigned_abs a < v → a <ℤ pos v
above (pos n) v h = omega (arith, ints)
above (negsuc n) v h = omega (arith, ints)

below : (a : ℤ) (v : ℕ) → unsigned_abs a < v → neg_ℤ (pos v) <ℤ a
below (pos n) v h = omega (arith, ints)
below (negsuc n) v h = omega (arith, ints)

same_size : (x y : ℤ) → y ≤ℤ x → (unsigned_abs x ≡ unsigned_abs y → ⊥) → y <ℤ x
same_size (pos m) (pos n) h d = elim (cases_lt n m) as (λ _. pos n <ℤ pos m) [ inl l ↦ omega (arith, ints) | inr g ↦ absurd (d (omega (arith, ints))) ]
same_size (pos m) (negsuc n) h d = omega (arith, ints)
same_size (negsuc m) (pos n) h d = omega (arith, ints)
same_size (negsuc m) (negsuc n) h d = elim (cases_lt m n) as (λ _. negsuc n <ℤ negsuc m) [ inl l ↦ omega (arith, ints) | inr g ↦ absurd (d (omega (arith, ints))) ]

pub side_clause : (v : ℕ) (x a : ℤ) → x ≡ neg_ℤ (pos v) → v < 2 ^ 31 → (0 < unsigned_abs a) × (unsigned_abs a < v) → IsClause (x ∷ a ∷ [])
side_clause v x a e s h =
    let size : unsigned_abs x ≡ v = ap unsigned_abs e ∙ size_neg (pos v) in
    two_clause x a (omega arith, omega arith) (h.0, omega arith) (λ q. absurd (omega arith)) (rw e (below a v h.1))

pub last_clause : (v : ℕ) (a b x y z : ℤ) → CanJoin v a b → x ≡ neg_ℤ a → y ≡ neg_ℤ b → z ≡ pos v → x <ℤ y → IsClause (x ∷ y ∷ z ∷ [])
last_clause v a b x y z h ex ey ez lt =
    let sx : unsigned_abs x ≡ unsigned_abs a = ap unsigned_abs ex ∙ size_neg a in
    let sy : unsigned_abs y ≡ unsigned_abs b = ap unsigned_abs ey ∙ size_neg b in
    let sz : unsigned_abs z ≡ v = ap unsigned_abs ez in
    let l = h.left in
    let r = h.right in
    let small = h.small in
    three_clause x y z (omega arith, omega arith) (omega arith, omega arith) (omega arith, omega arith) (λ q. h.two (sym sx ∙ q ∙ sy)) (λ q. absurd (omega arith)) (λ q. absurd (omega arith))
    lt (rw ez (above y v (omega arith)))

pub turned_clause : (v : ℕ) (a b x y z : ℤ) → CanJoin v a b → x ≡ neg_ℤ a → y ≡ neg_ℤ b → z ≡ pos v → y ≤ℤ x → IsClause (y ∷ x ∷ z ∷ [])
turned_clause v a b x y z h ex ey ez le =
    let turned : CanJoin v b a = record { small = h.small; left = h.right; right = h.left; two = λ q. h.two (sym q) } in
    last_clause v b a y x z turned ey ex ez (same_size x y le (λ q. h.two (sym (size_neg a) ∙ ap unsigned_abs (sym ex) ∙ q ∙ ap unsigned_abs ey ∙ size_neg b)))

pub variable_small : (flags : List Bool) (net : List NetNode) → IsNet net → length net < 2 ^ 28 → (at : ℕ) → at < length net → variable flags net at < 2 ^ 31
variable_small flags net h s at lt = omega (arith, (variable_ranged flags net h at lt).1, ands_few flags net (length net), inputs_few net)

pub literal_number : (flags : List Bool) (net : List NetNode) → IsNet net → length net < 2 ^ 28 → (at : ℕ) → at < length net → (negated : Bool) → IsNumber (number_of negated (variable flags net at))
literal_number flags net h s at lt negated =
    let e = size_of negated (variable flags net at) in
    let small = variable_small flags net h s at lt in
    let some = (variable_ranged flags net h at lt).0 in
    (omega arith, omega arith)

pub joins : (flags : List Bool) (net : List NetNode) → IsNet net → IsClosed net flags → length net < 2 ^ 28 → (at : ℕ) (a b : Bit) → at < length net → node_at net at ≡ And a b → flag_at flags at ≡ true → CanJoin (variable flags net at) (literal flags net a) (literal flags net b)
joins flags net h closed s at a b lt q f =
    let r = and_arguments net h at a b lt q in
    let args = closed at a b lt f q in
    let ea = size_of a.negated (variable flags net a.node) in
    let eb = size_of b.negated (variable flags net b.node) in
    let la : a.node < length net = omega (arith, r.left.1) in
    let lb : b.node < length net = omega (arith, r.right.1) in
    record {
      small = variable_small flags net h s at lt;
      left = (omega (arith, ea, (variable_ranged flags net h a.node la).0), omega (arith, ea, variable_below flags net h a.node at a b r.left.1 lt q f));
      right = (omega (arith, eb, (variable_ranged flags net h b.node lb).0), omega (arith, eb, variable_below flags net h b.node at a b r.right.1 lt q f));
      two = λ e.
          let same : variable flags net a.node ≡ variable flags net b.node = sym ea ∙ e ∙ eb in
          elim (cases_lt a.node b.node) as (λ _. ⊥) [
            | inl l ↦ variables_apart flags net h a.node b.node l (flagged_named flags net b.node lb args.1) same
            | inr g ↦ elim (cases_lt b.node a.node) as (λ _. ⊥) [
              | inl l ↦ variables_apart flags net h b.node a.node l (flagged_named flags net a.node la args.0) (sym same)
              | inr k ↦ r.two (omega arith)
            ]
          ];
    }

-- ---- how many, and over which variables
few_of : (flags : List Bool) (net : List NetNode) (at : ℕ) (t : Bool) (n : NetNode) → flag_at flags at ≡ t → length (node_clauses flags net at n) ≤ 3
few_of flags net at t (Constant c) e = omega arith
few_of flags net at t (Input k) e = omega arith
few_of flags net at true (And a b) e = rw e (omega arith)
few_of flags net at false (And a b) e = rw e (omega arith)

pub clauses_few : (flags : List Bool) (net : List NetNode) (n : ℕ) → length (clauses_below flags net n) ≤ 3 * n
unfolding clauses_below
clauses_few flags net zero = omega arith
clauses_few flags net (suc n) = omega (arith, clauses_few flags net n, length-append (clauses_below flags net n) (node_clauses flags net n (node_at net n)), few_of flags net n (flag_at flags n) (node_at net n) refl)

abbrev Over : ℕ → List ℤ → Type 0
Over n c = All (λ x. IsOf n x) c

over_one : (n : ℕ) (x : ℤ) → IsOf n x → AreOf n ((x ∷ []) ∷ [])
over_one n x h = All-cons (λ c. Over n c) (x ∷ []) [] (All-cons (λ y. IsOf n y) x [] h (All-nil (λ y. IsOf n y))) (All-nil (λ c. Over n c))

pub last_over : (n : ℕ) (x : ℤ) → IsOf n x → (xs : List (List ℤ)) → AreOf n xs → AreOf n (xs ++ (x ∷ []) ∷ [])
last_over n x h xs all = All-append (λ c. Over n c) xs ((x ∷ []) ∷ []) all (over_one n x h)

over_two : (n : ℕ) (x y : ℤ) → IsOf n x → IsOf n y → Over n (x ∷ y ∷ [])
over_two n x y hx hy = All-cons (λ z. IsOf n z) x (y ∷ []) hx (All-cons (λ z. IsOf n z) y [] hy (All-nil (λ z. IsOf n z)))

over_rising : (n : ℕ) (x y : ℤ) (t : Bool) → IsOf n x → IsOf n y → Over n (cond t (x ∷ y ∷ []) (y ∷ x ∷ []))
over_rising n x y true hx hy = over_two n x y hx hy
over_rising n x y false hx hy = over_two n y x hy hx

over_gate : (n v : ℕ) (a b : ℤ) → (0 < v) × (v ≤ n) → IsOf n a → IsOf n b → AreOf n (gate_clauses v a b)
over_gate n v a b hv ha hb =
    let sv : unsigned_abs (neg_ℤ (pos v)) ≡ v = size_neg (pos v) in
    let ov : IsOf n (neg_ℤ (pos v)) = (omega arith, omega arith) in
    let oa : IsOf n (neg_ℤ a) = let e = size_neg a in (omega arith, omega arith) in
    let ob : IsOf n (neg_ℤ b) = let e = size_neg b in (omega arith, omega arith) in
    All-cons (λ c. Over n c) (neg_ℤ (pos v) ∷ a ∷ []) ((neg_ℤ (pos v) ∷ b ∷ []) ∷ (rising_two (neg_ℤ a) (neg_ℤ b) ++ pos v ∷ []) ∷ []) (over_two n (neg_ℤ (pos v)) a ov ha)
    (All-cons (λ c. Over n c) (neg_ℤ (pos v) ∷ b ∷ []) ((rising_two (neg_ℤ a) (neg_ℤ b) ++ pos v ∷ []) ∷ []) (over_two n (neg_ℤ (pos v)) b ov hb)
    (All-cons (λ c. Over n c) (rising_two (neg_ℤ a) (neg_ℤ b) ++ pos v ∷ []) []
    (All-append (λ z. IsOf n z) (rising_two (neg_ℤ a) (neg_ℤ b)) (pos v ∷ []) (over_rising n (neg_ℤ a) (neg_ℤ b) (int_lt (neg_ℤ a) (neg_ℤ b)) oa ob) (All-cons (λ z. IsOf n z) (pos v) [] hv (All-nil (λ z. IsOf n z))))
    (All-nil (λ c. Over n c))))

pub literal_over : (flags : List Bool) (net : List NetNode) → IsNet net → (at : ℕ) → at < length net → (negated : Bool) → IsOf (count_inputs net + 1 + ands_below flags net (length net)) (number_of negated (variable flags net at))
literal_over flags net h at lt negated =
    let e = size_of negated (variable flags net at) in
    let r = variable_ranged flags net h at lt in
    (omega arith, omega arith)

over_flagged : (flags : List Bool) (net : List NetNode) → IsNet net → (at : ℕ) (a b : Bit) → at < length net → node_at net at ≡ And a b → (t : Bool)
    → AreOf (count_inputs net + 1 + ands_below flags net (length net)) (cond t (gate_clauses (variable flags net at) (literal flags net a) (literal flags net b)) [])
over_flagged flags net h at a b lt q true =
    let r = and_arguments net h at a b lt q in
    over_gate (count_inputs net + 1 + ands_below flags net (length net)) (variable flags net at) (literal flags net a) (literal flags net b) (variable_ranged flags net h at lt)
    (literal_over flags net h a.node (omega (arith, r.left.1)) a.negated) (literal_over flags net h b.node (omega (arith, r.right.1)) b.negated)
over_flagged flags net h at a b lt q false = All-nil (λ c. Over (count_inputs net + 1 + ands_below flags net (length net)) c)

over_node : (flags : List Bool) (net : List NetNode) → IsNet net → (at : ℕ) → at < length net → (n : NetNode) → node_at net at ≡ n → AreOf (count_inputs net + 1 + ands_below flags net (length net)) (node_clauses flags net at n)
over_node flags net h at lt (Constant c) q = over_one (count_inputs net + 1 + ands_below flags net (length net)) (number_of (not c) (variable flags net at)) (literal_over flags net h at lt (not c))
over_node flags net h at lt (Input k) q = All-nil (λ c. Over (count_inputs net + 1 + ands_below flags net (length net)) c)
over_node flags net h at lt (And a b) q = over_flagged flags net h at a b lt q (flag_at flags at)

pub clauses_over : (flags : List Bool) (net : List NetNode) → IsNet net → (n : ℕ) → n ≤ length net → AreOf (count_inputs net + 1 + ands_below flags net (length net)) (clauses_below flags net n)
unfolding clauses_below
clauses_over flags net h zero le = All-nil (λ c. Over (count_inputs net + 1 + ands_below flags net (length net)) c)
clauses_over flags net h (suc n) le =
    All-append (λ c. Over (count_inputs net + 1 + ands_below flags net (length net)) c) (clauses_below flags net n) (node_clauses flags net n (node_at net n)) (clauses_over flags net h n (omega arith)) (over_node flags net h n (omega arith) (node_at net n) refl)
