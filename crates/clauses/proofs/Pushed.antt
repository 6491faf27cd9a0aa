-- From the calls that make clauses to the clauses of a net.
use Rattle.std.proofs.Common.{◌≡◌, ℕ, zero, suc, ◌+◌, ◌*◌, ◌^◌, ◌<◌, ◌≤◌, Bool, true, false, cond, not, ◌&&◌, List, [], ◌∷◌, ◌++◌, length, get_or, slice_get, Some, inl, inr, ℤ, pos, negsuc, neg_ℤ, ◌-ℤ◌, ◌<ℤ◌, ◌≤ℤ◌, int_lt, unsigned_abs, to_z, of_z, w32, refl, sym, ◌∙◌, ap, arith, append_assoc, append-nil, add-one, length-append}
use Rattle.std.proofs.lemmas.Int.{ints, to_z-of_z, fits_signed_from_abs}
use Rattle.std.proofs.lemmas.Bool.{ltb-true, ltb-false, cases_lt}
use Rattle.std.proofs.lemmas.List.{get_or_append_left}
use Rattle.std.proofs.Math.Seq.{get_or-append_seam}
use Rattle.std.proofs.lemmas.Option.{get_or_from_slice_get}
use Rattle.circuits.specs.declared.net.Bit.{Bit}
use Rattle.circuits.specs.declared.net.NetNode.{NetNode}
use Rattle.circuits.specs.declared.net.NetNode.TheVariants.{Constant, Input, And}
use Rattle.circuits.specs.Net.{count_inputs, IsNet}
use Rattle.circuits.specs.Numbers.{digit}
use Rattle.circuits.proofs.Nets.{inputs_few}
use Rattle.clauses.specs.Clause.{IsNumber, CanJoin}
use Rattle.clauses.specs.Marks.{IsClosed, AreNumbers, Numbered}
use Rattle.clauses.specs.Tseitin.{node_at, flag_at, is_and, ands_below, variable, number_of, literal, rising_two, gate_clauses, node_clauses, clauses_below}
use Rattle.clauses.proofs.Variables.{ands_few, ands_next, as_constant, as_input, as_and, counts_itself}
use Rattle.clauses.proofs.Listed.{size_neg, literal_number, joins}

-- an i32 that passed a call
pub passed : (z : ℤ) → unsigned_abs z < 2 ^ 31 → to_z w32 (of_z w32 z) ≡ z
passed z h = to_z-of_z w32 z (fits_signed_from_abs w32 z h)

minus_is : (z : ℤ) → pos 0 -ℤ z ≡ neg_ℤ z
minus_is (pos zero) = refl
minus_is (pos (suc n)) = omega (arith, ints)
minus_is (negsuc n) = omega (arith, ints)

pub opposite_passed : (z : ℤ) → unsigned_abs z < 2 ^ 31 → to_z w32 (of_z w32 (pos 0 -ℤ to_z w32 (of_z w32 z))) ≡ neg_ℤ z
opposite_passed z h =
    ap (λ y. to_z w32 (of_z w32 (pos 0 -ℤ y))) (passed z h) ∙ ap (λ y. to_z w32 (of_z w32 y)) (minus_is z) ∙ passed (neg_ℤ z) (omega (arith, size_neg z))

pub lt_true : (x y : ℤ) → int_lt x y ≡ true → x <ℤ y
lt_true (pos a) (pos b) e = let h = ltb-true a b e in omega (arith, ints)
lt_true (pos a) (negsuc b) e = cc
lt_true (negsuc a) (pos b) e = omega (arith, ints)
lt_true (negsuc a) (negsuc b) e = let h = ltb-true b a e in omega (arith, ints)

pub lt_false : (x y : ℤ) → int_lt x y ≡ false → y ≤ℤ x
lt_false (pos a) (pos b) e = let h = ltb-false a b e in omega (arith, ints)
lt_false (pos a) (negsuc b) e = omega (arith, ints)
lt_false (negsuc a) (pos b) e = cc
lt_false (negsuc a) (negsuc b) e = let h = ltb-false b a e in omega (arith, ints)

pub pair_same : {x y u w : ℤ} → x ≡ u → y ≡ w → x ∷ y ∷ [] ≡ u ∷ w ∷ []
pair_same {x} {y} {u} {w} p q = rw (p, q) refl

pub gate_pushed : {ys zs ws : List (List ℤ)} {l r t : List ℤ} (xs : List (List ℤ)) (v : ℕ) (a b : ℤ) → ys ≡ xs ++ l ∷ [] → zs ≡ ys ++ r ∷ [] → ws ≡ zs ++ t ∷ []
    → l ≡ neg_ℤ (pos v) ∷ a ∷ [] → r ≡ neg_ℤ (pos v) ∷ b ∷ [] → t ≡ rising_two (neg_ℤ a) (neg_ℤ b) ++ pos v ∷ [] → ws ≡ xs ++ gate_clauses v a b
gate_pushed {ys} {zs} {ws} {l} {r} {t} xs v a b ey ez ew el er et =
    ew ∙ ap (λ k. k ++ t ∷ []) ez ∙ ap (λ k. (k ++ r ∷ []) ++ t ∷ []) ey
    ∙ append_assoc (xs ++ l ∷ []) (r ∷ []) (t ∷ []) ∙ append_assoc xs (l ∷ []) (r ∷ t ∷ [])
    ∙ ap (λ k. xs ++ k ∷ r ∷ t ∷ []) el ∙ ap (λ k. xs ++ (neg_ℤ (pos v) ∷ a ∷ []) ∷ k ∷ t ∷ []) er ∙ ap (λ k. xs ++ (neg_ℤ (pos v) ∷ a ∷ []) ∷ (neg_ℤ (pos v) ∷ b ∷ []) ∷ k ∷ []) et

-- the node that a call told
pub told : {n : NetNode} (net : List NetNode) (at : ℕ) (m : NetNode) → Some n ≡ slice_get net at → n ≡ m → node_at net at ≡ m
told {n} net at m e q = get_or_from_slice_get net at n (Constant true) (sym e) ∙ q

-- the literal of a node that passed a call
pub literal_passed : {numbers : List ℕ} {z : ℤ} (flags : List Bool) (net : List NetNode) → IsNet net → length net < 2 ^ 28 → AreNumbers flags net numbers (length net) → (at : ℕ) → at < length net → (negated : Bool) (n : ℕ)
    → n ≡ get_or numbers at 0 → z ≡ number_of negated n → to_z w32 (of_z w32 z) ≡ number_of negated (variable flags net at)
literal_passed {numbers} {z} flags net h s are at lt negated n en e =
    let same : z ≡ number_of negated (variable flags net at) = e ∙ ap (number_of negated) (en ∙ are.is at lt) in
    passed z (omega (arith, (literal_number flags net h s at lt negated).1, ap unsigned_abs same)) ∙ same

pub number_passed : {numbers : List ℕ} {z : ℤ} (flags : List Bool) (net : List NetNode) → IsNet net → length net < 2 ^ 28 → AreNumbers flags net numbers (length net) → (at : ℕ) → at < length net → (negated : Bool) (n : ℕ)
    → n ≡ get_or numbers at 0 → z ≡ number_of negated n → IsNumber (to_z w32 (of_z w32 z))
number_passed {numbers} {z} flags net h s are at lt negated n en e =
    rw (literal_passed flags net h s are at lt negated n en e) (literal_number flags net h s at lt negated)

pub joins_at : {n : ℕ} {x y : ℤ} (flags : List Bool) (net : List NetNode) → IsNet net → IsClosed net flags → length net < 2 ^ 28 → (at : ℕ) (a b : Bit) → at < length net → node_at net at ≡ And a b → flag_at flags at ≡ true
    → n ≡ variable flags net at → x ≡ literal flags net a → y ≡ literal flags net b → CanJoin n x y
joins_at {n} {x} {y} flags net h closed s at a b lt q f en ex ey = rw (en, ex, ey) (joins flags net h closed s at a b lt q f)

pub constant_pushed : {ys : List (List ℤ)} {z : List ℤ} (xs : List (List ℤ)) (flags : List Bool) (net : List NetNode) (at : ℕ) (c : Bool) (x : ℤ) → node_at net at ≡ Constant c → ys ≡ xs ++ z ∷ [] → z ≡ x ∷ [] → x ≡ number_of (not c) (variable flags net at)
    → ys ≡ xs ++ node_clauses flags net at (node_at net at)
constant_pushed {ys} {z} xs flags net at c x q ey ez ex =
    ey ∙ ap (λ k. xs ++ k ∷ []) (ez ∙ ap (λ i. i ∷ []) ex) ∙ ap (λ m. xs ++ node_clauses flags net at m) (sym q)

pub input_pushed : (xs : List (List ℤ)) (flags : List Bool) (net : List NetNode) (at k : ℕ) → node_at net at ≡ Input k → xs ≡ xs ++ node_clauses flags net at (node_at net at)
input_pushed xs flags net at k q = sym (append-nil xs) ∙ ap (λ m. xs ++ node_clauses flags net at m) (sym q)

pub unflagged_pushed : (xs : List (List ℤ)) (flags : List Bool) (net : List NetNode) (at : ℕ) (a b : Bit) → node_at net at ≡ And a b → flag_at flags at ≡ false → xs ≡ xs ++ node_clauses flags net at (node_at net at)
unflagged_pushed xs flags net at a b q f =
    sym (append-nil xs) ∙ ap (λ t. xs ++ cond t (gate_clauses (variable flags net at) (literal flags net a) (literal flags net b)) []) (sym f) ∙ ap (λ m. xs ++ node_clauses flags net at m) (sym q)

pub flagged_pushed : {ys : List (List ℤ)} {n : ℕ} {x y : ℤ} (xs : List (List ℤ)) (flags : List Bool) (net : List NetNode) (at : ℕ) (a b : Bit) → node_at net at ≡ And a b → flag_at flags at ≡ true
    → n ≡ variable flags net at → x ≡ literal flags net a → y ≡ literal flags net b → ys ≡ xs ++ gate_clauses n x y → ys ≡ xs ++ node_clauses flags net at (node_at net at)
flagged_pushed {ys} {n} {x} {y} xs flags net at a b q f en ex ey e =
    e ∙ ap (λ k. xs ++ gate_clauses k x y) en ∙ ap (λ k. xs ++ gate_clauses (variable flags net at) k y) ex ∙ ap (λ k. xs ++ gate_clauses (variable flags net at) (literal flags net a) k) ey
    ∙ ap (λ t. xs ++ cond t (gate_clauses (variable flags net at) (literal flags net a) (literal flags net b)) []) (sym f) ∙ ap (λ m. xs ++ node_clauses flags net at m) (sym q)

pub listed_none : (flags : List Bool) (net : List NetNode) (xs : List (List ℤ)) → xs ≡ [] → xs ≡ clauses_below flags net 0
unfolding clauses_below
listed_none flags net xs e = e

pub listed_next : {xs ys : List (List ℤ)} (flags : List Bool) (net : List NetNode) (at : ℕ) → xs ≡ clauses_below flags net at → ys ≡ xs ++ node_clauses flags net at (node_at net at) → ys ≡ clauses_below flags net (at + 1)
unfolding clauses_below
listed_next {xs} {ys} flags net at e f = rw add-one (f ∙ ap (λ k. k ++ node_clauses flags net at (node_at net at)) e)

-- ---- the loop that numbers nodes
pub numbered_none : (flags : List Bool) (net : List NetNode) (xs : List ℕ) (n : ℕ) → xs ≡ [] → n ≡ count_inputs net + 1 → Numbered flags net xs 0 n
unfolding ands_below
numbered_none flags net xs n e f = record { each = record { many = ap length e; is = λ at lt. absurd (omega arith) }; counted = omega arith }

pub numbered_next : {xs ys : List ℕ} {m n k at : ℕ} (flags : List Bool) (net : List NetNode) → Numbered flags net xs at m → ys ≡ xs ++ k ∷ [] → k ≡ variable flags net at → n ≡ count_inputs net + 1 + ands_below flags net (at + 1) → Numbered flags net ys (at + 1) n
numbered_next {xs} {ys} {m} {n} {k} {at} flags net r e f g =
    let many : length xs ≡ at = r.each.many in
    record {
      each = record {
        many = ap length e ∙ length-append xs (k ∷ []) ∙ ap (λ i. i + 1) many;
        is = λ i lt. elim (cases_lt i at) as (λ _. get_or ys i 0 ≡ variable flags net i) [
          | inl l ↦ ap (λ z. get_or z i 0) e ∙ get_or_append_left xs (k ∷ []) 0 i (omega arith) ∙ r.each.is i l
          | inr b ↦ let q : i ≡ at = omega arith in
              ap (λ z. get_or z i 0) e ∙ ap (λ j. get_or (xs ++ k ∷ []) j 0) (let o : i ≡ length xs = omega arith in o) ∙ get_or-append_seam xs k [] 0 ∙ f ∙ ap (variable flags net) (sym q)
        ];
      };
      counted = g;
    }

stays_at : (flags : List Bool) (net : List NetNode) (at : ℕ) (m : NetNode) → node_at net at ≡ m → digit (is_and m && flag_at flags at) ≡ 0 → ands_below flags net (at + 1) ≡ ands_below flags net at
stays_at flags net at m q e = omega (arith, ands_next flags net at, ap (λ n. digit (is_and n && flag_at flags at)) q, e)

pub constant_numbered : {xs ys : List ℕ} {m n k at : ℕ} (flags : List Bool) (net : List NetNode) (c : Bool) → Numbered flags net xs at m → node_at net at ≡ Constant c → ys ≡ xs ++ k ∷ [] → k ≡ count_inputs net + 1 → n ≡ m → Numbered flags net ys (at + 1) n
constant_numbered {xs} {ys} {m} {n} {k} {at} flags net c r q e f g =
    numbered_next flags net r e (f ∙ sym (as_constant flags net at c q)) (g ∙ r.counted ∙ ap (λ i. count_inputs net + 1 + i) (sym (stays_at flags net at (Constant c) q refl)))

pub input_numbered : {xs ys : List ℕ} {m n k at : ℕ} (flags : List Bool) (net : List NetNode) (j : ℕ) → Numbered flags net xs at m → node_at net at ≡ Input j → ys ≡ xs ++ k ∷ [] → k ≡ j + 1 → n ≡ m → Numbered flags net ys (at + 1) n
input_numbered {xs} {ys} {m} {n} {k} {at} flags net j r q e f g =
    numbered_next flags net r e (f ∙ sym (as_input flags net at j q)) (g ∙ r.counted ∙ ap (λ i. count_inputs net + 1 + i) (sym (stays_at flags net at (Input j) q refl)))

pub and_numbered : {xs ys : List ℕ} {m n k at : ℕ} (flags : List Bool) (net : List NetNode) (a b : Bit) → Numbered flags net xs at m → node_at net at ≡ And a b → flag_at flags at ≡ true → ys ≡ xs ++ k ∷ [] → k ≡ m + 1 → n ≡ m + 1 → Numbered flags net ys (at + 1) n
and_numbered {xs} {ys} {m} {n} {k} {at} flags net a b r q t e f g =
    let c = counts_itself flags net at a b q t in
    let o = r.counted in
    numbered_next flags net r e (omega (arith, as_and flags net at a b q)) (omega arith)

pub passed_numbered : {xs ys : List ℕ} {m n k at : ℕ} (flags : List Bool) (net : List NetNode) (a b : Bit) → Numbered flags net xs at m → node_at net at ≡ And a b → flag_at flags at ≡ false → ys ≡ xs ++ k ∷ [] → k ≡ m → n ≡ m → Numbered flags net ys (at + 1) n
passed_numbered {xs} {ys} {m} {n} {k} {at} flags net a b r q t e f g =
    let c = stays_at flags net at (And a b) q (ap digit t) in
    let o = r.counted in
    numbered_next flags net r e (omega (arith, as_and flags net at a b q)) (omega arith)

pub numbered_few : {xs : List ℕ} {m at : ℕ} (flags : List Bool) (net : List NetNode) → Numbered flags net xs at m → at ≤ length net → m ≤ 2 * length net + 1
numbered_few {xs} {m} {at} flags net r le = omega (arith, r.counted, ands_few flags net at, inputs_few net)
