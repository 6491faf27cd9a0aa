-- Weights by place, one invariant after the other.
use Rattle.std.proofs.Common.{◌≡◌, ℕ, ◌+◌, refl, sym, ap, ◌∙◌, Bool, true, false, cond, ◌&&◌, List, [], ◌∷◌, Option, Some, nat_eq, eqb-true, arith}
use Rattle.std.specs.BTreeMap.{BTreeMap, get, get_by, is_at}
use Rattle.std.specs.Cmp.{both_tied, unsigned_ties}
use Rattle.std.specs.Option.{unwrap_or}
use Rattle.std.specs.Ordering.{is_eq, nat_cmp, ordering_then}
use Rattle.std.specs.declared.cmp.Ordering.{Ordering}
use Rattle.c_core.specs.declared.number.Spot.{Spot}
use Rattle.c_core.specs.Tree.{Program}
use Rattle.c_meaning.specs.Duties.{Placed}
use Rattle.c_meaning.specs.Havoc.{stands}
use Rattle.c_core.specs.Parts.{same_spot}
use Rattle.sym_weight.specs.Tally.{capped, weight_at}
use Rattle.sym_weight.specs.Weight.{evaluation, placed_weight}

abbrev pub pair_cmp : ℕ × ℕ → ℕ × ℕ → Ordering
pair_cmp a b = ordering_then (nat_cmp a.0 b.0) (nat_cmp a.1 b.1)

abbrev found_at : BTreeMap (ℕ × ℕ) ℕ → Spot → Option ℕ
found_at m spot = get_by (λ k. ordering_then (nat_cmp spot.line k.0) (nat_cmp spot.column k.1)) m

same_is_tied : (a b : Spot) → same_spot a b ≡ is_eq (ordering_then (nat_cmp a.line b.line) (nat_cmp a.column b.column))
same_is_tied a b =
    both_tied (nat_eq a.line b.line) (nat_eq a.column b.column) (nat_cmp a.line b.line) (nat_cmp a.column b.column)
    (unsigned_ties a.line b.line) (unsigned_ties a.column b.column)

left_true : (a b : Bool) → (a && b) ≡ true → a ≡ true
left_true true b h = refl
left_true false b h = h

right_true : (a b : Bool) → (a && b) ≡ true → b ≡ true
right_true true b h = h
right_true false true h = refl
right_true false false h = h

one_spot : (a b : Spot) → same_spot a b ≡ true → a ≡ b
one_spot a b h =
    ap (λ l. record { line = l; column = a.column }) (eqb-true a.line b.line (left_true (nat_eq a.line b.line) (nat_eq a.column b.column) h))
    ∙ ap (λ c. record { line = b.line; column = c }) (eqb-true a.column b.column (right_true (nat_eq a.line b.line) (nat_eq a.column b.column) h))

added_by : (b : Bool) (there here new : Option ℕ) (sum w : ℕ) → new ≡ cond b (Some sum) there → (b ≡ true → there ≡ here) → sum ≡ capped (unwrap_or here 0 + w)
    → unwrap_or new 0 ≡ cond b (capped (unwrap_or there 0 + w)) (unwrap_or there 0)
added_by true there here new sum w e same is = ap (λ o. unwrap_or o 0) e ∙ is ∙ ap (λ o. capped (unwrap_or o 0 + w)) (sym (same refl))
added_by false there here new sum w e same is = ap (λ o. unwrap_or o 0) e

-- a weight is added at its place alone
pub weight_added : (spot q : Spot) (sum w : ℕ) (m n : BTreeMap (ℕ × ℕ) ℕ)
    → ((k : ℕ × ℕ) → get pair_cmp n k ≡ cond (is_at (pair_cmp (spot.line, spot.column)) k) (Some sum) (get pair_cmp m k)) → sum ≡ capped (weight_at m spot + w)
    → weight_at n q ≡ cond (same_spot spot q) (capped (weight_at m q + w)) (weight_at m q)
weight_added spot q sum w m n put is =
    added_by (same_spot spot q) (found_at m q) (found_at m spot) (found_at n q) sum w
    (put (q.line, q.column) ∙ ap (λ b. cond b (Some sum) (found_at m q)) (sym (same_is_tied spot q))) (λ h. ap (found_at m) (sym (one_spot spot q h))) is

added_capped : (b : Bool) (new old e rest whole : ℕ) → new ≡ cond b (capped (old + e)) old → capped (old + cond b (e + rest) rest) ≡ whole → capped (new + rest) ≡ whole
added_capped true new old e rest whole n w = capped_three new old e rest n ∙ w
  where
    capped_three : (new old e rest : ℕ) → new ≡ capped (old + e) → capped (new + rest) ≡ capped (old + (e + rest))
    capped_three new old e rest n = omega arith
added_capped false new old e rest whole n w = ap (λ x. capped (x + rest)) n ∙ w

-- one more of the invariants
pub placed_on : (p : Program) (at_loop : Bool) (q : Spot) (x : Placed) (all rest : List Placed) (new old whole : ℕ) → all ≡ x ∷ rest
    → new ≡ cond (stands p [] at_loop q x) (capped (old + evaluation p x.test)) old → capped (old + placed_weight p all at_loop q) ≡ whole
    → capped (new + placed_weight p rest at_loop q) ≡ whole
placed_on p at_loop q x all rest new old whole e n w =
    added_capped (stands p [] at_loop q x) new old (evaluation p x.test) (placed_weight p rest at_loop q) whole n (ap (λ xs. capped (old + placed_weight p xs at_loop q)) (sym e) ∙ w)

settled_by : (b : Bool) (new old e : ℕ) → new ≡ cond b (capped (old + e)) old → capped old ≡ old → capped new ≡ new
settled_by true new old e n s = omega arith
settled_by false new old e n s = ap capped n ∙ s ∙ sym n

pub settled_on : (p : Program) (at_loop : Bool) (q : Spot) (x : Placed) (new old : ℕ) → new ≡ cond (stands p [] at_loop q x) (capped (old + evaluation p x.test)) old → capped old ≡ old → capped new ≡ new
settled_on p at_loop q x new old n s = settled_by (stands p [] at_loop q x) new old (evaluation p x.test) n s
