-- Resolution on a table.
use Rattle.std.proofs.Common.{◌≡◌, ◌≢◌, ◌∙◌, ℕ, ◌<◌, ◌⊎◌, inl, inr, List, ◌++◌, get_or, slice_set, ℤ, pos, neg_ℤ, unsigned_abs, map, ap, sym, subst, arith}
use Rattle.std.proofs.lemmas.List.{length-set}
use Rattle.std.proofs.lemmas.List.Elements.{Contains-append_left, Contains-append_right, Contains-append_cases, Contains-get_or, All-contains}
use Rattle.std.specs.List.{All, Contains}
use Rattle.clauses.specs.Clause.{IsClause, IsNumber}
use Rattle.clauses.specs.Log.{Resolvent}
use Rattle.clauses.specs.Table.{cell, Fits, AreApart, IsIn, Holds, written}
use Rattle.clauses.proofs.Integers.{size_neg, opposite_twice, no_own_opposite}
use Rattle.clauses.proofs.Without.{without, in_without, to_without}
use Rattle.clauses.proofs.Tables.{CanPut, one_each, taken_out, all_put}

-- the number in the cell of a variable
pub here_in : (cells : List ℤ) (touched : List ℕ) (now : List ℤ) (on : ℕ) → Holds cells touched now → (get_or cells on (pos 0) ≡ pos 0 → ⊥) → 0 < unsigned_abs (get_or cells on (pos 0)) → IsIn cells (get_or cells on (pos 0))
here_in cells touched now on h filled real = (real, ap (λ n. get_or cells n (pos 0)) (h.own on filled))

-- where they clash on this variable alone, nothing clashes once its number is taken out
pub then_apart : (cells : List ℤ) (touched : List ℕ) (now clause r : List ℤ) (on : ℕ) → Holds cells touched now → All IsNumber clause → Resolvent now clause on r → AreApart (slice_set cells on (pos 0)) clause
then_apart cells touched now clause r on h real p k d lt e =
    let y = get_or clause k d in
    let i = (h.numbers p.number).1 p.clash.left in
    let left = taken_out cells touched now p.number on h i p.variable in
    let inside : IsIn (slice_set cells on (pos 0)) (neg_ℤ y) = (subst (λ n. 0 < n) (sym (size_neg y)) (real k d lt).0, ap (λ n. get_or (slice_set cells on (pos 0)) n (pos 0)) (size_neg y) ∙ e) in
    let was = in_without p.number now (neg_ℤ y) ((left.numbers (neg_ℤ y)).0 inside) in
    p.clash.only (neg_ℤ y) was.0 (subst (Contains clause) (sym (opposite_twice y)) (Contains-get_or clause k d lt)) was.1

-- the resolvent, number by number
rest : ℤ → List ℤ → List ℤ → List ℤ
rest x now clause = without (neg_ℤ x) (without x now ++ clause)

rest_to : (x : ℤ) (now clause : List ℤ) (y : ℤ) → Contains (rest x now clause) y → (Contains now y × (y ≢ x)) ⊎ (Contains clause y × (y ≢ neg_ℤ x))
unfolding rest
rest_to x now clause y i =
    let j = in_without (neg_ℤ x) (without x now ++ clause) y i in
    elim (Contains-append_cases (without x now) clause y j.0) [ inl l ↦ inl (in_without x now y l) | inr r ↦ inr (r, j.1) ]

rest_from : (x : ℤ) (now clause : List ℤ) (y : ℤ) → (Contains now (neg_ℤ x) → ⊥) → (Contains now y × (y ≢ x)) ⊎ (Contains clause y × (y ≢ neg_ℤ x)) → Contains (rest x now clause) y
unfolding rest
rest_from x now clause y none (inl l) =
    to_without (neg_ℤ x) (without x now ++ clause) y (Contains-append_left (without x now) clause y (to_without x now y l.0 l.1)) (λ e. none (subst (Contains now) e l.0))
rest_from x now clause y none (inr r) = to_without (neg_ℤ x) (without x now ++ clause) y (Contains-append_right (without x now) clause y r.0) r.1

can_put : (cells clause : List ℤ) → All IsNumber clause → All (Fits cells) clause → AreApart cells clause → (y : ℤ) → Contains clause y → CanPut cells y
can_put cells clause real within apart y i = record {
  real = (All-contains IsNumber clause y real i).0;
  within = All-contains (Fits cells) clause y within i;
  free = All-contains (λ x. cell cells x ≡ neg_ℤ x → ⊥) clause y apart i;
}

-- a clause put into a table with which it doesn't clash
pub clause_put : (cells : List ℤ) (touched : List ℕ) (now clause : List ℤ) → Holds cells touched now → IsClause clause → All (Fits cells) clause → AreApart cells clause → Holds (written cells clause) (touched ++ map unsigned_abs clause) (now ++ clause)
clause_put cells touched now clause h fine within apart = all_put clause cells touched now h (can_put cells clause fine.real within apart) fine.apart

is_resolvent : (cells : List ℤ) (touched : List ℕ) (now clause : List ℤ) (on : ℕ) (x : ℤ) → Holds cells touched now → IsIn cells x → unsigned_abs x ≡ on → Contains clause (neg_ℤ x) → AreApart (slice_set cells on (pos 0)) clause → Resolvent now clause on (rest x now clause)
is_resolvent cells touched now clause on x h i e opposite apart =
    let left = taken_out cells touched now x on h i e in
    let none : (Contains now (neg_ℤ x) → ⊥) = λ j. no_own_opposite x i.0 (one_each cells x (neg_ℤ x) i ((h.numbers (neg_ℤ x)).1 j) (sym (size_neg x))) in
    record {
      number = x;
      variable = e;
      clash = record {
        left = (h.numbers x).0 i;
        right = opposite;
        only = λ y l r d.
            let inside = (left.numbers y).1 (to_without x now y l d) in
            All-contains (λ z. cell (slice_set cells on (pos 0)) z ≡ neg_ℤ z → ⊥) clause (neg_ℤ y) apart r
            (ap (λ n. get_or (slice_set cells on (pos 0)) n (pos 0)) (size_neg y) ∙ inside.1 ∙ sym (opposite_twice y));
      };
      members = λ y. (rest_to x now clause y, rest_from x now clause y none);
    }

pub fits_set : (cells : List ℤ) (n : ℕ) (v : ℤ) (clause : List ℤ) → All (Fits cells) clause → All (Fits (slice_set cells n v)) clause
fits_set cells n v clause h k d lt = let w = h k d lt in omega (arith, length-set cells n v)

pub resolved : (cells : List ℤ) (touched : List ℕ) (now clause : List ℤ) (on : ℕ) (x : ℤ) → Holds cells touched now → IsIn cells x → unsigned_abs x ≡ on → IsClause clause → All (Fits cells) clause → Contains clause (neg_ℤ x) → AreApart (slice_set cells on (pos 0)) clause
    → (r : List ℤ) × Resolvent now clause on r × Holds (slice_set (written (slice_set cells on (pos 0)) clause) on (pos 0)) (touched ++ map unsigned_abs clause) r
unfolding rest
resolved cells touched now clause on x h i e fine within opposite apart =
    let left = taken_out cells touched now x on h i e in
    let put = clause_put (slice_set cells on (pos 0)) touched (without x now) clause left fine (fits_set cells on (pos 0) clause within) apart in
    let inside = (put.numbers (neg_ℤ x)).1 (Contains-append_right (without x now) clause (neg_ℤ x) opposite) in
    (rest x now clause, is_resolvent cells touched now clause on x h i e opposite apart, taken_out (written (slice_set cells on (pos 0)) clause) (touched ++ map unsigned_abs clause) (without x now ++ clause) (neg_ℤ x) on put inside (size_neg x ∙ e))
