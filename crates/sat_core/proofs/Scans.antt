-- What a scan of the clauses keeps.
use Rattle.std.proofs.Common.{◌≡◌, ℕ, zero, suc, ◌+◌, ◌<◌, ◌≤◌, ◌⊎◌, inl, inr, Bool, true, false, not, Option, Some, None, List, [], ◌∷◌, ◌++◌, length, ℤ, pos, negsuc, neg_ℤ, refl, sym, ◌∙◌, ap, subst, arith}
use Rattle.std.specs.Prelude.{slice_get, unsigned_abs}
use Rattle.std.specs.List.{Contains}
use lib.Signed.{lt_z}
use Rattle.std.proofs.lemmas.Bool.{cases_lt, lt-ltb, false≢true}
use Rattle.std.proofs.lemmas.Option.{same_Some, slice_get_within}
use Rattle.std.proofs.lemmas.List.{length-append, length-map}
use Rattle.clauses.specs.Tseitin.{number_of}
use Rattle.clauses.specs.declared.log.Chain.{Chain}
use Rattle.clauses.specs.Log.{given}
use Rattle.sat_core.specs.declared.trail.Assigned.{Assigned}
use Rattle.sat_newness.specs.Clauses.{clauses_of}
use Rattle.sat_core.specs.Trail.{Holds, HasValue, IsSettledBy, Settled, IsTrail, IsNumberOf, AreNumbersOf}
use Rattle.sat_core.specs.Values.{Told, IsValue, open_variables}
use Rattle.sat_core.specs.Found.{IsUnit, IsTrueBy, HasTwoOpen, AreScanned}
use Rattle.sat_newness.proofs.Lists.{contains_at, at_contains, cons_cases}
use Rattle.sat_core.proofs.Kept.{trail_grown}
use Rattle.sat_core.proofs.Seen.{settled_other}

pub false_of_value : (t : List Assigned) (x y : ℤ) (r : Option Bool) → IsValue t x r → r ≡ Some false → x ≡ y → Holds t (length t) (neg_ℤ y)
false_of_value t x y r h e q = subst (λ (z : ℤ). Holds t (length t) (neg_ℤ z)) q (subst (λ (o : Option Bool). IsValue t x o) e h)

pub open_of_value : (t : List Assigned) (x y : ℤ) (r : Option Bool) → IsValue t x r → r ≡ None → x ≡ y → HasValue t (length t) (unsigned_abs y) → ⊥
open_of_value t x y r h e q = subst (λ (z : ℤ). HasValue t (length t) (unsigned_abs z) → ⊥) q (subst (λ (o : Option Bool). IsValue t x o) e h)

pub one_numbers : (size : ℕ) (clauses : List (List ℤ)) (at : ℕ) (c : List ℤ) → AreNumbersOf size clauses → slice_get clauses at ≡ Some c → AreNumbersOf size (c ∷ [])
one_numbers size clauses at c h q = record {
  each = λ d x i j. elim (cons_cases c d [] i) as (λ _. IsNumberOf size x) [
    | inl e ↦ h.each c x (contains_at clauses at c q) (subst (λ (l : List ℤ). Contains l x) (sym e) j)
    | inr k ↦ absurd (omega (arith, k.1))
  ];
}

pub clauses_many : (clauses : List (List ℤ)) (chains : List Chain) → length (clauses_of clauses chains) ≡ length clauses + length chains
clauses_many clauses chains = length-append clauses (given chains) ∙ ap (λ k. length clauses + k) (length-map chains (λ chain. chain.gives))

pub number_is : (x : ℤ) → 0 < unsigned_abs x → number_of (not (lt_z (pos 0) x)) (unsigned_abs x) ≡ x
number_is (pos zero) h = absurd (omega arith)
number_is (pos (suc n)) h = ap (λ b. number_of (not b) (suc n)) (lt-ltb 0 (suc n) (omega arith))
number_is (negsuc n) h = refl

pub scanned_other : (clauses : List (List ℤ)) (size before n : ℕ) (quiet : Bool) (values : List (Option Bool)) (t : List Assigned) (c : List ℤ) → slice_get clauses n ≡ Some c → IsTrueBy t c ⊎ HasTwoOpen t c → AreScanned clauses size before n quiet values t → AreScanned clauses size before (n + 1) quiet values t
scanned_other clauses size before n quiet values t c q o h = record {
  state = h.state;
  sized = h.sized;
  fewer = h.fewer;
  some = h.some;
  settled = λ e k d lt i. elim (cases_lt k n) as (λ _. IsSettledBy t (length t) d) [
    | inl l ↦ h.settled e k d l i
    | inr g ↦ let same : n ≡ k = omega arith in
        subst (λ (l : List ℤ). IsSettledBy t (length t) l) (same_Some c d (sym q ∙ ap (slice_get clauses) same ∙ i)) (settled_other clauses (length values) t h.state.trail c o)
  ];
}

pub scanned_unit : (clauses : List (List ℤ)) (size before n : ℕ) (quiet : Bool) (values after : List (Option Bool)) (t u : List Assigned) (c : List ℤ) (x : ℤ) (v : ℕ) (b : Bool) → slice_get clauses n ≡ Some c → IsUnit t c x → v ≡ unsigned_abs x → b ≡ lt_z (pos 0) x
    → u ≡ t ++ record { variable = v; value = b; reason = Some n } ∷ [] → Told after u → length after ≡ length values → open_variables after < open_variables values → AreScanned clauses size before n quiet values t → AreScanned clauses size before (n + 1) false after u
scanned_unit clauses size before n quiet values after t u c x v b q unit ev eb eu told same less h =
    let e : Assigned = record { variable = v; value = b; reason = Some n } in
    let o = h.state.numbers.each c x (contains_at clauses n c q) unit.held in
    let is : number_of (not b) v ≡ x = ap (λ k. number_of (not k) v) eb ∙ ap (number_of (not (lt_z (pos 0) x))) ev ∙ number_is x o.real in
    let grown = trail_grown clauses (length values) t e h.state.trail (record {
      real = subst (λ (k : ℕ). 0 < k) (sym ev) o.real;
      within = subst (λ (k : ℕ). k < length values) (sym ev) o.within;
      first = subst (λ (k : ℕ). HasValue t (length t) k → ⊥) (sym ev) unit.unset;
      why = record { clause = c; named = q; held = subst (λ (y : ℤ). Contains c y) (sym is) unit.held; others = λ y i ne. unit.others y i (λ k. ne (k ∙ sym is)) };
    }) in
    record {
      state = record {
        told = told;
        trail = subst (λ (k : ℕ). IsTrail clauses k u) (sym same) (subst (λ (w : List Assigned). IsTrail clauses (length values) w) (sym eu) grown);
        numbers = subst (λ (k : ℕ). AreNumbersOf k clauses) (sym same) h.state.numbers;
      };
      sized = same ∙ h.sized;
      fewer = omega (arith, h.fewer);
      some = λ _. omega (arith, h.fewer);
      settled = λ e2. absurd (false≢true e2);
    }

pub scanned_all : (clauses : List (List ℤ)) (size before n : ℕ) (quiet : Bool) (values : List (Option Bool)) (t : List Assigned) → length clauses ≤ n → quiet ≡ true → AreScanned clauses size before n quiet values t → Settled clauses t (length t)
scanned_all clauses size before n quiet values t le e h = record { each = λ c i. let a = at_contains clauses c i in h.settled e a.0 c (omega (arith, slice_get_within clauses a.0 c a.1)) a.1 }
