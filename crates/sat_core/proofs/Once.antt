-- Steps that resolve on no variable twice, by the stamps of the variables.
use Rattle.std.proofs.Common.{◌≡◌, ◌≢◌, ℕ, ◌+◌, ◌<◌, ◌≤◌, inl, inr, Some, List, length, sym, ◌∙◌, ap, arith}
use Rattle.std.specs.Prelude.{slice_get, slice_set, slice_index_or}
use Rattle.std.proofs.lemmas.Bool.{cases_lt, cases_eq}
use Rattle.std.proofs.lemmas.Option.{same_Some, slice_get_within}
use Rattle.std.proofs.lemmas.List.{get_or-set_same, get_or-set_other}
use Rattle.clauses.specs.declared.log.Resolve.{Resolve}
use Rattle.sat_core.specs.Derived.{AreOnce}

-- the variables of the first n steps bear the stamp, and differ from each other
pub record AreStamped (stamps : List ℕ) (stamp : ℕ) (steps : List Resolve) (n : ℕ) : Type 0 where
  pub stamped : (k : ℕ) (s : Resolve) → k < n → slice_get steps k ≡ Some s → slice_index_or stamps s.on 0 ≡ stamp
  pub once : (i j : ℕ) (s r : Resolve) → i < j → j < n → slice_get steps i ≡ Some s → slice_get steps j ≡ Some r → s.on ≢ r.on

pub none_stamped : (stamps : List ℕ) (stamp : ℕ) (steps : List Resolve) → AreStamped stamps stamp steps 0
none_stamped stamps stamp steps = record {
  stamped = λ k s lt q. absurd (omega arith);
  once = λ i j s r less lt p q. absurd (omega arith);
}

pub stamped_more : (stamps : List ℕ) (stamp : ℕ) (steps : List Resolve) (n : ℕ) (step : Resolve) → slice_get steps n ≡ Some step → slice_index_or stamps step.on 0 ≢ stamp → step.on < length stamps → AreStamped stamps stamp steps n → AreStamped (slice_set stamps step.on stamp) stamp steps (n + 1)
stamped_more stamps stamp steps n step at fresh lt h = record {
  stamped = λ k s less q. elim (cases_lt k n) as (λ _. slice_index_or (slice_set stamps step.on stamp) s.on 0 ≡ stamp) [
    | inl l ↦ elim (cases_eq s.on step.on) as (λ _. slice_index_or (slice_set stamps step.on stamp) s.on 0 ≡ stamp) [
      | inl e ↦ ap (λ v. slice_index_or (slice_set stamps step.on stamp) v 0) e ∙ get_or-set_same stamps step.on stamp 0 lt
      | inr ne ↦ get_or-set_other stamps step.on s.on stamp 0 ne ∙ h.stamped k s l q
    ]
    | inr g ↦
        let same : n ≡ k = omega arith in
        let e : step ≡ s = same_Some step s (sym at ∙ ap (slice_get steps) same ∙ q) in
        ap (λ t. slice_index_or (slice_set stamps step.on stamp) t.on 0) (sym e) ∙ get_or-set_same stamps step.on stamp 0 lt
  ];
  once = λ i j s r less within p q. elim (cases_lt j n) as (λ _. s.on ≢ r.on) [
    | inl l ↦ h.once i j s r less l p q
    | inr g ↦
        let same : n ≡ j = omega arith in
        let e : step ≡ r = same_Some step r (sym at ∙ ap (slice_get steps) same ∙ q) in
        λ equal. fresh (ap (λ v. slice_index_or stamps v 0) (ap (λ t. t.on) e ∙ sym equal) ∙ h.stamped i s (omega arith) p)
  ];
}

pub all_stamped : (stamps : List ℕ) (stamp : ℕ) (steps : List Resolve) (n : ℕ) → length steps ≤ n → AreStamped stamps stamp steps n → AreOnce steps
all_stamped stamps stamp steps n le h = λ i j s r less p q. h.once i j s r less (omega (arith, slice_get_within steps j r q)) p q
