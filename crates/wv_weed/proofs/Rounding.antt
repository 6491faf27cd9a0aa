-- A round, one obligation after the other.
use Rattle.std.proofs.Common.{◌≡◌, ℕ, suc, ◌+◌, ◌<◌, ◌≤◌, Bool, true, false, List, length, ℤ, sym, ◌∙◌, ap, subst, arith, inl, inr, Option, Some, None}
use Rattle.std.specs.Prelude.{slice_get, slice_set}
use Rattle.std.proofs.lemmas.Bool.{cases_eq, cases_lt}
use Rattle.std.proofs.lemmas.List.{length-set, get_or-set_other, get_or-set_same}
use Rattle.std.proofs.lemmas.Option.{none-some, same_Some, slice_get_within}
use Rattle.clauses.specs.declared.log.SpentAt.{SpentAt}
use Rattle.c_core.specs.Tree.{Program}
use Rattle.c_inductive.specs.Inductive.{DutiesNameInvariants, FailuresDrop, IsGreatest}
use Rattle.c_inductive.specs.Picking.{picked, AsManyArePicked, IsSelection}
use Rattle.c_meaning.specs.declared.run.Duty.{Duty}
use Rattle.c_meaning.specs.declared.run.HavocEnd.TheVariants.{Failed}
use Rattle.c_meaning.specs.Duties.{Duties, Placed}
use Rattle.c_meaning.specs.Havoc.{Havoc}
use Rattle.wv_weed.specs.Numbers.{IsSet, unflagged}
use Rattle.wv_weed.specs.Rounds.{AreLeft, IsDutyOf, IsKeptFirst, IsLost, IsPassed, IsPlaceOf, IsRound, IsRoundOf, invariants_of, program_of}
use Rattle.wv_weed.specs.Weeded.{IsOpenAt}
use Rattle.wv_weed.specs.declared.rounds.Open.{Open}
use Rattle.wv_weed.specs.declared.rounds.Round.{Round}
use Rattle.wv_weed.specs.declared.rounds.Trial.{Trial}
use Rattle.wv_weed.proofs.Spared.{false_true, is_spared, none_set, spared_selected}

some_none : (x : Open) → Some x ≡ None → ⊥
some_none x e = none-some x (sym e)

next : (n : ℕ) → n + 1 ≡ suc n
next n = omega arith

module _ (N : ℕ) (p : Program) (I : List Placed) (left : List ℕ) where
  -- one more obligation holds, if it is of an invariant
  pub one_passed : (n : ℕ) (flags : List Bool) (first : Option Open) → IsRound N p I left n flags first
      → IsPassed N p I left n → IsRound N p I left (n + 1) flags first
  one_passed n flags first r here = record {
    many = r.many;
    lost = r.lost;
    passed = λ unset none at lt. elim (cases_lt at n) as (λ _. IsPassed N p I left at) [
      | inl less ↦ r.passed unset none at less
      | inr ge ↦ let e : n ≡ at = omega (arith, lt, ge) in subst (IsPassed N p I left) e here
    ];
    spent = r.spent;
  }

  -- its invariant is dropped already
  pub one_dropped : (n k : ℕ) (flags : List Bool) (first : Option Open) → IsRound N p I left n flags first
      → IsSet flags k → IsRound N p I left (n + 1) flags first
  one_dropped n k flags first r on = record {
    many = r.many;
    lost = r.lost;
    passed = λ unset none at lt. absurd (unset k on);
    spent = r.spent;
  }

  -- it fails
  pub one_fails : (n k : ℕ) (flags after : List Bool) (first : Option Open) → IsRound N p I left n flags first
      → after ≡ slice_set flags k true → k < length flags → IsLost N p I left k → IsRound N p I left (n + 1) after first
  one_fails n k flags after first r e lt here = subst (λ fs. IsRound N p I left (n + 1) fs first) (sym e) (record {
    many = length-set flags k true ∙ r.many;
    lost = λ j on. elim (cases_eq j k) as (λ _. IsLost N p I left j) [
      | inl same ↦ subst (IsLost N p I left) (sym same) here
      | inr other ↦ r.lost j (sym (get_or-set_other flags k j true false other) ∙ on)
    ];
    passed = λ unset none at less. absurd (unset k (get_or-set_same flags k true false lt));
    spent = r.spent;
  })

  -- the budget was spent on it
  pub one_open : (n : ℕ) (flags : List Bool) (first after : Option Open) (s : SpentAt)
      → IsRound N p I left n flags first → IsKeptFirst first n s after → IsOpenAt N p I left (suc n) s
      → IsRound N p I left (n + 1) flags after
  one_open n flags (Some x) after s r e here = subst (IsRound N p I left (n + 1) flags) (sym e) (record {
    many = r.many;
    lost = r.lost;
    passed = λ unset none at lt. absurd (some_none x none);
    spent = r.spent;
  })
  one_open n flags None after s r o here = subst (IsRound N p I left (n + 1) flags) (sym o.is) (record {
    many = r.many;
    lost = r.lost;
    passed = λ unset none at lt. absurd (some_none o.added none);
    spent =
        subst (λ (x : SpentAt). IsOpenAt N p I left o.added.number x) (sym o.kept)
        (subst (λ i. IsOpenAt N p I left i s) (sym (o.number ∙ next n)) here);
  })

  -- an obligation of no invariant
  pub none_passes : (list : List Duty) (n : ℕ) → list ≡ Duties p (picked left I)
      → DutiesNameInvariants p (picked left I) → IsPlaceOf list n None → IsPassed N p I left n
  none_passes list n e names none d named of =
      let k = names n d named of in
      absurd (none-some k.number (sym (none d (ap (λ (ds : List Duty). slice_get ds n) e ∙ named) of) ∙ k.named))

  -- the invariant of an obligation is one of those that are left
  pub place_within : (list : List Duty) (n k : ℕ) (flags : List Bool) → list ≡ Duties p (picked left I)
      → DutiesNameInvariants p (picked left I) → AsManyArePicked I → IsSelection (length I) left
      → length flags ≡ length left → IsDutyOf list n k → k < length flags
  place_within list n k flags e names many selection long of =
      let named : slice_get (Duties p (picked left I)) n ≡ Some of.duty =
      ap (λ (ds : List Duty). slice_get ds n) (sym e) ∙ of.named in
      let found = names n of.duty named of.of_invariant in
      omega (arith, found.within, same_Some k found.number (sym of.numbered ∙ found.named), many left selection, long)

  -- where one is dropped, the round needn't look at the others
  pub early : (n m k : ℕ) (flags : List Bool) (first : Option Open) → IsRound N p I left n flags first → IsSet flags k
      → IsRound N p I left m flags first
  early n m k flags first r on = record {
    many = r.many;
    lost = r.lost;
    passed = λ unset none at lt. absurd (unset k on);
    spent = r.spent;
  }

  -- an invariant of which an obligation fails is in no inductive set
  pub lost_at : AreLeft p I left → FailuresDrop p I → (at k : ℕ) (w : List ℤ) → IsDutyOf (Duties p (picked left I)) at k
      → (Havoc p (picked left I) w).end ≡ Failed (suc at) → IsLost N p I left k
  lost_at a drops at k w of ended ms n selection inductive there =
      drops left ms w at k n of.duty a.selection ended of.named of.numbered there selection
      (a.holding ms selection inductive) inductive

  -- what is left without what was lost
  pub fewer_left : (n : ℕ) (flags : List Bool) (first : Option Open) → AreLeft p I left
      → IsRound N p I left n flags first → AreLeft p I (unflagged flags left)
  fewer_left n flags first a r = record {
    selection = spared_selected (length I) flags left a.selection;
    holding = λ ms selection inductive m among.
        is_spared flags left m (a.holding ms selection inductive m among)
        (λ k on there. let lost = r.lost k on ms m selection inductive there in false_true (sym lost ∙ among));
  }

  -- nothing is dropped and none is open
  pub kept : (flags : List Bool) (first : Option Open) → AreLeft p I left
      → IsRound N p I left (length (Duties p (picked left I))) flags first → length left ≤ length (unflagged flags left)
      → first ≡ None → IsGreatest p I left
  kept flags first a r le none = record {
    selection = a.selection;
    inductive = λ index d named of. r.passed (λ k on. none_set flags left k r.many le on) none index
        (slice_get_within (Duties p (picked left I)) index d named) d named of;
    greatest = a.holding;
  }

-- ---- the round of a trial

-- nothing was asked of one more obligation
pub unasked : (t : Trial) (n : ℕ) (r : Round) → IsRoundOf t n r
    → IsRound t.conflicts (program_of t) (invariants_of t) t.left.now (n + 1) r.dropped.items r.first
    → IsRoundOf t (n + 1) r
unasked t n r h more = record { round = more; failed = h.failed; known = h.known }

-- a round that drops an invariant may end early
pub ends_early : (t : Trial) (n : ℕ) (r : Round) → IsRoundOf t n r → 0 < r.failed
    → IsRoundOf t (length t.obligations.now.failing) r
ends_early t n r h some =
    let one = h.failed some in
    record {
      round = early t.conflicts (program_of t) (invariants_of t) t.left.now n (length t.obligations.now.failing) one.0
          r.dropped.items r.first h.round one.1;
      failed = h.failed;
      known = h.known;
    }
