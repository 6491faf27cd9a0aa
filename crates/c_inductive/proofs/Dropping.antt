-- Where an obligation of an invariant fails, it fails with each part of the set that has the invariant.
use Rattle.std.proofs.Common.{◌≡◌, ℕ, suc, ℤ, Bool, true, false, List, length, Some, None, slice_get, refl, sym, ap, ◌∙◌, subst, arith}
use Rattle.c_core.specs.Tree.{Program}
use Rattle.c_meaning.specs.declared.run.Duty.{Duty}
use Rattle.c_meaning.specs.declared.run.DutyKind.TheVariants.{Property}
use Rattle.c_meaning.specs.declared.run.HavocEnd.TheVariants.{Failed}
use Rattle.c_meaning.specs.Acts.{Stop, Flow}
use Rattle.c_meaning.specs.Duties.{Placed, Duties, duty}
use Rattle.c_meaning.specs.Havoc.{Fails, Left, havoc_in, havoc_run}
use Rattle.c_duties.proofs.Numbers.{counted, fails_at_duties, tells_obligations}
use Rattle.c_inductive.specs.Inductive.{is_of_invariant, AreInductive, FailuresDrop}
use Rattle.c_inductive.specs.Picking.{picked}
use Rattle.c_core.specs.Scope.{is_in}
use Rattle.c_inductive.proofs.Follows.{Result, Ends, goes, passes, violates, fails, fails_alone, dismissed, runs_end}
use Rattle.c_inductive.proofs.Thinned.{is_kept, among_if, kept_is_part}

-- it ends at an obligation of an invariant
record FailsThere (r : Result Flow) : Type 0 where
  failed : Duty
  left : Left
  run : r ≡ Stop (Fails failed) left
  kind : is_of_invariant failed.kind ≡ true

-- what fails at an invariant that the part has, fails there with the part
fails_there : (q : ℕ → Bool) (r r' : Result Flow) (d : Duty) (s : Left) (k : ℕ) → Ends q (λ f g. f ≡ g) r r'
    → r ≡ Stop (Fails d) s → d.invariant ≡ Some k → q k ≡ true → FailsThere r'
fails_there q _ _ d s k (goes f g t h) e n b = absurd (cc)
fails_there q _ _ d s k (passes t) e n b = absurd (cc)
fails_there q _ _ d s k (violates spot t) e n b =
    let same : duty spot Property None ≡ d = cc in
    let none : None ≡ d.invariant = ap (λ (x : Duty). x.invariant) same in
    absurd (cc)
fails_there q _ _ d s k (fails spot kind i j t h) e n b =
    record { failed = duty spot kind (Some j); left = t; run = refl; kind = h }
fails_there q _ _ d s k (fails_alone spot kind i t r h) e n b =
    let same : duty spot kind (Some i) ≡ d = cc in
    let number : Some i ≡ d.invariant = ap (λ (x : Duty). x.invariant) same in
    let one : i ≡ k = cc in
    let not_kept : q k ≡ false = sym (ap q one) ∙ h in
    absurd (cc)
fails_there q _ _ d s k (dismissed t r) e n b = absurd (cc)

module _ (p : Program) where
  -- the bound on calls in a havoc run
  abbrev depth : ℕ
  depth = suc (length p.functions)

  abbrev BothEnd : (ℕ → Bool) → List Placed → List Placed → List ℤ → Type 0
  BothEnd q I J w = Ends q (λ f g. f ≡ g) (havoc_in p I depth w) (havoc_in p J depth w)

  -- with invariants that are inductive, no run ends at an obligation of one of them
  never_there : (J : List Placed) (w : List ℤ) → AreInductive p J → FailsThere (havoc_in p J depth w) → ⊥
  never_there J w inductive f =
      let c = counted (Duties p J) f.failed (fails_at_duties p J depth w f.failed f.left f.run) in
      inductive c.index f.failed c.at.is f.kind w
      (ap (λ r. (havoc_run (Duties p J) r).end) f.run ∙ ap Failed c.number)

  pub failures_drop : (I : List Placed) → FailuresDrop p I
  failures_drop I left ms w index k n d selection ended at own number part_selection part inductive =
      by (is_in n ms) refl
    where
      runs : BothEnd (is_kept left ms) (picked left I) (picked ms I) w
      runs =
          subst (λ J. BothEnd (is_kept left ms) (picked left I) J w) (kept_is_part left ms I selection part)
          (runs_end (is_kept left ms) p (picked left I) depth w)

      by : (b : Bool) → is_in n ms ≡ b → is_in n ms ≡ false
      by false e = e
      by true e =
          let f = tells_obligations p (picked left I) w (suc index) ended in
          let here : index ≡ f.index = let c = f.counted in omega (arith, c) in
          let is : slice_get (Duties p (picked left I)) f.index ≡ Some f.failed = f.at.is in
          let same : f.failed ≡ d = cc in
          let named : f.failed.invariant ≡ Some k = ap (λ (x : Duty). x.invariant) same ∙ own in
          let kept : is_kept left ms k ≡ true = ap (among_if ms) number ∙ e in
          let there = fails_there (is_kept left ms) _ _ f.failed f.left k runs f.run named kept in
          absurd (never_there (picked ms I) w inductive there)
