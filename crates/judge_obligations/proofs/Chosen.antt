-- Two right verdicts for which no budget was spent are one but for the draws that they show.
use Rattle.std.proofs.Common.{◌≡◌, ℕ, ◌-◌, ◌<◌, List, sym, ◌∙◌, ap, arith, inl, inr}
use Rattle.std.specs.Prelude.{slice_get}
use Rattle.std.proofs.lemmas.Bool.{cases_lt}
use Rattle.std.proofs.lemmas.Option.{same_Some, slice_get_within}
use Rattle.c_core.specs.Tree.{Program}
use Rattle.c_meaning.specs.declared.run.Draw.{Draw}
use Rattle.c_meaning.specs.declared.run.Duty.{Duty}
use Rattle.c_meaning.specs.declared.verdict.Verdict.TheVariants.{ViolationConfirmed, ViolationNot, CorrectnessConfirmed, CorrectnessNot, Undecided}
use Rattle.c_meaning.specs.Duties.{Placed, Duties}
use Rattle.c_meaning.specs.Replay.{values_of}
use Rattle.judge_obligations.specs.Verdicts.{AllHold, FailsFirst, OneAnswer}

module _ (p : Program) (I : List Placed) where
  not_both : (n i : ℕ) (duty : Duty) (draws : List Draw) → AllHold p I n → FailsFirst p I i duty draws → ⊥
  not_both n i duty draws a f = a.hold i f.real (omega (arith, a.counted, slice_get_within (Duties p I) (i - 1) duty f.named, f.real)) (values_of draws) f.ends

  not_earlier : (i j : ℕ) (duty other : Duty) (draws shown : List Draw) → FailsFirst p I i duty draws → FailsFirst p I j other shown → i < j → ⊥
  not_earlier i j duty other draws shown f g lt = g.before i f.real (omega (arith, lt)) (values_of draws) f.ends

  same_first : (i j : ℕ) (duty other : Duty) (draws shown : List Draw) → FailsFirst p I i duty draws → FailsFirst p I j other shown → (i ≡ j) × (duty ≡ other)
  same_first i j duty other draws shown f g = elim (cases_lt i j) as (λ _. (i ≡ j) × (duty ≡ other)) [
    | inl lt ↦ absurd (not_earlier i j duty other draws shown f g lt)
    | inr ge ↦ elim (cases_lt j i) as (λ _. (i ≡ j) × (duty ≡ other)) [
      | inl lt ↦ absurd (not_earlier j i other duty shown draws g f lt)
      | inr le ↦
          let e : i ≡ j = omega (arith, ge, le) in
          (e, same_Some duty other (sym f.named ∙ ap (λ k. slice_get (Duties p I) (k - 1)) e ∙ g.named))
    ]
  ]

pub chosen : OneAnswer
chosen N M p I (CorrectnessConfirmed m) (CorrectnessConfirmed n) a b da db = a.counted ∙ sym b.counted
chosen N M p I (CorrectnessConfirmed m) (CorrectnessNot j other shown) a b da db = absurd (not_both p I m j other shown a b)
chosen N M p I (CorrectnessNot i duty draws) (CorrectnessConfirmed n) a b da db = absurd (not_both p I n i duty draws b a)
chosen N M p I (CorrectnessNot i duty draws) (CorrectnessNot j other shown) a b da db = same_first p I i j duty other draws shown a b
chosen N M p I (Undecided cause) y a b da db = absurd da
chosen N M p I (ViolationConfirmed draws positions) y a b da db = absurd a
chosen N M p I (ViolationNot reason unfixed) y a b da db = absurd a
chosen N M p I x (Undecided cause) a b da db = absurd db
chosen N M p I x (ViolationConfirmed draws positions) a b da db = absurd b
chosen N M p I x (ViolationNot reason unfixed) a b da db = absurd b
