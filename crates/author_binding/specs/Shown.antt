-- What segments show that were written from a run: just this run.
use Rattle.std.specs.Prelude.{◌≡◌, ℕ, ℤ, List}
use Rattle.c_core.specs.Tree.{Program}
use Rattle.c_meaning.specs.Run.{Moments, Run}
use Rattle.c_meaning.specs.declared.run.Choices.TheVariants.{InTurn}
use Rattle.c_meaning.specs.declared.run.Draw.{Draw}
use Rattle.c_meaning.specs.declared.verdict.Verdict.{Verdict}
use Rattle.c_meaning.specs.declared.verdict.Verdict.TheVariants.{ViolationConfirmed}
use Rattle.way_match.specs.Given.{RunGiven, given_by}
use Rattle.way_match.specs.Points.{BoundSegment}
use Rattle.way_match.specs.Verdicts.{IsGivenViolation, IsRightOnViolation}

-- a confirmation that shows these draws
abbrev pub ConfirmsDraws : List Draw → Verdict → Type 0
ConfirmsDraws ds v = (positions : List ℕ) × (v ≡ ViolationConfirmed ds positions)

-- the run that the segments give is the run that takes these values in turn: it violates the property, and its events
-- match; so each right verdict confirms, and shows the draws of that run
pub record ShowsRun (p : Program) (vs : List ℤ) (N : ℕ) (ss : List BoundSegment) : Type 0 where
  pub violation : IsGivenViolation p ss N
  pub end : (RunGiven p ss N).end ≡ (Run p (InTurn vs) N).end
  pub steps : (RunGiven p ss N).steps ≡ (Run p (InTurn vs) N).steps
  pub draws : (RunGiven p ss N).draws ≡ (Run p (InTurn vs) N).draws
  pub moments : Moments p (given_by p ss) N ≡ Moments p (InTurn vs) N
  pub confirmed : (v : Verdict) → IsRightOnViolation p ss N v → ConfirmsDraws (Run p (InTurn vs) N).draws v
