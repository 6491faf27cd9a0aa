-- The right verdict on a violation witness.
use Rattle.std.specs.Prelude.{◌≡◌, ℕ, Bool, true, false, List, Option, Some, None}
use Rattle.c_core.specs.Tree.{Program}
use Rattle.c_core.specs.declared.number.Spot.{Spot}
use Rattle.c_meaning.specs.declared.run.Draw.{Draw}
use Rattle.c_meaning.specs.declared.run.End.{End}
use Rattle.c_meaning.specs.declared.run.End.TheVariants as end
use Rattle.c_meaning.specs.declared.run.Choices.TheVariants.{InTurn}
use Rattle.c_meaning.specs.declared.run.Run.{Run as GivenRun}
use Rattle.c_meaning.specs.declared.verdict.Verdict.{Verdict}
use Rattle.c_meaning.specs.declared.verdict.Verdict.TheVariants.{ViolationConfirmed, ViolationNot, Undecided}
use Rattle.c_meaning.specs.declared.verdict.Reason.TheVariants.{Ended, Undefined, Unmatched}
use Rattle.c_meaning.specs.declared.verdict.Cause.TheVariants.{Steps, Cells}
use Rattle.c_meaning.specs.Run.{Run}
use Rattle.c_meaning.specs.Replay.{values_of}
use Rattle.way_match.specs.Points.{BoundSegment}
use Rattle.way_match.specs.Matching.{Seen, SeenIn, Matches, Finds}
use Rattle.way_match.specs.Given.{RunGiven, SeenGiven}

-- of a run that violates the property: confirmed at any positions that match, else unmatched
abbrev pub verdict_at : GivenRun → Option (List ℕ) → Verdict
verdict_at r (Some positions) = ViolationConfirmed r.draws positions
verdict_at r None = ViolationNot Unmatched r.unfixed

-- by the end of a run with a budget of N steps and with these events
abbrev pub IsRightAt : Program → List BoundSegment → ℕ → GivenRun → List Seen → End → Verdict → Type 0
IsRightAt p ss N r es (end.Violated spot) v = (found : Option (List ℕ)) × Finds p ss es found × (v ≡ verdict_at r found)
IsRightAt p ss N r es end.Ended v = v ≡ ViolationNot Ended r.unfixed
IsRightAt p ss N r es (end.Undefined spot) v = v ≡ ViolationNot (Undefined spot) r.unfixed
IsRightAt p ss N r es end.Spent v = v ≡ Undecided (Steps N)
IsRightAt p ss N r es end.Deep v = v ≡ Undecided Cells

-- the given run decides on a violation witness
abbrev pub IsRightOnViolation : Program → List BoundSegment → ℕ → Verdict → Type 0
IsRightOnViolation p ss N v = IsRightAt p ss N (RunGiven p ss N) (SeenGiven p ss N) (RunGiven p ss N).end v

-- the values of the draws, taken in turn, give a run that makes just these draws, violates the property within N steps and passes the segments at these positions
pub record Violates (p : Program) (ss : List BoundSegment) (N : ℕ) (draws : List Draw) (positions : List ℕ) : Type 0 where
  pub violated : (spot : Spot) × ((Run p (InTurn (values_of draws)) N).end ≡ end.Violated spot)
  pub drawn : (Run p (InTurn (values_of draws)) N).draws ≡ draws
  pub matched : Matches p ss (SeenIn p (InTurn (values_of draws)) N) positions

-- what 'violation confirmed' says: the shown draws and positions are those of such a run
abbrev pub IsConfirmed : Program → List BoundSegment → ℕ → Verdict → Type 0
IsConfirmed p ss N (ViolationConfirmed draws positions) = Violates p ss N draws positions
IsConfirmed p ss N _ = Unit {0}

-- a verdict that is right on the given run with so many steps, and that shows such values where it confirms
pub record IsRightVerdict (steps : ℕ) (p : Program) (ss : List BoundSegment) (verdict : Verdict) : Type 0 where
  pub right : IsRightOnViolation p ss steps verdict
  pub confirmed : IsConfirmed p ss steps verdict

abbrev pub is_confirmation : Verdict → Bool
is_confirmation (ViolationConfirmed draws positions) = true
is_confirmation _ = false

-- the given run violates the property within N steps, and its events match
pub record IsGivenViolation (p : Program) (ss : List BoundSegment) (N : ℕ) : Type 0 where
  pub violated : (spot : Spot) × ((RunGiven p ss N).end ≡ end.Violated spot)
  pub matched : (positions : List ℕ) × Matches p ss (SeenGiven p ss N) positions
