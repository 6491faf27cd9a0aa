-- What a program and a witness about it ask for: the reply that they are owed.
use Rattle.std.specs.Prelude.{◌≡◌, ℕ, Bool, List, Result, Ok, Err}
use Rattle.std.specs.List.{list_any}
use Rattle.c_core.specs.Tree as t
use Rattle.c_core.specs.View.{program_view}
use Rattle.c_core.specs.declared.program.Program.{Program}
use Rattle.c_meaning.specs.Placing.{placed_view}
use Rattle.c_meaning.specs.Duties.{Placed}
use Rattle.c_meaning.specs.declared.verdict.Verdict.{Verdict}
use Rattle.judge_correctness.specs.Correctness.{IsConfirmed, IsDecidedBeyond}
use Rattle.judge_obligations.specs.Verdicts.{IsRightOnInvariants}
use Rattle.sym_duties.specs.Answers.{CanBeJudged, IsFault, names_of}
use Rattle.sym_duties.specs.declared.fault.SymFault.{SymFault}
use Rattle.way_bind.specs.Binding.{Binds}
use Rattle.way_invariants.specs.Invariants.{BindsInvariants}
use Rattle.way_match.specs.Points.{BoundSegment}
use Rattle.way_match.specs.Verdicts.{IsRightVerdict}
use Rattle.way_match.specs.View.{segments_view}
use Rattle.wv_arguments.specs.Words.{Budgets}
use Rattle.wv_report.specs.declared.reply.Reply.{Reply}
use Rattle.wv_report.specs.declared.reply.Reply.TheVariants.{Verdict as Judged, Refused, ReadFault}
use Rattle.wv_schema.specs.Shapes.{is_set}
use Rattle.wv_schema.specs.declared.witness.Witness.{Witness}
use Rattle.witval.specs.Refusals.{IsBindRefusal, IsObligationRefusal}
use Rattle.witval.specs.Stages.{◌>>=◌, answered, choosing, itself}

-- ---- violation sequences

-- the reply to a program and the segments of a violation sequence: a right verdict
abbrev pub RightOnSegments : ℕ → t.Program → List BoundSegment → Reply → Type 0
RightOnSegments steps p ss (Judged verdict) = IsRightVerdict steps p ss verdict
RightOnSegments steps p ss (Refused code detail) = ⊥
RightOnSegments steps p ss (ReadFault file) = ⊥

-- the reply to a program and a violation sequence about it, with a budget of steps
abbrev pub RightOnSequence : ℕ → Witness → Program → Reply → Type 0
RightOnSequence steps witness program = do
  segments ← answered (Binds (program_view program) witness) segments_view IsBindRefusal
  RightOnSegments steps (program_view program) segments

-- ---- invariant sets

-- the right verdict on a program with invariants that can be judged; where it confirms, no run violates the property, and each
-- invariant holds whenever its place is reached; beyond the budget that the drawn bits allow, it is decided
pub record IsRightOnSets (conflicts : ℕ) (p : t.Program) (I : List Placed) (verdict : Verdict) : Type 0 where
  pub right : IsRightOnInvariants conflicts p I verdict
  pub confirmed : IsConfirmed p I verdict
  pub judged : CanBeJudged p I
  pub decided : IsDecidedBeyond conflicts p verdict

-- such a verdict, or why there is none: main reaches a cycle of calls, or else the program is too big
abbrev pub JudgesSets : ℕ → Program → List Placed → Result Verdict SymFault → Type 0
JudgesSets conflicts program I (Ok verdict) = IsRightOnSets conflicts (program_view program) I verdict
JudgesSets conflicts program I (Err fault) = IsFault (program_view program) (names_of program.functions) I fault

-- the reply is this verdict
abbrev pub Tells : Verdict → Reply → Type 0
Tells verdict reply = reply ≡ Judged verdict

-- the reply to a program and the invariants of sets about it
abbrev pub RightOnPlaced : ℕ → Program → List Placed → Reply → Type 0
RightOnPlaced conflicts program I = do
  verdict ← answered (JudgesSets conflicts program I) itself IsObligationRefusal
  Tells verdict

-- the reply to a program and invariant sets about it, with a budget of conflicts for each obligation
abbrev pub RightOnSets : ℕ → Witness → Program → Reply → Type 0
RightOnSets conflicts witness program = do
  invariants ← answered (BindsInvariants (program_view program) witness) placed_view IsBindRefusal
  RightOnPlaced conflicts program invariants

-- ---- witnesses

-- one of its entries is an invariant set; the schema leaves it no violation sequence besides
abbrev pub holds_sets : Witness → Bool
holds_sets witness = list_any is_set witness.entries

-- the reply to a program and a witness about it
abbrev pub RightOnProgram : Budgets → Witness → Program → Reply → Type 0
RightOnProgram budgets witness program =
    choosing (holds_sets witness) (RightOnSets budgets.conflicts witness program) (RightOnSequence budgets.steps witness program)
