-- Stage by stage, the reply to a demo's faulty program is the one that confirms its violation.
use Rattle.std.proofs.Common.{◌≡◌, ◌≤◌, ℕ, List, Result, ◌∙◌, subst}
use Rattle.c_check.specs.Checking.{Answers as CheckAnswers}
use Rattle.c_core.specs.Tree as t
use Rattle.c_core.specs.View.{program_view}
use Rattle.c_core.specs.declared.number.DataModel.TheVariants.{Ilp32}
use Rattle.c_core.specs.declared.number.Property.TheVariants.{UnreachCall}
use Rattle.c_core.specs.declared.program.Program.{Program}
use Rattle.c_meaning.specs.declared.verdict.Verdict.{Verdict}
use Rattle.c_parser.specs.Parsing.{Answers as ParserAnswers, IsFound}
use Rattle.c_parser.specs.declared.fault.ParseFault.{ParseFault}
use Rattle.c_parser.specs.declared.item.Source.{Source}
use Rattle.c_tokens.specs.Reading.{Tokens, Whole}
use Rattle.check_rules.specs.Checked.{program_of}
use Rattle.check_rules.specs.declared.fault.CheckFault.{CheckFault}
use Rattle.demo_binding.specs.Bound.{AreSegments}
use Rattle.demo_checks.specs.Checked.{IsProgramOf}
use Rattle.demo_laws.specs.DemoLines.{faulty_pieces}
use Rattle.demo_laws.specs.Lines.{spot, tokens_from}
use Rattle.demo_laws.specs.Source.{faulty_items}
use Rattle.demo_run.specs.Segments.{Confirms, demo_segments}
use Rattle.demo_run.specs.Typed.{faulty_typed}
use Rattle.demo_verdicts.specs.Confirming.{ConfirmsDemo, IsVerdict}
use Rattle.demo_verdicts.proofs.Stages.{OneOutcome, on_tokens, on_items, on_program, on_segments}
use Rattle.way_bind.specs.Binding.{Binds}
use Rattle.way_bind.specs.declared.fault.BindFault.{BindFault}
use Rattle.way_match.specs.Points.{BoundSegment}
use Rattle.way_match.specs.Verdicts.{IsRightOnViolation}
use Rattle.way_match.specs.declared.point.Bound.{Bound}
use Rattle.witval.specs.Tasks.{RightOnSegments}
use Rattle.witval.specs.inside.Rests.{RightOnText, RightOnTokens, RightOnSource}
use Rattle.witval.specs.Purposes.{RightOnWork, ToJudge}
use Rattle.witval.specs.declared.output.Output.TheVariants.{Report}
use Rattle.wv_arguments.specs.Words.{Budgets}
use Rattle.wv_author.specs.Programs.{faulty_program}
use Rattle.wv_author.specs.Sequence.{bounds, loop_count}
use Rattle.wv_author.specs.Witnesses.{violation}
use Rattle.wv_report.specs.declared.reply.Reply.{Reply}
use Rattle.wv_report.specs.declared.reply.Reply.TheVariants.{Verdict as Judged, Refused, ReadFault}

-- the laws of the stages, of a number
pub record Laws (n : ℕ) : Type 0 where
  pub outcome : OneOutcome
  pub tokens : Tokens (faulty_program n) (tokens_from 1 (faulty_pieces n (bounds n loop_count))) Whole
  pub parsed : (answer : Result Source ParseFault) → ParserAnswers (tokens_from 1 (faulty_pieces n (bounds n loop_count))) answer → IsFound answer (faulty_items n (bounds n loop_count))
  pub checked : (answer : Result Program CheckFault) → CheckAnswers Ilp32 UnreachCall (faulty_items n (bounds n loop_count)) answer → IsProgramOf Ilp32 UnreachCall (faulty_items n (bounds n loop_count)) answer
  pub typed : program_of Ilp32 UnreachCall (faulty_items n (bounds n loop_count)) ≡ faulty_typed n (bounds n loop_count)
  pub bound : (text : List ℕ) (answer : Result Bound BindFault) → Binds (faulty_typed n (bounds n loop_count)) (violation n text) answer → AreSegments (demo_segments n (spot 1 12)) answer
  pub confirmed : (steps : ℕ) (verdict : Verdict) → 100000 ≤ steps →
      IsRightOnViolation (program_of Ilp32 UnreachCall (faulty_items n (bounds n loop_count))) (demo_segments n (spot 1 12)) steps verdict → Confirms n verdict

-- the reply to the segments is a right verdict
pub faulty_right : (n : ℕ) (budgets : Budgets) (reply : Reply) → Laws n → RightOnText (ToJudge budgets) UnreachCall (faulty_program n) (violation n (faulty_program n)) Ilp32 (Report reply) →
    RightOnSegments budgets.steps (program_of Ilp32 UnreachCall (faulty_items n (bounds n loop_count))) (demo_segments n (spot 1 12)) reply
faulty_right n budgets reply laws right =
    let witness = violation n (faulty_program n) in
    let ts = tokens_from 1 (faulty_pieces n (bounds n loop_count)) in
    let items = faulty_items n (bounds n loop_count) in
    let lexed = on_tokens laws.outcome (faulty_program n) ts laws.tokens (RightOnTokens (ToJudge budgets) UnreachCall witness Ilp32) reply right in
    let parsed = on_items ts items laws.parsed (RightOnSource (ToJudge budgets) UnreachCall witness Ilp32) reply lexed in
    let checked = on_program Ilp32 UnreachCall items laws.checked (RightOnWork (ToJudge budgets) witness) reply parsed in
    let placed : (answer : Result Bound BindFault) → Binds (program_view checked.program) witness answer → AreSegments (demo_segments n (spot 1 12)) answer =
    λ answer is. laws.bound (faulty_program n) answer (subst (λ q. Binds q witness answer) (checked.is ∙ laws.typed) is) in
    let bound = on_segments (Binds (program_view checked.program) witness) (demo_segments n (spot 1 12)) placed (RightOnSegments budgets.steps (program_view checked.program)) reply checked.told in
    subst (λ q. RightOnSegments budgets.steps q (demo_segments n (spot 1 12)) reply) checked.is bound

judged : (steps : ℕ) (p : t.Program) (ss : List BoundSegment) (reply : Reply) → RightOnSegments steps p ss reply → IsVerdict reply
judged steps p ss (Judged verdict) right = tt
judged steps p ss (Refused code detail) right = absurd right
judged steps p ss (ReadFault file) right = absurd right

pub faulty_judged : (n : ℕ) (budgets : Budgets) (reply : Reply) → Laws n → RightOnText (ToJudge budgets) UnreachCall (faulty_program n) (violation n (faulty_program n)) Ilp32 (Report reply) → IsVerdict reply
faulty_judged n budgets reply laws right = judged _ _ _ reply (faulty_right n budgets reply laws right)

confirmed : (n steps : ℕ) (p : t.Program) (ss : List BoundSegment) → ((verdict : Verdict) → IsRightOnViolation p ss steps verdict → Confirms n verdict) → (reply : Reply) →
    RightOnSegments steps p ss reply → ConfirmsDemo n reply
confirmed n steps p ss all (Judged verdict) right = all verdict right.right
confirmed n steps p ss all (Refused code detail) right = absurd right
confirmed n steps p ss all (ReadFault file) right = absurd right

pub faulty_confirms : (n : ℕ) (budgets : Budgets) (reply : Reply) → Laws n → 100000 ≤ budgets.steps → RightOnText (ToJudge budgets) UnreachCall (faulty_program n) (violation n (faulty_program n)) Ilp32 (Report reply) → ConfirmsDemo n reply
faulty_confirms n budgets reply laws enough right =
    confirmed n budgets.steps _ _ (λ verdict is. laws.confirmed budgets.steps verdict enough is) reply (faulty_right n budgets reply laws right)
