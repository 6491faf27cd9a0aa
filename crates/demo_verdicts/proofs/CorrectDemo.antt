-- Stage by stage, the reply to a demo's correct program is a verdict.
use Rattle.std.proofs.Common.{◌≡◌, ◌∙◌, ℕ, List, Result, sym, subst}
use Rattle.c_check.specs.Checking.{Answers as CheckAnswers}
use Rattle.c_core.specs.View.{program_view}
use Rattle.c_core.specs.declared.number.DataModel.TheVariants.{Ilp32}
use Rattle.c_core.specs.declared.number.Property.TheVariants.{UnreachCall}
use Rattle.c_core.specs.declared.program.Program.{Program}
use Rattle.c_meaning.specs.declared.run.PlacedInvariant.{PlacedInvariant}
use Rattle.c_parser.specs.Parsing.{Answers as ParserAnswers, IsFound}
use Rattle.c_parser.specs.declared.fault.ParseFault.{ParseFault}
use Rattle.c_parser.specs.declared.item.Source.{Source}
use Rattle.c_tokens.specs.Reading.{Tokens, Whole}
use Rattle.check_rules.specs.Checked.{program_of}
use Rattle.check_rules.specs.declared.fault.CheckFault.{CheckFault}
use Rattle.demo_binding.specs.Bound.{ArePlaced}
use Rattle.demo_binding.specs.Correct.{placed_ranges}
use Rattle.demo_checks.specs.Checked.{IsProgramOf}
use Rattle.demo_laws.specs.DemoLines.{correct_pieces}
use Rattle.demo_laws.specs.Lines.{tokens_from}
use Rattle.demo_laws.specs.Source.{correct_items}
use Rattle.demo_run.specs.Typed.{correct_typed}
use Rattle.demo_verdicts.specs.Confirming.{IsVerdict}
use Rattle.demo_verdicts.proofs.Stages.{OneOutcome, on_tokens, on_items, on_program, on_placed, on_judged}
use Rattle.sym_duties.specs.Answers.{CanBeJudged}
use Rattle.way_bind.specs.declared.fault.BindFault.{BindFault}
use Rattle.way_invariants.specs.Invariants.{BindsInvariants}
use Rattle.witval.specs.Purposes.{RightOnWork, ToJudge}
use Rattle.witval.specs.Tasks.{RightOnPlaced}
use Rattle.witval.specs.declared.output.Output.TheVariants.{Report}
use Rattle.witval.specs.inside.Rests.{RightOnText, RightOnTokens, RightOnSource}
use Rattle.wv_arguments.specs.Words.{Budgets}
use Rattle.wv_author.specs.Programs.{correct_program}
use Rattle.wv_author.specs.Sequence.{bounds, loop_count}
use Rattle.wv_author.specs.Witnesses.{invariants}
use Rattle.wv_report.specs.declared.reply.Reply.{Reply}

-- the laws of the stages, of a number
pub record Laws (n : ℕ) : Type 0 where
  pub outcome : OneOutcome
  pub tokens : Tokens (correct_program n) (tokens_from 1 (correct_pieces (bounds n loop_count))) Whole
  pub parsed : (answer : Result Source ParseFault) → ParserAnswers (tokens_from 1 (correct_pieces (bounds n loop_count))) answer → IsFound answer (correct_items (bounds n loop_count))
  pub checked : (answer : Result Program CheckFault) → CheckAnswers Ilp32 UnreachCall (correct_items (bounds n loop_count)) answer → IsProgramOf Ilp32 UnreachCall (correct_items (bounds n loop_count)) answer
  pub typed : program_of Ilp32 UnreachCall (correct_items (bounds n loop_count)) ≡ correct_typed (bounds n loop_count)
  pub bound : (text : List ℕ) (answer : Result (List PlacedInvariant) BindFault) → BindsInvariants (correct_typed (bounds n loop_count)) (invariants n text) answer → ArePlaced (placed_ranges 4 1 0 (bounds n loop_count)) answer
  pub can : CanBeJudged (correct_typed (bounds n loop_count)) (placed_ranges 4 1 0 (bounds n loop_count))

pub correct_judged : (n : ℕ) (budgets : Budgets) (reply : Reply) → Laws n → RightOnText (ToJudge budgets) UnreachCall (correct_program n) (invariants n (correct_program n)) Ilp32 (Report reply) → IsVerdict reply
correct_judged n budgets reply laws right =
    let witness = invariants n (correct_program n) in
    let ts = tokens_from 1 (correct_pieces (bounds n loop_count)) in
    let items = correct_items (bounds n loop_count) in
    let ranges = placed_ranges 4 1 0 (bounds n loop_count) in
    let lexed = on_tokens laws.outcome (correct_program n) ts laws.tokens (RightOnTokens (ToJudge budgets) UnreachCall witness Ilp32) reply right in
    let parsed = on_items ts items laws.parsed (RightOnSource (ToJudge budgets) UnreachCall witness Ilp32) reply lexed in
    let checked = on_program Ilp32 UnreachCall items laws.checked (RightOnWork (ToJudge budgets) witness) reply parsed in
    let same = checked.is ∙ laws.typed in
    let placed : (answer : Result (List PlacedInvariant) BindFault) → BindsInvariants (program_view checked.program) witness answer → ArePlaced ranges answer =
    λ answer is. laws.bound (correct_program n) answer (subst (λ q. BindsInvariants q witness answer) same is) in
    let bound = on_placed (BindsInvariants (program_view checked.program) witness) ranges placed (RightOnPlaced budgets.conflicts checked.program) reply checked.told in
    on_judged budgets.conflicts checked.program ranges (subst (λ q. CanBeJudged q ranges) (sym same) laws.can) reply bound
