-- The demo of a number: the replies to its two programs, and the three lines that tell them.
use Rattle.std.specs.Prelude.{◌≡◌, ℕ, ◌==◌, ◌&&◌, ◌||◌, List, [], ◌∷◌, ◌++◌, take, if◌then◌else◌, codes, decimal}
use Rattle.std.specs.Fmt.{signed_decimal}
use Rattle.std.specs.List.{position_or_len}
use Rattle.c_check.specs.Checking.{Answers as CheckAnswers}
use Rattle.c_core.specs.declared.number.DataModel.TheVariants.{Ilp32}
use Rattle.c_core.specs.declared.number.Property.TheVariants.{UnreachCall}
use Rattle.c_meaning.specs.declared.run.Draw.{Draw}
use Rattle.c_meaning.specs.declared.verdict.Verdict.TheVariants.{ViolationConfirmed, ViolationNot, CorrectnessConfirmed, CorrectnessNot, Undecided}
use Rattle.c_parser.specs.Parsing.{Answers as ParserAnswers, source_view}
use Rattle.c_tokens.specs.Reading.{Answers as TokensAnswers}
use Rattle.wv_arguments.specs.Words.{Budgets}
use Rattle.wv_author.specs.Programs.{correct_program, faulty_program}
use Rattle.wv_author.specs.Witnesses.{invariants, violation}
use Rattle.wv_report.specs.Report.{line, status_of, text_of}
use Rattle.wv_report.specs.declared.reply.Reply.{Reply}
use Rattle.wv_report.specs.declared.reply.Reply.TheVariants.{Verdict as Judged, Refused, ReadFault}
use Rattle.wv_schema.specs.Canonical.{tree_of}
use Rattle.wv_schema.specs.declared.witness.Witness.{Witness}
use Rattle.wv_yaml.specs.Canon.{canon}
use Rattle.witval.specs.Refusals.{IsCheckRefusal, IsSyntaxRefusal, IsTokenRefusal}
use Rattle.witval.specs.Purposes.{Judging, RightOnInputs}
use Rattle.witval.specs.Stages.{◌>>=◌, answered, itself, Reports, refusing}
use Rattle.witval.specs.Tasks.{RightOnProgram}
use Rattle.witval.specs.declared.demonstration.Demonstration.{Demonstration}
use Rattle.witval.specs.declared.output.Output.{Output}
use Rattle.witval.specs.declared.output.Output.TheVariants.{Report}

-- ---- the replies

-- the property file that asks whether the error is reached
abbrev pub unreach_text : List ℕ
unreach_text = codes "CHECK( init(main()), LTL(G ! call(reach_error())) )"

-- the reply to a program and a witness that are made: that of files which hold the program, this property and the witness in
-- canonical form
abbrev pub RightOnMade : Budgets → List ℕ → Witness → Reply → Type 0
RightOnMade budgets program witness reply = RightOnInputs (Judging budgets) program unreach_text (canon (tree_of witness)) (Report reply)

-- the same, where the witness is read and is about its program: no refusal of YAML, of the schema or of the task comes
abbrev pub ReportsOnRead : Budgets → List ℕ → Witness → Output → Type 0
ReportsOnRead budgets program_bytes witness = do
  tokens ← answered (TokensAnswers program_bytes) itself (refusing IsTokenRefusal)
  source ← answered (ParserAnswers tokens) source_view (refusing IsSyntaxRefusal)
  program ← answered (CheckAnswers Ilp32 UnreachCall source) itself (refusing IsCheckRefusal)
  Reports (RightOnProgram budgets witness program)

abbrev pub RightOnRead : Budgets → List ℕ → Witness → Reply → Type 0
RightOnRead budgets program_bytes witness reply = ReportsOnRead budgets program_bytes witness (Report reply)

-- the replies to the two programs of a number, each with its witness
pub record IsDemonstration (number : ℕ) (budgets : Budgets) (demo : Demonstration) : Type 0 where
  pub same_number : demo.number ≡ number
  pub on_correct : RightOnMade budgets (correct_program number) (invariants number (correct_program number)) demo.correct
  pub on_faulty : RightOnMade budgets (faulty_program number) (violation number (faulty_program number)) demo.faulty
  pub correct_read : RightOnRead budgets (correct_program number) (invariants number (correct_program number)) demo.correct
  pub faulty_read : RightOnRead budgets (faulty_program number) (violation number (faulty_program number)) demo.faulty

-- ---- what is printed

-- a report up to its first line feed
abbrev pub first_line : List ℕ → List ℕ
first_line report = take (position_or_len (λ b. b == 10) report) report

-- each drawn value, after a blank
abbrev pub drawn_values : List Draw → List ℕ
drawn_values [] = []
drawn_values (draw ∷ draws) = codes " " ++ signed_decimal draw.value ++ drawn_values draws

-- what a confirmation has after its first line: the drawn values, or the number of obligations
abbrev pub numbers_of : Reply → List ℕ
numbers_of (Judged (ViolationConfirmed draws positions)) = drawn_values draws
numbers_of (Judged (CorrectnessConfirmed count)) = codes " " ++ decimal count
numbers_of (Judged (ViolationNot reason unfixed)) = []
numbers_of (Judged (CorrectnessNot index duty draws)) = []
numbers_of (Judged (Undecided cause)) = []
numbers_of (Refused code detail) = []
numbers_of (ReadFault file) = []

-- the line for a reply
abbrev pub told_line : Reply → List ℕ
told_line reply = line (first_line (text_of reply) ++ numbers_of reply)

-- the number, and a line for each program
unfoldable pub demo_text : Demonstration → List ℕ
demo_text demo = line (codes "demo " ++ decimal demo.number) ++ told_line demo.correct ++ told_line demo.faulty

-- 0 where both are confirmed, 2 where one is undecided, else 1
abbrev pub demo_status : Demonstration → ℕ
demo_status demo =
    if (status_of demo.correct == 0) && (status_of demo.faulty == 0) then 0
    else if (status_of demo.correct == 2) || (status_of demo.faulty == 2) then 2
    else 1
