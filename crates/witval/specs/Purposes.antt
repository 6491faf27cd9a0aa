-- What three files of allowed length ask for, for each purpose: the output that they are owed.
use Rattle.std.specs.Prelude.{◌≡◌, ℕ, List, codes}
use Rattle.sha2.specs.Sha256.{sha256}
use Rattle.c_check.specs.Checking.{Answers as CheckAnswers}
use Rattle.c_core.specs.declared.program.Program.{Program}
use Rattle.c_parser.specs.Parsing.{Answers as ParserAnswers, source_view}
use Rattle.c_tokens.specs.Reading.{Answers as TokensAnswers}
use Rattle.clauses.specs.declared.log.Refutation.{Refutation}
use Rattle.wv_arguments.specs.Requests.{limits}
use Rattle.wv_arguments.specs.Words.{Budgets}
use Rattle.wv_cert.specs.Reading.{AnswersFor as CertificateAnswers}
use Rattle.wv_schema.specs.Schema.{witness_of}
use Rattle.wv_schema.specs.declared.witness.Witness.{Witness}
use Rattle.wv_task.specs.PropertyText.{property_of}
use Rattle.wv_task.specs.Task.{judged}
use Rattle.wv_yaml.specs.Reading.{IsAnswer}
use Rattle.witval.specs.Certificates.{CertifiesSets, RechecksSets}
use Rattle.witval.specs.Refusals.{IsRefusal, IsSchemaRefusal, IsTaskRefusal, IsCertificateRefusal, IsTokenRefusal, IsSyntaxRefusal, IsCheckRefusal, plain}
use Rattle.witval.specs.Stages.{◌>>=◌, Stage, given, known, answered, choosing, itself, Reports, refusing}
use Rattle.witval.specs.Tasks.{RightOnProgram, holds_sets}
use Rattle.witval.specs.Searching.{SeeksValues}
use Rattle.witval.specs.Weeding.{WeedsSets}
use Rattle.witval.specs.declared.output.Output.{Output}
use Rattle.witval.specs.declared.output.Output.TheVariants.{Report}
use Rattle.witval.specs.declared.purpose.Purpose.{Purpose as Meant}
use Rattle.witval.specs.declared.purpose.Purpose.TheVariants as purpose
use Rattle.witval.specs.declared.purpose.Work.{Work as Planned}
use Rattle.witval.specs.declared.purpose.Work.TheVariants as work

-- a verdict; a certificate, with a budget of conflicts; a certificate to check again, by its bytes; the invariants that hold up
-- together, with a budget of conflicts; values for open inputs, with a bound on turns and calls and a budget of conflicts
pub data Purpose : Type 0 where
  Judging : Budgets → Purpose
  Certifying : ℕ → Purpose
  Rechecking : List ℕ → Purpose
  Weeding : ℕ → Purpose
  Seeking : ℕ → ℕ → Purpose

-- what is done with a checked program: it is judged; it is certified; the logs of a certificate are checked; its invariants are weeded;
-- values for its open inputs are sought
pub data Work : Type 0 where
  ToJudge : Budgets → Work
  ToCertify : ℕ → Work
  ToRecheck : List Refutation → Work
  ToWeed : ℕ → Work
  ToSeek : ℕ → ℕ → Work

-- a witness without invariant sets, where a certificate is wanted or checked again, or invariants are weeded; a witness with them, where
-- values are sought
abbrev pub kind : Output
kind = Report (plain (codes "kind"))

abbrev pub IsKind : Output → Type 0
IsKind output = output ≡ kind

-- what a purpose asks to be done, before the program is read: certificates are of invariant sets alone, and one is read first; only
-- invariant sets are weeded; values are sought for violation sequences alone
abbrev pub working : Purpose → Witness → Stage Output Work
working (Judging budgets) witness within = within (ToJudge budgets)
working (Certifying conflicts) witness within = choosing (holds_sets witness) (within (ToCertify conflicts)) IsKind
working (Rechecking bytes) witness within =
    choosing (holds_sets witness) (answered (CertificateAnswers bytes) itself (refusing IsCertificateRefusal) (λ logs. within (ToRecheck logs))) IsKind
working (Weeding conflicts) witness within = choosing (holds_sets witness) (within (ToWeed conflicts)) IsKind
working (Seeking turns conflicts) witness within = choosing (holds_sets witness) IsKind (within (ToSeek turns conflicts))

-- the output for a checked program and its witness
abbrev pub RightOnWork : Work → Witness → Program → Output → Type 0
RightOnWork (ToJudge budgets) witness program = Reports (RightOnProgram budgets witness program)
RightOnWork (ToCertify conflicts) witness program = CertifiesSets conflicts witness program
RightOnWork (ToRecheck logs) witness program = RechecksSets logs witness program
RightOnWork (ToWeed conflicts) witness program = WeedsSets conflicts witness program
RightOnWork (ToSeek turns conflicts) witness program = SeeksValues turns conflicts witness program

-- the output for three files of allowed length: each stage in its order, then what is to be done
abbrev pub RightOnInputs : Purpose → List ℕ → List ℕ → List ℕ → Output → Type 0
RightOnInputs purpose program_bytes property_bytes witness_bytes = do
  property ← given (Report (plain (codes "property"))) (property_of property_bytes)
  tree ← answered (IsAnswer witness_bytes) itself (refusing IsRefusal)
  witness ← known itself (refusing IsSchemaRefusal) (witness_of tree)
  model ← known itself (refusing IsTaskRefusal) (judged (sha256 program_bytes) property witness.entries)
  work ← working purpose witness
  tokens ← answered (TokensAnswers program_bytes) itself (refusing IsTokenRefusal)
  source ← answered (ParserAnswers tokens) source_view (refusing IsSyntaxRefusal)
  program ← answered (CheckAnswers model property source) itself (refusing IsCheckRefusal)
  RightOnWork work witness program

-- ---- what the code's purposes and works stand for

abbrev pub meant : Meant → Purpose
meant (purpose.Judge budgets) = Judging (limits budgets)
meant (purpose.Certify conflicts) = Certifying conflicts
meant (purpose.Recheck bytes) = Rechecking bytes
meant (purpose.Weed conflicts) = Weeding conflicts
meant (purpose.Seek turns conflicts) = Seeking turns conflicts

abbrev pub planned : Planned → Work
planned (work.Judge budgets) = ToJudge (limits budgets)
planned (work.Certify conflicts) = ToCertify conflicts
planned (work.Recheck logs) = ToRecheck logs
planned (work.Weed conflicts) = ToWeed conflicts
planned (work.Seek turns conflicts) = ToSeek turns conflicts
