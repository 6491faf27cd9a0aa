-- The stages of an output from one of them on, for the functions that do the rest.
use Rattle.std.specs.Prelude.{ℕ, List}
use Rattle.sha2.specs.Sha256.{sha256}
use Rattle.c_check.specs.Checking.{Answers as CheckAnswers}
use Rattle.c_core.specs.declared.number.DataModel.{DataModel}
use Rattle.c_core.specs.declared.number.Property.{Property}
use Rattle.c_parser.specs.Parsing.{Answers as ParserAnswers, source_view}
use Rattle.c_parser.specs.Tree.{Item}
use Rattle.c_tokens.specs.Reading.{Answers as TokensAnswers}
use Rattle.c_tokens.specs.declared.token.Token.{Token}
use Rattle.wv_cert.specs.Reading.{AnswersFor as CertificateAnswers}
use Rattle.wv_schema.specs.Schema.{witness_of}
use Rattle.wv_schema.specs.declared.witness.Witness.{Witness}
use Rattle.wv_task.specs.Task.{judged}
use Rattle.wv_yaml.specs.Reading.{IsAnswer}
use Rattle.wv_yaml.specs.declared.tree.Tree.{Tree}
use Rattle.witval.specs.Purposes.{IsKind, Purpose, RightOnWork, ToRecheck, Work, working}
use Rattle.witval.specs.Refusals.{IsRefusal, IsSchemaRefusal, IsTaskRefusal, IsCertificateRefusal, IsTokenRefusal, IsSyntaxRefusal, IsCheckRefusal}
use Rattle.witval.specs.Stages.{◌>>=◌, known, answered, choosing, itself, refusing}
use Rattle.witval.specs.Tasks.{holds_sets}
use Rattle.witval.specs.declared.output.Output.{Output}

-- with the items of a source
abbrev pub RightOnSource : Work → Property → Witness → DataModel → List Item → Output → Type 0
RightOnSource work property witness model source = do
  program ← answered (CheckAnswers model property source) itself (refusing IsCheckRefusal)
  RightOnWork work witness program

-- with the tokens of a program
abbrev pub RightOnTokens : Work → Property → Witness → DataModel → List Token → Output → Type 0
RightOnTokens work property witness model tokens = do
  source ← answered (ParserAnswers tokens) source_view (refusing IsSyntaxRefusal)
  RightOnSource work property witness model source

-- with what is to be done
abbrev pub RightOnText : Work → Property → List ℕ → Witness → DataModel → Output → Type 0
RightOnText work property program_bytes witness model = do
  tokens ← answered (TokensAnswers program_bytes) itself (refusing IsTokenRefusal)
  RightOnTokens work property witness model tokens

-- with the data model of the task, invariant sets, and the bytes of a certificate
abbrev pub RightOnLogs : List ℕ → Property → List ℕ → Witness → DataModel → Output → Type 0
RightOnLogs bytes property program_bytes witness model = do
  logs ← answered (CertificateAnswers bytes) itself (refusing IsCertificateRefusal)
  RightOnText (ToRecheck logs) property program_bytes witness model

-- with the data model of the task, and what is to be done for violation sequences alone
abbrev pub RightOnSegmentsAlone : Work → Property → List ℕ → Witness → DataModel → Output → Type 0
RightOnSegmentsAlone work property program_bytes witness model =
    choosing (holds_sets witness) IsKind (RightOnText work property program_bytes witness model)

-- with the data model of the task
abbrev pub RightOnModel : Purpose → Property → List ℕ → Witness → DataModel → Output → Type 0
RightOnModel purpose property program_bytes witness model = do
  work ← working purpose witness
  RightOnText work property program_bytes witness model

-- with the witness
abbrev pub RightOnWitness : Purpose → Property → List ℕ → Witness → Output → Type 0
RightOnWitness purpose property program_bytes witness = do
  model ← known itself (refusing IsTaskRefusal) (judged (sha256 program_bytes) property witness.entries)
  RightOnModel purpose property program_bytes witness model

-- with the tree of the witness
abbrev pub RightOnTree : Purpose → Property → List ℕ → Tree → Output → Type 0
RightOnTree purpose property program_bytes tree = do
  witness ← known itself (refusing IsSchemaRefusal) (witness_of tree)
  RightOnWitness purpose property program_bytes witness

-- with the property
abbrev pub RightUnder : Purpose → List ℕ → List ℕ → Property → Output → Type 0
RightUnder purpose program_bytes witness_bytes property = do
  tree ← answered (IsAnswer witness_bytes) itself (refusing IsRefusal)
  RightOnTree purpose property program_bytes tree
