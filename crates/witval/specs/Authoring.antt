-- What a program, a property and values for a run's inputs ask for: a violation witness of that run.
use Rattle.std.specs.Prelude.{◌≡◌, ℕ, List, Option, Some, None, length, nat_le, if◌then◌else◌, codes}
use Rattle.std.specs.Str.{chars}
use Rattle.c_check.specs.Checking.{Answers as CheckAnswers}
use Rattle.c_core.specs.View.{program_view}
use Rattle.c_meaning.specs.declared.run.End.{End}
use Rattle.c_meaning.specs.declared.run.End.TheVariants as end
use Rattle.c_meaning.specs.declared.verdict.Cause.TheVariants.{Steps, Cells}
use Rattle.c_meaning.specs.declared.verdict.Verdict.TheVariants.{Undecided}
use Rattle.c_parser.specs.Parsing.{Answers as ParserAnswers, source_view}
use Rattle.c_tokens.specs.Reading.{Answers as TokensAnswers}
use Rattle.wv_arguments.specs.Words.{Label}
use Rattle.wv_author.specs.Authored.{Authors}
use Rattle.wv_author.specs.Values.{ReadsValues}
use Rattle.wv_author.specs.Written.{authored}
use Rattle.wv_author.specs.declared.authoring.AuthorFault.{AuthorFault}
use Rattle.wv_author.specs.declared.authoring.AuthorFault.TheVariants.{NotViolated, CellValue, OutOfMemory}
use Rattle.wv_author.specs.declared.values.ValuesFault.{ValuesFault}
use Rattle.wv_author.specs.declared.values.ValuesFault.TheVariants as listing
use Rattle.wv_report.specs.declared.reply.Reply.{Reply}
use Rattle.wv_report.specs.declared.reply.Reply.TheVariants.{Verdict as Judged, Refused}
use Rattle.wv_task.specs.PropertyText.{property_of}
use Rattle.wv_task.specs.Readings.{identifier_of}
use Rattle.wv_task.specs.Task.{model_of}
use Rattle.yaml_scalars.specs.Tokens.{max_key}
use Rattle.witval.specs.Refusals.{IsTokenRefusal, IsSyntaxRefusal, IsCheckRefusal, place_text, plain}
use Rattle.witval.specs.Stages.{◌>>=◌, given, answered, itself, refusing}
use Rattle.witval.specs.Writing.{IsWritten}
use Rattle.witval.specs.declared.output.Output.{Output}
use Rattle.witval.specs.declared.output.Output.TheVariants.{Report, Unviolated}
use Rattle.witval.specs.declared.output.Unviolated.TheVariants as unviolated

-- the refusal of bytes that are no list of values; out of memory is no refusal
abbrev pub IsValuesRefusal : ValuesFault → Reply → Type 0
IsValuesRefusal listing.Form reply = reply ≡ plain (codes "values")
IsValuesRefusal listing.OutOfMemory reply = ⊥

-- a file's name that a witness can state: it is a key there, which has at most this many characters
abbrev pub stated_file : List ℕ → Option (List ℕ)
stated_file name = if nat_le (length (chars name)) max_key then Some name else None

-- the output for the end of a run, with a budget of steps, that doesn't violate the property
abbrev pub TellsEnd : ℕ → End → Output → Type 0
TellsEnd steps end.Ended output = output ≡ Unviolated unviolated.Ended
TellsEnd steps (end.Undefined spot) output = output ≡ Unviolated (unviolated.Undefined spot)
TellsEnd steps end.Spent output = output ≡ Report (Judged (Undecided (Steps steps)))
TellsEnd steps end.Deep output = output ≡ Report (Judged (Undecided Cells))
TellsEnd steps (end.Violated spot) output = ⊥

-- the output for a run of which no witness is made: it doesn't violate the property, or a cell without initializer draws something
-- else than 0
abbrev pub IsUnauthored : ℕ → AuthorFault → Output → Type 0
IsUnauthored steps (NotViolated e) output = TellsEnd steps e output
IsUnauthored steps (CellValue spot) output = output ≡ Report (Refused (codes "cell") (place_text spot.line spot.column))
IsUnauthored steps OutOfMemory output = ⊥

-- the output for three files of allowed length: each stage in its order, then the witness of the run
abbrev pub AuthorsOnInputs : Label → ℕ → List ℕ → List ℕ → List ℕ → List ℕ → Output → Type 0
AuthorsOnInputs label steps name program_bytes property_bytes values_bytes = do
  property ← given (Report (plain (codes "property"))) (property_of property_bytes)
  values ← answered (ReadsValues values_bytes) itself (refusing IsValuesRefusal)
  file ← given (Report (plain (codes "files"))) (stated_file name)
  model ← given (Report (plain (codes "model"))) (model_of label.model)
  identifier ← given (Report (plain (codes "uuid"))) (identifier_of label.uuid)
  tokens ← answered (TokensAnswers program_bytes) itself (refusing IsTokenRefusal)
  source ← answered (ParserAnswers tokens) source_view (refusing IsSyntaxRefusal)
  program ← answered (CheckAnswers model property source) itself (refusing IsCheckRefusal)
  segments ← answered (Authors (program_view program) file values steps) itself (IsUnauthored steps)
  IsWritten (authored program_bytes file segments property model label.uuid label.time)
