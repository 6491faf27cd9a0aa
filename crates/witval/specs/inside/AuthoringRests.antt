-- The stages of a violation witness that is made, from one of them on, for the functions that do the rest.
use Rattle.std.specs.Prelude.{ℕ, ℤ, List, codes}
use Rattle.c_check.specs.Checking.{Answers as CheckAnswers}
use Rattle.c_core.specs.View.{program_view}
use Rattle.c_core.specs.declared.number.DataModel.{DataModel}
use Rattle.c_core.specs.declared.number.Property.{Property}
use Rattle.c_core.specs.declared.program.Program.{Program}
use Rattle.c_parser.specs.Parsing.{Answers as ParserAnswers, source_view}
use Rattle.c_parser.specs.Tree.{Item}
use Rattle.c_tokens.specs.Reading.{Answers as TokensAnswers}
use Rattle.c_tokens.specs.declared.token.Token.{Token}
use Rattle.wv_arguments.specs.Words.{Label}
use Rattle.wv_author.specs.Authored.{Authors}
use Rattle.wv_author.specs.Values.{ReadsValues}
use Rattle.wv_author.specs.Written.{authored}
use Rattle.wv_schema.specs.declared.witness.Segment.{Segment}
use Rattle.wv_task.specs.Readings.{identifier_of}
use Rattle.wv_task.specs.Task.{model_of}
use Rattle.witval.specs.Authoring.{IsUnauthored, IsValuesRefusal, stated_file}
use Rattle.witval.specs.Refusals.{IsTokenRefusal, IsSyntaxRefusal, IsCheckRefusal, plain}
use Rattle.witval.specs.Stages.{◌>>=◌, given, answered, itself, refusing}
use Rattle.witval.specs.Writing.{IsWritten}
use Rattle.witval.specs.declared.output.Output.{Output}
use Rattle.witval.specs.declared.output.Output.TheVariants.{Report}

-- with the segments of the run
abbrev pub AuthorsOnSegments : Label → List ℕ → List ℕ → Property → DataModel → List Segment → Output → Type 0
AuthorsOnSegments label file program_bytes property model segments =
    IsWritten (authored program_bytes file segments property model label.uuid label.time)

-- with the program
abbrev pub AuthorsOnProgram : Label → ℕ → List ℕ → List ℕ → Property → DataModel → List ℤ → Program → Output → Type 0
AuthorsOnProgram label steps file program_bytes property model values program = do
  segments ← answered (Authors (program_view program) file values steps) itself (IsUnauthored steps)
  AuthorsOnSegments label file program_bytes property model segments

-- with the items of a source
abbrev pub AuthorsOnSource : Label → ℕ → List ℕ → List ℕ → Property → DataModel → List ℤ → List Item → Output → Type 0
AuthorsOnSource label steps file program_bytes property model values source = do
  program ← answered (CheckAnswers model property source) itself (refusing IsCheckRefusal)
  AuthorsOnProgram label steps file program_bytes property model values program

-- with the tokens of the program
abbrev pub AuthorsOnTokens : Label → ℕ → List ℕ → List ℕ → Property → DataModel → List ℤ → List Token → Output → Type 0
AuthorsOnTokens label steps file program_bytes property model values tokens = do
  source ← answered (ParserAnswers tokens) source_view (refusing IsSyntaxRefusal)
  AuthorsOnSource label steps file program_bytes property model values source

-- with the data model and an identifier
abbrev pub AuthorsOnText : Label → ℕ → List ℕ → List ℕ → Property → DataModel → List ℤ → Output → Type 0
AuthorsOnText label steps file program_bytes property model values = do
  tokens ← answered (TokensAnswers program_bytes) itself (refusing IsTokenRefusal)
  AuthorsOnTokens label steps file program_bytes property model values tokens

-- with the data model
abbrev pub AuthorsOnModel : Label → ℕ → List ℕ → List ℕ → Property → DataModel → List ℤ → Output → Type 0
AuthorsOnModel label steps file program_bytes property model values = do
  identifier ← given (Report (plain (codes "uuid"))) (identifier_of label.uuid)
  AuthorsOnText label steps file program_bytes property model values

-- with the name of the program's file
abbrev pub AuthorsOnFile : Label → ℕ → List ℕ → List ℕ → Property → List ℤ → Output → Type 0
AuthorsOnFile label steps file program_bytes property values = do
  model ← given (Report (plain (codes "model"))) (model_of label.model)
  AuthorsOnModel label steps file program_bytes property model values

-- with the values
abbrev pub AuthorsOnValues : Label → ℕ → List ℕ → List ℕ → Property → List ℤ → Output → Type 0
AuthorsOnValues label steps name program_bytes property values = do
  file ← given (Report (plain (codes "files"))) (stated_file name)
  AuthorsOnFile label steps file program_bytes property values

-- with the property
abbrev pub AuthorsUnder : Label → ℕ → List ℕ → List ℕ → List ℕ → Property → Output → Type 0
AuthorsUnder label steps name program_bytes values_bytes property = do
  values ← answered (ReadsValues values_bytes) itself (refusing IsValuesRefusal)
  AuthorsOnValues label steps name program_bytes property values
