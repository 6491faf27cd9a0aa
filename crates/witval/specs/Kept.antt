-- The program that is kept of a judgement: that of the files, where the stages come to one.
use Rattle.std.specs.Prelude.{◌≡◌, ℕ, List, Option, Some, None, IfSome, Ok}
use Rattle.c_check.specs.Checking.{Answers as CheckAnswers}
use Rattle.c_core.specs.declared.number.DataModel.{DataModel}
use Rattle.c_core.specs.declared.number.Property.{Property}
use Rattle.c_core.specs.declared.program.Program.{Program}
use Rattle.c_parser.specs.Parsing.{Answers as ParserAnswers, source_view}
use Rattle.c_parser.specs.Tree.{Item}
use Rattle.c_parser.specs.declared.item.Source.{Source}
use Rattle.c_tokens.specs.Reading.{Answers as TokensAnswers}
use Rattle.c_tokens.specs.declared.token.Token.{Token}
use Rattle.wv_base.specs.Shelf.{ShelfState}
use Rattle.wv_arguments.specs.Words.{Wanted, Validate, Show, Normalise, Demo, Certify, Recheck, Author, Weed, Seek, asked_by}
use Rattle.witval.specs.Inputs.{OfOne}

-- a program that is checked of the items of a source
abbrev pub KeepsOfSource : Property → DataModel → List Item → Option Program → Type 0
KeepsOfSource property model source kept = IfSome kept (λ program. CheckAnswers model property source (Ok program))

-- of tokens: what the parser makes of them, and the checker of that
pub record IsOfTokens (property : Property) (model : DataModel) (tokens : List Token) (program : Program) : Type 0 where
  pub source : Source
  pub parsed : ParserAnswers tokens (Ok source)
  pub checked : CheckAnswers model property (source_view source) (Ok program)

abbrev pub KeepsOfTokens : Property → DataModel → List Token → Option Program → Type 0
KeepsOfTokens property model tokens kept = IfSome kept (IsOfTokens property model tokens)

-- of the bytes of a file, by way of its tokens; for which property and in which data model isn't said
pub record IsOfBytes (bytes : List ℕ) (program : Program) : Type 0 where
  pub property : Property
  pub model : DataModel
  pub tokens : List Token
  pub read : TokensAnswers bytes (Ok tokens)
  pub formed : IsOfTokens property model tokens program

abbrev pub Keeps : List ℕ → Option Program → Type 0
Keeps bytes kept = IfSome kept (IsOfBytes bytes)

-- of the file with a name: where the shelf tells its files, these are its bytes
abbrev pub KeepsOf : List ℕ → ShelfState → Option Program → Type 0
KeepsOf name shelf kept = IfSome kept (λ program. OfOne name shelf (λ bytes. IsOfBytes bytes program))

-- of what is asked for: where a verdict or values are
abbrev pub KeepsFor : Option Wanted → ShelfState → Option Program → Type 0
KeepsFor (Some (Validate command budgets)) shelf kept = KeepsOf command.program shelf kept
KeepsFor (Some (Seek command turns conflicts)) shelf kept = KeepsOf command.program shelf kept
KeepsFor (Some (Show name)) shelf kept = kept ≡ None
KeepsFor (Some (Normalise name)) shelf kept = kept ≡ None
KeepsFor (Some (Demo number budgets)) shelf kept = kept ≡ None
KeepsFor (Some (Certify command conflicts)) shelf kept = kept ≡ None
KeepsFor (Some (Recheck command name)) shelf kept = kept ≡ None
KeepsFor (Some (Author sources label steps)) shelf kept = kept ≡ None
KeepsFor (Some (Weed command conflicts)) shelf kept = kept ≡ None
KeepsFor None shelf kept = kept ≡ None

-- the same for the arguments of a command line
abbrev pub KeepsBy : List (List ℕ) → ShelfState → Option Program → Type 0
KeepsBy words shelf kept = KeepsFor (asked_by words).wanted shelf kept
