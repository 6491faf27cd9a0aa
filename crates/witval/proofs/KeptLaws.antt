-- What is kept of a judgement, from the source to the arguments.
use Rattle.std.proofs.Common.{◌≡◌, ℕ, List, Option, Some, None, IfSome, Ok, sym, subst}
use Rattle.c_core.specs.declared.number.DataModel.{DataModel}
use Rattle.c_core.specs.declared.number.Property.{Property}
use Rattle.c_core.specs.declared.program.Program.{Program}
use Rattle.c_parser.specs.Parsing.{Answers as ParserAnswers, source_view}
use Rattle.c_parser.specs.declared.item.Source.{Source}
use Rattle.c_tokens.specs.Reading.{Answers as TokensAnswers}
use Rattle.c_tokens.specs.declared.token.Token.{Token}
use Rattle.wv_base.specs.Shelf.{ShelfState, Files, file_of}
use Rattle.wv_arguments.specs.Words.{Command, Wanted, Validate, Show, Normalise, Demo, Certify, Recheck, Author, Weed, Seek}
use Rattle.witval.specs.Inputs.{AreInputs, OfFiles, Told}
use Rattle.witval.specs.declared.input.Inputs.{Inputs}
use Rattle.witval.specs.Kept.{Keeps, KeepsFor, KeepsOf, KeepsOfSource, KeepsOfTokens}

-- where nothing is kept, nothing is said
pub nothing_kept : {A : Type 0} (P : A → Type 0) (kept : Option A) → kept ≡ None → IfSome kept P
nothing_kept P kept e = subst (λ o. IfSome o P) (sym e) tt

pub of_tokens : (property : Property) (model : DataModel) (tokens : List Token) (source : Source) (kept : Option Program) → ParserAnswers tokens (Ok source) → KeepsOfSource property model (source_view source) kept
    → KeepsOfTokens property model tokens kept
of_tokens property model tokens source None parsed checked = tt
of_tokens property model tokens source (Some p) parsed checked = record { source = source; parsed = parsed; checked = checked }

pub of_bytes : (property : Property) (model : DataModel) (bytes : List ℕ) (tokens : List Token) (kept : Option Program) → TokensAnswers bytes (Ok tokens) → KeepsOfTokens property model tokens kept → Keeps bytes kept
of_bytes property model bytes tokens None read formed = tt
of_bytes property model bytes tokens (Some p) read formed = record { property = property; model = model; tokens = tokens; read = read; formed = formed }

told_program : (files : Option Files) (command : Command) (inputs : Inputs) → IfSome files (λ f. OfFiles command f (AreInputs inputs)) → IfSome files (λ f. inputs.program.items ≡ file_of f command.program)
told_program None command inputs told = tt
told_program (Some files) command inputs told = told.program_read

pub of_file : (command : Command) (shelf : ShelfState) (inputs : Inputs) (kept : Option Program) → Told command shelf (AreInputs inputs) → Keeps inputs.program.items kept → KeepsOf command.program shelf kept
of_file command shelf inputs None told keeps = tt
of_file command shelf inputs (Some p) told keeps = (inputs.program.items, keeps, told_program shelf.files command inputs told)

-- whatever is asked for
pub none_for : (wanted : Option Wanted) (shelf : ShelfState) (kept : Option Program) → kept ≡ None → KeepsFor wanted shelf kept
none_for None shelf kept e = e
none_for (Some (Validate command budgets)) shelf kept e = nothing_kept _ kept e
none_for (Some (Seek command turns conflicts)) shelf kept e = nothing_kept _ kept e
none_for (Some (Show name)) shelf kept e = e
none_for (Some (Normalise name)) shelf kept e = e
none_for (Some (Demo number budgets)) shelf kept e = e
none_for (Some (Certify command conflicts)) shelf kept e = e
none_for (Some (Recheck command name)) shelf kept e = e
none_for (Some (Author sources label steps)) shelf kept e = e
none_for (Some (Weed command conflicts)) shelf kept e = e
