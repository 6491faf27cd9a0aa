-- The command line, as the crate `clap` sees it: one simple command with one positional and options.
use Rattle.std.specs.Prelude.{ℕ, List, [], ◌∷◌, Some, true, fold, codes}
use Rattle.clap.specs.Words.{App, Rule, Text, new_app, new_rule, with_rule}
use Rattle.clap.specs.declared.builder.action.ArgAction.TheVariants.{SetTrue}
use Rattle.clap.specs.declared.builder.value_parser.ValueParser.TheVariants.{Unsigned}

-- the needed positional: what the program is to do
abbrev pub mode : Rule
mode = record (new_rule (codes "mode")) { required = true }

-- an option with one value, a text
abbrev pub option : Text → Rule
option name = record (new_rule name) { long = Some name }

-- the same where it needn't be given
abbrev pub option_or : Text → Text → Rule
option_or name default = record (option name) { defaults = default ∷ [] }

-- an option with a number between two others, both included
abbrev pub number : Text → ℕ → ℕ → Rule
number name least most = record (option name) { parser = Some (Unsigned least most) }

-- the same where it needn't be given
abbrev pub number_or : Text → ℕ → ℕ → Text → Rule
number_or name least most default = record (number name least most) { defaults = default ∷ [] }

-- an option without a value
abbrev pub flag : Text → Rule
flag name = record (option name) { action = Some SetTrue }

-- the greatest budget of steps
abbrev pub most_steps : ℕ
most_steps = 100000000

-- the greatest budget of derived clauses
abbrev pub most_conflicts : ℕ
most_conflicts = 1000000

-- the greatest bound on turns and calls
abbrev pub most_turns : ℕ
most_turns = 64

-- the greatest number of a made program
abbrev pub most_number : ℕ
most_number = 999999

-- all of them, in their order
abbrev pub arguments : List Rule
arguments =
    mode ∷
    option (codes "program") ∷
    option (codes "property") ∷
    option (codes "witness") ∷
    option (codes "certificate") ∷
    option (codes "values") ∷
    option_or (codes "model") (codes "ILP32") ∷
    option_or (codes "uuid") (codes "01234567-89ab-4cde-8f01-23456789abcd") ∷
    option_or (codes "time") (codes "2024-04-10T12:00:00Z") ∷
    number_or (codes "steps") 1 most_steps (codes "10000000") ∷
    number_or (codes "conflicts") 1 most_conflicts (codes "100000") ∷
    number_or (codes "bound") 1 most_turns (codes "8") ∷
    number (codes "number") 0 most_number ∷
    flag (codes "json") ∷ []

-- the program's name and its arguments
abbrev pub command : App
command = fold with_rule (new_app (codes "witval")) arguments
