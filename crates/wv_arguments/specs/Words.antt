-- What the arguments of a command line ask for.
use Rattle.std.specs.Prelude.{ℕ, List, [], ◌∷◌, Bool, false, Option, Some, None, unwrap_or, bytes_eq, codes, if◌then◌else◌}
use Rattle.std.specs.Option.{option_map_or}
use Rattle.std.specs.Str.Parse.{digits_value, without_leading_plus}
use Rattle.clap.specs.Words.{Row, Text, fault_of, first_of, matches_of, one_of}
use Rattle.clap.specs.Kinds.{Kinds}
use Rattle.clap.specs.ValueTests.{accepts}
use Rattle.clap.specs.declared.builder.value_parser.ValueParser.TheVariants.{Unsigned}
use Rattle.wv_arguments.specs.Arguments.{command, most_steps, most_conflicts, most_turns, most_number}

-- the names of the three files that are judged
pub record Command : Type 0 where
  pub program : Text
  pub property : Text
  pub witness : Text

-- the most steps of a run, and the most clauses that the solver derives for an obligation
pub record Budgets : Type 0 where
  pub steps : ℕ
  pub conflicts : ℕ

-- the names of the three files that a violation witness is written from
pub record Sources : Type 0 where
  pub program : Text
  pub property : Text
  pub values : Text

-- what a witness that is written says of itself
pub record Label : Type 0 where
  pub model : Text
  pub uuid : Text
  pub time : Text

-- a verdict; a summary of a witness by its name; its canonical form; a made program and its verdicts, by a number; a certificate, with
-- the most clauses that the solver derives for an obligation; a certificate checked again, by its name; a violation witness, with the
-- most steps of its run; the invariants that hold up together, with the most clauses for an obligation; values for the open inputs of
-- a violation witness, with the most turns of a loop and the most clauses
pub data Wanted : Type 0 where
  Validate : Command → Budgets → Wanted
  Show : Text → Wanted
  Normalise : Text → Wanted
  Demo : ℕ → Budgets → Wanted
  Certify : Command → ℕ → Wanted
  Recheck : Command → Text → Wanted
  Author : Sources → Label → ℕ → Wanted
  Weed : Command → ℕ → Wanted
  Seek : Command → ℕ → ℕ → Wanted

-- what is asked for, where the arguments ask for something, and whether reports are JSON
pub record Asked : Type 0 where
  pub wanted : Option Wanted
  pub json : Bool

-- the number that a text writes, between two others
abbrev pub number_in : ℕ → ℕ → Option Text → Option ℕ
number_in least most None = None
number_in least most (Some text) = if accepts false (Unsigned least most) text then Some (digits_value 10 (without_leading_plus text)) else None

-- two numbers, where both are there
abbrev pub budgets_of : Option ℕ → Option ℕ → Option Budgets
budgets_of (Some steps) (Some conflicts) = Some (record { steps = steps; conflicts = conflicts })
budgets_of _ _ = None

-- three names, where all are there
abbrev pub command_of : Option Text → Option Text → Option Text → Option Command
command_of (Some program) (Some property) (Some witness) = Some (record { program = program; property = property; witness = witness })
command_of _ _ _ = None

-- the same of the files that a violation witness is written from
abbrev pub sources_of : Option Text → Option Text → Option Text → Option Sources
sources_of (Some program) (Some property) (Some values) = Some (record { program = program; property = property; values = values })
sources_of _ _ _ = None

-- three texts, where all are there
abbrev pub label_of : Option Text → Option Text → Option Text → Option Label
label_of (Some model) (Some uuid) (Some time) = Some (record { model = model; uuid = uuid; time = time })
label_of _ _ _ = None

-- a mode with what it needs
abbrev pub validate_of : Option Command → Option Budgets → Option Wanted
validate_of (Some command) (Some budgets) = Some (Validate command budgets)
validate_of _ _ = None

-- a summary needs a witness
abbrev pub show_of : Option Text → Option Wanted
show_of (Some witness) = Some (Show witness)
show_of None = None

-- a canonical form needs a witness
abbrev pub normalise_of : Option Text → Option Wanted
normalise_of (Some witness) = Some (Normalise witness)
normalise_of None = None

-- a made program needs a number and budgets
abbrev pub demo_of : Option ℕ → Option Budgets → Option Wanted
demo_of (Some number) (Some budgets) = Some (Demo number budgets)
demo_of _ _ = None

-- a certificate needs a budget of conflicts besides the files
abbrev pub certify_of : Option Command → Option ℕ → Option Wanted
certify_of (Some command) (Some conflicts) = Some (Certify command conflicts)
certify_of _ _ = None

-- a certificate checked again needs a certificate besides the files
abbrev pub recheck_of : Option Command → Option Text → Option Wanted
recheck_of (Some command) (Some certificate) = Some (Recheck command certificate)
recheck_of _ _ = None

-- a violation witness needs a label and a budget of steps besides the files
abbrev pub author_of : Option Sources → Option Label → Option ℕ → Option Wanted
author_of (Some sources) (Some label) (Some steps) = Some (Author sources label steps)
author_of _ _ _ = None

-- invariants that hold up together need a budget of conflicts besides the files
abbrev pub weed_of : Option Command → Option ℕ → Option Wanted
weed_of (Some command) (Some conflicts) = Some (Weed command conflicts)
weed_of _ _ = None

-- values need a bound and a budget of conflicts besides the files
abbrev pub seek_of : Option Command → Option ℕ → Option ℕ → Option Wanted
seek_of (Some command) (Some turns) (Some conflicts) = Some (Seek command turns conflicts)
seek_of _ _ _ = None

-- what clap's matches give
abbrev pub mode_in : List Row → Text
mode_in rows = unwrap_or (first_of (codes "mode") rows) []

-- the names of the three files
abbrev pub command_in : List Row → Option Command
command_in rows = command_of (first_of (codes "program") rows) (first_of (codes "property") rows) (first_of (codes "witness") rows)

-- the names of the three files that a violation witness is written from
abbrev pub sources_in : List Row → Option Sources
sources_in rows = sources_of (first_of (codes "program") rows) (first_of (codes "property") rows) (first_of (codes "values") rows)

-- what it says of itself
abbrev pub label_in : List Row → Option Label
label_in rows = label_of (first_of (codes "model") rows) (first_of (codes "uuid") rows) (first_of (codes "time") rows)

-- both budgets, each between 1 and its greatest value
abbrev pub budgets_in : List Row → Option Budgets
budgets_in rows = budgets_of (number_in 1 most_steps (one_of (codes "steps") rows)) (number_in 1 most_conflicts (one_of (codes "conflicts") rows))

-- the budget of steps alone
abbrev pub steps_in : List Row → Option ℕ
steps_in rows = number_in 1 most_steps (one_of (codes "steps") rows)

-- the budget of conflicts alone
abbrev pub conflicts_in : List Row → Option ℕ
conflicts_in rows = number_in 1 most_conflicts (one_of (codes "conflicts") rows)

-- the bound on turns and calls
abbrev pub turns_in : List Row → Option ℕ
turns_in rows = number_in 1 most_turns (one_of (codes "bound") rows)

-- the number of a made program
abbrev pub made_number : List Row → Option ℕ
made_number rows = number_in 0 most_number (one_of (codes "number") rows)

-- the table of modes
abbrev pub wanted_as : Text → List Row → Option Wanted
wanted_as mode rows =
    if bytes_eq mode (codes "validate") then validate_of (command_in rows) (budgets_in rows)
    else (if bytes_eq mode (codes "show") then show_of (first_of (codes "witness") rows)
    else (if bytes_eq mode (codes "normalise") then normalise_of (first_of (codes "witness") rows)
    else (if bytes_eq mode (codes "demo") then demo_of (made_number rows) (budgets_in rows)
    else (if bytes_eq mode (codes "certify") then certify_of (command_in rows) (conflicts_in rows)
    else (if bytes_eq mode (codes "recheck") then recheck_of (command_in rows) (first_of (codes "certificate") rows)
    else (if bytes_eq mode (codes "author") then author_of (sources_in rows) (label_in rows) (steps_in rows)
    else (if bytes_eq mode (codes "weed") then weed_of (command_in rows) (conflicts_in rows)
    else (if bytes_eq mode (codes "seek") then seek_of (command_in rows) (turns_in rows) (conflicts_in rows)
    else None))))))))

-- a flag was given
abbrev pub is_set : Option Text → Bool
is_set text = option_map_or (λ t. bytes_eq t (codes "true")) text false

-- what the matches ask for, where `clap` has no fault
abbrev pub asked_in : List Row → Asked
asked_in rows = record { wanted = wanted_as (mode_in rows) rows; json = is_set (first_of (codes "json") rows) }

-- by the kinds of clap's faults: where there is none the matches decide, and otherwise nothing is asked for
abbrev pub asked_of : Kinds → List Row → Asked
asked_of [] rows = asked_in rows
asked_of (kind ∷ kinds) rows = record { wanted = None; json = false }

-- what the arguments ask for, the program's own name being the first
abbrev pub asked_by : List Text → Asked
asked_by words = asked_of (fault_of command words) (matches_of command words)
