-- The command is one of those of which clap tells the matches and the faults; what its answers say.
use Rattle.std.proofs.Common.{◌≡◌, ◌∷◌, [], List, true, false, refl, subst, sym, ap₂, inl, inr, None}
use Rattle.clap.specs.Words.{App, HasKind, HasMatchesOf, IsAmong, Kinds, Row, Text, fault_of, is_simple, is_simple_and_free, kind_of, matches_of, found_of, rows_of}
use Rattle.clap.specs.declared.error.Error.{Error}
use Rattle.clap.specs.declared.error.kind.ErrorKind.{ErrorKind}
use Rattle.clap.specs.declared.error.kind.ErrorKind.TheVariants.{OutOfMemory}
use Rattle.clap.specs.declared.parser.matches.ArgMatches.{ArgMatches}
use Rattle.clap.proofs.OnLiterals.{clap_on_literals}
use Rattle.wv_arguments.specs.Arguments.{command}
use Rattle.wv_arguments.specs.Words.{asked_by, asked_in, asked_of}

is_simple_command : is_simple command ≡ true
unfolding clap_on_literals
is_simple_command = refl

is_free_command : is_simple_and_free command ≡ true
unfolding clap_on_literals
is_free_command = refl

-- matches come only where there is no fault, and then they are the stated ones
pub read_matches : (app : App) (words : List Text) (m : ArgMatches) → app ≡ command → (is_simple_and_free app ≡ true → fault_of app words ≡ [])
    → HasMatchesOf app words m → asked_in (rows_of (found_of m)) ≡ asked_by words
read_matches app words m is fault has =
    let none : fault_of command words ≡ [] = subst (λ a. fault_of a words ≡ []) is (fault (subst (λ a. is_simple_and_free a ≡ true) (sym is) is_free_command)) in
    let rows : rows_of (found_of m) ≡ matches_of command words =
    subst (λ a. rows_of (found_of m) ≡ matches_of a words) is (has (subst (λ a. is_simple a ≡ true) (sym is) is_simple_command)).0 in
    sym (ap₂ asked_of none (sym rows))

refused_by : (kinds : Kinds) (rows : List Row) (k : ErrorKind) → IsAmong k kinds → record { wanted = None; json = false } ≡ asked_of kinds rows
refused_by [] rows k among = absurd among
refused_by (x ∷ xs) rows k among = refl

-- a fault other than want of memory is one of the stated ones
pub refused : (app : App) (words : List Text) (e : Error) → app ≡ command → (is_simple_and_free app ≡ true → HasKind (fault_of app words) e)
    → (kind_of e ≡ OutOfMemory → ⊥) → record { wanted = None; json = false } ≡ asked_by words
refused app words e is fault other =
    elim (subst (λ a. HasKind (fault_of a words) e) is (fault (subst (λ a. is_simple_and_free a ≡ true) (sym is) is_free_command))) [
      | inl memory ↦ absurd (other memory)
      | inr among ↦ refused_by (fault_of command words) (matches_of command words) (kind_of e) among
    ]
