-- Where files are told and no fault was counted, a right output is what the files call for.
use Rattle.std.proofs.Common.{◌≡◌, ◌<◌, ◌-◌, ◌^◌, ℕ, List, Option, Some, IfSome, inl, inr, arith, subst}
use Rattle.wv_arguments.specs.Words.{Asked, Command, Label, Sources, Wanted, Validate, Show, Normalise, Demo, Certify, Recheck, Author, Weed, Seek}
use Rattle.wv_base.specs.Causes.{Rose}
use Rattle.wv_base.specs.Shelf.{ShelfState, Files, file_of}
use Rattle.wv_base.specs.Sink.{SinkState, Gained}
use Rattle.wv_report.specs.declared.reply.Reply.{Reply}
use Rattle.wv_report.specs.declared.reply.Reply.TheVariants.{Verdict as Judged, Refused, ReadFault}
use Rattle.witval.specs.Inputs.{OfBytes, OfFiles, OfOne, in_order}
use Rattle.witval.specs.Purposes.{Purpose, Judging, Certifying, Weeding, Seeking}
use Rattle.witval.specs.Replies.{AuthorsOnBytes, OfFour, OnWitness, Right, RightAlone, RightAuthor, RightFor, RightOnBytes, RightOnFour, RightRecheck}
use Rattle.witval.specs.Running.{CallsFor, CompleteFor, bytes_by, status_by}
use Rattle.witval.specs.declared.output.Output.{Output}
use Rattle.witval.specs.declared.output.Output.TheVariants.{Report, Canonical, Summary, Demo as Demonstrated, Certificate, Rechecked, Unviolated, Searched}

-- a count below its last value that stayed didn't rise
abbrev Stayed : ShelfState → ShelfState → Type 0
Stayed old new = Rose old.faults new.faults → ⊥

at_one : (name : List ℕ) (old : ShelfState) (files : Files) (P : List ℕ → Type 0) → old.files ≡ Some files → OfOne name old P → P (file_of files name)
at_one name old files P e right =
    let same : right.0 ≡ file_of files name = subst (λ (f : Option Files). IfSome f (λ files. right.0 ≡ file_of files name)) e right.2 in
    subst P same right.1

at_three : (command : Command) (old : ShelfState) (files : Files) (P : List ℕ → List ℕ → List ℕ → Type 0) → old.files ≡ Some files → OfBytes command old P → OfFiles command files P
at_three command old files P e right =
    let same : OfFiles command files (λ a b c. (right.0 ≡ a) × (right.1 ≡ b) × (right.2 ≡ c)) =
    subst (λ (f : Option Files). IfSome f (λ files. OfFiles command files (λ a b c. (right.0 ≡ a) × (right.1 ≡ b) × (right.2 ≡ c)))) e right.4 in
    subst (λ x. P x (file_of files command.property) (file_of files command.witness)) same.0
    (subst (λ x. P right.0 x (file_of files command.witness)) same.1 (subst (λ x. P right.0 right.1 x) same.2 right.3))

at_four : (command : Command) (name : List ℕ) (old : ShelfState) (files : Files) (P : List ℕ → List ℕ → List ℕ → List ℕ → Type 0) → old.files ≡ Some files → OfFour command name old P
    → OfFiles command files (λ program property witness. P program property witness (file_of files name))
at_four command name old files P e right =
    at_one name old files (P (file_of files command.program) (file_of files command.property) (file_of files command.witness)) e
    (at_three command old files (λ program property witness. OfOne name old (P program property witness)) e right)

replied : (command : Command) (purpose : Purpose) (old new : ShelfState) (files : Files) (reply : Reply) → old.files ≡ Some files → Stayed old new → RightFor command purpose old new reply
    → OfFiles command files (RightOnBytes purpose (Report reply))
replied command purpose old new files (ReadFault text) e stayed right = absurd (stayed right.2.rose)
replied command purpose old new files (Refused code detail) e stayed right = at_three command old files (RightOnBytes purpose (Report (Refused code detail))) e right.0
replied command purpose old new files (Judged verdict) e stayed right = at_three command old files (RightOnBytes purpose (Report (Judged verdict))) e right

rechecked : (command : Command) (name : List ℕ) (old new : ShelfState) (files : Files) (output : Output) → old.files ≡ Some files → Stayed old new → RightRecheck command name old new output
    → CallsFor (Recheck command name) files output
rechecked command name old new files (Report (ReadFault text)) e stayed (inl right) = absurd (stayed right.2.rose)
rechecked command name old new files (Report (ReadFault text)) e stayed (inr right) = absurd (stayed right.1.rose)
rechecked command name old new files (Report (Refused code detail)) e stayed right = at_four command name old files (RightOnFour (Report (Refused code detail))) e right.0
rechecked command name old new files (Report (Judged verdict)) e stayed right = absurd right
rechecked command name old new files (Rechecked answer) e stayed right = at_four command name old files (RightOnFour (Rechecked answer)) e right
rechecked command name old new files (Canonical text) e stayed right = absurd right
rechecked command name old new files (Summary text) e stayed right = absurd right
rechecked command name old new files (Demonstrated demo) e stayed right = absurd right
rechecked command name old new files (Certificate text) e stayed right = absurd right
rechecked command name old new files (Unviolated why) e stayed right = absurd right
rechecked command name old new files (Searched found) e stayed right = absurd right

alone : (Within : Output → List ℕ → Type 0) (name : List ℕ) (old new : ShelfState) (files : Files) (output : Output) → old.files ≡ Some files → Stayed old new
    → RightAlone Within name old new output → OnWitness Within output (file_of files name)
alone Within name old new files (Report (ReadFault text)) e stayed right = absurd (stayed right.1.rose)
alone Within name old new files (Report (Refused code detail)) e stayed right = at_one name old files (OnWitness Within (Report (Refused code detail))) e right.0
alone Within name old new files (Report (Judged verdict)) e stayed right = absurd right
alone Within name old new files (Canonical text) e stayed right = at_one name old files (OnWitness Within (Canonical text)) e right
alone Within name old new files (Summary text) e stayed right = at_one name old files (OnWitness Within (Summary text)) e right
alone Within name old new files (Demonstrated demo) e stayed right = absurd right
alone Within name old new files (Certificate text) e stayed right = absurd right
alone Within name old new files (Rechecked answer) e stayed right = absurd right
alone Within name old new files (Unviolated why) e stayed right = absurd right
alone Within name old new files (Searched found) e stayed right = absurd right

authored : (sources : Sources) (label : Label) (steps : ℕ) (old new : ShelfState) (files : Files) (output : Output) → old.files ≡ Some files → Stayed old new
    → RightAuthor sources label steps old new output → CallsFor (Author sources label steps) files output
authored sources label steps old new files (Report (ReadFault text)) e stayed right = absurd (stayed right.2.rose)
authored sources label steps old new files (Report (Refused code detail)) e stayed right =
    at_three (in_order sources) old files (AuthorsOnBytes label steps sources.program (Report (Refused code detail))) e right.0
authored sources label steps old new files (Report (Judged verdict)) e stayed right =
    at_three (in_order sources) old files (AuthorsOnBytes label steps sources.program (Report (Judged verdict))) e right
authored sources label steps old new files (Canonical text) e stayed right = at_three (in_order sources) old files (AuthorsOnBytes label steps sources.program (Canonical text)) e right
authored sources label steps old new files (Unviolated why) e stayed right = at_three (in_order sources) old files (AuthorsOnBytes label steps sources.program (Unviolated why)) e right
authored sources label steps old new files (Searched found) e stayed right = absurd right
authored sources label steps old new files (Summary text) e stayed right = absurd right
authored sources label steps old new files (Demonstrated demo) e stayed right = absurd right
authored sources label steps old new files (Certificate text) e stayed right = absurd right
authored sources label steps old new files (Rechecked answer) e stayed right = absurd right

called : (wanted : Wanted) (old new : ShelfState) (files : Files) (output : Output) → old.files ≡ Some files → Stayed old new → Right (Some wanted) old new output → CallsFor wanted files output
called (Validate command budgets) old new files (Report reply) e stayed right = replied command (Judging budgets) old new files reply e stayed right
called (Validate command budgets) old new files (Canonical text) e stayed right = absurd right
called (Validate command budgets) old new files (Summary text) e stayed right = absurd right
called (Validate command budgets) old new files (Demonstrated demo) e stayed right = absurd right
called (Validate command budgets) old new files (Certificate text) e stayed right = absurd right
called (Validate command budgets) old new files (Rechecked answer) e stayed right = absurd right
called (Validate command budgets) old new files (Unviolated why) e stayed right = absurd right
called (Validate command budgets) old new files (Searched found) e stayed right = absurd right
called (Show name) old new files output e stayed right = alone _ name old new files output e stayed right
called (Normalise name) old new files output e stayed right = alone _ name old new files output e stayed right
called (Demo number budgets) old new files output e stayed right = right
called (Certify command conflicts) old new files (Report reply) e stayed right = replied command (Certifying conflicts) old new files reply e stayed right
called (Certify command conflicts) old new files (Certificate text) e stayed right = at_three command old files (RightOnBytes (Certifying conflicts) (Certificate text)) e right
called (Certify command conflicts) old new files (Canonical text) e stayed right = absurd right
called (Certify command conflicts) old new files (Summary text) e stayed right = absurd right
called (Certify command conflicts) old new files (Demonstrated demo) e stayed right = absurd right
called (Certify command conflicts) old new files (Rechecked answer) e stayed right = absurd right
called (Certify command conflicts) old new files (Unviolated why) e stayed right = absurd right
called (Certify command conflicts) old new files (Searched found) e stayed right = absurd right
called (Recheck command name) old new files output e stayed right = rechecked command name old new files output e stayed right
called (Author sources label steps) old new files output e stayed right = authored sources label steps old new files output e stayed right
called (Weed command conflicts) old new files (Report reply) e stayed right = replied command (Weeding conflicts) old new files reply e stayed right
called (Weed command conflicts) old new files (Canonical text) e stayed right = at_three command old files (RightOnBytes (Weeding conflicts) (Canonical text)) e right
called (Weed command conflicts) old new files (Summary text) e stayed right = absurd right
called (Weed command conflicts) old new files (Demonstrated demo) e stayed right = absurd right
called (Weed command conflicts) old new files (Certificate text) e stayed right = absurd right
called (Weed command conflicts) old new files (Rechecked answer) e stayed right = absurd right
called (Weed command conflicts) old new files (Unviolated why) e stayed right = absurd right
called (Weed command conflicts) old new files (Searched found) e stayed right = absurd right
called (Seek command turns conflicts) old new files (Report reply) e stayed right = replied command (Seeking turns conflicts) old new files reply e stayed right
called (Seek command turns conflicts) old new files (Searched found) e stayed right = at_three command old files (RightOnBytes (Seeking turns conflicts) (Searched found)) e right
called (Seek command turns conflicts) old new files (Canonical text) e stayed right = absurd right
called (Seek command turns conflicts) old new files (Summary text) e stayed right = absurd right
called (Seek command turns conflicts) old new files (Demonstrated demo) e stayed right = absurd right
called (Seek command turns conflicts) old new files (Certificate text) e stayed right = absurd right
called (Seek command turns conflicts) old new files (Rechecked answer) e stayed right = absurd right
called (Seek command turns conflicts) old new files (Unviolated why) e stayed right = absurd right

stays : (old new : ℕ) → new ≡ old → old < 2 ^ 64 - 1 → Rose old new → ⊥
stays old new same below rose = omega (arith, same, below, rose)

pub called_for : (wanted : Wanted) (old new : ShelfState) (files : Files) (output : Output) → old.files ≡ Some files → new.faults ≡ old.faults → old.faults < 2 ^ 64 - 1
    → Right (Some wanted) old new output → CallsFor wanted files output
called_for wanted old new files output e same below right = called wanted old new files output e (stays old.faults new.faults same below) right

-- so what is written, with its status, is what the files call for
pub completed : (asked : Asked) (old new : ShelfState) (before after : SinkState) (status : ℕ) (output : Output) → Right asked.wanted old new output → status ≡ status_by output
    → Gained before.written after.written (bytes_by asked.json output) → CompleteFor asked old new before after status
completed asked old new before after status output right is gained wanted files e told calm done =
    (output, called_for wanted old new files output told calm.shelf calm.shelf_below (subst (λ w. Right w old new output) e right), is, gained)
