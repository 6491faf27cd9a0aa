-- What the program does with its arguments, a shelf and a sink.
use Rattle.std.specs.Prelude.{◌≡◌, ◌≢◌, ◌<◌, ◌-◌, ◌^◌, ℕ, List, ◌++◌, take, Bool, true, false, Some, codes, decimal}
use Rattle.wv_base.specs.Causes.{Rose}
use Rattle.wv_base.specs.Shelf.{ShelfState, Files, file_of}
use Rattle.wv_base.specs.Sink.{SinkState, Gained}
use Rattle.wv_report.specs.Json.{HasJsonIntegers, json_of}
use Rattle.wv_cert.specs.declared.checking.Rechecked.{Rechecked as Answer}
use Rattle.wv_cert.specs.declared.checking.Rechecked.TheVariants as answers
use Rattle.wv_report.specs.Report.{found_text, status_of, text_of}
use Rattle.wv_report.specs.declared.reply.Reply.{Reply}
use Rattle.wv_arguments.specs.Words.{Asked, Wanted, Validate, Show, Normalise, Demo, Certify, Recheck, Author, Weed, Seek, asked_by}
use Rattle.witval.specs.Demos.{demo_status, demo_text}
use Rattle.witval.specs.Inputs.{OfFiles, in_order}
use Rattle.witval.specs.Purposes.{Judging, Certifying, Weeding, Seeking}
use Rattle.witval.specs.Replies.{AuthorsOnBytes, Right, RightOnBytes, RightOnFour, CanonicalIn, SummaryIn, OnWitness, RightDemo}
use Rattle.witval.specs.declared.output.Output.{Output}
use Rattle.witval.specs.declared.output.Output.TheVariants.{Report, Canonical, Summary, Demo as Demonstrated, Certificate, Rechecked, Unviolated, Searched}
use Rattle.witval.specs.declared.output.Searched.{Searched as Values}
use Rattle.witval.specs.declared.output.Searched.TheVariants as searched
use Rattle.witval.specs.declared.output.Unviolated.{Unviolated as Why}
use Rattle.witval.specs.declared.output.Unviolated.TheVariants as unviolated

-- what is written of a certificate that was checked again
abbrev pub recheck_text : Answer → List ℕ
recheck_text (answers.Yes count) = codes "certificate accepted\nobligations " ++ decimal count ++ codes "\n"
recheck_text (answers.No index) = codes "certificate refused\nobligation " ++ decimal index ++ codes "\n"
recheck_text (answers.Count expected found) = codes "certificate refused\nobligations " ++ decimal expected ++ codes " found " ++ decimal found ++ codes "\n"

-- and its status
abbrev pub recheck_status : Answer → ℕ
recheck_status (answers.Yes count) = 0
recheck_status (answers.No index) = 1
recheck_status (answers.Count expected found) = 1

-- what is written of a run that doesn't violate the property
abbrev pub unviolated_text : Why → List ℕ
unviolated_text unviolated.Ended = codes "no violation\nreason ended\n"
unviolated_text (unviolated.Undefined spot) = codes "no violation\nreason undefined " ++ decimal spot.line ++ codes ":" ++ decimal spot.column ++ codes "\n"

-- what is written of a search for values
abbrev pub searched_text : Values → List ℕ
searched_text (searched.Found draws positions) = found_text draws positions
searched_text (searched.NoneWithin turns) = codes "no values within " ++ decimal turns ++ codes "\n"
searched_text (searched.Spent conflicts) = codes "undecided conflicts " ++ decimal conflicts ++ codes "\n"

-- and its status
abbrev pub searched_status : Values → ℕ
searched_status (searched.Found draws positions) = 0
searched_status (searched.NoneWithin turns) = 1
searched_status (searched.Spent conflicts) = 2

-- the status and the bytes of an output
abbrev pub status_by : Output → ℕ
status_by (Report reply) = status_of reply
status_by (Canonical text) = 0
status_by (Summary text) = 0
status_by (Demonstrated demo) = demo_status demo
status_by (Certificate text) = 0
status_by (Rechecked answer) = recheck_status answer
status_by (Unviolated why) = 1
status_by (Searched found) = searched_status found

-- JSON where that is asked for
abbrev pub report_by : Bool → Reply → List ℕ
report_by true reply = json_of reply
report_by false reply = text_of reply

-- all that is written of an output
abbrev pub bytes_by : Bool → Output → List ℕ
bytes_by json (Report reply) = report_by json reply
bytes_by json (Canonical text) = text
bytes_by json (Summary text) = text
bytes_by json (Demonstrated demo) = demo_text demo
bytes_by json (Certificate text) = text
bytes_by json (Rechecked answer) = recheck_text answer
bytes_by json (Unviolated why) = unviolated_text why
bytes_by json (Searched found) = searched_text found

-- no report shows a number beyond 64 bits
abbrev pub HasIntegers : Output → Type 0
HasIntegers (Report reply) = HasJsonIntegers reply
HasIntegers (Canonical text) = Unit {0}
HasIntegers (Summary text) = Unit {0}
HasIntegers (Demonstrated demo) = Unit {0}
HasIntegers (Certificate text) = Unit {0}
HasIntegers (Rechecked answer) = Unit {0}
HasIntegers (Unviolated why) = Unit {0}
HasIntegers (Searched found) = Unit {0}

-- a right output, its status, and all of its bytes
abbrev pub Replied : Asked → ShelfState → ShelfState → SinkState → SinkState → ℕ → Type 0
Replied asked old new before after status =
    (output : Output) × Right asked.wanted old new output × (status ≡ status_by output) × Gained before.written after.written (bytes_by asked.json output)

-- a right output, and its first bytes
abbrev pub CutShort : Asked → ShelfState → ShelfState → SinkState → SinkState → Type 0
CutShort asked old new before after =
    (output : Output) × (n : ℕ) × Right asked.wanted old new output × Gained before.written after.written (take n (bytes_by asked.json output))

-- for what is asked: status 6 is out of memory, 5 a write fault; each other status is that of a right output
pub record RunsFor (asked : Asked) (old new : ShelfState) (before after : SinkState) (status : ℕ) : Type 0 where
  pub same_files : new.files ≡ old.files
  pub memory : status ≡ 6 → after ≡ before
  pub write_fault : status ≡ 5 → Rose before.faults after.faults
  pub prefix : status ≡ 5 → CutShort asked old new before after
  pub replied : status ≢ 5 → status ≢ 6 → Replied asked old new before after status

-- the same for the arguments of a command line, the program's own name being the first
abbrev pub Runs : List (List ℕ) → ShelfState → ShelfState → SinkState → SinkState → ℕ → Type 0
Runs words old new before after status = RunsFor (asked_by words) old new before after status

-- neither count of faults rose, and both are below their last value
pub record Undisturbed (old new : ShelfState) (before after : SinkState) : Type 0 where
  pub shelf : new.faults ≡ old.faults
  pub shelf_below : old.faults < 2 ^ 64 - 1
  pub sink : after.faults ≡ before.faults
  pub sink_below : before.faults < 2 ^ 64 - 1

-- what is wanted of files
abbrev pub CallsFor : Wanted → Files → Output → Type 0
CallsFor (Validate command budgets) files (Report reply) = OfFiles command files (RightOnBytes (Judging budgets) (Report reply))
CallsFor (Validate command budgets) files (Canonical text) = ⊥
CallsFor (Validate command budgets) files (Summary text) = ⊥
CallsFor (Validate command budgets) files (Demonstrated demo) = ⊥
CallsFor (Validate command budgets) files (Certificate text) = ⊥
CallsFor (Validate command budgets) files (Rechecked answer) = ⊥
CallsFor (Validate command budgets) files (Unviolated why) = ⊥
CallsFor (Validate command budgets) files (Searched found) = ⊥
CallsFor (Show name) files output = OnWitness SummaryIn output (file_of files name)
CallsFor (Normalise name) files output = OnWitness CanonicalIn output (file_of files name)
CallsFor (Demo number budgets) files output = RightDemo number budgets output
CallsFor (Certify command conflicts) files output = OfFiles command files (RightOnBytes (Certifying conflicts) output)
CallsFor (Recheck command name) files output = OfFiles command files (λ program property witness. RightOnFour output program property witness (file_of files name))
CallsFor (Author sources label steps) files output = OfFiles (in_order sources) files (AuthorsOnBytes label steps sources.program output)
CallsFor (Weed command conflicts) files output = OfFiles command files (RightOnBytes (Weeding conflicts) output)
CallsFor (Seek command turns conflicts) files output = OfFiles command files (RightOnBytes (Seeking turns conflicts) output)

-- what the files call for is written, with its status
abbrev pub Answered : Bool → Wanted → Files → SinkState → SinkState → ℕ → Type 0
Answered json wanted files before after status =
    (output : Output) × CallsFor wanted files output × (status ≡ status_by output) × Gained before.written after.written (bytes_by json output)

-- over files that the shelf tells, without a fault and with memory, what they call for is answered
abbrev pub CompleteFor : Asked → ShelfState → ShelfState → SinkState → SinkState → ℕ → Type 0
CompleteFor asked old new before after status =
    (wanted : Wanted) (files : Files) → asked.wanted ≡ Some wanted → old.files ≡ Some files → Undisturbed old new before after → status ≢ 6
    → Answered asked.json wanted files before after status

-- the same for the arguments of a command line
abbrev pub Complete : List (List ℕ) → ShelfState → ShelfState → SinkState → SinkState → ℕ → Type 0
Complete words old new before after status = CompleteFor (asked_by words) old new before after status
