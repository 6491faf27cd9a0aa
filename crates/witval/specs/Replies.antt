-- Which output is right.
use Rattle.std.specs.Prelude.{◌≡◌, ℕ, List, length, ◌⊎◌, false, Option, Some, None, Ok, nat_lt, codes}
use Rattle.std.specs.Str.{bytes_eq}
use Rattle.wv_base.specs.Shelf.{ShelfState}
use Rattle.wv_base.specs.declared.reading.ReadFault.TheVariants as reading
use Rattle.wv_report.specs.declared.reply.Reply.{Reply}
use Rattle.wv_report.specs.declared.reply.Reply.TheVariants.{Verdict as Judged, Refused, ReadFault}
use Rattle.wv_schema.specs.Schema.{witness_of}
use Rattle.wv_schema.specs.declared.witness.Witness.{Witness}
use Rattle.wv_show.specs.Show.{summary_of}
use Rattle.wv_arguments.specs.Words.{Command, Budgets, Label, Sources, Wanted, Validate, Show, Normalise, Demo, Certify, Recheck, Author, Weed, Seek}
use Rattle.wv_yaml.specs.declared.tree.Tree.{Tree}
use Rattle.wv_yaml.specs.Canon.{canon}
use Rattle.wv_yaml.specs.Reading.{IsAnswer}
use Rattle.witval.specs.Authoring.{AuthorsOnInputs}
use Rattle.witval.specs.Inputs.{OfBytes, OfOne, Faulted, FaultedAt, TookTooMuch, TookTooMuchOf, certificate_limit, certificate_word, in_order, source_word, word_of, limit_of, first_too_long, too_long_alone}
use Rattle.witval.specs.Refusals.{IsRefusal, IsSchemaRefusal, plain}
use Rattle.witval.specs.Purposes.{Purpose, Judging, Certifying, Rechecking, Weeding, Seeking, RightOnInputs}
use Rattle.witval.specs.Stages.{known, answered, choosing, itself}
use Rattle.witval.specs.Demos.{IsDemonstration}
use Rattle.witval.specs.declared.input.File.{File}
use Rattle.witval.specs.declared.input.File.TheVariants.{Witness as WitnessFile}
use Rattle.witval.specs.declared.input.FourStop.{FourStop}
use Rattle.witval.specs.declared.input.FourStop.TheVariants as four
use Rattle.witval.specs.declared.input.Stop.{Stop}
use Rattle.witval.specs.declared.input.Stop.TheVariants as stop
use Rattle.witval.specs.declared.output.Output.{Output}
use Rattle.witval.specs.declared.output.Output.TheVariants.{Report, Canonical, Summary, Demo as Demonstrated, Certificate, Rechecked, Unviolated, Searched}

-- the code of a file over its limit
abbrev pub too_long : List ℕ
too_long = codes "too-long"

-- a file that is too long comes before all that the files say
abbrev pub RightAfter : Option File → (Output → Type 0) → Output → Type 0
RightAfter (Some file) within output = output ≡ Report (Refused too_long (word_of file))
RightAfter None within output = within output

-- the output that three files call for
abbrev pub RightOnBytes : Purpose → Output → List ℕ → List ℕ → List ℕ → Type 0
RightOnBytes purpose output program property witness = RightAfter (first_too_long program property witness) (RightOnInputs purpose program property witness) output

-- `too-long` comes only where one byte more than the limit of the file was taken
abbrev pub TooLongBy : Command → ShelfState → ShelfState → List ℕ → List ℕ → Type 0
TooLongBy command old new code detail = (bytes_eq code too_long ≡ false) ⊎ ((file : File) × (detail ≡ word_of file) × TookTooMuchOf command file old new)

-- reading one of the three files failed
abbrev pub FaultedBy : Command → ShelfState → ShelfState → List ℕ → Type 0
FaultedBy command old new text = (file : File) × (text ≡ word_of file) × FaultedAt command file old new

-- the reply to a command: a read fault by the shelf's counts, or else what the bytes of three files call for: those of the shelf
-- where it tells its files
abbrev pub RightFor : Command → Purpose → ShelfState → ShelfState → Reply → Type 0
RightFor command purpose old new (ReadFault text) = FaultedBy command old new text
RightFor command purpose old new (Refused code detail) = OfBytes command old (RightOnBytes purpose (Report (Refused code detail))) × TooLongBy command old new code detail
RightFor command purpose old new (Judged verdict) = OfBytes command old (RightOnBytes purpose (Report (Judged verdict)))

-- where a verdict is asked for, a report is written and nothing else
abbrev pub RightVerdict : Command → Budgets → ShelfState → ShelfState → Output → Type 0
RightVerdict command budgets old new (Report reply) = RightFor command (Judging budgets) old new reply
RightVerdict command budgets old new (Canonical text) = ⊥
RightVerdict command budgets old new (Summary text) = ⊥
RightVerdict command budgets old new (Demonstrated demo) = ⊥
RightVerdict command budgets old new (Certificate text) = ⊥
RightVerdict command budgets old new (Rechecked answer) = ⊥
RightVerdict command budgets old new (Unviolated why) = ⊥
RightVerdict command budgets old new (Searched found) = ⊥

-- where a certificate is asked for, one is written, or a report
abbrev pub RightCertificate : Command → ℕ → ShelfState → ShelfState → Output → Type 0
RightCertificate command conflicts old new (Report reply) = RightFor command (Certifying conflicts) old new reply
RightCertificate command conflicts old new (Certificate text) = OfBytes command old (RightOnBytes (Certifying conflicts) (Certificate text))
RightCertificate command conflicts old new (Canonical text) = ⊥
RightCertificate command conflicts old new (Summary text) = ⊥
RightCertificate command conflicts old new (Demonstrated demo) = ⊥
RightCertificate command conflicts old new (Rechecked answer) = ⊥
RightCertificate command conflicts old new (Unviolated why) = ⊥
RightCertificate command conflicts old new (Searched found) = ⊥

-- where invariants that hold up together are asked for, a witness is written, or a report
abbrev pub RightWeed : Command → ℕ → ShelfState → ShelfState → Output → Type 0
RightWeed command conflicts old new (Report reply) = RightFor command (Weeding conflicts) old new reply
RightWeed command conflicts old new (Canonical text) = OfBytes command old (RightOnBytes (Weeding conflicts) (Canonical text))
RightWeed command conflicts old new (Summary text) = ⊥
RightWeed command conflicts old new (Demonstrated demo) = ⊥
RightWeed command conflicts old new (Certificate text) = ⊥
RightWeed command conflicts old new (Rechecked answer) = ⊥
RightWeed command conflicts old new (Unviolated why) = ⊥
RightWeed command conflicts old new (Searched found) = ⊥

-- where values for open inputs are asked for, what the search came to is written, or a report
abbrev pub RightSeek : Command → ℕ → ℕ → ShelfState → ShelfState → Output → Type 0
RightSeek command turns conflicts old new (Report reply) = RightFor command (Seeking turns conflicts) old new reply
RightSeek command turns conflicts old new (Searched found) = OfBytes command old (RightOnBytes (Seeking turns conflicts) (Searched found))
RightSeek command turns conflicts old new (Canonical text) = ⊥
RightSeek command turns conflicts old new (Summary text) = ⊥
RightSeek command turns conflicts old new (Demonstrated demo) = ⊥
RightSeek command turns conflicts old new (Certificate text) = ⊥
RightSeek command turns conflicts old new (Rechecked answer) = ⊥
RightSeek command turns conflicts old new (Unviolated why) = ⊥

-- the reply where reading one of three files stopped; out of memory is no reply
abbrev pub IsStopped : Stop → Reply → Type 0
IsStopped (stop.Fault file) reply = reply ≡ ReadFault (word_of file)
IsStopped (stop.TooLong file) reply = reply ≡ Refused too_long (word_of file)
IsStopped stop.OutOfMemory reply = ⊥

-- ---- a certificate that is checked again

-- the refusal of a certificate that is longer than its limit
abbrev pub long_certificate : Output
long_certificate = Report (Refused too_long certificate_word)

abbrev pub IsLongCertificate : Output → Type 0
IsLongCertificate output = output ≡ long_certificate

-- a certificate that is too long comes before all that the files say
abbrev pub RightAfterCertificate : List ℕ → (Output → Type 0) → Output → Type 0
RightAfterCertificate certificate within output = choosing (nat_lt certificate_limit (length certificate)) IsLongCertificate within output

-- the output that three files and a certificate call for
abbrev pub RightOnFour : Output → List ℕ → List ℕ → List ℕ → List ℕ → Type 0
RightOnFour output program property witness certificate =
    RightAfter (first_too_long program property witness) (RightAfterCertificate certificate (RightOnInputs (Rechecking certificate) program property witness)) output

-- this holds of some bytes of three files and a certificate; where the shelf tells its files, these are theirs
abbrev pub OfFour : Command → List ℕ → ShelfState → (List ℕ → List ℕ → List ℕ → List ℕ → Type 0) → Type 0
OfFour command name shelf P = OfBytes command shelf (λ program property witness. OfOne name shelf (P program property witness))

-- `too-long` comes only where one byte more than the limit of the file was taken
abbrev pub TooLongOfFour : Command → List ℕ → ShelfState → ShelfState → List ℕ → List ℕ → Type 0
TooLongOfFour command name old new code detail = TooLongBy command old new code detail ⊎ ((detail ≡ certificate_word) × TookTooMuch 4 name certificate_limit old new)

-- where a certificate is to be checked again: a read fault by the shelf's counts, or else what the bytes of four files call for
abbrev pub RightRecheck : Command → List ℕ → ShelfState → ShelfState → Output → Type 0
RightRecheck command name old new (Report (ReadFault text)) = FaultedBy command old new text ⊎ ((text ≡ certificate_word) × Faulted 4 name old new)
RightRecheck command name old new (Report (Refused code detail)) =
    OfFour command name old (RightOnFour (Report (Refused code detail))) × TooLongOfFour command name old new code detail
RightRecheck command name old new (Report (Judged verdict)) = ⊥
RightRecheck command name old new (Rechecked answer) = OfFour command name old (RightOnFour (Rechecked answer))
RightRecheck command name old new (Canonical text) = ⊥
RightRecheck command name old new (Summary text) = ⊥
RightRecheck command name old new (Demonstrated demo) = ⊥
RightRecheck command name old new (Certificate text) = ⊥
RightRecheck command name old new (Unviolated why) = ⊥
RightRecheck command name old new (Searched found) = ⊥

-- the reply where reading three files and a certificate stopped
abbrev pub IsStoppedOfFour : FourStop → Reply → Type 0
IsStoppedOfFour (four.Three why) reply = IsStopped why reply
IsStoppedOfFour (four.Certificate reading.Fault) reply = reply ≡ ReadFault certificate_word
IsStoppedOfFour (four.Certificate reading.TooLong) reply = reply ≡ Refused too_long certificate_word
IsStoppedOfFour (four.Certificate reading.OutOfMemory) reply = ⊥

-- ---- a violation witness that is made of values

-- a file that is too long comes before all that the files say
abbrev pub RightAfterSources : Option File → (Output → Type 0) → Output → Type 0
RightAfterSources (Some file) within output = output ≡ Report (Refused too_long (source_word file))
RightAfterSources None within output = within output

-- the output that a program, by its file's name, a property and values call for
abbrev pub AuthorsOnBytes : Label → ℕ → List ℕ → Output → List ℕ → List ℕ → List ℕ → Type 0
AuthorsOnBytes label steps name output program property values =
    RightAfterSources (first_too_long program property values) (AuthorsOnInputs label steps name program property values) output

-- the same where the shelf tells its files; else of some bytes
abbrev pub AuthorsOn : Sources → Label → ℕ → ShelfState → Output → Type 0
AuthorsOn sources label steps old output = OfBytes (in_order sources) old (AuthorsOnBytes label steps sources.program output)

-- `too-long` comes only where one byte more than the limit of the file was taken
abbrev pub TooLongBySources : Sources → ShelfState → ShelfState → List ℕ → List ℕ → Type 0
TooLongBySources sources old new code detail =
    (bytes_eq code too_long ≡ false) ⊎ ((file : File) × (detail ≡ source_word file) × TookTooMuchOf (in_order sources) file old new)

-- reading one of the three files failed
abbrev pub FaultedBySources : Sources → ShelfState → ShelfState → List ℕ → Type 0
FaultedBySources sources old new text = (file : File) × (text ≡ source_word file) × FaultedAt (in_order sources) file old new

-- where a violation witness is asked for: a read fault by the shelf's counts, or else what the bytes of three files call for: a
-- witness, why the run doesn't violate the property, or a report
abbrev pub RightAuthor : Sources → Label → ℕ → ShelfState → ShelfState → Output → Type 0
RightAuthor sources label steps old new (Report (ReadFault text)) = FaultedBySources sources old new text
RightAuthor sources label steps old new (Report (Refused code detail)) =
    AuthorsOn sources label steps old (Report (Refused code detail)) × TooLongBySources sources old new code detail
RightAuthor sources label steps old new (Report (Judged verdict)) = AuthorsOn sources label steps old (Report (Judged verdict))
RightAuthor sources label steps old new (Canonical text) = AuthorsOn sources label steps old (Canonical text)
RightAuthor sources label steps old new (Unviolated why) = AuthorsOn sources label steps old (Unviolated why)
RightAuthor sources label steps old new (Searched found) = ⊥
RightAuthor sources label steps old new (Summary text) = ⊥
RightAuthor sources label steps old new (Demonstrated demo) = ⊥
RightAuthor sources label steps old new (Certificate text) = ⊥
RightAuthor sources label steps old new (Rechecked answer) = ⊥

-- the reply where reading one of the three files stopped
abbrev pub IsStoppedAtSource : Stop → Reply → Type 0
IsStoppedAtSource (stop.Fault file) reply = reply ≡ ReadFault (source_word file)
IsStoppedAtSource (stop.TooLong file) reply = reply ≡ Refused too_long (source_word file)
IsStoppedAtSource stop.OutOfMemory reply = ⊥

-- ---- the other modes

-- no tree has a reply where its canonical form is asked for
abbrev pub NoReply : Tree → Reply → Type 0
NoReply tree reply = ⊥

-- what the bytes of a witness of allowed length call for, where its canonical form is asked for
abbrev pub CanonicalIn : Output → List ℕ → Type 0
CanonicalIn (Report reply) witness = answered (IsAnswer witness) itself IsRefusal NoReply reply
CanonicalIn (Canonical text) witness = (tree : Tree) × IsAnswer witness (Ok tree) × (text ≡ canon tree)
CanonicalIn (Summary text) witness = ⊥
CanonicalIn (Demonstrated demo) witness = ⊥
CanonicalIn (Certificate text) witness = ⊥
CanonicalIn (Rechecked answer) witness = ⊥
CanonicalIn (Unviolated why) witness = ⊥
CanonicalIn (Searched found) witness = ⊥

-- no witness has a reply where its summary is asked for
abbrev pub NoWitnessReply : Witness → Reply → Type 0
NoWitnessReply witness reply = ⊥

-- where a summary is asked for, a report is the refusal of a tree that is no witness
abbrev pub NoTreeReply : Tree → Reply → Type 0
NoTreeReply tree reply = known itself IsSchemaRefusal (witness_of tree) NoWitnessReply reply

-- what a tree calls for, where the summary of its witness is asked for
abbrev pub SummaryOf : Output → Tree → Type 0
SummaryOf (Report reply) tree = NoTreeReply tree reply
SummaryOf (Canonical text) tree = ⊥
SummaryOf (Demonstrated demo) tree = ⊥
SummaryOf (Certificate text) tree = ⊥
SummaryOf (Rechecked answer) tree = ⊥
SummaryOf (Unviolated why) tree = ⊥
SummaryOf (Searched found) tree = ⊥
SummaryOf (Summary text) tree = (witness : Witness) × (witness_of tree ≡ Ok witness) × (text ≡ summary_of witness)

-- the same of the bytes of a witness of allowed length
abbrev pub SummaryIn : Output → List ℕ → Type 0
SummaryIn (Report reply) witness = answered (IsAnswer witness) itself IsRefusal NoTreeReply reply
SummaryIn (Canonical text) witness = ⊥
SummaryIn (Demonstrated demo) witness = ⊥
SummaryIn (Certificate text) witness = ⊥
SummaryIn (Rechecked answer) witness = ⊥
SummaryIn (Unviolated why) witness = ⊥
SummaryIn (Searched found) witness = ⊥
SummaryIn (Summary text) witness = (tree : Tree) × IsAnswer witness (Ok tree) × SummaryOf (Summary text) tree

-- what the bytes of a witness call for: the refusal of a long file, or what those of allowed length do
abbrev pub AfterLength : Option File → (Output → List ℕ → Type 0) → Output → List ℕ → Type 0
AfterLength (Some file) Within output witness = output ≡ Report (Refused too_long (word_of file))
AfterLength None Within output witness = Within output witness

-- the same by the length of the witness
abbrev pub OnWitness : (Output → List ℕ → Type 0) → Output → List ℕ → Type 0
OnWitness Within output witness = AfterLength (too_long_alone witness) Within output witness

-- the same for a witness alone
abbrev pub TooLongAlone : List ℕ → ShelfState → ShelfState → List ℕ → List ℕ → Type 0
TooLongAlone name old new code detail = (bytes_eq code too_long ≡ false) ⊎ ((detail ≡ word_of WitnessFile) × TookTooMuch 1 name (limit_of WitnessFile) old new)

-- the output for a witness's name: a read fault by the shelf's counts, or else what the bytes of a file call for: that of the shelf
-- where it tells its files
abbrev pub RightAlone : (Output → List ℕ → Type 0) → List ℕ → ShelfState → ShelfState → Output → Type 0
RightAlone Within name old new (Report (ReadFault text)) = (text ≡ word_of WitnessFile) × Faulted 1 name old new
RightAlone Within name old new (Report (Refused code detail)) = OfOne name old (OnWitness Within (Report (Refused code detail))) × TooLongAlone name old new code detail
RightAlone Within name old new (Report (Judged verdict)) = ⊥
RightAlone Within name old new (Canonical text) = OfOne name old (OnWitness Within (Canonical text))
RightAlone Within name old new (Summary text) = OfOne name old (OnWitness Within (Summary text))
RightAlone Within name old new (Demonstrated demo) = ⊥
RightAlone Within name old new (Certificate text) = ⊥
RightAlone Within name old new (Rechecked answer) = ⊥
RightAlone Within name old new (Unviolated why) = ⊥
RightAlone Within name old new (Searched found) = ⊥

-- arguments that ask for nothing
abbrev pub usage : Output
usage = Report (plain (codes "usage"))

-- where the demo of a number is asked for, its lines are written, whatever files there are
abbrev pub RightDemo : ℕ → Budgets → Output → Type 0
RightDemo number budgets (Demonstrated demo) = IsDemonstration number budgets demo
RightDemo number budgets (Report reply) = ⊥
RightDemo number budgets (Canonical text) = ⊥
RightDemo number budgets (Summary text) = ⊥
RightDemo number budgets (Certificate text) = ⊥
RightDemo number budgets (Rechecked answer) = ⊥
RightDemo number budgets (Unviolated why) = ⊥
RightDemo number budgets (Searched found) = ⊥

-- the output that is owed to what the arguments ask for
abbrev pub Right : Option Wanted → ShelfState → ShelfState → Output → Type 0
Right None old new output = output ≡ usage
Right (Some (Validate command budgets)) old new output = RightVerdict command budgets old new output
Right (Some (Show name)) old new output = RightAlone SummaryIn name old new output
Right (Some (Normalise name)) old new output = RightAlone CanonicalIn name old new output
Right (Some (Demo number budgets)) old new output = RightDemo number budgets output
Right (Some (Certify command conflicts)) old new output = RightCertificate command conflicts old new output
Right (Some (Recheck command name)) old new output = RightRecheck command name old new output
Right (Some (Author sources label steps)) old new output = RightAuthor sources label steps old new output
Right (Some (Weed command conflicts)) old new output = RightWeed command conflicts old new output
Right (Some (Seek command turns conflicts)) old new output = RightSeek command turns conflicts old new output
