-- Bytes that an output is right on: those that were read, or, where a file was too long, some as long as that.
use Rattle.std.proofs.Common.{◌≡◌, ◌≤◌, ℕ, suc, List, [], length, replicate, Option, Some, None, IfSome, true, nat_lt, lt-ltb, le-ltb, inl, inr, arith, refl, sym, subst}
use Rattle.std.proofs.lemmas.List.{length-replicate}
use Rattle.std.proofs.lemmas.List.Elements.{All-nil}
use Rattle.wv_arguments.specs.Words.{Command}
use Rattle.wv_base.specs.Shelf.{ShelfState, Files, file_of}
use Rattle.wv_base.specs.declared.reading.ReadFault.TheVariants as reading
use Rattle.wv_report.specs.Json.{HasJsonIntegers, IsJsonInteger}
use Rattle.wv_report.specs.declared.reply.Reply.{Reply}
use Rattle.wv_report.specs.declared.reply.Reply.TheVariants.{Refused, ReadFault}
use Rattle.witval.specs.Inputs.{AreInputs, AreWithin, Faulted, OfBytes, OfFiles, OfOne, RightStop, RightStopAlone, RightStopOfFour, Told, ToldOne, certificate_limit, certificate_word, first_too_long, limit_of, too_long_alone, word_of}
use Rattle.witval.specs.Purposes.{Purpose, Rechecking, RightOnInputs}
use Rattle.witval.specs.Replies.{IsStopped, IsStoppedOfFour, OfFour, OnWitness, RightAfterCertificate, RightAlone, RightFor, RightOnBytes, RightOnFour, RightRecheck, long_certificate, too_long}
use Rattle.witval.specs.declared.input.File.{File}
use Rattle.witval.specs.declared.input.File.TheVariants.{Program, Property, Witness}
use Rattle.witval.specs.declared.input.FourInputs.{FourInputs}
use Rattle.witval.specs.declared.input.FourStop.{FourStop}
use Rattle.witval.specs.declared.input.FourStop.TheVariants as four
use Rattle.witval.specs.declared.input.Inputs.{Inputs}
use Rattle.witval.specs.declared.input.Stop.{Stop}
use Rattle.witval.specs.declared.input.Stop.TheVariants as stop
use Rattle.witval.specs.declared.output.Output.{Output}
use Rattle.witval.specs.declared.output.Output.TheVariants.{Report}

-- a witness within its limit isn't too long
short_alone : (witness : List ℕ) → length witness ≤ limit_of Witness → too_long_alone witness ≡ None
short_alone witness short = rw (le-ltb (limit_of Witness) (length witness) short) refl

-- nor is any of three files within their limits
pub short_files : (inputs : Inputs) → AreWithin inputs → first_too_long inputs.program.items inputs.property.items inputs.witness.items ≡ None
short_files inputs short =
    rw (
      le-ltb (limit_of Program) (length inputs.program.items) short.program_within,
      le-ltb (limit_of Property) (length inputs.property.items) short.property_within,
    )
    (short_alone inputs.witness.items short.witness_within)

-- the files hold the bytes that were read
pub theirs : (command : Command) (files : Option Files) (inputs : Inputs) → IfSome files (λ files. OfFiles command files (AreInputs inputs))
    → IfSome files (λ files. OfFiles command files (λ program property witness. (inputs.program.items ≡ program) × (inputs.property.items ≡ property) × (inputs.witness.items ≡ witness)))
theirs command None inputs a = tt
theirs command (Some files) inputs a = (a.program_read, a.property_read, a.witness_read)

-- the output for the bytes that were read
pub of_read : (command : Command) (purpose : Purpose) (shelf : ShelfState) (inputs : Inputs) (output : Output) → AreWithin inputs → Told command shelf (AreInputs inputs)
    → RightOnInputs purpose inputs.program.items inputs.property.items inputs.witness.items output → OfBytes command shelf (RightOnBytes purpose output)
of_read command purpose shelf inputs output short a right =
    (inputs.program.items, inputs.property.items, inputs.witness.items, rw (short_files inputs short) right, theirs command shelf.files inputs a)

-- the same with a certificate that was read
pub of_four : (command : Command) (name : List ℕ) (shelf : ShelfState) (four : FourInputs) (output : Output) → AreWithin four.inputs → Told command shelf (AreInputs four.inputs)
    → length four.certificate.items ≤ certificate_limit → ToldOne name shelf (λ told. four.certificate.items ≡ told)
    → RightOnInputs (Rechecking four.certificate.items) four.inputs.program.items four.inputs.property.items four.inputs.witness.items output
    → OfFour command name shelf (RightOnFour output)
of_four command name shelf four output short a within b right =
    let certificate = four.certificate.items in
    let shortly : RightAfterCertificate certificate (RightOnInputs (Rechecking certificate) four.inputs.program.items four.inputs.property.items four.inputs.witness.items) output =
    rw (le-ltb certificate_limit (length certificate) within) right in
    (four.inputs.program.items, four.inputs.property.items, four.inputs.witness.items, (certificate, rw (short_files four.inputs short) shortly, b), theirs command shelf.files four.inputs a)

-- the output for a witness that was read
pub of_one : (Within : Output → List ℕ → Type 0) (name : List ℕ) (shelf : ShelfState) (bytes : List ℕ) (output : Output) → length bytes ≤ limit_of Witness
    → ToldOne name shelf (λ told. bytes ≡ told) → Within output bytes → OfOne name shelf (OnWitness Within output)
of_one Within name shelf bytes output short a right = (bytes, rw (short_alone bytes short) right, a)

-- some bytes are more than a limit
longer : (limit : ℕ) → (bytes : List ℕ) × (nat_lt limit (length bytes) ≡ true)
longer limit = let zero_byte : ℕ = 0 in (replicate (suc limit) zero_byte, rw (length-replicate (suc limit) zero_byte) (lt-ltb limit (suc limit) (omega arith)))

-- a file with so many bytes is the first that is too long, where the others have none
long_program : (bytes : List ℕ) → nat_lt (limit_of Program) (length bytes) ≡ true → first_too_long bytes [] [] ≡ Some Program
long_program bytes e = rw e refl

long_property : (bytes : List ℕ) → nat_lt (limit_of Property) (length bytes) ≡ true → first_too_long [] bytes [] ≡ Some Property
long_property bytes e = rw e refl

long_witness : (bytes : List ℕ) → nat_lt (limit_of Witness) (length bytes) ≡ true → too_long_alone bytes ≡ Some Witness
long_witness bytes e = rw e refl

-- where nothing is told, some file of this kind is too long
pub some_too_long : (file : File) → (program : List ℕ) × (property : List ℕ) × (witness : List ℕ) × (first_too_long program property witness ≡ Some file)
some_too_long Program = let long = longer (limit_of Program) in (long.0, [], [], long_program long.0 long.1)
some_too_long Property = let long = longer (limit_of Property) in ([], long.0, [], long_property long.0 long.1)
some_too_long Witness = let long = longer (limit_of Witness) in ([], [], long.0, long_witness long.0 long.1)

-- what holds of the told files, or, where none are told, of these
pub spread : (command : Command) (files : Option Files) (Q P : List ℕ → List ℕ → List ℕ → Type 0) → ((program property witness : List ℕ) → Q program property witness → P program property witness)
    → (some : (program : List ℕ) × (property : List ℕ) × (witness : List ℕ) × Q program property witness) → IfSome files (λ files. OfFiles command files Q)
    → (program : List ℕ) × (property : List ℕ) × (witness : List ℕ) × P program property witness
    × IfSome files (λ files. OfFiles command files (λ a b c. (program ≡ a) × (property ≡ b) × (witness ≡ c)))
spread command None Q P give some long = (some.0, some.1, some.2, give some.0 some.1 some.2 some.3, tt)
spread command (Some files) Q P give some long =
    let program = file_of files command.program in
    let property = file_of files command.property in
    let witness = file_of files command.witness in
    (program, property, witness, give program property witness long, (refl, refl, refl))

refused_by : (purpose : Purpose) (file : File) (program property witness : List ℕ) → first_too_long program property witness ≡ Some file
    → RightOnBytes purpose (Report (Refused too_long (word_of file))) program property witness
refused_by purpose file program property witness e = rw e refl

-- the refusal of a file that is too long
pub of_long : (command : Command) (purpose : Purpose) (shelf : ShelfState) (file : File) → Told command shelf (λ program property witness. first_too_long program property witness ≡ Some file)
    → OfBytes command shelf (RightOnBytes purpose (Report (Refused too_long (word_of file))))
of_long command purpose shelf file long =
    spread command shelf.files (λ program property witness. first_too_long program property witness ≡ Some file)
    (RightOnBytes purpose (Report (Refused too_long (word_of file)))) (refused_by purpose file) (some_too_long file) long

-- a certificate is there, whatever it is
any_certificate : (name : List ℕ) (files : Option Files) → (bytes : List ℕ) × IfSome files (λ files. bytes ≡ file_of files name)
any_certificate name None = ([], tt)
any_certificate name (Some files) = (file_of files name, refl)

refused_of_four : (name : List ℕ) (shelf : ShelfState) (file : File) (program property witness : List ℕ) → first_too_long program property witness ≡ Some file
    → OfOne name shelf (RightOnFour (Report (Refused too_long (word_of file))) program property witness)
refused_of_four name shelf file program property witness e = let some = any_certificate name shelf.files in (some.0, rw e refl, some.1)

-- the same before a certificate
pub of_long_four : (command : Command) (name : List ℕ) (shelf : ShelfState) (file : File) → Told command shelf (λ program property witness. first_too_long program property witness ≡ Some file)
    → OfFour command name shelf (RightOnFour (Report (Refused too_long (word_of file))))
of_long_four command name shelf file long =
    spread command shelf.files (λ program property witness. first_too_long program property witness ≡ Some file)
    (λ program property witness. OfOne name shelf (RightOnFour (Report (Refused too_long (word_of file))) program property witness))
    (refused_of_four name shelf file) (some_too_long file) long

-- a certificate that is too long is there
long_one : (name : List ℕ) (files : Option Files) → IfSome files (λ files. nat_lt certificate_limit (length (file_of files name)) ≡ true)
    → (bytes : List ℕ) × (nat_lt certificate_limit (length bytes) ≡ true) × IfSome files (λ files. bytes ≡ file_of files name)
long_one name None long = let some = longer certificate_limit in (some.0, some.1, tt)
long_one name (Some files) long = (file_of files name, long, refl)

none_too_long : first_too_long [] [] [] ≡ None
none_too_long = refl

refused_certificate : (name : List ℕ) (shelf : ShelfState) → ToldOne name shelf (λ certificate. nat_lt certificate_limit (length certificate) ≡ true)
    → (program property witness : List ℕ) → first_too_long program property witness ≡ None → OfOne name shelf (RightOnFour long_certificate program property witness)
refused_certificate name shelf long program property witness e =
    let some = long_one name shelf.files long in
    let after : RightAfterCertificate some.0 (RightOnInputs (Rechecking some.0) program property witness) long_certificate = rw some.1 refl in
    (some.0, rw e after, some.2)

-- the refusal of a certificate that is too long
of_long_certificate : (command : Command) (name : List ℕ) (shelf : ShelfState) → Told command shelf (λ program property witness. first_too_long program property witness ≡ None)
    → ToldOne name shelf (λ certificate. nat_lt certificate_limit (length certificate) ≡ true) → OfFour command name shelf (RightOnFour long_certificate)
of_long_certificate command name shelf short long =
    spread command shelf.files (λ program property witness. first_too_long program property witness ≡ None)
    (λ program property witness. OfOne name shelf (RightOnFour long_certificate program property witness)) (refused_certificate name shelf long)
    ([], [], [], none_too_long) short

refused_alone : (Within : Output → List ℕ → Type 0) (bytes : List ℕ) → too_long_alone bytes ≡ Some Witness
    → OnWitness Within (Report (Refused too_long (word_of Witness))) bytes
refused_alone Within bytes e = rw e refl

among_one : (Within : Output → List ℕ → Type 0) (name : List ℕ) (files : Option Files) → IfSome files (λ files. too_long_alone (file_of files name) ≡ Some Witness)
    → (bytes : List ℕ) × OnWitness Within (Report (Refused too_long (word_of Witness))) bytes × IfSome files (λ files. bytes ≡ file_of files name)
among_one Within name None long = let some = longer (limit_of Witness) in (some.0, refused_alone Within some.0 (long_witness some.0 some.1), tt)
among_one Within name (Some files) long = (_, refused_alone Within _ long, refl)

-- the same of a witness alone
pub of_long_one : (Within : Output → List ℕ → Type 0) (name : List ℕ) (shelf : ShelfState) → ToldOne name shelf (λ witness. too_long_alone witness ≡ Some Witness)
    → OfOne name shelf (OnWitness Within (Report (Refused too_long (word_of Witness))))
of_long_one Within name shelf long = among_one Within name shelf.files long

-- ---- what reading stops at

long_files : (command : Command) (purpose : Purpose) (old new : ShelfState) (file : File) → RightStop command old new (stop.TooLong file)
    → RightFor command purpose old new (Refused too_long (word_of file))
long_files command purpose old new file stopped = (of_long command purpose old file stopped.1, inr (file, refl, stopped.0))

-- the reply where reading one of the files of a command stopped
stopped_by : (command : Command) (purpose : Purpose) (old new : ShelfState) (why : Stop) (reply : Reply) → IsStopped why reply → RightStop command old new why
    → RightFor command purpose old new reply
stopped_by command purpose old new (stop.Fault file) reply e right = subst (RightFor command purpose old new) (sym e) (file, refl, right)
stopped_by command purpose old new (stop.TooLong file) reply e right = subst (RightFor command purpose old new) (sym e) (long_files command purpose old new file right)
stopped_by command purpose old new stop.OutOfMemory reply e right = absurd e

-- it shows no number
shows_none : (why : Stop) (reply : Reply) → IsStopped why reply → HasJsonIntegers reply
shows_none (stop.Fault file) reply e = subst HasJsonIntegers (sym e) (All-nil (λ draw. IsJsonInteger draw.value))
shows_none (stop.TooLong file) reply e = subst HasJsonIntegers (sym e) (All-nil (λ draw. IsJsonInteger draw.value))
shows_none stop.OutOfMemory reply e = absurd e

pub stopped : (command : Command) (purpose : Purpose) (old new : ShelfState) (why : Stop) (reply : Reply) → IsStopped why reply → RightStop command old new why
    → RightFor command purpose old new reply × HasJsonIntegers reply
stopped command purpose old new why reply e right = (stopped_by command purpose old new why reply e right, shows_none why reply e)

-- the same before a certificate
stopped_of_four : (command : Command) (name : List ℕ) (old new : ShelfState) (why : Stop) (reply : Reply) → IsStopped why reply → RightStop command old new why
    → RightRecheck command name old new (Report reply)
stopped_of_four command name old new (stop.Fault file) reply e right =
    subst (λ r. RightRecheck command name old new (Report r)) (sym e) (inl (file, refl, right))
stopped_of_four command name old new (stop.TooLong file) reply e right =
    subst (λ r. RightRecheck command name old new (Report r)) (sym e) (of_long_four command name old file right.1, inl (inr (file, refl, right.0)))
stopped_of_four command name old new stop.OutOfMemory reply e right = absurd e

at_three : (command : Command) (name : List ℕ) (old new : ShelfState) (why : Stop) (reply : Reply) → IsStopped why reply → RightStop command old new why
    → RightRecheck command name old new (Report reply) × HasJsonIntegers reply
at_three command name old new why reply e right = (stopped_of_four command name old new why reply e right, shows_none why reply e)

-- the output where reading a certificate failed, and where it is too long
certificate_failed : (command : Command) (name : List ℕ) (old new : ShelfState) (reply : Reply) → reply ≡ ReadFault certificate_word → Faulted 4 name old new
    → RightRecheck command name old new (Report reply) × HasJsonIntegers reply
certificate_failed command name old new reply e faulted =
    (subst (λ r. RightRecheck command name old new (Report r)) (sym e) (inr (refl, faulted)), subst HasJsonIntegers (sym e) (All-nil (λ draw. IsJsonInteger draw.value)))

certificate_long : (command : Command) (name : List ℕ) (old new : ShelfState) (reply : Reply) → reply ≡ Refused too_long certificate_word
    → RightStopOfFour command name old new (four.Certificate reading.TooLong) → RightRecheck command name old new (Report reply) × HasJsonIntegers reply
certificate_long command name old new reply e right = (
  subst (λ r. RightRecheck command name old new (Report r)) (sym e) (of_long_certificate command name old right.1 right.2, inr (refl, right.0)),
  subst HasJsonIntegers (sym e) (All-nil (λ draw. IsJsonInteger draw.value)),
)

-- the same of a witness alone
pub long_alone : (Within : Output → List ℕ → Type 0) (name : List ℕ) (old new : ShelfState) (file : File) (why : Stop) (reply : Reply) → why ≡ stop.TooLong file
    → reply ≡ Refused too_long (word_of file) → RightStopAlone name old new why → RightAlone Within name old new (Report reply)
long_alone Within name old new file why reply is e halted =
    let found = subst (RightStopAlone name old new) is halted in
    let is_right : RightAlone Within name old new (Report (Refused too_long (word_of Witness))) = (of_long_one Within name old found.1.1, inr (refl, found.1.0)) in
    subst (λ r. RightAlone Within name old new (Report r)) (sym e)
    (subst (λ f. RightAlone Within name old new (Report (Refused too_long (word_of f)))) (sym found.0) is_right)

-- the output where reading three files and a certificate stopped
pub stopped_four : (command : Command) (name : List ℕ) (old new : ShelfState) (why : FourStop) (reply : Reply) → IsStoppedOfFour why reply → RightStopOfFour command name old new why
    → RightRecheck command name old new (Report reply) × HasJsonIntegers reply
stopped_four command name old new (four.Three why) reply e right = at_three command name old new why reply e right
stopped_four command name old new (four.Certificate reading.Fault) reply e right = certificate_failed command name old new reply e right
stopped_four command name old new (four.Certificate reading.TooLong) reply e right = certificate_long command name old new reply e right
stopped_four command name old new (four.Certificate reading.OutOfMemory) reply e right = absurd e
