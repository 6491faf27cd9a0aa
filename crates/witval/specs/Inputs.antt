-- The three files of a command: their order, their limits, and why reading them stops.
use Rattle.std.specs.Prelude.{◌≡◌, ℕ, ◌+◌, ◌-◌, ◌^◌, ◌≤◌, min, List, length, Option, Some, None, IfSome, if◌then◌else◌, nat_lt, true, codes}
use Rattle.wv_base.specs.Causes.{Rose}
use Rattle.wv_base.specs.declared.reading.ReadFault.TheVariants as reading
use Rattle.wv_base.specs.Shelf.{ShelfState, Files, file_of}
use Rattle.wv_arguments.specs.Words.{Command, Sources}
use Rattle.witval.specs.declared.input.File.{File}
use Rattle.witval.specs.declared.input.File.TheVariants.{Program, Property, Witness}
use Rattle.witval.specs.declared.input.Stop.{Stop}
use Rattle.witval.specs.declared.input.Stop.TheVariants.{Fault, TooLong, OutOfMemory}
use Rattle.witval.specs.declared.input.Inputs.{Inputs}
use Rattle.witval.specs.declared.input.FourStop.{FourStop}
use Rattle.witval.specs.declared.input.FourStop.TheVariants as four

-- how a report names each file
abbrev pub word_of : File → List ℕ
word_of Program = codes "program"
word_of Property = codes "property"
word_of Witness = codes "witness"

-- the files in the order in which they are read
abbrev pub number_of : File → ℕ
number_of Program = 1
number_of Property = 2
number_of Witness = 3

-- the name of each file, as the arguments state it
abbrev pub name_of : Command → File → List ℕ
name_of command Program = command.program
name_of command Property = command.property
name_of command Witness = command.witness

-- the three files that a violation witness is made of, in the order in which they are read: values stand in place of a witness
abbrev pub in_order : Sources → Command
in_order sources = record { program = sources.program; property = sources.property; witness = sources.values }

-- how a report names each of those
abbrev pub source_word : File → List ℕ
source_word Program = codes "program"
source_word Property = codes "property"
source_word Witness = codes "values"

-- in bytes
abbrev pub limit_of : File → ℕ
limit_of Program = 1048576
limit_of Property = 4096
limit_of Witness = 1048576

-- how a report names a certificate, which is read after them
abbrev pub certificate_word : List ℕ
certificate_word = codes "certificate"

-- its limit, in bytes
abbrev pub certificate_limit : ℕ
certificate_limit = 67108864

-- a witness that is longer than its limit
abbrev pub too_long_alone : List ℕ → Option File
too_long_alone witness = if nat_lt (limit_of Witness) (length witness) then Some Witness else None

-- the first of three files that is longer than its limit
abbrev pub first_too_long : List ℕ → List ℕ → List ℕ → Option File
first_too_long program property witness =
    if nat_lt (limit_of Program) (length program) then Some Program
    else (if nat_lt (limit_of Property) (length property) then Some Property
    else too_long_alone witness)

-- this many files were begun, and this name was asked for last
pub record Reached (count : ℕ) (name : List ℕ) (old new : ShelfState) : Type 0 where
  pub begins : new.begins ≡ min (old.begins + count) (2 ^ 64 - 1)
  pub asked : new.asked ≡ name

-- the three files were begun, and the count of faults didn't fall
pub record AreBegun (old new : ShelfState) : Type 0 where
  pub begins : new.begins ≡ min (old.begins + 3) (2 ^ 64 - 1)
  pub later : old.faults ≤ new.faults

-- reading that file failed: the count of faults rose in this call and is above its mark
pub record Faulted (count : ℕ) (name : List ℕ) (old new : ShelfState) : Type 0 where
  pub reached : Reached count name old new
  pub rose : Rose old.faults new.faults
  pub above_mark : Rose new.mark new.faults

-- one byte more than the file's limit was taken
pub record TookTooMuch (count : ℕ) (name : List ℕ) (limit : ℕ) (old new : ShelfState) : Type 0 where
  pub reached : Reached count name old new
  pub taken : new.taken ≡ limit + 1

-- the same of a file of a command
abbrev pub FaultedAt : Command → File → ShelfState → ShelfState → Type 0
FaultedAt command file old new = Faulted (number_of file) (name_of command file) old new

-- one byte more than the limit of a file of a command was taken
abbrev pub TookTooMuchOf : Command → File → ShelfState → ShelfState → Type 0
TookTooMuchOf command file old new = TookTooMuch (number_of file) (name_of command file) (limit_of file) old new

-- what holds of the three files that a command names
abbrev pub OfFiles : Command → Files → (List ℕ → List ℕ → List ℕ → Type 0) → Type 0
OfFiles command files P = P (file_of files command.program) (file_of files command.property) (file_of files command.witness)

-- where the shelf tells its files, this holds of the three that the command names
abbrev pub Told : Command → ShelfState → (List ℕ → List ℕ → List ℕ → Type 0) → Type 0
Told command shelf P = IfSome shelf.files (λ files. OfFiles command files P)

-- where the shelf tells its files, this holds of the one with the name
abbrev pub ToldOne : List ℕ → ShelfState → (List ℕ → Type 0) → Type 0
ToldOne name shelf P = IfSome shelf.files (λ files. P (file_of files name))

-- this holds of some bytes of the three files; where the shelf tells its files, these are theirs
abbrev pub OfBytes : Command → ShelfState → (List ℕ → List ℕ → List ℕ → Type 0) → Type 0
OfBytes command shelf P =
    (program : List ℕ) × (property : List ℕ) × (witness : List ℕ) × P program property witness
    × Told command shelf (λ told_program told_property told_witness. (program ≡ told_program) × (property ≡ told_property) × (witness ≡ told_witness))

-- the same of one file
abbrev pub OfOne : List ℕ → ShelfState → (List ℕ → Type 0) → Type 0
OfOne name shelf P = (bytes : List ℕ) × P bytes × ToldOne name shelf (λ told. bytes ≡ told)

-- why reading stopped
abbrev pub RightStop : Command → ShelfState → ShelfState → Stop → Type 0
RightStop command old new (Fault file) = FaultedAt command file old new
RightStop command old new (TooLong file) = TookTooMuchOf command file old new × Told command old (λ program property witness. first_too_long program property witness ≡ Some file)
RightStop command old new OutOfMemory = Unit {0}

-- why reading a witness alone stopped
abbrev pub RightStopAlone : List ℕ → ShelfState → ShelfState → Stop → Type 0
RightStopAlone name old new (Fault file) = (file ≡ Witness) × Faulted 1 name old new
RightStopAlone name old new (TooLong file) = (file ≡ Witness) × (TookTooMuch 1 name (limit_of Witness) old new × ToldOne name old (λ witness. too_long_alone witness ≡ Some Witness))
RightStopAlone name old new OutOfMemory = Unit {0}

-- why reading three files and a certificate stopped: at one of the three, or at the certificate
abbrev pub RightStopOfFour : Command → List ℕ → ShelfState → ShelfState → FourStop → Type 0
RightStopOfFour command name old new (four.Three stop) = RightStop command old new stop
RightStopOfFour command name old new (four.Certificate reading.Fault) = Faulted 4 name old new
RightStopOfFour command name old new (four.Certificate reading.TooLong) =
    TookTooMuch 4 name certificate_limit old new × Told command old (λ program property witness. first_too_long program property witness ≡ None)
    × ToldOne name old (λ certificate. nat_lt certificate_limit (length certificate) ≡ true)
RightStopOfFour command name old new (four.Certificate reading.OutOfMemory) = Unit {0}

-- none of them is longer than its limit
pub record AreWithin (inputs : Inputs) : Type 0 where
  pub program_within : length inputs.program.items ≤ limit_of Program
  pub property_within : length inputs.property.items ≤ limit_of Property
  pub witness_within : length inputs.witness.items ≤ limit_of Witness

-- the bytes of the three files
pub record AreInputs (inputs : Inputs) (program property witness : List ℕ) : Type 0 where
  pub program_read : inputs.program.items ≡ program
  pub property_read : inputs.property.items ≡ property
  pub witness_read : inputs.witness.items ≡ witness
