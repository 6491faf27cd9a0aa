-- The rules that the task of each entry of a witness meets, in the order in which they are judged.
use Rattle.std.specs.Prelude.{◌≡◌, ℕ, Bool, true, false, ◌&&◌, List, [], ◌∷◌, Option, Some, None, is_some, Result, Ok, Err, ok_or, codes, bytes_eq, length, if◌then◌else◌}
use Rattle.std.specs.Result.{result_and}
use Rattle.c_core.specs.declared.number.DataModel.{DataModel}
use Rattle.c_core.specs.declared.number.DataModel.TheVariants.{Ilp32, Lp64}
use Rattle.c_core.specs.declared.number.Property.{Property}
use Rattle.c_core.specs.declared.number.Property.TheVariants.{UnreachCall, NoOverflow}
use Rattle.wv_schema.specs.declared.witness.Entry.{Entry}
use Rattle.wv_schema.specs.declared.witness.FileHash.{FileHash}
use Rattle.wv_schema.specs.declared.witness.Metadata.{Metadata}
use Rattle.hex.specs.Hex.{decode_sized, encode_lower}
use Rattle.hex.specs.declared.error.FromHexError.{FromHexError}
use Rattle.uuid.specs.Text.{parsed}
use Rattle.wv_task.specs.declared.fault.TaskFault.{TaskFault}
use Rattle.wv_task.specs.declared.fault.TaskFault.TheVariants.{Files, Hash, Specification, Language, Model, Uuid, OutOfMemory}
use Rattle.wv_task.specs.PropertyText.{specification_of}

-- there is one input file, and one hash, which is that file's
abbrev pub names_one_file : List (List ℕ) → List FileHash → Bool
names_one_file [] hashes = false
names_one_file (file ∷ other ∷ files) hashes = false
names_one_file (file ∷ []) [] = false
names_one_file (file ∷ []) (a ∷ b ∷ hashes) = false
names_one_file (file ∷ []) (hash ∷ []) = bytes_eq hash.file file

-- the hash of the one file
abbrev pub stated_hash : List FileHash → List ℕ
stated_hash [] = []
stated_hash (hash ∷ hashes) = hash.hash

-- hexadecimal digits stand for just these bytes
abbrev pub is_decoded : List ℕ → Result (List ℕ) FromHexError → Bool
is_decoded bytes (Ok decoded) = bytes_eq decoded bytes
is_decoded bytes (Err fault) = false

-- two hexadecimal digits of either case for each byte
abbrev pub spells : List ℕ → List ℕ → Bool
spells bytes text = is_decoded bytes (decode_sized text (length bytes))

-- a witness states this property, and no other
abbrev pub is_property : Property → Option Property → Bool
is_property property None = false
is_property UnreachCall (Some UnreachCall) = true
is_property NoOverflow (Some NoOverflow) = true
is_property UnreachCall (Some NoOverflow) = false
is_property NoOverflow (Some UnreachCall) = false

-- the data model by its word
abbrev pub model_of : List ℕ → Option DataModel
model_of text =
    if bytes_eq text (codes "ILP32") then Some Ilp32
    else if bytes_eq text (codes "LP64") then Some Lp64
    else None

-- each rule of one entry, and the refusal where it isn't met
abbrev pub rules : List ℕ → Property → List ℕ → Metadata → List (Bool × TaskFault)
rules digest property first_model m =
    (names_one_file m.input_files m.input_hashes, Files) ∷
    (spells digest (stated_hash m.input_hashes), Hash (stated_hash m.input_hashes) (encode_lower digest)) ∷
    (is_property property (specification_of m.specification), Specification) ∷
    (bytes_eq m.language (codes "C"), Language) ∷
    (is_some (model_of m.data_model) && bytes_eq m.data_model first_model, Model) ∷
    (is_some (parsed m.uuid), Uuid) ∷ []

-- nothing, or the refusal of the first rule that isn't met
abbrev pub all_met : List (Bool × TaskFault) → Result (Unit {0}) TaskFault
all_met [] = Ok tt
all_met (rule ∷ rest) = if rule.0 then all_met rest else Err rule.1

-- the same over all entries, in order
abbrev pub entries_met : List ℕ → Property → List ℕ → List Entry → Result (Unit {0}) TaskFault
entries_met digest property first_model [] = Ok tt
entries_met digest property first_model (e ∷ entries) =
    result_and (all_met (rules digest property first_model e.metadata)) (entries_met digest property first_model entries)

-- the data model that the first entry states; all others have to state the same text
abbrev pub first_model_of : List Entry → List ℕ
first_model_of [] = []
first_model_of (e ∷ entries) = e.metadata.data_model

-- the data model of a program with this digest, or the first refusal
abbrev pub judged : List ℕ → Property → List Entry → Result DataModel TaskFault
judged digest property entries =
    result_and (entries_met digest property (first_model_of entries) entries) (ok_or (model_of (first_model_of entries)) Model)

-- the answer is this one; only out of memory may stand in its place
abbrev pub Gives : {T : Type 0} → Result T TaskFault → Result T TaskFault → Type 0
Gives given (Ok x) = given ≡ Ok x
Gives given (Err OutOfMemory) = Unit {0}
Gives given (Err Files) = given ≡ Err Files
Gives given (Err (Hash stated found)) = given ≡ Err (Hash stated found)
Gives given (Err Specification) = given ≡ Err Specification
Gives given (Err Language) = given ≡ Err Language
Gives given (Err Model) = given ≡ Err Model
Gives given (Err Uuid) = given ≡ Err Uuid
