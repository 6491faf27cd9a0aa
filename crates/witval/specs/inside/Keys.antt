-- Keys that may be written: the files whose hashes a witness states have names of at most this many characters.
use Rattle.std.specs.Prelude.{◌≤◌, length}
use Rattle.std.specs.List.{AllByRecursion}
use Rattle.std.specs.Str.{chars}
use Rattle.wv_schema.specs.declared.witness.Entry.{Entry}
use Rattle.wv_schema.specs.declared.witness.FileHash.{FileHash}
use Rattle.wv_schema.specs.declared.witness.Witness.{Witness}
use Rattle.yaml_scalars.specs.Tokens.{max_key}

-- the name of the file may be a key
abbrev pub IsShort : FileHash → Type 0
IsShort hash = length (chars hash.file) ≤ max_key

-- the same of each file of an entry
abbrev pub AreShort : Entry → Type 0
AreShort entry = AllByRecursion IsShort entry.metadata.input_hashes

-- and of each entry of a witness
abbrev pub HasShortKeys : Witness → Type 0
HasShortKeys witness = AllByRecursion AreShort witness.entries
