-- What witnesses say of themselves, and the witnesses about a demo's two programs.
use Rattle.std.specs.Prelude.{ℕ, ◌+◌, ◌-◌, ◌*◌, List, [], ◌∷◌, ◌++◌, Some, None, codes, decimal}
use Rattle.hex.specs.Hex.{encode_lower}
use Rattle.sha2.specs.Sha256.{sha256}
use Rattle.c_core.specs.declared.number.DataModel.{DataModel}
use Rattle.c_core.specs.declared.number.DataModel.TheVariants.{Ilp32, Lp64}
use Rattle.c_core.specs.declared.number.Property.{Property}
use Rattle.c_core.specs.declared.number.Property.TheVariants.{UnreachCall, NoOverflow}
use Rattle.wv_schema.specs.declared.witness.Content.{Content}
use Rattle.wv_schema.specs.declared.witness.Content.TheVariants.{Violation, Invariants}
use Rattle.wv_schema.specs.declared.witness.FileHash.{FileHash}
use Rattle.wv_schema.specs.declared.witness.Invariant.{Invariant}
use Rattle.wv_schema.specs.declared.witness.InvariantKind.TheVariants.{Loop}
use Rattle.wv_schema.specs.declared.witness.Location.{Location}
use Rattle.wv_schema.specs.declared.witness.Metadata.{Metadata}
use Rattle.wv_schema.specs.declared.witness.Segment.{Segment}
use Rattle.wv_schema.specs.declared.witness.WayKind.TheVariants.{Target, FunctionReturn}
use Rattle.wv_schema.specs.declared.witness.Witness.{Witness}
use Rattle.wv_author.specs.Authored.{following}
use Rattle.wv_author.specs.Sequence.{bounds, loop_count}
use Rattle.wv_author.specs.declared.witnesses.Details.{Details}

-- ---- what a witness says of itself

-- the SHA-256 of a program, in lower case
abbrev pub hash_of : List ℕ → List ℕ
hash_of program = encode_lower (sha256 program)

-- a file with the hash of its bytes
abbrev pub file_hash : List ℕ → List ℕ → FileHash
file_hash file program = record { file = file; hash = hash_of program }

-- the formula of a property, as a specification states it
abbrev pub formula_of : Property → List ℕ
formula_of UnreachCall = codes "G ! call(reach_error())"
formula_of NoOverflow = codes "G ! overflow"

-- the name of a data model
abbrev pub model_name : DataModel → List ℕ
model_name Ilp32 = codes "ILP32"
model_name Lp64 = codes "LP64"

-- what a witness about a program of one file says of itself, with the hash of the file's bytes
abbrev pub metadata_of : Details → List ℕ → Metadata
metadata_of d program = record {
  format_version = codes "2.0";
  uuid = d.uuid;
  creation_time = d.creation_time;
  producer_name = d.producer;
  producer_version = codes "1";
  input_files = d.file ∷ [];
  input_hashes = file_hash d.file program ∷ [];
  specification = formula_of d.property;
  data_model = model_name d.model;
  language = codes "C";
}

-- the witness with this one claim about a program
abbrev pub witness_about : Details → List ℕ → Content → Witness
witness_about d program content = record { entries = record { metadata = metadata_of d program; content = content } ∷ [] }

-- the witnesses of a demo are about the one program `p.c`: it reaches no error, where the model is ILP32
abbrev pub demo_details : Details
demo_details = record {
  uuid = codes "01234567-89ab-4cde-8f01-23456789abcd";
  creation_time = codes "2024-04-10T12:00:00Z";
  producer = codes "hand";
  file = codes "p.c";
  property = UnreachCall;
  model = Ilp32;
}

-- what a demo's witness says of itself
abbrev pub metadata : List ℕ → Metadata
metadata program = metadata_of demo_details program

-- a demo's witness with this one claim
abbrev pub witness : List ℕ → Content → Witness
witness program content = witness_about demo_details program content

-- a line and a column
abbrev pub at : ℕ → ℕ → Location
at line column = record { file_name = None; line = line; column = Some column; function = None }

-- ---- invariants

-- the text `0 <= xk && xk <= b`
unfoldable pub range_text : ℕ → ℕ → List ℕ
range_text k b = codes "0 <= x" ++ decimal k ++ codes " && x" ++ decimal k ++ codes " <= " ++ decimal b

-- the k-th loop stands on line 7k - 2, and its variable stays between 0 and the bound
abbrev pub range : ℕ → ℕ → Invariant
range k b = record { kind = Loop; location = at (7 * k - 2) 3; value = range_text k b; format = Some (codes "c_expression") }

-- one for each loop, the first of which is the k-th
abbrev pub ranges : ℕ → List ℕ → List Invariant
ranges k [] = []
ranges k (b ∷ bs) = range k b ∷ ranges (k + 1) bs

-- the witness about the correct program of n, whose text is given
abbrev pub invariants : ℕ → List ℕ → Witness
invariants n program = witness program (Invariants (ranges 1 (bounds n loop_count)))

-- ---- a violation

-- the text `\result == n`
abbrev pub result_text : ℕ → List ℕ
result_text n = codes "\\result == " ++ decimal n

-- the input on line 284 gives n
abbrev pub drawn : ℕ → Segment
drawn n = following FunctionReturn (at 284 33) (Some (record { value = result_text n; format = Some (codes "c_expression") }))

-- the call of line 286
abbrev pub reached : Segment
reached = following Target (at 286 5) None

-- the witness about the faulty program of n, whose text is given
abbrev pub violation : ℕ → List ℕ → Witness
violation n program = witness program (Violation (drawn n ∷ reached ∷ []))
