-- Worked texts and tasks.
use Rattle.std.specs.Prelude.{◌≡◌, ℕ, List, [], ◌∷◌, Some, None, Ok, Err, codes, refl}
use Rattle.c_core.specs.declared.number.DataModel.TheVariants.{Ilp32, Lp64}
use Rattle.c_core.specs.declared.number.Property.TheVariants.{UnreachCall, NoOverflow}
use Rattle.hex.specs.Hex.{decode_pairs, encode_with}
use Rattle.uuid.specs.Text.{by_index}
use Rattle.wv_schema.specs.declared.witness.Content.TheVariants.{Invariants}
use Rattle.wv_schema.specs.declared.witness.Entry.{Entry}
use Rattle.wv_schema.specs.declared.witness.FileHash.{FileHash}
use Rattle.wv_schema.specs.declared.witness.Metadata.{Metadata}
use Rattle.wv_task.specs.declared.fault.TaskFault.TheVariants.{Files, Hash, Specification, Language, Model, Uuid}
use Rattle.wv_task.specs.Tokens.{tokens}
use Rattle.wv_task.specs.PropertyText.{property_of, specification_of}
use Rattle.wv_task.specs.Task.{judged}

-- a word is as long as it can be; blanks part words and are free elsewhere
tokens_of_a_formula : tokens (codes "G ! call_it( )") ≡ codes "G" ∷ codes "!" ∷ codes "call_it" ∷ codes "(" ∷ codes ")" ∷ []
tokens_of_a_formula = refl

tokens_apart : tokens (codes " over flow ") ≡ codes "over" ∷ codes "flow" ∷ []
tokens_apart = refl

without_blanks : property_of (codes "CHECK(init(main()),LTL(G!call(reach_error())))") ≡ Some UnreachCall
without_blanks = refl

with_blanks : property_of (codes "  CHECK ( init ( main ( ) ) , LTL ( G ! overflow ) )  ") ≡ Some NoOverflow
with_blanks = refl

missing_token : property_of (codes "CHECK( init(main()), LTL(G ! overflow)") ≡ None
missing_token = refl

doubled_token : property_of (codes "CHECK( init(main()), LTL(G ! ! overflow) )") ≡ None
doubled_token = refl

formula_alone : property_of (codes "G ! overflow") ≡ None
formula_alone = refl

formula_stated : specification_of (codes "G ! call( reach_error( ) )") ≡ Some UnreachCall
formula_stated = refl

-- a task of a program whose digest is these two bytes
abbrev digest : List ℕ
digest = 171 ∷ 205 ∷ []

abbrev hash_of : List ℕ → List ℕ → FileHash
hash_of file hash = record { file = file; hash = hash }

abbrev good : Metadata
good = record {
  format_version = codes "2.0";
  uuid = codes "01234567-89ab-4cde-8f01-23456789abcd";
  creation_time = [];
  producer_name = [];
  producer_version = [];
  input_files = codes "p.c" ∷ [];
  input_hashes = hash_of (codes "p.c") (codes "abCD") ∷ [];
  specification = codes "G ! overflow";
  data_model = codes "ILP32";
  language = codes "C";
}

abbrev entry : Metadata → Entry
entry m = record { metadata = m; content = Invariants [] }

met : judged digest NoOverflow (entry good ∷ []) ≡ Ok Ilp32
unfolding decode_pairs by_index
met = refl

no_file : judged digest NoOverflow (entry (record good { input_files = [] }) ∷ []) ≡ Err Files
unfolding decode_pairs by_index
no_file = refl

another_file : judged digest NoOverflow (entry (record good { input_files = codes "q.c" ∷ [] }) ∷ []) ≡ Err Files
unfolding decode_pairs by_index
another_file = refl

wrong_hash : judged digest NoOverflow (entry (record good { input_hashes = hash_of (codes "p.c") (codes "abce") ∷ [] }) ∷ []) ≡ Err (Hash (codes "abce") (codes "abcd"))
unfolding decode_pairs encode_with by_index
wrong_hash = refl

long_hash : judged digest NoOverflow (entry (record good { input_hashes = hash_of (codes "p.c") (codes "abcd00") ∷ [] }) ∷ []) ≡ Err (Hash (codes "abcd00") (codes "abcd"))
unfolding decode_pairs encode_with by_index
long_hash = refl

another_property : judged digest UnreachCall (entry good ∷ []) ≡ Err Specification
unfolding decode_pairs by_index
another_property = refl

another_language : judged digest NoOverflow (entry (record good { language = codes "c" }) ∷ []) ≡ Err Language
unfolding decode_pairs by_index
another_language = refl

no_model : judged digest NoOverflow (entry (record good { data_model = codes "LLP64" }) ∷ []) ≡ Err Model
unfolding decode_pairs by_index
no_model = refl

no_uuid : judged digest NoOverflow (entry (record good { uuid = codes "1" }) ∷ []) ≡ Err Uuid
unfolding decode_pairs by_index
no_uuid = refl

-- of two rules the first in order, of two entries the first
language_before_model : judged digest NoOverflow (entry (record good { language = []; data_model = [] }) ∷ []) ≡ Err Language
unfolding decode_pairs by_index
language_before_model = refl

first_entry_first : judged digest NoOverflow (entry (record good { uuid = [] }) ∷ entry (record good { language = [] }) ∷ []) ≡ Err Uuid
unfolding decode_pairs by_index
first_entry_first = refl

second_model_differs : judged digest NoOverflow (entry good ∷ entry (record good { data_model = codes "LP64" }) ∷ []) ≡ Err Model
unfolding decode_pairs by_index
second_model_differs = refl
