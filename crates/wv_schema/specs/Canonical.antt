-- The tree of a witness: the fields in the schema's order, absent ones left out.
use Rattle.std.specs.Prelude.{ℕ, List, [], ◌∷◌, ◌++◌, map, Option, Some, None, codes, decimal}
use Rattle.wv_yaml.specs.declared.tree.Tree.{Tree}
use Rattle.wv_yaml.specs.declared.tree.Tree.TheVariants.{Text, List as AList, Map}
use Rattle.wv_yaml.specs.declared.tree.Pair.{Pair}
use Rattle.wv_schema.specs.declared.witness.WayKind.{WayKind}
use Rattle.wv_schema.specs.declared.witness.WayKind.TheVariants.{Assumption, Target, FunctionEnter, FunctionReturn, Branching}
use Rattle.wv_schema.specs.declared.witness.InvariantKind.{InvariantKind}
use Rattle.wv_schema.specs.declared.witness.InvariantKind.TheVariants.{Loop, Location as LocationInvariant}
use Rattle.wv_schema.specs.declared.witness.Location.{Location}
use Rattle.wv_schema.specs.declared.witness.Constraint.{Constraint}
use Rattle.wv_schema.specs.declared.witness.Waypoint.{Waypoint}
use Rattle.wv_schema.specs.declared.witness.Segment.{Segment}
use Rattle.wv_schema.specs.declared.witness.Invariant.{Invariant}
use Rattle.wv_schema.specs.declared.witness.FileHash.{FileHash}
use Rattle.wv_schema.specs.declared.witness.Metadata.{Metadata}
use Rattle.wv_schema.specs.declared.witness.Content.{Content}
use Rattle.wv_schema.specs.declared.witness.Content.TheVariants.{Violation, Invariants}
use Rattle.wv_schema.specs.declared.witness.Entry.{Entry}
use Rattle.wv_schema.specs.declared.witness.Witness.{Witness}

abbrev pub pair : List ℕ → Tree → Pair
pair key value = record { key = key; value = value }

abbrev pub text_pair : List ℕ → List ℕ → Pair
text_pair key text = pair key (Text text)

-- a pair, where there is a value
abbrev pub texts_if : List ℕ → Option (List ℕ) → List Pair
texts_if key None = []
texts_if key (Some text) = text_pair key text ∷ []

abbrev pub counts_if : List ℕ → Option ℕ → List Pair
counts_if key None = []
counts_if key (Some n) = text_pair key (decimal n) ∷ []

unfoldable pub location_pairs : Location → List Pair
location_pairs v =
    texts_if (codes "file_name") v.file_name
    ++ (text_pair (codes "line") (decimal v.line)
    ∷ (counts_if (codes "column") v.column ++ texts_if (codes "function") v.function))

-- the type of a waypoint as it is written
abbrev pub way_word : WayKind → List ℕ
way_word Assumption = codes "assumption"
way_word Target = codes "target"
way_word FunctionEnter = codes "function_enter"
way_word FunctionReturn = codes "function_return"
way_word Branching = codes "branching"

-- the value of an expression, and its format
unfoldable pub expression_pairs : List ℕ → Option (List ℕ) → List Pair
expression_pairs value format = text_pair (codes "value") value ∷ texts_if (codes "format") format

unfoldable pub constraint_pairs : Constraint → List Pair
constraint_pairs v = expression_pairs v.value v.format

abbrev pub constraints_if : Option Constraint → List Pair
constraints_if None = []
constraints_if (Some v) = pair (codes "constraint") (Map (constraint_pairs v)) ∷ []

-- a waypoint with its action, as an item of a segment
unfoldable pub step_tree : List ℕ → Waypoint → Tree
step_tree action v =
    Map (pair (codes "waypoint")
    (Map (text_pair (codes "type") (way_word v.kind)
    ∷ text_pair (codes "action") action
    ∷ pair (codes "location") (Map (location_pairs v.location))
    ∷ constraints_if v.constraint))
    ∷ [])

unfoldable pub segment_tree : Segment → Tree
segment_tree v =
    Map (pair (codes "segment")
    (AList (map (step_tree (codes "avoid")) v.avoids ++ (step_tree (codes "follow") v.follow ∷ [])))
    ∷ [])

-- the type of an invariant as it is written
abbrev pub invariant_word : InvariantKind → List ℕ
invariant_word Loop = codes "loop_invariant"
invariant_word LocationInvariant = codes "location_invariant"

unfoldable pub invariant_tree : Invariant → Tree
invariant_tree v =
    Map (pair (codes "invariant")
    (Map (text_pair (codes "type") (invariant_word v.kind)
    ∷ pair (codes "location") (Map (location_pairs v.location))
    ∷ expression_pairs v.value v.format))
    ∷ [])

abbrev pub hash_pair : FileHash → Pair
hash_pair v = text_pair v.file v.hash

unfoldable pub producer_tree : Metadata → Tree
producer_tree v = Map (text_pair (codes "name") v.producer_name ∷ text_pair (codes "version") v.producer_version ∷ [])

unfoldable pub task_tree : Metadata → Tree
task_tree v =
    Map (pair (codes "input_files") (AList (map Text v.input_files))
    ∷ pair (codes "input_file_hashes") (Map (map hash_pair v.input_hashes))
    ∷ text_pair (codes "specification") v.specification
    ∷ text_pair (codes "data_model") v.data_model
    ∷ text_pair (codes "language") v.language
    ∷ [])

unfoldable pub metadata_tree : Metadata → Tree
metadata_tree v =
    Map (text_pair (codes "format_version") v.format_version
    ∷ text_pair (codes "uuid") v.uuid
    ∷ text_pair (codes "creation_time") v.creation_time
    ∷ pair (codes "producer") (producer_tree v)
    ∷ pair (codes "task") (task_tree v)
    ∷ [])

-- the type of an entry as it is written
abbrev pub content_word : Content → List ℕ
content_word (Violation segments) = codes "violation_sequence"
content_word (Invariants invariants) = codes "invariant_set"

abbrev pub content_tree : Content → Tree
content_tree (Violation segments) = AList (map segment_tree segments)
content_tree (Invariants invariants) = AList (map invariant_tree invariants)

unfoldable pub entry_tree : Entry → Tree
entry_tree v =
    Map (text_pair (codes "entry_type") (content_word v.content)
    ∷ pair (codes "metadata") (metadata_tree v.metadata)
    ∷ pair (codes "content") (content_tree v.content)
    ∷ [])

unfoldable pub tree_of : Witness → Tree
tree_of v = AList (map entry_tree v.entries)
