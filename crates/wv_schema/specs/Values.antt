-- The values of a witness: each field is what stands at its path.
use Rattle.std.specs.Prelude.{ℕ, ◌-◌, List, [], length, take, slice_index_or, map, Bool, true, false, Option, Some, None, option_map, unwrap_or, if◌then◌else◌, codes}
use Rattle.std.specs.Str.{bytes_eq}
use Rattle.std.specs.Str.Parse.{digits_value}
use Rattle.wv_yaml.specs.declared.tree.Tree.{Tree}
use Rattle.wv_yaml.specs.declared.tree.Tree.TheVariants.{Text}
use Rattle.wv_yaml.specs.declared.tree.Pair.{Pair}
use Rattle.wv_schema.specs.declared.witness.WayKind.{WayKind}
use Rattle.wv_schema.specs.declared.witness.WayKind.TheVariants.{Assumption, Target, FunctionEnter, FunctionReturn, Branching}
use Rattle.wv_schema.specs.declared.witness.InvariantKind.{InvariantKind}
use Rattle.wv_schema.specs.declared.witness.InvariantKind.TheVariants.{Loop, Location as LocationInvariant}
use Rattle.wv_schema.specs.declared.witness.Location.{Location}
use Rattle.wv_schema.specs.declared.witness.Constraint.{Constraint}
use Rattle.wv_schema.specs.declared.witness.Waypoint.{Waypoint}
use Rattle.wv_schema.specs.declared.witness.Segment.{Segment}
use Rattle.wv_schema.specs.declared.witness.Invariant.{Invariant}
use Rattle.wv_schema.specs.declared.witness.FileHash.{FileHash}
use Rattle.wv_schema.specs.declared.witness.Metadata.{Metadata}
use Rattle.wv_schema.specs.declared.witness.Content.{Content}
use Rattle.wv_schema.specs.declared.witness.Content.TheVariants.{Violation, Invariants}
use Rattle.wv_schema.specs.declared.witness.Entry.{Entry}
use Rattle.wv_schema.specs.declared.witness.Witness.{Witness}
use Rattle.wv_schema.specs.Paths.{text_in, items_in, pairs_in, map_of, Found, Nowhere, Lacking, There, found}

abbrev pub tree_found : Found → Option Tree
tree_found Nowhere = None
tree_found Lacking = None
tree_found (There t) = Some t

-- the text that was found, if a text was
abbrev pub text_found : Found → Option (List ℕ)
text_found Nowhere = None
text_found Lacking = None
text_found (There t) = text_in t

-- the items that were found, none where no list was
abbrev pub items_found : Found → List Tree
items_found Nowhere = []
items_found Lacking = []
items_found (There t) = unwrap_or (items_in t) []

abbrev pub pairs_found : Found → List Pair
pairs_found Nowhere = []
pairs_found Lacking = []
pairs_found (There t) = unwrap_or (pairs_in t) []

-- the text at a key of a map, if there is one; where it is needed
unfoldable pub text_if : List ℕ → List Pair → Option (List ℕ)
text_if key ps = text_found (found [] key ps)

-- the text of a key, empty where there is none
unfoldable pub text_at : List ℕ → List Pair → List ℕ
text_at key ps = unwrap_or (text_found (found [] key ps)) []

-- the list of a key, empty where there is none
unfoldable pub list_at : List ℕ → List Pair → List Tree
list_at key ps = items_found (found [] key ps)

-- the map of a key, empty where there is none
unfoldable pub map_at : List ℕ → List Pair → List Pair
map_at key ps = unwrap_or (map_of key ps) []

-- the pairs of a map, none where it is no map
unfoldable pub all_pairs : Tree → List Pair
all_pairs t = unwrap_or (pairs_in t) []

-- a text, empty where it is none
abbrev pub text_or_empty : Tree → List ℕ
text_or_empty t = unwrap_or (text_in t) []

-- a pair as the hash of a file
abbrev pub hash_in : Pair → FileHash
hash_in p = record { file = p.key; hash = text_or_empty p.value }

-- the fields of `metadata`
unfoldable pub metadata_in : List Pair → Metadata
metadata_in ps = record {
  format_version = text_at (codes "format_version") ps;
  uuid = text_at (codes "uuid") ps;
  creation_time = text_at (codes "creation_time") ps;
  producer_name = text_at (codes "name") (map_at (codes "producer") ps);
  producer_version = text_at (codes "version") (map_at (codes "producer") ps);
  input_files = map text_or_empty (list_at (codes "input_files") (map_at (codes "task") ps));
  input_hashes = map hash_in (map_at (codes "input_file_hashes") (map_at (codes "task") ps));
  specification = text_at (codes "specification") (map_at (codes "task") ps);
  data_model = text_at (codes "data_model") (map_at (codes "task") ps);
  language = text_at (codes "language") (map_at (codes "task") ps);
}

-- the number that digits spell
unfoldable pub count_of : List ℕ → ℕ
count_of text = digits_value 10 text

-- the fields of `location`; columns may be absent
unfoldable pub location_in : List Pair → Location
location_in ps = record {
  file_name = text_if (codes "file_name") ps;
  line = count_of (text_at (codes "line") ps);
  column = option_map count_of (text_if (codes "column") ps);
  function = text_if (codes "function") ps;
}

-- the type that a word writes
unfoldable pub way_kind : List ℕ → WayKind
way_kind text =
    if bytes_eq text (codes "assumption") then Assumption
    else (if bytes_eq text (codes "target") then Target
    else (if bytes_eq text (codes "function_enter") then FunctionEnter
    else (if bytes_eq text (codes "function_return") then FunctionReturn else Branching)))

-- a constraint by its fields
unfoldable pub constraint_in : List Pair → Constraint
constraint_in ps = record { value = text_at (codes "value") ps; format = text_if (codes "format") ps }

-- a constraint that is a way
unfoldable pub way_in : List Pair → Constraint
way_in ps = record { value = text_at (codes "value") ps; format = None }

-- the constraint that a waypoint of this type has
unfoldable pub constraint_of : WayKind → List Pair → Option Constraint
constraint_of Assumption ps = Some (constraint_in (map_at (codes "constraint") ps))
constraint_of Target ps = None
constraint_of FunctionEnter ps = None
constraint_of FunctionReturn ps = option_map constraint_in (map_of (codes "constraint") ps)
constraint_of Branching ps = Some (way_in (map_at (codes "constraint") ps))

-- the type of a waypoint by its fields
unfoldable pub kind_at : List Pair → WayKind
kind_at ps = way_kind (text_at (codes "type") ps)

-- a waypoint by its fields
unfoldable pub waypoint_in : List Pair → Waypoint
waypoint_in ps = record {
  kind = kind_at ps;
  location = location_in (map_at (codes "location") ps);
  constraint = constraint_of (kind_at ps) ps;
}

-- an item of a segment
unfoldable pub waypoint_pairs : Tree → List Pair
waypoint_pairs t = map_at (codes "waypoint") (all_pairs t)

-- the waypoint of an item
unfoldable pub step_in : Tree → Waypoint
step_in t = waypoint_in (waypoint_pairs t)

-- all trees but the last, and the last
abbrev pub front : List Tree → List Tree
front ts = take (length ts - 1) ts

-- the last of a segment's items
abbrev pub last : List Tree → Tree
last ts = slice_index_or ts (length ts - 1) (Text [])

-- an item of the content of a violation sequence
unfoldable pub steps_in : Tree → List Tree
steps_in t = list_at (codes "segment") (all_pairs t)

-- a segment has a waypoint, else its shape is refused
unfoldable pub segment_of : List Tree → Segment
segment_of ts = record { avoids = map step_in (front ts); follow = step_in (last ts) }

-- the segment of an item
unfoldable pub segment_in : Tree → Segment
segment_in t = segment_of (steps_in t)

-- the type that a word writes
unfoldable pub invariant_kind : List ℕ → InvariantKind
invariant_kind text = if bytes_eq text (codes "loop_invariant") then Loop else LocationInvariant

-- an invariant by its fields
unfoldable pub invariant_in : List Pair → Invariant
invariant_in ps = record {
  kind = invariant_kind (text_at (codes "type") ps);
  location = location_in (map_at (codes "location") ps);
  value = text_at (codes "value") ps;
  format = text_if (codes "format") ps;
}

-- an item of the content of an invariant set
unfoldable pub claim_in : Tree → Invariant
claim_in t = invariant_in (map_at (codes "invariant") (all_pairs t))

-- the entry is a violation sequence
unfoldable pub is_violation : List Pair → Bool
is_violation ps = bytes_eq (text_at (codes "entry_type") ps) (codes "violation_sequence")

-- the content by its type
abbrev pub content_by : Bool → List Tree → Content
content_by true ts = Violation (map segment_in ts)
content_by false ts = Invariants (map claim_in ts)

-- an entry by its fields
unfoldable pub entry_by : List Pair → Entry
entry_by ps = record {
  metadata = metadata_in (map_at (codes "metadata") ps);
  content = content_by (is_violation ps) (list_at (codes "content") ps);
}

-- the entry of an item
unfoldable pub entry_in : Tree → Entry
entry_in t = entry_by (all_pairs t)

-- the items of a list, none where it is no list
abbrev pub all_items : Tree → List Tree
all_items t = unwrap_or (items_in t) []

-- the witness of a tree
unfoldable pub witness_in : Tree → Witness
witness_in t = record { entries = map entry_in (all_items t) }
