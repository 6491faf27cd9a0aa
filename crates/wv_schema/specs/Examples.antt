-- Worked examples: the paths of the table in their order, and what is said of small trees.
use Rattle.std.specs.Prelude.{◌≡◌, ℕ, List, [], ◌∷◌, Option, Some, None, refl, codes}
use Rattle.wv_yaml.specs.declared.tree.Tree.TheVariants.{List as AList, Map}
use Rattle.wv_yaml.specs.declared.tree.Pair.{Pair}
use Rattle.wv_schema.specs.declared.fault.SchemaFault.{SchemaFault}
use Rattle.wv_schema.specs.declared.fault.SchemaFault.TheVariants.{Missing, WrongKind, BadValue, Version}
use Rattle.wv_schema.specs.declared.witness.WayKind.TheVariants.{Assumption, Target, FunctionEnter, FunctionReturn, Branching}
use Rattle.wv_schema.specs.Paths.{map_of, place_below}
use Rattle.wv_schema.specs.Table.{Row, producer_fields, task_fields, metadata_fields, entry_fields, segment_fields, location_fields, expression_fields, way_fields, constraint_rows, waypoint_fields, invariant_fields}
use Rattle.wv_schema.specs.Judging.{is_count, meets, broken, row_fault, first_fault, is_integer}
use Rattle.wv_schema.specs.Canonical.{pair, text_pair}

-- the paths of these rows
abbrev paths : List ℕ → List Row → List (List ℕ)
paths at [] = []
paths at (row ∷ rows) = place_below at row.above row.key ∷ paths at rows

pub entry_paths : paths (codes "[0]") entry_fields ≡
    codes "[0].entry_type"
    ∷ codes "[0].metadata"
    ∷ codes "[0].metadata.format_version"
    ∷ codes "[0].metadata.uuid"
    ∷ codes "[0].metadata.creation_time"
    ∷ codes "[0].metadata.producer"
    ∷ codes "[0].metadata.producer.name"
    ∷ codes "[0].metadata.producer.version"
    ∷ codes "[0].metadata.task"
    ∷ codes "[0].metadata.task.input_files"
    ∷ codes "[0].metadata.task.input_file_hashes"
    ∷ codes "[0].metadata.task.specification"
    ∷ codes "[0].metadata.task.data_model"
    ∷ codes "[0].metadata.task.language"
    ∷ codes "[0].content"
    ∷ []
unfolding entry_fields metadata_fields producer_fields task_fields
entry_paths = refl

pub segment_paths : paths (codes "[0].content[1]") segment_fields ≡ codes "[0].content[1].segment" ∷ []
unfolding segment_fields
segment_paths = refl

pub assumption_paths : paths (codes "w") (waypoint_fields Assumption) ≡
    codes "w.type"
    ∷ codes "w.action"
    ∷ codes "w.location"
    ∷ codes "w.location.file_name"
    ∷ codes "w.location.line"
    ∷ codes "w.location.column"
    ∷ codes "w.location.function"
    ∷ codes "w.constraint"
    ∷ codes "w.constraint.value"
    ∷ codes "w.constraint.format"
    ∷ []
unfolding waypoint_fields location_fields constraint_rows expression_fields
assumption_paths = refl

pub return_paths : paths (codes "w") (constraint_rows FunctionReturn) ≡ codes "w.constraint" ∷ codes "w.constraint.value" ∷ codes "w.constraint.format" ∷ []
unfolding constraint_rows expression_fields
return_paths = refl

pub branching_paths : paths (codes "w") (constraint_rows Branching) ≡ codes "w.constraint" ∷ codes "w.constraint.value" ∷ []
unfolding constraint_rows way_fields
branching_paths = refl

pub target_paths : paths (codes "w") (constraint_rows Target) ≡ []
unfolding constraint_rows
target_paths = refl

pub enter_paths : paths (codes "w") (constraint_rows FunctionEnter) ≡ []
unfolding constraint_rows
enter_paths = refl

pub invariant_paths : paths (codes "v") invariant_fields ≡
    codes "v.type"
    ∷ codes "v.location"
    ∷ codes "v.location.file_name"
    ∷ codes "v.location.line"
    ∷ codes "v.location.column"
    ∷ codes "v.location.function"
    ∷ codes "v.value"
    ∷ codes "v.format"
    ∷ []
unfolding invariant_fields location_fields expression_fields
invariant_paths = refl

-- what is said of a location
abbrev located : List Pair → Option SchemaFault
located ps = first_fault (codes "l") ps location_fields

abbrev line : List ℕ → Pair
line text = text_pair (codes "line") text

pub no_line : located [] ≡ Some (Missing (codes "l.line"))
unfolding first_fault row_fault location_fields meets broken is_count
no_line = refl

pub line_is_list : located (pair (codes "line") (AList []) ∷ []) ≡ Some (WrongKind (codes "l.line"))
unfolding first_fault row_fault location_fields meets broken is_count
line_is_list = refl

pub line_is_zero : located (line (codes "0") ∷ []) ≡ Some (BadValue (codes "l.line"))
unfolding first_fault row_fault location_fields meets broken is_count
line_is_zero = refl

pub line_is_empty : located (line [] ∷ []) ≡ Some (BadValue (codes "l.line"))
unfolding first_fault row_fault location_fields meets broken is_count
line_is_empty = refl

pub line_is_signed : located (line (codes "+4") ∷ []) ≡ Some (BadValue (codes "l.line"))
unfolding first_fault row_fault location_fields meets broken is_count
line_is_signed = refl

pub line_has_eight_digits : located (line (codes "00000004") ∷ []) ≡ Some (BadValue (codes "l.line"))
unfolding first_fault row_fault location_fields meets broken is_count
line_has_eight_digits = refl

pub line_has_seven_digits : located (line (codes "0000004") ∷ []) ≡ None
unfolding first_fault row_fault location_fields meets broken is_count
line_has_seven_digits = refl

-- the file name is judged before the line, the function after the column; an unknown key is passed over
pub file_name_first : located (pair (codes "file_name") (Map []) ∷ []) ≡ Some (WrongKind (codes "l.file_name"))
unfolding first_fault row_fault location_fields meets broken is_count
file_name_first = refl

pub column_is_word : located (pair (codes "function") (AList []) ∷ text_pair (codes "column") (codes "x") ∷ line (codes "4") ∷ []) ≡ Some (BadValue (codes "l.column"))
unfolding first_fault row_fault location_fields meets broken is_count
column_is_word = refl

pub function_is_list : located (pair (codes "function") (AList []) ∷ line (codes "4") ∷ []) ≡ Some (WrongKind (codes "l.function"))
unfolding first_fault row_fault location_fields meets broken is_count
function_is_list = refl

pub unknown_key : located (pair (codes "offset") (AList []) ∷ line (codes "4") ∷ []) ≡ None
unfolding first_fault row_fault location_fields meets broken is_count
unknown_key = refl

-- formats, versions and ways
pub format_is_word : first_fault (codes "c") (text_pair (codes "value") [] ∷ text_pair (codes "format") (codes "x") ∷ []) expression_fields ≡ Some (BadValue (codes "c.format"))
unfolding first_fault row_fault expression_fields meets broken
format_is_word = refl

pub format_is_known : first_fault (codes "c") (text_pair (codes "value") [] ∷ text_pair (codes "format") (codes "ext_c_expression") ∷ []) expression_fields ≡ None
unfolding first_fault row_fault expression_fields meets broken
format_is_known = refl

pub way_is_word : first_fault (codes "c") (text_pair (codes "value") (codes "yes") ∷ []) way_fields ≡ Some (BadValue (codes "c.value"))
unfolding first_fault row_fault way_fields meets broken is_integer
way_is_word = refl

abbrev way : List ℕ → Option SchemaFault
way text = first_fault (codes "c") (text_pair (codes "value") text ∷ []) way_fields

pub way_is_default : way (codes "default") ≡ None
unfolding first_fault row_fault way_fields meets broken
way_is_default = refl

pub way_is_negative : way (codes "-12") ≡ None
unfolding first_fault row_fault way_fields meets broken is_integer
way_is_negative = refl

pub way_has_a_plus : way (codes "+1") ≡ Some (BadValue (codes "c.value"))
unfolding first_fault row_fault way_fields meets broken is_integer
way_has_a_plus = refl

pub way_is_a_sign : way (codes "-") ≡ Some (BadValue (codes "c.value"))
unfolding first_fault row_fault way_fields meets broken is_integer
way_is_a_sign = refl

pub way_has_20_digits : way (codes "-00000000000000000001") ≡ None
unfolding first_fault row_fault way_fields meets broken is_integer
way_has_20_digits = refl

pub way_has_21_digits : way (codes "000000000000000000001") ≡ Some (BadValue (codes "c.value"))
unfolding first_fault row_fault way_fields meets broken is_integer
way_has_21_digits = refl

pub other_version : first_fault (codes "m") (text_pair (codes "format_version") (codes "2.1") ∷ []) metadata_fields ≡ Some Version
unfolding first_fault row_fault metadata_fields meets broken
other_version = refl

-- an absent constraint, where it is needed and where it isn't
pub constraint_needed : first_fault (codes "w") [] (constraint_rows Assumption) ≡ Some (Missing (codes "w.constraint"))
unfolding first_fault row_fault map_of constraint_rows expression_fields
constraint_needed = refl

pub constraint_absent : first_fault (codes "w") [] (constraint_rows FunctionReturn) ≡ None
unfolding first_fault row_fault map_of constraint_rows expression_fields
constraint_absent = refl

pub constraint_unread : first_fault (codes "w") (text_pair (codes "constraint") [] ∷ []) (constraint_rows Target) ≡ None
unfolding first_fault constraint_rows
constraint_unread = refl

pub constraint_is_text : first_fault (codes "w") (text_pair (codes "constraint") [] ∷ []) (constraint_rows FunctionReturn) ≡ Some (WrongKind (codes "w.constraint"))
unfolding first_fault row_fault map_of constraint_rows expression_fields
constraint_is_text = refl
