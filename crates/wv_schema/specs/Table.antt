-- The table of the schema: a row for each field, in the order in which fields are judged. Keys that no row names are passed
-- over. Witness format 2.0; that a file name may be absent, and which words and numbers stand, is this project's profile.
use Rattle.std.specs.Prelude.{ℕ, List, [], ◌∷◌, ◌++◌, Bool, true, false, codes}
use Rattle.wv_schema.specs.declared.witness.WayKind.{WayKind}
use Rattle.wv_schema.specs.declared.witness.WayKind.TheVariants.{Assumption, Target, FunctionEnter, FunctionReturn, Branching}

-- what a text has to be
pub data Rule : Type 0 where
  AnyText : Rule
  OneOf : List (List ℕ) → Rule
  -- the text `2.0`; another is a fault of its own
  TwoZero : Rule
  -- 1 to 7 digits, a number of at least 1
  Count : Rule
  -- the way of a branching: `true`, `false`, `default`, or an optional `-` and 1 to 20 digits
  AWay : Rule

-- what stands at a path
pub data Kind : Type 0 where
  AText : Rule → Kind
  AList : Kind
  AMap : Kind
  -- a list, each item a text; a map, each value a text
  Texts : Kind
  TextMap : Kind

-- a row: the keys of the maps above, the field's key, its kind, and whether it is needed
pub record Row : Type 0 where
  pub above : List (List ℕ)
  pub key : List ℕ
  pub kind : Kind
  pub is_needed : Bool

-- a field that must be there
abbrev pub needs : List ℕ → Kind → Row
needs key kind = record { above = []; key = key; kind = kind; is_needed = true }

-- a field that may be there
abbrev pub may_have : List ℕ → Kind → Row
may_have key kind = record { above = []; key = key; kind = kind; is_needed = false }

-- the same rows, below a key
abbrev pub below : List ℕ → Row → Row
below key row = record row { above = key ∷ row.above }

-- rows in the map of a key
abbrev pub within : List ℕ → List Row → List Row
within key [] = []
within key (row ∷ rows) = below key row ∷ within key rows

-- the values of `entry_type`
abbrev pub entry_types : List (List ℕ)
entry_types = codes "violation_sequence" ∷ codes "invariant_set" ∷ []

-- the values of a waypoint's `type`
abbrev pub waypoint_types : List (List ℕ)
waypoint_types =
    codes "assumption" ∷ codes "target" ∷ codes "function_enter" ∷ codes "function_return" ∷ codes "branching" ∷ []

-- the values of `action`
abbrev pub actions : List (List ℕ)
actions = codes "follow" ∷ codes "avoid" ∷ []

-- the values of an invariant's `type`
abbrev pub invariant_types : List (List ℕ)
invariant_types = codes "loop_invariant" ∷ codes "location_invariant" ∷ []

-- the values of `format`
abbrev pub formats : List (List ℕ)
formats = codes "c_expression" ∷ codes "acsl_expression" ∷ codes "ext_c_expression" ∷ []

-- the values of a branching waypoint's constraint that are words
abbrev pub ways : List (List ℕ)
ways = codes "true" ∷ codes "false" ∷ codes "default" ∷ []

-- a map that is needed, and the rows below it
abbrev pub in_map : List ℕ → List Row → List Row
in_map key rows = needs key AMap ∷ within key rows

-- a map that may be absent, and the rows below it
abbrev pub in_map_if : List ℕ → List Row → List Row
in_map_if key rows = may_have key AMap ∷ within key rows

-- the fields of `producer`
unfoldable pub producer_fields : List Row
producer_fields =
    needs (codes "name") (AText AnyText)
    ∷ needs (codes "version") (AText AnyText)
    ∷ []

-- the fields of `task`
unfoldable pub task_fields : List Row
task_fields =
    needs (codes "input_files") Texts
    ∷ needs (codes "input_file_hashes") TextMap
    ∷ needs (codes "specification") (AText AnyText)
    ∷ needs (codes "data_model") (AText AnyText)
    ∷ needs (codes "language") (AText AnyText)
    ∷ []

-- the fields of `metadata`
unfoldable pub metadata_fields : List Row
metadata_fields =
    needs (codes "format_version") (AText TwoZero)
    ∷ needs (codes "uuid") (AText AnyText)
    ∷ needs (codes "creation_time") (AText AnyText)
    ∷ (in_map (codes "producer") producer_fields ++ in_map (codes "task") task_fields)

-- of an entry
unfoldable pub entry_fields : List Row
entry_fields =
    needs (codes "entry_type") (AText (OneOf entry_types))
    ∷ (in_map (codes "metadata") metadata_fields ++ (needs (codes "content") AList ∷ []))

-- of an item of the content of a violation sequence
unfoldable pub segment_fields : List Row
segment_fields = needs (codes "segment") AList ∷ []

-- the fields of `location`
unfoldable pub location_fields : List Row
location_fields =
    may_have (codes "file_name") (AText AnyText)
    ∷ needs (codes "line") (AText Count)
    ∷ may_have (codes "column") (AText Count)
    ∷ may_have (codes "function") (AText AnyText)
    ∷ []

-- the fields of a constraint that is an expression
unfoldable pub expression_fields : List Row
expression_fields =
    needs (codes "value") (AText AnyText)
    ∷ may_have (codes "format") (AText (OneOf formats))
    ∷ []

-- the fields of a constraint that is a way
unfoldable pub way_fields : List Row
way_fields = needs (codes "value") (AText AWay) ∷ []

-- A constraint is needed for assumptions and branchings, may be absent for returns, and isn't read for the others. At a
-- branching its value is a way, and no format is read.
unfoldable pub constraint_rows : WayKind → List Row
constraint_rows Assumption = in_map (codes "constraint") expression_fields
constraint_rows Target = []
constraint_rows FunctionEnter = []
constraint_rows FunctionReturn = in_map_if (codes "constraint") expression_fields
constraint_rows Branching = in_map (codes "constraint") way_fields

-- of a waypoint of this type
unfoldable pub waypoint_fields : WayKind → List Row
waypoint_fields kind =
    needs (codes "type") (AText (OneOf waypoint_types))
    ∷ needs (codes "action") (AText (OneOf actions))
    ∷ (in_map (codes "location") location_fields ++ constraint_rows kind)

-- of an invariant
unfoldable pub invariant_fields : List Row
invariant_fields =
    needs (codes "type") (AText (OneOf invariant_types))
    ∷ (in_map (codes "location") location_fields ++ expression_fields)
