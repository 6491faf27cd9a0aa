-- The witness of a tree, or the first rule of the schema that isn't met.
use Rattle.std.specs.Prelude.{◌≡◌, ℕ, List, [], Bool, true, false, map, Option, Some, None, Result, Ok, Err, codes}
use Rattle.std.specs.Option.{option_or}
use Rattle.wv_yaml.specs.declared.tree.Tree.{Tree}
use Rattle.wv_yaml.specs.declared.tree.Pair.{Pair}
use Rattle.wv_schema.specs.declared.fault.SchemaFault.{SchemaFault}
use Rattle.wv_schema.specs.declared.fault.SchemaFault.TheVariants.{Missing, WrongKind, BadValue, Version, Shape, Entries, OutOfMemory}
use Rattle.wv_schema.specs.declared.witness.Witness.{Witness}
use Rattle.wv_schema.specs.Paths.{items_in, pairs_in, key_place}
use Rattle.wv_schema.specs.Table.{Row, in_map, entry_fields, segment_fields, waypoint_fields, invariant_fields}
use Rattle.wv_schema.specs.Judging.{rows_fault, items_fault}
use Rattle.wv_schema.specs.Values.{list_at, map_at, all_pairs, kind_at, steps_in, is_violation, entry_in, witness_in}
use Rattle.wv_schema.specs.Shapes.{shape_fault, entries_fault}

-- an item of a segment; the type of its waypoint says which constraint is read
unfoldable pub step_rows : List Pair → List Row
step_rows ps = in_map (codes "waypoint") (waypoint_fields (kind_at (map_at (codes "waypoint") ps)))

-- the first rule that a waypoint in its list breaks
unfoldable pub step_fault : List ℕ → Tree → Option SchemaFault
step_fault at t = rows_fault at step_rows (pairs_in t)

-- the first rule that a segment breaks: its own fields, then its waypoints
unfoldable pub segment_fault : List ℕ → Tree → Option SchemaFault
segment_fault at t =
    option_or (rows_fault at (λ ps. segment_fields) (pairs_in t)) (items_fault step_fault (key_place at (codes "segment")) 0 (steps_in t))

-- the first rule that an invariant breaks
unfoldable pub claim_fault : List ℕ → Tree → Option SchemaFault
claim_fault at t = rows_fault at (λ ps. in_map (codes "invariant") invariant_fields) (pairs_in t)

-- the fields of the content's items, and then the form of the segments
unfoldable pub content_fault : List ℕ → Bool → List Tree → Option SchemaFault
content_fault at true ts = option_or (items_fault segment_fault at 0 ts) (shape_fault ts)
content_fault at false ts = items_fault claim_fault at 0 ts

-- the first rule that an entry breaks: its fields, then its content
unfoldable pub entry_fault : List ℕ → Tree → Option SchemaFault
entry_fault at t =
    option_or (rows_fault at (λ ps. entry_fields) (pairs_in t))
    (content_fault (key_place at (codes "content")) (is_violation (all_pairs t)) (list_at (codes "content") (all_pairs t)))

-- entry by entry, and then the form of the whole
abbrev pub fault_of_items : Option (List Tree) → Option SchemaFault
fault_of_items None = Some (WrongKind (codes "witness"))
fault_of_items (Some ts) = option_or (items_fault entry_fault [] 0 ts) (entries_fault (map entry_in ts))

-- the first rule that a witness breaks
unfoldable pub schema_fault : Tree → Option SchemaFault
schema_fault t = fault_of_items (items_in t)

-- A refusal says what isn't met; out of memory may be answered at any time.
abbrev pub Fails : SchemaFault → Option SchemaFault → Type 0
Fails (Missing path) fault = fault ≡ Some (Missing path)
Fails (WrongKind path) fault = fault ≡ Some (WrongKind path)
Fails (BadValue path) fault = fault ≡ Some (BadValue path)
Fails Version fault = fault ≡ Some Version
Fails (Shape segment) fault = fault ≡ Some (Shape segment)
Fails Entries fault = fault ≡ Some Entries
Fails OutOfMemory fault = Unit {0}

-- a value where all is met, and otherwise the first fault
abbrev pub Gives : {X Y : Type 0} → (X → Y) → Result X SchemaFault → Option SchemaFault → Y → Type 0
Gives view (Ok x) fault y = (fault ≡ None) × (view x ≡ y)
Gives view (Err e) fault y = Fails e fault

-- the answer to a tree: its witness, or the first rule that isn't met
abbrev pub IsAnswer : Tree → Result Witness SchemaFault → Type 0
IsAnswer t result = Gives (λ (w : Witness). w) result (schema_fault t) (witness_in t)

-- the witness, unless it breaks a rule
abbrev pub judged : Option SchemaFault → Witness → Result Witness SchemaFault
judged None witness = Ok witness
judged (Some fault) witness = Err fault

-- the same, as a value
unfoldable pub witness_of : Tree → Result Witness SchemaFault
witness_of t = judged (schema_fault t) (witness_in t)
