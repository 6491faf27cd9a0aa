-- The rows of the larger maps, part by part.
use Rattle.std.proofs.Common.{◌≡◌, ℕ, List, [], ◌∷◌, ◌++◌, ap, ◌∙◌, codes}
use Rattle.std.specs.Option.{option_or}
use Rattle.wv_yaml.specs.declared.tree.Pair.{Pair}
use Rattle.wv_schema.specs.declared.witness.WayKind.{WayKind}
use Rattle.wv_schema.specs.Table.{AText, AList, AnyText, TwoZero, OneOf, entry_types, waypoint_types, actions, invariant_types, needs, in_map, producer_fields, task_fields, metadata_fields, entry_fields, location_fields, expression_fields, constraint_rows, waypoint_fields, invariant_fields}
use Rattle.wv_schema.specs.Judging.{row_fault, first_fault}
use Rattle.wv_schema.proofs.Chains.{first_more, first_append}

pub metadata_chain : (at : List ℕ) (ps : List Pair) → first_fault at ps metadata_fields ≡
    option_or (row_fault at ps (needs (codes "format_version") (AText TwoZero)))
    (option_or (row_fault at ps (needs (codes "uuid") (AText AnyText)))
    (option_or (row_fault at ps (needs (codes "creation_time") (AText AnyText)))
    (option_or (first_fault at ps (in_map (codes "producer") producer_fields)) (first_fault at ps (in_map (codes "task") task_fields)))))
unfolding metadata_fields
metadata_chain at ps =
    first_more at ps (needs (codes "format_version") (AText TwoZero)) _
    ∙ ap (option_or (row_fault at ps (needs (codes "format_version") (AText TwoZero))))
    (first_more at ps (needs (codes "uuid") (AText AnyText)) _
    ∙ ap (option_or (row_fault at ps (needs (codes "uuid") (AText AnyText))))
    (first_more at ps (needs (codes "creation_time") (AText AnyText)) _
    ∙ ap (option_or (row_fault at ps (needs (codes "creation_time") (AText AnyText))))
    (first_append at ps (in_map (codes "producer") producer_fields) (in_map (codes "task") task_fields))))

pub entry_chain : (at : List ℕ) (ps : List Pair) → first_fault at ps entry_fields ≡
    option_or (row_fault at ps (needs (codes "entry_type") (AText (OneOf entry_types))))
    (option_or (first_fault at ps (in_map (codes "metadata") metadata_fields)) (first_fault at ps (needs (codes "content") AList ∷ [])))
unfolding entry_fields
entry_chain at ps =
    first_more at ps (needs (codes "entry_type") (AText (OneOf entry_types))) _
    ∙ ap (option_or (row_fault at ps (needs (codes "entry_type") (AText (OneOf entry_types)))))
    (first_append at ps (in_map (codes "metadata") metadata_fields) (needs (codes "content") AList ∷ []))

pub waypoint_chain : (at : List ℕ) (ps : List Pair) (kind : WayKind) → first_fault at ps (waypoint_fields kind) ≡
    option_or (row_fault at ps (needs (codes "type") (AText (OneOf waypoint_types))))
    (option_or (row_fault at ps (needs (codes "action") (AText (OneOf actions))))
    (option_or (first_fault at ps (in_map (codes "location") location_fields)) (first_fault at ps (constraint_rows kind))))
unfolding waypoint_fields
waypoint_chain at ps kind =
    first_more at ps (needs (codes "type") (AText (OneOf waypoint_types))) _
    ∙ ap (option_or (row_fault at ps (needs (codes "type") (AText (OneOf waypoint_types)))))
    (first_more at ps (needs (codes "action") (AText (OneOf actions))) _
    ∙ ap (option_or (row_fault at ps (needs (codes "action") (AText (OneOf actions)))))
    (first_append at ps (in_map (codes "location") location_fields) (constraint_rows kind)))

pub invariant_chain : (at : List ℕ) (ps : List Pair) → first_fault at ps invariant_fields ≡
    option_or (row_fault at ps (needs (codes "type") (AText (OneOf invariant_types))))
    (option_or (first_fault at ps (in_map (codes "location") location_fields)) (first_fault at ps expression_fields))
unfolding invariant_fields
invariant_chain at ps =
    first_more at ps (needs (codes "type") (AText (OneOf invariant_types))) _
    ∙ ap (option_or (row_fault at ps (needs (codes "type") (AText (OneOf invariant_types)))))
    (first_append at ps (in_map (codes "location") location_fields) expression_fields)
