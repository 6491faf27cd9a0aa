use Rattle.std.proofs.Common.{rules, ◌≡◌, ℕ, List, ◌∷◌, ◌++◌, ap, ◌∙◌, codes}
use Rattle.std.specs.Option.{option_or}
use Rattle.wv_yaml.specs.declared.tree.Pair.{Pair}
use Rattle.wv_schema.specs.declared.witness.WayKind.{WayKind}
use Rattle.wv_schema.specs.Table.{AText, OneOf, waypoint_types, actions, needs, in_map, location_fields, constraint_rows, waypoint_fields}
use Rattle.wv_schema.specs.Judging.{row_fault, first_fault}
use Rattle.wv_schema.specs.Values.{text_at, way_kind, kind_at, waypoint_in}
use Rattle.wv_schema.specs.Steps.{step_by}
use Rattle.wv_schema.proofs.Chains.{stops, later, both}
use Rattle.wv_schema.proofs.FieldChains.{waypoint_chain}
use Rattle.wv_schema.proofs.waypoint.waypoint_fields_of.Goals as goal

-- the kind that is read is the one that stands there
kind_is : (ps : List Pair) (word : List ℕ) (kind : WayKind) → kind ≡ way_kind word → word ≡ text_at (codes "type") ps → kind ≡ kind_at ps
unfolding kind_at
kind_is ps word kind e h = e ∙ ap way_kind h

pub returns-in_err-word : goal.returns-in_err-word
returns-in_err-word c = rw (waypoint_chain c.args.at.now c.args.pairs.now (kind_at c.args.pairs.now)) (search (rules, later, stops))

pub returns-in_err-action : goal.returns-in_err-action
returns-in_err-action c = rw (waypoint_chain c.args.at.now c.args.pairs.now (kind_at c.args.pairs.now)) (search (rules, later, stops))

pub returns-in_err-location : goal.returns-in_err-location
returns-in_err-location c = rw (waypoint_chain c.args.at.now c.args.pairs.now (kind_at c.args.pairs.now)) (search (rules, later, stops))

pub returns-in_err-constraint : goal.returns-in_err-constraint
returns-in_err-constraint c =
    let k = kind_is c.args.pairs.now _ _ c.kind_of-kind.ensures c.in_ok-word.ensures.field.1 in
    rw (waypoint_chain c.args.at.now c.args.pairs.now (kind_at c.args.pairs.now)) (rw (← k) (search (rules, later, stops)))

pub returns : goal.returns
unfolding step_by waypoint_in
returns c =
    let k = kind_is c.args.pairs.now _ _ c.kind_of-kind.ensures c.in_ok-word.ensures.field.1 in
    rw (waypoint_chain c.args.at.now c.args.pairs.now (kind_at c.args.pairs.now)) (rw (← k) (search (rules, both)))
