use Rattle.std.proofs.Common.{◌≡◌, [], unwrap_or, codes, subst}
use Rattle.std.specs.Option.{option_or}
use Rattle.wv_schema.specs.Paths.{pairs_in, key_place}
use Rattle.wv_schema.specs.Table.{segment_fields}
use Rattle.wv_schema.specs.Judging.{rows_fault, items_fault}
use Rattle.wv_schema.specs.Values.{all_pairs, list_at, steps_in}
use Rattle.wv_schema.specs.Steps.{segment_by}
use Rattle.wv_schema.specs.Schema.{Gives, step_fault, segment_fault}
use Rattle.wv_schema.proofs.Chains.{stops, no_pairs}
use Rattle.wv_schema.proofs.segment.segment_of.Goals as goal

pub returns-in-None : goal.returns-in-None
unfolding segment_fault
returns-in-None c = stops _ _ _ (no_pairs _ c.args.at.now c.args.item.now (λ ps. segment_fields) c.in-None.ensures c.wrong_kind.ensures)

pub returns-in-Some : goal.returns-in-Some
unfolding segment_fault steps_in all_pairs
returns-in-Some c =
    subst (λ o. Gives (λ x. x) c.segment_in_map.result
    (option_or (rows_fault c.args.at.now (λ ps. segment_fields) o)
    (items_fault step_fault (key_place c.args.at.now (codes "segment")) 0 (list_at (codes "segment") (unwrap_or o []))))
    (segment_by c.args.is_final (list_at (codes "segment") (unwrap_or o [])))) c.in-Some.ensures c.segment_in_map.ensures
