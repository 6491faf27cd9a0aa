use Rattle.std.proofs.Common.{◌≡◌, Some, None, unwrap_or, [], codes, subst}
use Rattle.std.specs.Option.{option_or}
use Rattle.wv_schema.specs.Paths.{pairs_in, key_place}
use Rattle.wv_schema.specs.Table.{entry_fields}
use Rattle.wv_schema.specs.Judging.{rows_fault}
use Rattle.wv_schema.specs.Values.{all_pairs, list_at, is_violation, entry_by, entry_in}
use Rattle.wv_schema.specs.Schema.{Fails, Gives, content_fault, entry_fault}
use Rattle.wv_schema.proofs.Chains.{stops, no_pairs}
use Rattle.wv_schema.proofs.entry.entry_of.Goals as goal

pub returns-in-None : goal.returns-in-None
unfolding entry_fault
returns-in-None c = stops _ _ _ (no_pairs _ c.args.at.now c.args.item.now (λ ps. entry_fields) c.in-None.ensures c.wrong_kind.ensures)

pub returns-in-Some : goal.returns-in-Some
unfolding entry_fault entry_in all_pairs
returns-in-Some c =
    subst (λ o. Gives (λ x. x) c.entry_in_map.result
    (option_or (rows_fault c.args.at.now (λ ps. entry_fields) o)
    (content_fault (key_place c.args.at.now (codes "content")) (is_violation (unwrap_or o [])) (list_at (codes "content") (unwrap_or o []))))
    (entry_by (unwrap_or o []))) c.in-Some.ensures c.entry_in_map.ensures
