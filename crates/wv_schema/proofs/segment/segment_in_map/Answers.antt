use Rattle.std.proofs.Common.{rules, ◌≡◌, codes, refl, subst}
use Rattle.wv_schema.specs.Paths.{key_place}
use Rattle.wv_schema.specs.Table.{segment_fields}
use Rattle.wv_schema.specs.Judging.{first_fault, items_fault}
use Rattle.wv_schema.specs.Steps.{segment_by}
use Rattle.wv_schema.specs.Schema.{Gives, step_fault}
use Rattle.wv_schema.proofs.Chains.{stops, both, given_after}
use Rattle.wv_schema.proofs.segment.segment_in_map.Goals as goal

pub returns-in_err-items : goal.returns-in_err-items
unfolding first_fault segment_fields
returns-in_err-items c = search (rules, stops)

pub returns : goal.returns
unfolding first_fault segment_fields
returns c =
    given_after _ _ _ _ (both _ _ c.in_ok-items.ensures.0 refl)
    (subst (λ ts. Gives (λ x. x) c.segment_of_steps.result (items_fault step_fault (key_place c.args.at.now (codes "segment")) 0 ts) (segment_by c.args.is_final ts)) c.in_ok-items.ensures.1
    (subst (λ a. Gives (λ x. x) c.segment_of_steps.result (items_fault step_fault a 0 c.in_ok-items.items.now) (segment_by c.args.is_final c.in_ok-items.items.now)) c.in_ok-place.ensures
    (rw (← c.as_str.ensures.value) c.segment_of_steps.ensures)))
