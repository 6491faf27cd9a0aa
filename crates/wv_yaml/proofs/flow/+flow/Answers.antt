use Rattle.std.proofs.Common.{arith, refl, Some, ◌∙◌, ap, sym, ◌<◌, Option, length, subst}
use Rattle.wv_yaml.specs.declared.tree.Tree.{Tree}
use Rattle.wv_yaml.specs.Flow.{flow, flow_pair}
use Rattle.yaml_scalars.specs.Gives.{Gives}
use Rattle.wv_yaml.proofs.FlowSteps.{flow_next, flow_list_is, flow_map_is, opens_with}
use Rattle.yaml_lines.proofs.Places.{some_left}
use Rattle.wv_yaml.proofs.flow.+flow.Goals as goal

pub flow_list-loop-left-preserved : goal.flow_list-loop-left-preserved
flow_list-loop-left-preserved t c =
    let lt : c.part_len-len.result < length c.loop-left.left.now = omega arith in
    flow_next (flow c.args.depth) c.loop-left.left.now c.tokens_to.result.now c.tokens_from-left.result.now c.part_len-len.result c.loop-left.items c.push.new.self c.in_ok-item.item lt c.part_len-len.ensures.front (c.part_len-len.ensures.next lt)
    c.tokens_to.ensures c.tokens_from-left.ensures c.in_ok-item.ensures c.in_ok-push.ensures.ok ∙ c.loop-left.invariant

pub flow_map-loop-left-preserved : goal.flow_map-loop-left-preserved
flow_map-loop-left-preserved t c =
    let lt : c.part_len-len.result < length c.loop-left.left.now = omega arith in
    flow_next (flow_pair (flow c.args.depth)) c.loop-left.left.now c.tokens_to.result.now c.tokens_from-left.result.now c.part_len-len.result c.loop-left.pairs c.push.new.self c.in_ok-pair.pair lt c.part_len-len.ensures.front (c.part_len-len.ensures.next lt)
    c.tokens_to.ensures c.tokens_from-left.ensures c.in_ok-pair.ensures c.in_ok-push.ensures.ok ∙ c.loop-left.invariant

pub flow_of-returns-else-not-is_closed : goal.flow_of-returns-else-not-is_closed
flow_of-returns-else-not-is_closed t c =
    let P : Option Tree → Type 0 = λ o. Gives (λ (u : Tree). u) c.flow_list.result o in
    let lt : 0 < length c.args.tokens.now = some_left (length c.args.tokens.now) (sym c.is_empty.ensures ∙ c.if-is_empty.false) in
    subst P (sym (flow_list_is c.args.depth c.args.tokens.now c.tokens_from-rest.result.now c.tokens_to.result.now (omega arith)
    (opens_with c.args.tokens.now c.tokens_from-rest.result.now c.index-tokens-0.result _ lt c.index-tokens-0.is c.tokens_from-rest.ensures c.in-OpenList.is)
    (c.if-not-is_closed.ensures.closed refl ∙ ap Some (sym c.tokens_to.ensures)))) c.flow_list.ensures

pub flow_of-returns-else-not-is_closed-2 : goal.flow_of-returns-else-not-is_closed-2
flow_of-returns-else-not-is_closed-2 t c =
    let P : Option Tree → Type 0 = λ o. Gives (λ (u : Tree). u) c.flow_map.result o in
    let lt : 0 < length c.args.tokens.now = some_left (length c.args.tokens.now) (sym c.is_empty.ensures ∙ c.if-is_empty.false) in
    subst P (sym (flow_map_is c.args.depth c.args.tokens.now c.tokens_from-rest.result.now c.tokens_to-in-OpenMap.result.now (omega arith)
    (opens_with c.args.tokens.now c.tokens_from-rest.result.now c.index-tokens-0.result _ lt c.index-tokens-0.is c.tokens_from-rest.ensures c.in-OpenMap.is)
    (c.if-not-is_closed-2.ensures.closed refl ∙ ap Some (sym c.tokens_to-in-OpenMap.ensures)))) c.flow_map.ensures
