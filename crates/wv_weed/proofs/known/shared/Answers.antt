use Rattle.std.proofs.Common.{arith, rules, sym, ◌≡◌, ◌∙◌, ◌<◌, length}
use Rattle.std.proofs.lemmas.Option.{get_or_from_slice_get}
use Rattle.wv_weed.proofs.Shared.{one_more_shared}
use Rattle.wv_weed.proofs.known.shared.Goals as goal

pub loop-at-preserved : goal.loop-at-preserved
loop-at-preserved c =
    let one = c.args.one.now in
    let other = c.args.other.now in
    let at = c.loop-at.at in
    let a = c.node.result in
    let b = c.node-else-from-nodes.result in
    let less : at < length one =
    omega (arith, c.loop-at.invariant.in_one, c.if-from-nodes.false, c.nodes.ensures.count, c.from.ensures) in
    let lt : at < length other = omega (arith, c.loop-at-test.true, c.nodes-many.ensures.count, c.requires.room) in
    let same : a ≡ b = search rules in
    one_more_shared one other at a c.loop-at.invariant less lt
    (get_or_from_slice_get one at a a (sym c.node.ensures) ∙ same
    ∙ sym (get_or_from_slice_get other at b a (sym c.node-else-from-nodes.ensures)))
