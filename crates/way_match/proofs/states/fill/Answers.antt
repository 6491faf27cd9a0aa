use Rattle.std.proofs.Common.{◌≡◌, suc, ◌-◌, ◌≤◌, length, arith}
use Rattle.std.proofs.Math.ListN.{length-set}
use Rattle.way_match.proofs.Kept.{filled, held_below}
use Rattle.way_match.proofs.states.fill.Goals as goal

pub loop-left-preserved : goal.loop-left-preserved
loop-left-preserved c =
    let i = c.loop-left.invariant in
    let e : c.loop-left.left ≡ suc (c.loop-left.left - 1) = omega arith in
    let b : c.loop-left.left - 1 ≤ length c.loop-left.room = omega (arith, i.0) in
    let h = held_below c.args.nodes.now (c.loop-left.left - 1) c.loop-left.at c.loop-left.left e i.1 in
    (rw length-set b, h.1, filled c.args.nodes.now c.loop-left.room (c.loop-left.left - 1) c.loop-left.at c.loop-left.left _ e i.0 i.1 i.2)
