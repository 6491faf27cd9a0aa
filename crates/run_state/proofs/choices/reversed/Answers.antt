use Rattle.std.proofs.Common.{rules, ◌<◌, ◌∙◌, length, pos, arith}
use mir.Val.{SFits}
use mir.Syntax.{w128}
use Rattle.std.proofs.lemmas.Int.{to_z-of_z}
use Rattle.run_state.proofs.Starting.{reversed_more}
use Rattle.run_state.proofs.choices.reversed.Goals as goal

pub loop-index-preserved : goal.loop-index-preserved
loop-index-preserved c =
    let n : c.loop-index.index < length c.args.values.now = omega (arith, c.loop-index-test.true) in
    let z : SFits w128 c.from_end.result = search rules in
    let h = simp to_z-of_z at c.in_ok-push.ensures.items in
    h ∙ reversed_more c.args.values.now c.loop-index.index c.from_end.result (pos 0) c.loop-index.last_first.items n c.loop-index.invariant c.from_end.ensures
