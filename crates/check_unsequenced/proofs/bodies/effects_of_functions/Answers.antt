use Rattle.check_unsequenced.proofs.Loops.{effects_more}
use Rattle.check_unsequenced.proofs.bodies.effects_of_functions.Goals as goal

pub loop-at-preserved : goal.loop-at-preserved
loop-at-preserved c =
    let more = effects_more c.args.declared.now.objects.now c.args.declared.now.bodies c.args.functions.now c.args.kept.now c.loop-at.at c.index-functions-at.result c.loop-at-test.true c.index-functions-at.is in
    let pushed = c.in_ok-push.ensures.items in
    let one = c.in_ok-effects.ensures in
    cc
