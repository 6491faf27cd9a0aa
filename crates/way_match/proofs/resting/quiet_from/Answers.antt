use Rattle.std.proofs.Common.{sym, ◌∙◌}
use Rattle.way_match.proofs.RestLaws.{one_still}
use Rattle.way_match.proofs.resting.quiet_from.Goals as goal

pub loop-quiet-preserved : goal.loop-quiet-preserved
loop-quiet-preserved c = λ low. one_still c.args.live.now c.loop-quiet.quiet (c.loop-quiet.invariant low) (sym c.is_still.ensures ∙ c.if-is_still.true)
