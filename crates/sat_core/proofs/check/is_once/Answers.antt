use Rattle.std.proofs.Common.{arith}
use Rattle.std.proofs.lemmas.Option.{slice_get-get_or}
use Rattle.sat_core.proofs.Once.{none_stamped, stamped_more, all_stamped}
use Rattle.sat_core.proofs.check.is_once.Goals as goal

pub loop-step-init : goal.loop-step-init
loop-step-init c = none_stamped _ _ _

pub loop-step-preserved : goal.loop-step-preserved
loop-step-preserved c = stamped_more _ _ _ _ _ (slice_get-get_or c.args.steps.now c.loop-step.step-index _ c.loop-step-test.true) c.if-stamps-on.false c.if-on-stamps.false c.loop-step.invariant

pub returns : goal.returns
returns c = λ _. all_stamped _ _ _ _ (omega arith) c.loop-step.invariant
