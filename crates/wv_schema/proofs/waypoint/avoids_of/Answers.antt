use Rattle.std.proofs.Common.{◌∙◌}
use Rattle.wv_schema.specs.Schema.{step_fault}
use Rattle.wv_schema.proofs.Items.{items_pass}
use Rattle.wv_schema.proofs.Drafts.{pushed_step, fit_more}
use Rattle.wv_schema.proofs.waypoint.avoids_of.Goals as goal

pub loop-index-preserved : goal.loop-index-preserved
loop-index-preserved c = record {
  met = items_pass step_fault c.args.at.now _ c.args.items.now c.loop-index.index _ c.loop-index-test.true c.index-items-index.is c.in_ok-place.ensures (rw (← c.as_str.ensures.value) c.in_ok-step.ensures.0)
      ∙ c.loop-index.invariant.met;
  so_far = pushed_step _ _ c.args.items.now c.loop-index.index _ _ c.loop-index-test.true c.index-items-index.is c.in_ok-push.ensures.ok c.loop-index.invariant.so_far c.in_ok-step.ensures.1;
  fit = fit_more c.loop-index.are_fit _ _ c.args.items.now c.loop-index.index _ _ c.loop-index-test.true c.index-items-index.is c.stay_fit-are_fit.ensures c.in_ok-step.ensures.1 c.loop-index.invariant.fit;
}
