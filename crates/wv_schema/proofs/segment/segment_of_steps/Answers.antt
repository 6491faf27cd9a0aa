use Rattle.std.proofs.Common.{rules}
use Rattle.wv_schema.proofs.Drafts.{no_steps, avoids_stop, step_stop, steps_met, misshapen_segment, shapely_segment}
use Rattle.wv_schema.proofs.segment.segment_of_steps.Goals as goal

pub returns-then-is_empty : goal.returns-then-is_empty
returns-then-is_empty c = no_steps c.args.at.now c.args.is_final c.args.items.now c.if-is_empty.ensures

pub returns-in_err-avoids : goal.returns-in_err-avoids
returns-in_err-avoids c =
    let k = avoids_stop c.in_err-avoids.field-0.0 c.args.at.now c.args.items.now c.if-is_empty.ensures c.in_err-avoids.ensures in
    search (rules, k)

pub returns-in_err-step : goal.returns-in_err-step
returns-in_err-step c =
    let k = step_stop c.in_err-step.field-0.0 c.args.at.now _ c.args.items.now _ c.if-is_empty.ensures c.in_ok-avoids.ensures.0 c.index-items-last.is c.in_ok-place.ensures
    (rw (← c.as_str.ensures.value) c.in_err-step.ensures) in
    search (rules, k)

pub returns-then-not-is_well_formed : goal.returns-then-not-is_well_formed
returns-then-not-is_well_formed c = (
  steps_met c.args.at.now _ c.args.items.now _ c.if-is_empty.ensures c.in_ok-avoids.ensures.0 c.index-items-last.is c.in_ok-place.ensures (rw (← c.as_str.ensures.value) c.in_ok-step.ensures.0),
  misshapen_segment c.args.is_final _ c.args.items.now _ _ _ c.if-is_empty.ensures c.index-items-last.is c.in_ok-avoids.ensures.1 c.in_ok-step.ensures.1 c.is_well_formed.ensures c.if-not-is_well_formed.true,
)

pub returns : goal.returns
returns c = (
  steps_met c.args.at.now _ c.args.items.now _ c.if-is_empty.ensures c.in_ok-avoids.ensures.0 c.index-items-last.is c.in_ok-place.ensures (rw (← c.as_str.ensures.value) c.in_ok-step.ensures.0),
  shapely_segment c.args.is_final _ c.args.items.now _ _ _ c.if-is_empty.ensures c.index-items-last.is c.in_ok-avoids.ensures.1 c.in_ok-step.ensures.1 c.is_well_formed.ensures c.if-not-is_well_formed.false,
)
