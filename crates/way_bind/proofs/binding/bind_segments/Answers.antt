use Rattle.std.proofs.Common.{arith}
use Rattle.c_core.specs.View.{program_view}
use Rattle.way_match.specs.View.{each_segment_view}
use Rattle.way_bind.proofs.LoopLaws.{segment_kept, segment_counted, segment_fits, avoids_fit, segment_told}
use Rattle.way_bind.proofs.binding.bind_segments.Goals as goal

pub bind_segment-requires : goal.bind_segment-requires
bind_segment-requires c =
    omega (arith, segment_fits c.args.segments.now c.loop-segment.segment-index c.segment-item.result c.loop-segment.first c.loop-segment-test.true c.segment-item.is c.loop-segment.invariant.counted)

pub returns-in_err-bind_segment : goal.returns-in_err-bind_segment
returns-in_err-bind_segment c =
    segment_told (program_view c.args.lookup.now.index) c.args.segments.now c.loop-segment.segment-index c.segment-item.result (each_segment_view c.loop-segment.bound) c.loop-segment.first c.in_err-bind_segment.field-0.0 c.from_residual.result c.loop-segment-test.true c.segment-item.is c.loop-segment.invariant.counted c.loop-segment.invariant.bound c.from_residual.ensures.1 c.in_err-bind_segment.ensures

pub overflow_add-first : goal.overflow_add-first
overflow_add-first c =
    omega (arith, avoids_fit c.args.segments.now c.loop-segment.segment-index c.segment-item.result c.loop-segment.first c.len.result c.loop-segment-test.true c.segment-item.is c.len.ensures c.loop-segment.invariant.counted)

pub overflow_add-first-in-loop-segment : goal.overflow_add-first-in-loop-segment
overflow_add-first-in-loop-segment c =
    omega (arith, avoids_fit c.args.segments.now c.loop-segment.segment-index c.segment-item.result c.loop-segment.first c.len.result c.loop-segment-test.true c.segment-item.is c.len.ensures c.loop-segment.invariant.counted)

pub loop-segment-preserved : goal.loop-segment-preserved
loop-segment-preserved c = record {
  bound = segment_kept (program_view c.args.lookup.now.index) c.args.segments.now c.loop-segment.segment-index c.segment-item.result c.loop-segment.bound c.push.new.self c.in_ok-bind_segment.field-0 c.loop-segment-test.true c.segment-item.is c.in_ok-push.ensures.ok c.in_ok-bind_segment.ensures c.loop-segment.invariant.bound;
  counted = segment_counted c.args.segments.now c.loop-segment.segment-index c.segment-item.result c.loop-segment.first c.len.result c.loop-segment-test.true c.segment-item.is c.len.ensures c.loop-segment.invariant.counted;
}
