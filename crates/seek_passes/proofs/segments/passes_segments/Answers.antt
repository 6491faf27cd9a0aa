use Rattle.std.proofs.Common.{take, sym, subst, arith}
use Rattle.std.proofs.lemmas.List.{take_all}
use Rattle.c_core.specs.View.{program_view}
use Rattle.way_match.specs.View.{segment_view, each_segment_view}
use Rattle.seek_passes.specs.Charges.{segment_weight, segments_weight}
use Rattle.seek_passes.specs.Passing.{IsSegment, PassesSegments}
use Rattle.seek_passes.proofs.Kept.{can_later}
use Rattle.seek_passes.proofs.Several.{segment_there, segments_more, segments_next, segments_none, segments_within}
use Rattle.seek_passes.proofs.segments.passes_segments.Goals as goal

pub loop-segment-init : goal.loop-segment-init
loop-segment-init c = segments_none (program_view c.args.program.now) c.args.event.now c.args.sym.now _ c.requires.ready.fits c.new-all.ensures.items

pub passes_segment-requires-clause-segment : goal.passes_segment-requires-clause-segment
passes_segment-requires-clause-segment c =
    segment_there c.args.segments.now c.loop-segment.segment-index c.segment-item.result c.loop-segment-test.true c.segment-item.is (IsSegment (program_view c.args.program.now)) c.requires.segments

pub passes_segment-requires-clause-ready : goal.passes_segment-requires-clause-ready
passes_segment-requires-clause-ready c =
    let p = program_view c.args.program.now in
    let e = c.args.event.now in
    can_later (segments_weight p e (each_segment_view c.args.segments.now)) (segment_weight p e (segment_view c.segment-item.result)) c.requires.ready c.loop-segment.invariant.turned
    (segments_within p e c.args.segments.now c.loop-segment.segment-index c.segment-item.result c.loop-segment-test.true c.segment-item.is)

pub loop-segment-preserved : goal.loop-segment-preserved
loop-segment-preserved c =
    let p = program_view c.args.program.now in
    let e = c.args.event.now in
    let i = c.loop-segment.segment-index in
    let ss = c.args.segments.now in
    let s = c.segment-item.result in
    subst (λ ts. PassesSegments p e ts c.args.sym.now c.passes_segment.new.sym c.push.new.self.items) (sym (segments_more ss i s c.loop-segment-test.true c.segment-item.is))
    (segments_next p e (each_segment_view (take i ss)) (segment_view s) c.args.sym.now c.loop-segment.sym c.passes_segment.new.sym c.loop-segment.all.items c.push.new.self.items c.in_ok-one.one c.requires.ready.event c.loop-segment.invariant c.in_ok-one.ensures
    c.in_ok-push.ensures.items)

pub returns : goal.returns
returns c =
    subst (λ ts. PassesSegments (program_view c.args.program.now) c.args.event.now (each_segment_view ts) c.args.sym.now c.loop-segment.sym c.loop-segment.all.items) (take_all c.loop-segment.segment-index c.args.segments.now (omega (arith, c.loop-segment-test.false)))
    c.loop-segment.invariant
