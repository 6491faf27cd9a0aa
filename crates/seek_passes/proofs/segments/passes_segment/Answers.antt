use Rattle.std.proofs.Common.{sym, subst, ap, arith}
use Rattle.std.specs.List.{All}
use Rattle.c_core.specs.View.{program_view}
use Rattle.way_match.specs.View.{point_view, points_view, segment_view}
use Rattle.seek_passes.specs.Charges.{any_weight, point_weight, segment_weight}
use Rattle.seek_passes.specs.Passing.{IsPoint, PassesAny}
use Rattle.seek_passes.proofs.Kept.{can_later, can_less}
use Rattle.seek_passes.proofs.Several.{segment_made}
use Rattle.seek_passes.proofs.segments.passes_segment.Goals as goal

pub passes_any-requires-clause-points : goal.passes_any-requires-clause-points
passes_any-requires-clause-points c = subst (λ xs. All (IsPoint (program_view c.args.program.now)) (points_view xs)) (sym c.as_slice.ensures) c.requires.segment.avoids

pub passes_any-requires-clause-ready : goal.passes_any-requires-clause-ready
passes_any-requires-clause-ready c =
    let p = program_view c.args.program.now in
    let e = c.args.event.now in
    can_less (segment_weight p e (segment_view c.args.segment.now)) (any_weight p e (points_view c.as_slice.result.now)) c.requires.ready (omega (arith, ap (λ xs. any_weight p e (points_view xs)) c.as_slice.ensures))

pub passes_point-requires-clause-point : goal.passes_point-requires-clause-point
passes_point-requires-clause-point c = c.requires.segment.follow

pub passes_point-requires-clause-ready : goal.passes_point-requires-clause-ready
passes_point-requires-clause-ready c =
    let p = program_view c.args.program.now in
    let e = c.args.event.now in
    can_later (segment_weight p e (segment_view c.args.segment.now)) (point_weight p e (point_view c.args.segment.now.follow)) c.requires.ready c.in_ok-avoided.ensures.turned
    (omega (arith, ap (λ xs. any_weight p e (points_view xs)) c.as_slice.ensures))

pub returns : goal.returns
returns c =
    let p = program_view c.args.program.now in
    let e = c.args.event.now in
    let avoided = subst (λ xs. PassesAny p e (points_view xs) c.args.sym.now c.passes_any.new.sym c.in_ok-avoided.avoided) c.as_slice.ensures c.in_ok-avoided.ensures in
    segment_made p e (segment_view c.args.segment.now) c.args.sym.now c.passes_any.new.sym c.passes_point.new.sym c.in_ok-avoided.avoided c.in_ok-followed.followed c.is_assumption.result c.requires.ready.event avoided c.in_ok-followed.ensures
    c.is_assumption.ensures
