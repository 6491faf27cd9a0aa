use Rattle.std.proofs.Common.{take, sym, subst, arith}
use Rattle.std.proofs.lemmas.List.{take_all}
use Rattle.c_core.specs.View.{program_view}
use Rattle.circuits.proofs.Nets.{opp}
use Rattle.sym_state.proofs.Nets.{in_added, longer_by}
use Rattle.way_match.specs.View.{point_view, points_view}
use Rattle.seek_passes.specs.Charges.{any_weight, point_weight}
use Rattle.seek_passes.specs.Passing.{IsPoint, PassesAny}
use Rattle.seek_passes.proofs.Kept.{can_later}
use Rattle.seek_passes.proofs.Several.{any_next, any_none, any_within, point_there, points_more}
use Rattle.seek_passes.proofs.points.passes_any.Goals as goal

pub loop-point-init : goal.loop-point-init
loop-point-init c = any_none (program_view c.args.program.now) c.args.event.now c.args.sym.now c.not-some.result c.requires.ready.fits (opp c.not-some.ensures c.yes.ensures)

pub passes_point-requires-clause-point : goal.passes_point-requires-clause-point
passes_point-requires-clause-point c =
    point_there c.args.points.now c.loop-point.point-index c.point-item.result c.loop-point-test.true c.point-item.is (IsPoint (program_view c.args.program.now)) c.requires.points

pub passes_point-requires-clause-ready : goal.passes_point-requires-clause-ready
passes_point-requires-clause-ready c =
    let p = program_view c.args.program.now in
    let e = c.args.event.now in
    can_later (any_weight p e (points_view c.args.points.now)) (point_weight p e (point_view c.point-item.result)) c.requires.ready c.loop-point.invariant.turned
    (omega (arith, any_within p e c.args.points.now c.loop-point.point-index c.point-item.result c.loop-point-test.true c.point-item.is))

pub or-requires-clause-a_in : goal.or-requires-clause-a_in
or-requires-clause-a_in c = in_added c.in_ok-bit.ensures.turned.added c.loop-point.some c.loop-point.invariant.means.inside

pub or-requires-clause-b_in : goal.or-requires-clause-b_in
or-requires-clause-b_in c = c.in_ok-bit.ensures.means.inside

pub or-requires-clause-room : goal.or-requires-clause-room
or-requires-clause-room c =
    let p = program_view c.args.program.now in
    let e = c.args.event.now in
    omega (arith, c.requires.ready.room, (longer_by c.loop-point.invariant.turned.added).1, (longer_by c.in_ok-bit.ensures.turned.added).1, any_within p e c.args.points.now c.loop-point.point-index c.point-item.result c.loop-point-test.true c.point-item.is)

pub loop-point-preserved : goal.loop-point-preserved
loop-point-preserved c =
    let p = program_view c.args.program.now in
    let e = c.args.event.now in
    let i = c.loop-point.point-index in
    let xs = c.args.points.now in
    let x = c.point-item.result in
    subst (λ zs. PassesAny p e zs c.args.sym.now (record c.passes_point.new.sym { net = c.or.new.net }) c.in_ok-some.some) (sym (points_more xs i x c.loop-point-test.true c.point-item.is))
    (any_next p e (points_view (take i xs)) (point_view x) c.args.sym.now c.loop-point.sym c.passes_point.new.sym c.or.new.net c.loop-point.some c.in_ok-bit.bit c.in_ok-some.some c.requires.ready.event c.loop-point.invariant c.in_ok-bit.ensures
    c.in_ok-some.ensures.grown c.in_ok-some.ensures.value)

pub returns : goal.returns
returns c =
    subst (λ zs. PassesAny (program_view c.args.program.now) c.args.event.now (points_view zs) c.args.sym.now c.loop-point.sym c.loop-point.some) (take_all c.loop-point.point-index c.args.points.now (omega (arith, c.loop-point-test.false))) c.loop-point.invariant
