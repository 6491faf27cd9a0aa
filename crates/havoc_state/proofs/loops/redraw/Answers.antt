use Rattle.std.proofs.Common.{rules, ◌≡◌, ◌+◌, [], suc, Err, drop-cons, arith}
use Rattle.c_core.specs.View.{program_view}
use Rattle.havoc_state.specs.Havocking.{left_of}
use Rattle.havoc_state.proofs.Redrawing.{objects_halted, objects_on}
use Rattle.havoc_state.proofs.loops.redraw.Goals as goal

pub returns-in_err-redraw_object : goal.returns-in_err-redraw_object
returns-in_err-redraw_object c =
    let e : c.from_residual.result ≡ Err c.in_err-redraw_object.field-0.0 = search rules in
    rw e (objects_halted (program_view c.args.program.now) [] c.args.spot c.args.objects.now c.loop-object.object-index _ (left_of c.loop-object.machine) (left_of c.redraw_object.new.machine) _ (drop-cons c.args.objects.now c.loop-object.object-index 0 c.loop-object-test.true)
    c.loop-object.invariant c.in_err-redraw_object.field-0.0 c.in_err-redraw_object.ensures)

pub loop-object-preserved : goal.loop-object-preserved
loop-object-preserved c =
    let e : c.loop-object.object-index + 1 ≡ suc c.loop-object.object-index = omega arith in
    rw e (objects_on (program_view c.args.program.now) [] c.args.spot c.args.objects.now c.loop-object.object-index _ (left_of c.loop-object.machine) (left_of c.redraw_object.new.machine) _ (drop-cons c.args.objects.now c.loop-object.object-index 0 c.loop-object-test.true)
    c.loop-object.invariant c.in_ok-redraw_object.ensures)
