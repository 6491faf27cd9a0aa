use Rattle.std.proofs.Common.{rules, ◌≡◌, Err}
use Rattle.c_core.specs.View.{program_view, form_view}
use Rattle.c_calls.specs.Loops.{loop_of}
use Rattle.c_meaning.specs.Placing.{placed_view}
use Rattle.havoc_state.specs.Havocking.{left_of}
use Rattle.c_havoc.proofs.Looping.{redraw_halts, opens}
use Rattle.c_havoc.proofs.loops.open_loop.Goals as goal

pub returns-in_err-redraw : goal.returns-in_err-redraw
returns-in_err-redraw c =
    let e : c.from_residual-in_err-redraw.result ≡ Err c.in_err-redraw.field-0.0 = search rules in
    rw e (redraw_halts (program_view c.args.program.now) (placed_view c.args.invariants.now) c.args.at (loop_of (form_view c.args.f.now)) c.in_ok-objects.objects c.in_ok-objects.ensures (left_of c.args.machine.now) c.in_ok-check.ensures
    (left_of c.redraw.new.machine) c.in_err-redraw.field-0.0 (rw c.as_slice.ensures at c.in_err-redraw.ensures))

pub returns : goal.returns
returns c =
    opens (program_view c.args.program.now) (placed_view c.args.invariants.now) c.args.at (loop_of (form_view c.args.f.now)) c.in_ok-objects.objects c.in_ok-objects.ensures (left_of c.args.machine.now) c.in_ok-check.ensures
    (left_of c.redraw.new.machine) _ c.assume.result (rw c.as_slice.ensures at c.in_ok-redraw.ensures) c.assume.ensures
