use Rattle.std.proofs.Common.{rules, ◌≡◌, suc, ◌+◌, length, Err, ap, arith}
use Rattle.std.specs.Prelude.{vec_capacity}
use Rattle.flow_laws.specs.Acting.{program_in}
use Rattle.flow_machine.specs.Views.{control_of, state_of}
use Rattle.flow_machine.proofs.Lasting.{called_within}
use Rattle.flow_machine.proofs.Passed.{entered, not_entered}
use Rattle.flow_machine.proofs.calling.enter.Goals as goal

pub returns-in_err-room-clause-acts : goal.returns-in_err-room-clause-acts
returns-in_err-room-clause-acts g c = λ code x.
    let e : c.from_residual.result ≡ Err c.in_err-room.field-0.0 = search rules in
    let m : c.len.result + 1 ≡ suc c.len.result = omega arith in
    not_entered code g.W.Watcher.Seen g.W.Watcher.after c.args.body.now c.args.arguments c.args.site (control_of c.args.control.now) (state_of c.args.run.now x) (c.len.result + 1) c.len.result
    c.in_err-room.field-0.0 c.from_residual.result m c.len.ensures e (c.in_err-room.ensures.gives (program_in code) x)

pub returns-in_err-room-clause-lasting : goal.returns-in_err-room-clause-lasting
returns-in_err-room-clause-lasting g c = λ code x spare fits.
    let e : c.from_residual.result ≡ Err c.in_err-room.field-0.0 = search rules in
    rw e c.in_err-room.ensures.lasting

pub returns-in_err-push_frame-clause-lasting : goal.returns-in_err-push_frame-clause-lasting
returns-in_err-push_frame-clause-lasting g c = λ code x spare fits.
    let e : c.from_residual-in_err-push_frame.result ≡ Err c.in_err-push_frame.field-0.0 = search rules in
    rw e (c.in_err-push_frame.ensures.lasting spare.frames)

pub returns-in_err-take_arguments-clause-lasting : goal.returns-in_err-take_arguments-clause-lasting
returns-in_err-take_arguments-clause-lasting g c = λ code x spare fits.
    let e : c.from_residual-in_err-take_arguments.result ≡ Err c.in_err-take_arguments.field-0.0 = search rules in
    let m : c.len.result + 1 ≡ suc c.len.result = omega arith in
    let n = called_within code g.W.Watcher.Seen g.W.Watcher.after c.args.run.now.memory.room (vec_capacity c.args.run.now.draws) c.args.body.now c.args.arguments c.args.site (control_of c.args.control.now) (state_of c.args.run.now x)
    (c.len.result + 1) c.len.result m c.len.ensures (c.in_ok-room.ensures.gives (program_in code) x) fits in
    let l = ap length c.as_slice.ensures in
    rw e (c.in_err-take_arguments.ensures.lasting (omega (arith, n, l)))

pub returns-clause-acts : goal.returns-clause-acts
returns-clause-acts g c = λ code x.
    let m : c.len.result + 1 ≡ suc c.len.result = omega arith in
    let a : c.args.run.now.active + 1 ≡ suc c.args.run.now.active = omega arith in
    entered code g.W.Watcher.Seen g.W.Watcher.after c.args.body.now c.args.arguments c.args.site (control_of c.args.control.now) (control_of c.push_frame.new.control)
    (control_of c.take_arguments.new.control) (state_of c.args.run.now x) (c.len.result + 1) c.len.result c.count.result (c.args.run.now.active + 1) c.as_slice.result.now c.take_arguments.new.memory.cells
    m c.len.ensures (c.in_ok-room.ensures.gives (program_in code) x) c.in_ok-push_frame.ensures.control c.count.ensures c.in_ok-take_arguments.ensures.control
    a c.as_slice.ensures c.in_ok-take_arguments.ensures.cells
