use Rattle.std.proofs.Common.{refl, arith}
use Rattle.std.specs.Prelude.{vec_capacity}
use Rattle.flow_machine.specs.Views.{control_of, state_of}
use Rattle.flow_machine.proofs.Fronting.{on_broken, none_broken, saw_none}
use Rattle.flow_machine.proofs.Lasting.{input_within}
use Rattle.flow_machine.proofs.Rarely.{no_other}
use Rattle.flow_machine.proofs.acting.act_at_call.Goals as goal

pub returns-in-Call-clause-lasting : goal.returns-in-Call-clause-lasting
returns-in-Call-clause-lasting g c = λ sure spare counted fits.
    let f = rw c.in-Call.is at fits in
    c.call.ensures.lasting (g.W.Watcher.seen c.args.watcher.now) spare f

pub returns-in-Input-clause-lasting : goal.returns-in-Input-clause-lasting
returns-in-Input-clause-lasting g c = λ sure spare counted fits.
    let x = g.W.Watcher.seen c.args.watcher.now in
    let i = c.in-Input in
    let f = rw c.in-Input.is at fits in
    let room = input_within c.args.code.now g.W.Watcher.Seen g.W.Watcher.after c.args.run.now.memory.room (vec_capacity c.args.run.now.draws) i.spot i.close i.ty i.into (control_of c.args.control.now) (state_of c.args.run.now x) f in
    c.take_input.ensures.lasting sure spare counted (omega (arith, room, c.args.run.now.draws.ok.0))

pub returns-in-Return-clause-acts : goal.returns-in-Return-clause-acts
returns-in-Return-clause-acts g c = rw c.in-Return.is (c.give_back.ensures.acts c.args.code.now)

pub returns-in-Enter-clause-front : goal.returns-in-Enter-clause-front
returns-in-Enter-clause-front g c = none_broken g.W.Watcher.after c.tell.result _ _ _ c.tell.ensures.still

pub returns-in-Reach-clause-front : goal.returns-in-Reach-clause-front
returns-in-Reach-clause-front g c = none_broken g.W.Watcher.after c.come_to_error.result _ _ _ c.come_to_error.ensures.still

pub returns-in-Call-clause-front : goal.returns-in-Call-clause-front
returns-in-Call-clause-front g c = on_broken c.call.result (saw_none g.W.Watcher.after _ _ _ refl)

pub returns-in-Input-clause-front : goal.returns-in-Input-clause-front
returns-in-Input-clause-front g c = rw c.in-Input.is c.take_input.ensures.front

pub returns-in-Leave-clause-front : goal.returns-in-Leave-clause-front
returns-in-Leave-clause-front g c = rw c.in-Leave.is (c.leave.ensures.front c.args.code.now)

pub returns-in-Return-clause-front : goal.returns-in-Return-clause-front
returns-in-Return-clause-front g c = rw c.in-Return.is (c.give_back.ensures.front c.args.code.now)

pub unreachable-requires : goal.unreachable-requires
unreachable-requires g c = no_other c.args.action.now c.requires c.in_default.not-Enter c.in_default.not-Call c.in_default.not-Input c.in_default.not-Reach c.in_default.not-End c.in_default.not-Leave c.in_default.not-Return
