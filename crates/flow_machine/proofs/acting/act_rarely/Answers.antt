use Rattle.std.proofs.Common.{refl}
use Rattle.std.specs.Prelude.{vec_capacity}
use Rattle.flow_machine.specs.Views.{control_of, state_of}
use Rattle.flow_laws.specs.Acting.{declared}
use Rattle.flow_machine.proofs.Fronting.{on_broken, none_broken, saw_none}
use Rattle.flow_machine.proofs.Lasting.{first_within}
use Rattle.flow_machine.proofs.Rarely.{at_call}
use Rattle.flow_machine.proofs.acting.act_rarely.Goals as goal

pub returns-in-Aim-clause-acts : goal.returns-in-Aim-clause-acts
returns-in-Aim-clause-acts g c = rw c.in-Aim.is (c.aim.ensures.acts c.args.code.now (g.W.Watcher.seen c.args.watcher.now))

pub returns-in-Row-clause-acts : goal.returns-in-Row-clause-acts
returns-in-Row-clause-acts g c = rw c.in-Row.is (c.find_in_row.ensures.acts c.args.code.now (g.W.Watcher.seen c.args.watcher.now))

pub returns-in-Select-clause-acts : goal.returns-in-Select-clause-acts
returns-in-Select-clause-acts g c = rw c.in-Select.is (c.select.ensures.acts c.args.code.now)

pub returns-in-Open-clause-lasting : goal.returns-in-Open-clause-lasting
returns-in-Open-clause-lasting g c = λ sure spare counted fits. c.open_scope.ensures.lasting spare.scopes

pub returns-in-Declare-clause-lasting : goal.returns-in-Declare-clause-lasting
returns-in-Declare-clause-lasting g c = λ sure spare counted fits.
    let x = g.W.Watcher.seen c.args.watcher.now in
    let d = c.in-Declare in
    let f = rw c.in-Declare.is at fits in
    c.declare.ensures.lasting x counted
    (first_within c.args.code.now g.W.Watcher.Seen g.W.Watcher.after c.args.run.now.memory.room (vec_capacity c.args.run.now.draws)
    (declared c.args.code.now g.W.Watcher.Seen g.W.Watcher.after d.spot d.object d.size d.ty d.draws (state_of c.args.run.now x)) (control_of c.args.control.now) f)

pub returns-in-Select-clause-front : goal.returns-in-Select-clause-front
returns-in-Select-clause-front g c = none_broken g.W.Watcher.after c.select.result _ _ _ c.select.ensures.still

pub returns-in-Aim-clause-front : goal.returns-in-Aim-clause-front
returns-in-Aim-clause-front g c = on_broken c.aim.result (saw_none g.W.Watcher.after _ _ _ refl)

pub returns-in-Row-clause-front : goal.returns-in-Row-clause-front
returns-in-Row-clause-front g c = on_broken c.find_in_row.result (saw_none g.W.Watcher.after _ _ _ refl)

pub returns-in-Open-clause-front : goal.returns-in-Open-clause-front
returns-in-Open-clause-front g c = on_broken c.open_scope.result (saw_none g.W.Watcher.after _ _ _ refl)

pub returns-in-Declare-clause-front : goal.returns-in-Declare-clause-front
returns-in-Declare-clause-front g c = on_broken c.declare.result (saw_none g.W.Watcher.after _ _ _ refl)

pub act_at_call-requires : goal.act_at_call-requires
act_at_call-requires g c = at_call c.args.action.now c.requires c.in_default.not-Aim c.in_default.not-Row c.in_default.not-Select c.in_default.not-Open c.in_default.not-Close c.in_default.not-Declare
