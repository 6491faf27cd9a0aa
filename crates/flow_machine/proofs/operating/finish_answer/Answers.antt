use Rattle.std.proofs.Common.{rules, ◌≡◌, Err}
use mir.Val.{SFits}
use mir.Syntax.{w128}
use Rattle.std.proofs.lemmas.Int.{to_z-of_z}
use Rattle.flow_machine.specs.Views.{control_of, state_of}
use Rattle.flow_machine.proofs.Acted.{answered_on}
use Rattle.flow_machine.proofs.operating.finish_answer.Goals as goal

pub returns-clause-acts : goal.returns-clause-acts
returns-clause-acts g c =
    let z : SFits w128 c.in_ok-value.value = search rules in
    let l : SFits w128 c.args.left = search rules in
    let f = rw (to_z-of_z w128 c.in_ok-value.value z, to_z-of_z w128 c.args.left l) at (c.finish.ensures.acts c.args.code.now) in
    answered_on c.args.code.now g.W.Watcher.Seen g.W.Watcher.after c.args.from.now c.args.left c.in_ok-value.value c.args.done c.args.into.now (control_of c.args.control.now)
    (control_of c.finish.new.control) (state_of c.args.run.now (g.W.Watcher.seen c.args.watcher.now)) (state_of c.args.run.now (g.W.Watcher.seen c.answer.new.watcher))
    (state_of c.finish.new.run (g.W.Watcher.seen c.finish.new.watcher)) c.finish.result c.in_ok-value.ensures.gives f

pub returns-in_err-value-clause-lasting : goal.returns-in_err-value-clause-lasting
returns-in_err-value-clause-lasting g c = λ sure spare.
    let e : c.from_residual.result ≡ Err c.in_err-value.field-0.0 = search rules in
    rw e (c.in_err-value.ensures.lasting sure)
