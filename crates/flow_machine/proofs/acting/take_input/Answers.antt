use Rattle.std.proofs.Common.{rules}
use mir.Val.{SFits}
use mir.Syntax.{w128}
use Rattle.std.proofs.lemmas.Int.{to_z-of_z}
use Rattle.flow_machine.specs.Views.{control_of, state_of}
use Rattle.flow_machine.proofs.Acted.{input_finished}
use Rattle.flow_machine.proofs.Fronting.{on_broken, then_on_broken, saw_none, input_broken}
use Rattle.flow_machine.proofs.acting.take_input.Goals as goal

pub returns-clause-acts : goal.returns-clause-acts
returns-clause-acts g c =
    let z : SFits w128 c.in_ok-value.value = search rules in
    let f = rw (to_z-of_z w128 c.in_ok-value.value z) at (c.finish.ensures.acts c.args.code.now) in
    input_finished c.args.code.now g.W.Watcher.Seen g.W.Watcher.after c.args.spot c.args.close c.args.ty c.args.into.now (control_of c.args.control.now) (control_of c.finish.new.control)
    (state_of c.args.run.now (g.W.Watcher.seen c.args.watcher.now)) (state_of c.input.new.run (g.W.Watcher.seen c.input.new.watcher))
    (state_of c.finish.new.run (g.W.Watcher.seen c.finish.new.watcher)) c.in_ok-value.value c.finish.result c.in_ok-value.ensures.gives f

pub returns-clause-lasting : goal.returns-clause-lasting
returns-clause-lasting g c = λ sure spare counted room. c.finish.ensures.lasting sure spare

pub returns-in_err-value-clause-front : goal.returns-in_err-value-clause-front
returns-in_err-value-clause-front g c = on_broken c.from_residual.result (saw_none g.W.Watcher.after _ _ _ c.in_err-value.ensures.still)

pub returns-clause-front : goal.returns-clause-front
returns-clause-front g c =
    let w = g.W.Watcher.seen in
    then_on_broken c.finish.result
    (input_broken c.args.code.now g.W.Watcher.after c.args.spot c.args.close c.args.ty c.args.into.now (control_of c.args.control.now) c.args.run.now c.in_ok-value.value
    (state_of c.input.new.run (w c.input.new.watcher)) (w c.args.watcher.now) (w c.finish.new.watcher) c.in_ok-value.ensures.gives) c.finish.ensures.still
