use Rattle.std.proofs.Common.{rules, [], subst}
use mir.Val.{SFits}
use mir.Syntax.{w128}
use Rattle.std.proofs.lemmas.Int.{to_z-of_z}
use Rattle.run_state.specs.Fronts.{SawFront}
use Rattle.flow_machine.specs.Fronts.{OnBroken}
use Rattle.flow_machine.specs.Views.{control_of, state_of}
use Rattle.flow_machine.proofs.Acted.{returned}
use Rattle.flow_machine.proofs.Fronting.{returned_events}
use Rattle.flow_machine.proofs.Lasting.{stacks_kept}
use Rattle.flow_machine.proofs.acting.give_back.Goals as goal

pub returns-clause-acts : goal.returns-clause-acts
returns-clause-acts g c = λ code.
    let w = g.W.Watcher.seen in
    let v : SFits w128 c.pop.result = search rules in
    let z : SFits w128 c.given_back-value.result = search rules in
    let given = rw (to_z-of_z w128 c.pop.result v) at (c.given_back-value.ensures code) in
    returned code g.W.Watcher.Seen g.W.Watcher.after c.args.ty.now (control_of c.args.control.now) (control_of c.pop.new.self) (control_of c.leave.new.control)
    (state_of c.args.run.now (w c.args.watcher.now)) (state_of c.leave.new.run (w c.leave.new.watcher)) c.pop.result c.given_back-value.result c.leave.result
    c.pop.ensures.value c.pop.ensures.control given (rw (to_z-of_z w128 c.given_back-value.result z) at (c.leave.ensures.acts code))

pub returns-clause-front : goal.returns-clause-front
returns-clause-front g c = λ code.
    let w = g.W.Watcher.seen in
    let v : SFits w128 c.pop.result = search rules in
    let z : SFits w128 c.given_back-value.result = search rules in
    let given = rw (to_z-of_z w128 c.pop.result v) at (c.given_back-value.ensures code) in
    subst (λ ms. OnBroken c.leave.result (SawFront g.W.Watcher.after ms (w c.args.watcher.now) (w c.leave.new.watcher)))
    (returned_events code g.W.Watcher.after c.args.ty.now (control_of c.args.control.now) (control_of c.pop.new.self) (state_of c.args.run.now []) c.pop.result c.given_back-value.result
    c.pop.ensures.value c.pop.ensures.control given)
    (rw (to_z-of_z w128 c.given_back-value.result z) at (c.leave.ensures.front code))

pub returns-clause-kept : goal.returns-clause-kept
returns-clause-kept g c = stacks_kept c.args.control.now c.pop.new.self c.leave.new.control c.pop.ensures.kept c.leave.ensures.kept

pub returns-clause-lasting : goal.returns-clause-lasting
returns-clause-lasting g c = λ sure spare. c.leave.ensures.lasting sure (c.pop.ensures.spare spare)
