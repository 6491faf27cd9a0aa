use mir.Val.{SFits}
use mir.Syntax.{w128}
use Rattle.std.proofs.Common.{Some, None, rules}
use Rattle.std.proofs.lemmas.Int.{to_z-of_z}
use Rattle.flow_machine.specs.Views.{control_of, state_of}
use Rattle.flow_machine.proofs.Acted.{selected}
use Rattle.flow_machine.proofs.acting.select.Goals as goal

pub returns-in-Some-clause-acts : goal.returns-in-Some-clause-acts
returns-in-Some-clause-acts g c = λ code.
    let z : SFits w128 c.top-value.result = search rules in
    let same = to_z-of_z w128 c.top-value.result z in
    selected code g.W.Watcher.Seen g.W.Watcher.after c.args.at c.args.cases.now c.args.other (control_of c.args.control.now) (control_of c.send.new.control)
    (state_of c.args.run.now (g.W.Watcher.seen c.args.watcher.now)) (state_of c.args.run.now (g.W.Watcher.seen c.send.new.watcher)) c.top-value.result (Some c.in-Some.to) c.send.result
    c.top-value.ensures (rw same at c.in-Some.ensures) (rw same at (c.send.ensures.acts code))

pub returns-in-None-clause-acts : goal.returns-in-None-clause-acts
returns-in-None-clause-acts g c = λ code.
    let z : SFits w128 c.top-value.result = search rules in
    let same = to_z-of_z w128 c.top-value.result z in
    selected code g.W.Watcher.Seen g.W.Watcher.after c.args.at c.args.cases.now c.args.other (control_of c.args.control.now) (control_of c.send-in-None.new.control)
    (state_of c.args.run.now (g.W.Watcher.seen c.args.watcher.now)) (state_of c.args.run.now (g.W.Watcher.seen c.send-in-None.new.watcher)) c.top-value.result None c.send-in-None.result
    c.top-value.ensures (rw same at c.in-None.ensures) (c.send-in-None.ensures.acts code)
