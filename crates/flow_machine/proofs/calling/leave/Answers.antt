use Rattle.std.proofs.Common.{rules, ◌≡◌, Err, [], ◌∷◌, reverse, ap, ◌∙◌, arith}
use Rattle.std.proofs.lemmas.List.{reverse-append}
use Rattle.flow_machine.specs.Views.{control_of}
use Rattle.flow_machine.proofs.Fronting.{on_broken, then_broken, saw_none, leaving_broken}
use Rattle.flow_machine.proofs.calling.leave.Goals as goal

pub returns-in_err-tell-clause-lasting : goal.returns-in_err-tell-clause-lasting
returns-in_err-tell-clause-lasting g c = λ sure spare.
    let e : c.from_residual.result ≡ Err c.in_err-tell.field-0.0 = search rules in
    rw e (c.in_err-tell.ensures.lasting sure)

pub returns-in-Some-value-clause-lasting : goal.returns-in-Some-value-clause-lasting
returns-in-Some-value-clause-lasting g c = λ sure spare. c.push.ensures.lasting (omega (arith, spare.stack))

pub returns-else-frame-clause-lasting : goal.returns-else-frame-clause-lasting
returns-else-frame-clause-lasting g c = λ sure spare. c.push-in-None.ensures.lasting (omega (arith, spare.stack))

pub returns-in_err-tell-clause-front : goal.returns-in_err-tell-clause-front
returns-in_err-tell-clause-front g c = λ code.
    let e : c.from_residual.result ≡ Err c.in_err-tell.field-0.0 = search rules in
    rw e (then_broken c.in_err-tell.field-0.0 (saw_none g.W.Watcher.after _ _ _) c.in_err-tell.ensures.still)

pub returns-in-Some-value-clause-front : goal.returns-in-Some-value-clause-front
returns-in-Some-value-clause-front g c = λ code.
    let w = g.W.Watcher.seen in
    on_broken c.push.result
    (leaving_broken code g.W.Watcher.after c.in-Some.frame (reverse c.pop.new.self.items) (reverse c.args.control.now.frames.items) c.args.value (control_of c.args.control.now) c.args.run.now
    c.cut.new.self.cells (w c.args.watcher.now) (w c.tell.new.watcher) (ap reverse c.in-Some.ensures.items ∙ reverse-append c.pop.new.self.items (c.in-Some.frame ∷ [])) c.cut.ensures.cells
    c.in_ok-tell.ensures.seen)

pub returns-else-frame-clause-front : goal.returns-else-frame-clause-front
returns-else-frame-clause-front g c = λ code.
    let w = g.W.Watcher.seen in
    on_broken c.push-in-None.result
    (leaving_broken code g.W.Watcher.after c.in-Some.frame (reverse c.pop.new.self.items) (reverse c.args.control.now.frames.items) c.args.value (control_of c.args.control.now) c.args.run.now
    c.cut.new.self.cells (w c.args.watcher.now) (w c.tell.new.watcher) (ap reverse c.in-Some.ensures.items ∙ reverse-append c.pop.new.self.items (c.in-Some.frame ∷ [])) c.cut.ensures.cells
    c.in_ok-tell.ensures.seen)
