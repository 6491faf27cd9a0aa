use Rattle.std.proofs.Common.{rules, ◌≡◌, true, ◌-◌, slice_get, refl, sym, ap, ◌∙◌, subst}
use Rattle.std.proofs.lemmas.Option.{slice_get_read}
use Rattle.run_state.specs.Fronts.{SawFront}
use Rattle.flow_machine.specs.Fronts.{OnBroken}
use Rattle.flow_machine.proofs.Fronting.{paid_events}
use Rattle.flow_machine.proofs.Lasting.{step_in_room, spare_paid, counted_paid}
use Rattle.flow_machine.proofs.stepping.step.Goals as goal

pub returns-clause-lasting : goal.returns-clause-lasting
returns-clause-lasting g c = λ sure spare counted fits.
    let x = g.W.Watcher.seen c.args.watcher.now in
    let k = c.args.control.now in
    let r = c.args.run.now in
    let o = c.in-Some.op.now in
    let found = ap (λ os. slice_get os k.at) (sym c.as_slice.ensures) ∙ slice_get_read c.as_slice.result.now _ k.at o refl c.in-Some.ensures.lookup.3.0 c.in-Some.ensures.lookup.1 in
    let full : c.pay.result ≡ true = search rules in
    let p = c.pay.ensures.paid full in
    c.act.ensures.lasting sure (spare_paid k c.pay.new.control p.0 spare) (counted_paid r c.pay.new.run (r.steps - (o.steps - k.paid)) p.1 counted)
    (step_in_room c.args.code.now g.W.Watcher.Seen g.W.Watcher.after k c.pay.new.control r c.pay.new.run x o c.pay.result (sym found) c.pay.ensures.enough full p.0 p.1 fits)

pub returns-clause-front : goal.returns-clause-front
returns-clause-front g c =
    let w = g.W.Watcher.seen in
    let k = c.args.control.now in
    let r = c.args.run.now in
    let o = c.in-Some.op.now in
    let found = ap (λ os. slice_get os k.at) (sym c.as_slice.ensures) ∙ slice_get_read c.as_slice.result.now _ k.at o refl c.in-Some.ensures.lookup.3.0 c.in-Some.ensures.lookup.1 in
    let full : c.pay.result ≡ true = search rules in
    let p = c.pay.ensures.paid full in
    subst (λ ms. OnBroken c.act.result (SawFront g.W.Watcher.after ms (w c.args.watcher.now) (w c.act.new.watcher)))
    (paid_events c.args.code.now k c.pay.new.control r c.pay.new.run o c.pay.result (sym found) c.pay.ensures.enough full p.0 p.1) c.act.ensures.front
