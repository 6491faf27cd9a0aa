use Rattle.std.proofs.Common.{◌∙◌, sym}
use Rattle.c_core.specs.View.{program_view}
use Rattle.circuits.proofs.Nets.{value_holds}
use Rattle.bit_answers.specs.Deciding.{inputs_of}
use Rattle.bit_answers.proofs.Drawn.{drawn, passed}
use Rattle.bit_answers.proofs.draws.draws_under.Goals as goal
use Rattle.bit_answers.proofs.draws.draws_under.Goals.{then-value_of_bit+in_ok-push, else-value_of_bit}

pub loop-site-preserved : goal.loop-site-preserved
loop-site-preserved c =
    let p = program_view c.args.program.now in
    let v = inputs_of c.args.inputs.now in
    let x = c.site-item.result in
    let values = c.deref.ensures.value ∙ c.in_ok-values.ensures in
    let live = value_holds v c.args.net.now x.live values c.value_of_bit.ensures in
    elim c.if-value_of_bit.branch [
      | then-value_of_bit+in_ok-push w ↦ drawn p v c.args.net.now c.args.sites.now c.loop-site.site-index x _ _ w.draw_of.result c.loop-site-test.true c.site-item.is (sym live ∙ w.if-value_of_bit.true) c.loop-site.invariant
          (w.draw_of.ensures v c.args.net.now (w.deref-then-value_of_bit.ensures.value ∙ c.in_ok-values.ensures)) (w.draws-is ∙ w.in_ok-push.ensures.ok)
      | else-value_of_bit w ↦ w.draws-is ∙ passed p v c.args.net.now c.args.sites.now c.loop-site.site-index x _ c.loop-site-test.true c.site-item.is (sym live ∙ w.if-value_of_bit.false) c.loop-site.invariant
    ]
