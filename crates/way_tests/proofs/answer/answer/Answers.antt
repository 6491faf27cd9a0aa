use Rattle.std.proofs.Common.{◌≡◌, cond, Bool, get_or, refl, sym, ap, ◌∙◌}
use Rattle.c_core.specs.declared.number.IntType.TheVariants as type
use Rattle.way_tests.specs.Code.{is_yes}
use Rattle.way_tests.specs.declared.step.Operand.TheVariants.{Cell}
use Rattle.way_tests.specs.declared.step.Step.{Step}
use Rattle.way_tests.specs.declared.step.Test.TheVariants.{Truth}
use Rattle.way_tests.proofs.StepLaws.{one_more}
use Rattle.way_tests.proofs.answer.answer.Goals as goal
use Rattle.way_tests.proofs.answer.answer.Goals.{then-yes, else-yes}

-- what is read past the end
abbrev any : Step
any = record { test = Truth (Cell 0 type.Bool); yes = 0; no = 0 }

pub loop-at-preserved : goal.loop-at-preserved
loop-at-preserved c =
    let s : Step = get_or c.args.steps.now c.loop-at.at any in
    let skipped : c.if-yes.skipped ≡ cond c.in-Some.answer s.yes s.no = elim c.if-yes.branch [
      | then-yes w ↦ w.skipped-is ∙ sym (ap (λ (b : Bool). cond b s.yes s.no) w.if-yes.true)
      | else-yes w ↦ w.skipped-is ∙ sym (ap (λ (b : Bool). cond b s.yes s.no) w.if-yes.false)
    ] in
    ap is_yes
    (one_more c.args.model c.args.memory.now.cells c.args.steps.now c.loop-at.at any c.loop-at.yes c.in-Some.answer c.if-yes.skipped c.past-at.result c.loop-at-test.true
    (sym c.tested.ensures ∙ c.in-Some.is) skipped (c.past-at.ensures.past c.args.steps.now refl)) ∙ c.loop-at.invariant
