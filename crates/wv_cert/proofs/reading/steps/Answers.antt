use Rattle.std.proofs.Common.{◌++◌, codes, sym, ap, subst}
use Rattle.std.specs.List.{All, flat_map}
use Rattle.std.proofs.lemmas.List.Elements.{All-nil}
use Rattle.wv_cert.specs.Text.{IsStep, step_text}
use Rattle.wv_cert.proofs.Chains.{step_some, items_done, items_stuck, row_fine, row_so_far, row_shorter}
use Rattle.wv_cert.proofs.Items.{Ends, ends_less}
use Rattle.wv_cert.proofs.Shapes.{steps_are, passed, passed_not}
use Rattle.wv_cert.proofs.reading.steps.Goals as goal

pub loop-text-init : goal.loop-text-init
loop-text-init c =
    record {
      fine = subst (All IsStep) (sym c.new-steps.ensures) (All-nil IsStep);
      ends = subst (λ list. Ends list c.args.text.now) (sym c.new-steps.ensures) tt;
      so_far = ap (λ list. flat_map step_text list ++ c.args.text.now) c.new-steps.ensures;
    }

pub returns-in_default : goal.returns-in_default
returns-in_default c =
    items_stuck IsStep step_text (codes " =") steps_are c.loop-text.steps c.args.text.now c.loop-text.text c.passes.new.self c.loop-text.invariant.fine
    c.loop-text.invariant.ends c.loop-text.invariant.so_far
    (passed_not (codes " =") c.loop-text.text c.passes.new.self c.passes.result c.loop-text-test.true c.passes.ensures) c.in_default.ensures

pub loop-text-preserved : goal.loop-text-preserved
loop-text-preserved c =
    let read = c.in-Some.ensures in
    let word = passed_not (codes " =") c.loop-text.text c.passes.new.self c.passes.result c.loop-text-test.true c.passes.ensures in
    record {
      fine = row_fine IsStep c.loop-text.steps c.push.new.self c.in-Some.step c.in_ok-push.ensures.ok c.loop-text.invariant.fine read.0;
      ends = ends_less c.push.new.self c.step.new.text read.2;
      so_far = row_so_far step_text c.loop-text.steps c.push.new.self c.in-Some.step c.args.text.now c.loop-text.text c.passes.new.self c.step.new.text
          c.in_ok-push.ensures.ok c.loop-text.invariant.so_far word.0 read.1;
    }

pub loop-text-smaller : goal.loop-text-smaller
loop-text-smaller c =
    let read = c.in-Some.ensures in
    let word = passed_not (codes " =") c.loop-text.text c.passes.new.self c.passes.result c.loop-text-test.true c.passes.ensures in
    row_shorter step_text c.in-Some.step c.loop-text.text c.passes.new.self c.step.new.text (step_some c.in-Some.step) word.0 read.1

pub returns : goal.returns
returns c =
    let word = passed (codes " =") c.loop-text.text c.passes.new.self c.passes.result c.loop-text-test.false c.passes.ensures in
    (c.loop-text.invariant.fine, items_done step_text (codes " =") c.loop-text.steps c.args.text.now c.loop-text.text c.passes.new.self c.loop-text.invariant.so_far word)
