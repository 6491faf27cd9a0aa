use Rattle.std.proofs.Common.{string_bytes, arith, refl}
use Rattle.wv_cert.specs.Text.{IsStep, step_text}
use Rattle.std.proofs.lemmas.List.Elements.{All-more}
use Rattle.wv_cert.proofs.Chains.{fine_all, written_more}
use Rattle.wv_cert.proofs.writing.add_steps.Goals as goal

pub loop-step-preserved : goal.loop-step-preserved
loop-step-preserved c =
    record {
      text = written_more step_text c.args.steps.now c.loop-step.step-index (record { with = 0; on = 0 }) (string_bytes c.loop-step.out) _ (string_bytes c.add_step.new.out)
          c.loop-step-test.true c.loop-step.invariant.text c.in_ok-add_step.ensures.text;
      fine = All-more IsStep c.args.steps.now c.loop-step.step-index (record { with = 0; on = 0 }) c.loop-step-test.true c.loop-step.invariant.fine c.in_ok-add_step.ensures.fine;
    }

pub returns-clause-fine : goal.returns-clause-fine
returns-clause-fine c = fine_all IsStep c.args.steps.now c.args.steps.now c.loop-step.step-index refl (omega arith) c.loop-step.invariant.fine
