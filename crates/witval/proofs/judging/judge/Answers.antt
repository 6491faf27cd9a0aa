use Rattle.witval.specs.Purposes.{meant}
use Rattle.witval.proofs.JudgedTask.{after_property}
use Rattle.witval.proofs.judging.judge.Goals as goal

pub returns-in-Ok-clause-right : goal.returns-in-Ok-clause-right
returns-in-Ok-clause-right c =
    let inputs = c.args.inputs.now in
    after_property (meant c.args.purpose) inputs.program.items _ inputs.property.items _ inputs.witness.items _ c.in-Ok.property _
    c.deref-in-Ok.ensures.value c.deref.ensures.value c.deref-in-Ok-2.ensures.value c.in-Ok.ensures c.judge_bytes.ensures.right

pub returns-in-Ok-clause-kept : goal.returns-in-Ok-clause-kept
returns-in-Ok-clause-kept c = rw c.deref-in-Ok.ensures.value at c.judge_bytes.ensures.kept
