use Rattle.witval.proofs.JudgedTask.{after_model, after_task_fault}
use Rattle.witval.specs.Purposes.{meant}
use Rattle.witval.proofs.judging.judge_witness.Goals as goal

pub returns-in-Ok-clause-right : goal.returns-in-Ok-clause-right
returns-in-Ok-clause-right c = after_model (meant c.args.purpose) c.args.property c.args.program.now c.args.witness.now c.in-Ok.model _ c.in-Ok.ensures c.judge_model.ensures.right

pub returns-in_ok-refuse_task-in-Err-clause-right : goal.returns-in_ok-refuse_task-in-Err-clause-right
returns-in_ok-refuse_task-in-Err-clause-right c =
    after_task_fault (meant c.args.purpose) c.args.property c.args.program.now c.args.witness.now c.in-Err.fault _ c.in-Err.ensures c.in_ok-refuse_task-in-Err.ensures
