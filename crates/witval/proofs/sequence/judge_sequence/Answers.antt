use Rattle.std.proofs.Common.{subst, IfOk}
use Rattle.c_core.specs.declared.program.Program.{Program}
use Rattle.witval.specs.Tasks.{RightOnSequence}
use Rattle.witval.proofs.sequence.judge_sequence.Goals as goal

pub returns : goal.returns
returns c =
    subst (λ (p : Program). IfOk c.judge_over.result (RightOnSequence c.args.steps c.args.witness.now p)) c.in_ok-lookup.ensures c.judge_over.ensures
