use Rattle.witval.proofs.JudgedTask.{after_fault, after_witness}
use Rattle.witval.proofs.ShortKeys.{read_short}
use Rattle.witval.specs.Purposes.{meant}
use Rattle.witval.proofs.judging.judge_tree.Goals as goal

pub judge_witness-requires-clause-keys : goal.judge_witness-requires-clause-keys
judge_witness-requires-clause-keys c = read_short c.args.tree.now c.in-Ok.witness c.requires.fits c.in-Ok.ensures.answer

pub returns-in-Ok-clause-right : goal.returns-in-Ok-clause-right
returns-in-Ok-clause-right c = after_witness (meant c.args.purpose) c.args.property c.args.program.now c.args.tree.now c.in-Ok.witness _ c.in-Ok.ensures.answer c.judge_witness.ensures.right

pub returns-in_ok-refuse_schema-in-Err-clause-right : goal.returns-in_ok-refuse_schema-in-Err-clause-right
returns-in_ok-refuse_schema-in-Err-clause-right c =
    after_fault (meant c.args.purpose) c.args.property c.args.program.now c.args.tree.now c.in-Err.fault _ c.in-Err.ensures.answer c.in_ok-refuse_schema-in-Err.ensures
