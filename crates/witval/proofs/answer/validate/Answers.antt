use Rattle.wv_arguments.specs.Requests.{limits, named}
use Rattle.witval.specs.Purposes.{Judging}
use Rattle.witval.proofs.Judged.{verdict_if}
use Rattle.witval.proofs.KeptLaws.{of_file}
use Rattle.witval.proofs.OfBytes.{stopped}
use Rattle.witval.proofs.answer.validate.Goals as goal

pub returns-in-Ok-clause-right : goal.returns-in-Ok-clause-right
returns-in-Ok-clause-right g c = (verdict_if (named c.args.names.now) (limits c.args.budgets) _ _ c.in-Ok.inputs _ c.in-Ok.ensures.within c.in-Ok.ensures.inputs c.judge.ensures.right).0

pub returns-in-Ok-clause-integers : goal.returns-in-Ok-clause-integers
returns-in-Ok-clause-integers g c =
    (verdict_if (named c.args.names.now) (limits c.args.budgets) (g.S.Shelf.state c.args.shelf.now) (g.S.Shelf.state c.args.shelf.now) c.in-Ok.inputs _ c.in-Ok.ensures.within c.in-Ok.ensures.inputs c.judge.ensures.right).1

pub returns-in_ok-stopped-in-Err-clause-right : goal.returns-in_ok-stopped-in-Err-clause-right
returns-in_ok-stopped-in-Err-clause-right g c = (stopped (named c.args.names.now) (Judging (limits c.args.budgets)) _ _ c.in-Err.stop _ c.in_ok-stopped-in-Err.ensures c.in-Err.ensures.stop).0

pub returns-in_ok-stopped-in-Err-clause-integers : goal.returns-in_ok-stopped-in-Err-clause-integers
returns-in_ok-stopped-in-Err-clause-integers g c = (stopped (named c.args.names.now) (Judging (limits c.args.budgets)) _ _ c.in-Err.stop _ c.in_ok-stopped-in-Err.ensures c.in-Err.ensures.stop).1

pub returns-in-Ok-clause-kept : goal.returns-in-Ok-clause-kept
returns-in-Ok-clause-kept g c = of_file (named c.args.names.now) (g.S.Shelf.state c.args.shelf.now) c.in-Ok.inputs _ c.in-Ok.ensures.inputs c.judge.ensures.kept
