use Rattle.std.proofs.Common.{rules}
use Rattle.witval.proofs.JudgedTask.{not_shown, shown_by}
use Rattle.witval.proofs.shown.shown_tree.Goals as goal

pub returns-in_ok-summary-in-Ok : goal.returns-in_ok-summary-in-Ok
returns-in_ok-summary-in-Ok c = shown_by c.args.tree.now c.in-Ok.witness _ c.in-Ok.ensures.answer (search rules)

pub returns-in_ok-refuse_schema-in-Err : goal.returns-in_ok-refuse_schema-in-Err
returns-in_ok-refuse_schema-in-Err c = not_shown c.args.tree.now c.in-Err.fault _ c.in-Err.ensures.answer c.in_ok-refuse_schema-in-Err.ensures
