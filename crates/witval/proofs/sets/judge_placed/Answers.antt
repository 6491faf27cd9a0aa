use Rattle.c_meaning.specs.Placing.{placed_view}
use Rattle.witval.proofs.JudgedSets.{told, not_told}
use Rattle.witval.proofs.sets.judge_placed.Goals as goal

pub returns-in-Ok : goal.returns-in-Ok
returns-in-Ok c =
    let e = c.in-Ok.ensures in
    told c.args.conflicts c.args.program.now (placed_view c.args.invariants.now) c.in-Ok.judged.verdict _ (record { right = e.right; confirmed = e.confirmed; judged = e.judged; decided = e.decided }) c.verdict_of.ensures

pub returns-in-Err : goal.returns-in-Err
returns-in-Err c =
    not_told c.args.conflicts c.args.program.now (placed_view c.args.invariants.now) c.in-Err.fault _ c.in-Err.ensures.fault c.refuse_obligations.ensures
