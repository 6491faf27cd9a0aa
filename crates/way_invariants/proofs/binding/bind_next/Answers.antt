use Rattle.c_core.specs.View.{program_view}
use Rattle.way_invariants.proofs.NextLaws.{one_bound, one_lacking}
use Rattle.way_invariants.proofs.binding.bind_next.Goals as goal

pub returns-in_ok-push-in-Ok : goal.returns-in_ok-push-in-Ok
returns-in_ok-push-in-Ok c =
    one_bound (program_view c.args.lookup.now.index) c.args.invariant.now c.args.placed.now c.push.new.self c.in-Ok.bound c.in_ok-push-in-Ok.ensures.ok c.in-Ok.ensures

pub returns-in-Err : goal.returns-in-Err
returns-in-Err c =
    one_lacking (program_view c.args.lookup.now.index) c.args.invariant.now c.args.placed.now c.len.result c.in_ok-number.number c.in-Err.lack c.told.result c.len.ensures c.in_ok-number.ensures c.told.ensures c.in-Err.ensures
