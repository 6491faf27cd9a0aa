use Rattle.std.proofs.Common.{◌≡◌, ap, length, arith}
use Rattle.std.proofs.lemmas.List.{with_items_is}
use Rattle.clauses.proofs.Accepting.{judged_next}
use Rattle.clauses.proofs.accept.accepts_log.Goals as goal

pub loop-at-preserved : goal.loop-at-preserved
loop-at-preserved c =
    let value : length c.deref_mut.result.now ≡ length c.loop-at.cells.items = ap length c.deref_mut.ensures.value in
    let many : length c.is_right.new.cells ≡ c.loop-at.cells.len = omega (arith, c.is_right.auto.cells, c.deref_mut.ensures.len) in
    judged_next c.args.cnf.now.variables c.args.cnf.now.clauses c.args.log.now.chains c.as_slice-chains.result.now c.loop-at.cells.items c.deref_mut.result.now c.is_right.new.cells _ c.loop-at.at c.index-chains-at.result c.in_ok-is_right.field-0
    c.as_slice-chains.ensures c.loop-at-test.true c.index-chains-at.is c.deref_mut.ensures.value (with_items_is c.loop-at.cells c.is_right.new.cells many) (omega (arith, c.is_right.auto.cells)) c.if-not-branch.false c.loop-at.invariant c.in_ok-is_right.ensures
