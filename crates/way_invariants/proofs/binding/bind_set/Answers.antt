use Rattle.c_core.specs.View.{program_view}
use Rattle.way_invariants.proofs.NextLaws.{none_yet, set_kept, set_told}
use Rattle.way_invariants.proofs.binding.bind_set.Goals as goal

pub loop-invariant-init : goal.loop-invariant-init
loop-invariant-init c = none_yet (program_view c.args.lookup.now.index) c.args.placed.now

pub returns-in_err-bind_next : goal.returns-in_err-bind_next
returns-in_err-bind_next c =
    set_told (program_view c.args.lookup.now.index) c.args.set.now c.loop-invariant.invariant-index c.invariant-item.result c.args.placed.now c.loop-invariant.placed c.bind_next.new.placed c.in_err-bind_next.field-0.0 c.from_residual.result c.loop-invariant-test.true c.invariant-item.is c.loop-invariant.invariant c.from_residual.ensures.1 c.in_err-bind_next.ensures

pub loop-invariant-preserved : goal.loop-invariant-preserved
loop-invariant-preserved c =
    set_kept (program_view c.args.lookup.now.index) c.args.set.now c.loop-invariant.invariant-index c.invariant-item.result c.args.placed.now c.loop-invariant.placed c.bind_next.new.placed c.loop-invariant-test.true c.invariant-item.is c.loop-invariant.invariant c.in_ok-bind_next.ensures
