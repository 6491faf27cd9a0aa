use Rattle.c_core.specs.View.{program_view}
use Rattle.way_invariants.proofs.NextLaws.{none_yet, sets_kept, sets_told}
use Rattle.way_invariants.proofs.binding.bind_sets.Goals as goal

pub loop-entry-init : goal.loop-entry-init
loop-entry-init c = none_yet (program_view c.args.lookup.now.index) c.args.placed.now

pub returns-in_err-bind_set : goal.returns-in_err-bind_set
returns-in_err-bind_set c =
    sets_told (program_view c.args.lookup.now.index) c.args.entries.now c.loop-entry.entry-index c.entry-item.result c.set_of.result.now c.args.placed.now c.loop-entry.placed c.bind_set.new.placed c.in_err-bind_set.field-0.0 c.from_residual.result c.loop-entry-test.true c.entry-item.is c.set_of.ensures c.loop-entry.invariant c.from_residual.ensures.1 c.in_err-bind_set.ensures

pub loop-entry-preserved : goal.loop-entry-preserved
loop-entry-preserved c =
    sets_kept (program_view c.args.lookup.now.index) c.args.entries.now c.loop-entry.entry-index c.entry-item.result c.set_of.result.now c.args.placed.now c.loop-entry.placed c.bind_set.new.placed c.loop-entry-test.true c.entry-item.is c.set_of.ensures c.loop-entry.invariant c.in_ok-bind_set.ensures
