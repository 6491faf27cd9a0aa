use Rattle.c_core.specs.View.{program_view}
use Rattle.way_invariants.proofs.TestLaws.{bound_tested}
use Rattle.way_invariants.proofs.WholeLaws.{whole_bound, whole_told}
use Rattle.way_invariants.proofs.binding.bind_correctness.Goals as goal

pub returns-in_err-bind_sets-clause-bound : goal.returns-in_err-bind_sets-clause-bound
returns-in_err-bind_sets-clause-bound c =
    whole_told c.in_ok-lookup.lookup.index c.args.program.now c.args.witness.now c.as_slice.result.now c.new-placed.result c.in_err-bind_sets.field-0.0 c.from_residual-in_err-bind_sets.result c.in_ok-lookup.ensures c.new-placed.ensures c.as_slice.ensures c.from_residual-in_err-bind_sets.ensures.1 c.in_err-bind_sets.ensures

pub returns-clause-bound : goal.returns-clause-bound
returns-clause-bound c =
    whole_bound c.in_ok-lookup.lookup.index c.args.program.now c.args.witness.now c.as_slice.result.now c.new-placed.result c.bind_sets.new.placed c.in_ok-lookup.ensures c.new-placed.ensures c.as_slice.ensures c.in_ok-bind_sets.ensures

pub returns-clause-typed : goal.returns-clause-typed
returns-clause-typed c =
    bound_tested (program_view c.args.program.now) c.args.witness.now c.bind_sets.new.placed
    (whole_bound c.in_ok-lookup.lookup.index c.args.program.now c.args.witness.now c.as_slice.result.now c.new-placed.result c.bind_sets.new.placed c.in_ok-lookup.ensures c.new-placed.ensures c.as_slice.ensures c.in_ok-bind_sets.ensures)
