use Rattle.c_core.specs.View.{program_view}
use Rattle.flow_machine.proofs.compiled.compile.Goals as goal

pub invariant_of-result : goal.invariant_of-result
invariant_of-result c = c.code_is_paced.ensures (program_view c.args.program.now) c.in_ok-operations.operations c.in_ok-operations.ensures
