use Rattle.std.proofs.Common.{rules, ◌≡◌, ◌+◌, [], Err, suc, drop-cons, arith}
use Rattle.c_core.specs.View.{program_view}
use Rattle.havoc_state.specs.Havocking.{left_of}
use Rattle.havoc_state.proofs.Calling.{set_on, set_halted}
use Rattle.havoc_state.proofs.parameters.set_parameters.Goals as goal

pub loop-index-preserved : goal.loop-index-preserved
loop-index-preserved c =
    let e : c.loop-index.index + 1 ≡ suc c.loop-index.index = omega arith in
    rw e (set_on (program_view c.args.program.now) [] c.args.parameters.now c.args.values.now c.loop-index.index _ (left_of c.loop-index.machine) (left_of c.set_next.new.machine) _
    (drop-cons c.args.parameters.now c.loop-index.index 0 c.loop-index-test.true) c.loop-index.invariant c.in_ok-set_next.ensures)

pub returns-in_err-set_next : goal.returns-in_err-set_next
returns-in_err-set_next c =
    let e : c.from_residual.result ≡ Err c.in_err-set_next.field-0.0 = search rules in
    rw e (set_halted (program_view c.args.program.now) [] c.args.parameters.now c.args.values.now c.loop-index.index _ (left_of c.loop-index.machine) (left_of c.set_next.new.machine) _
    (drop-cons c.args.parameters.now c.loop-index.index 0 c.loop-index-test.true) c.loop-index.invariant c.in_err-set_next.field-0.0 c.in_err-set_next.ensures)
