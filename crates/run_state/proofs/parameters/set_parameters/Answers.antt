use Rattle.std.proofs.Common.{rules, Err, ◌≡◌, ◌∙◌, ◌+◌, suc, drop-cons, arith}
use Rattle.c_core.specs.View.{program_view}
use Rattle.run_state.proofs.Calling.{set_on, set_halted}
use Rattle.run_state.proofs.parameters.set_parameters.Goals as goal

pub returns-in_err-set_next-clause-gives : goal.returns-in_err-set_next-clause-gives
returns-in_err-set_next-clause-gives g c = λ x.
    let e : c.from_residual.result ≡ Err c.in_err-set_next.field-0.0 = search rules in
    rw e (set_halted (program_view c.args.program.now) g.W.Watcher.Seen g.W.Watcher.after c.args.parameters.now c.args.values.now c.loop-index.index _ _ _ _ c.in_err-set_next.field-0.0
    (drop-cons c.args.parameters.now c.loop-index.index 0 c.loop-index-test.true) (c.loop-index.invariant.value x) (c.in_err-set_next.ensures.gives x))

pub loop-index-preserved : goal.loop-index-preserved
loop-index-preserved g c =
    let e : c.loop-index.index + 1 ≡ suc c.loop-index.index = omega arith in
    record {
      spends = c.in_ok-set_next.ensures.spends ∙ c.loop-index.invariant.spends;
      value = λ x. rw e (set_on (program_view c.args.program.now) g.W.Watcher.Seen g.W.Watcher.after c.args.parameters.now c.args.values.now c.loop-index.index _ _ _ _
          (drop-cons c.args.parameters.now c.loop-index.index 0 c.loop-index-test.true) (c.loop-index.invariant.value x) (c.in_ok-set_next.ensures.gives x));
    }
