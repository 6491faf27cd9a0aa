use Rattle.std.proofs.Common.{rules, ◌≡◌, ◌∙◌, ◌+◌, suc, Err, arith}
use Rattle.c_core.specs.View.{program_view}
use Rattle.run_state.proofs.Declaring.{cells_halted, cells_on, cells_done}
use Rattle.run_state.proofs.cells.draw_cells.Goals as goal

pub returns-in_err-draw_cell-clause-gives : goal.returns-in_err-draw_cell-clause-gives
returns-in_err-draw_cell-clause-gives g c = λ n x.
    let e : c.from_residual.result ≡ Err c.in_err-draw_cell.field-0.0 = search rules in
    rw (e, ← c.size_of_object-size.ensures) (cells_halted (program_view c.args.program.now) g.W.Watcher.Seen g.W.Watcher.after c.args.spot c.args.object n c.size_of_object-size.result c.loop-index.index c.loop-index-test.true _ _ _ (c.loop-index.invariant.value n x) c.in_err-draw_cell.field-0.0 (c.in_err-draw_cell.ensures.gives x))

pub loop-index-preserved : goal.loop-index-preserved
loop-index-preserved g c =
    let e : c.loop-index.index + 1 ≡ suc c.loop-index.index = omega arith in
    record {
      spends = c.in_ok-draw_cell.ensures.spends ∙ c.loop-index.invariant.spends;
      value = λ n x. rw e (cells_on (program_view c.args.program.now) g.W.Watcher.Seen g.W.Watcher.after c.args.spot c.args.object n c.size_of_object-size.result c.loop-index.index c.loop-index-test.true _ _ _ (c.loop-index.invariant.value n x) (c.in_ok-draw_cell.ensures.gives x));
    }

pub returns-clause-gives : goal.returns-clause-gives
returns-clause-gives g c = λ n x.
    let e : c.loop-index.index ≡ c.size_of_object-size.result = search rules in
    rw (← c.size_of_object-size.ensures) (cells_done (program_view c.args.program.now) g.W.Watcher.Seen g.W.Watcher.after c.args.spot c.args.object n c.size_of_object-size.result c.loop-index.index _ _ e (c.loop-index.invariant.value n x))
