use Rattle.std.proofs.Common.{◌≡◌, ◌+◌, ◌∷◌, ◌∙◌, suc, drop, drop-cons, ap, sym, arith}
use Rattle.c_core.specs.View.{program_view}
use Rattle.run_state.proofs.Starting.{objects_left, few_objects}
use Rattle.flow_code.proofs.statics.first_cells.Goals as goal

pub overflow_add-number : goal.overflow_add-number
overflow_add-number c =
    let few = few_objects (program_view c.args.program.now) c.args.program.now.checked in
    let lt = rw c.as_slice-object-items.ensures at c.loop-object-test.true in
    omega (arith, few, lt, c.loop-object.invariant.at)

pub loop-object-preserved : goal.loop-object-preserved
loop-object-preserved c =
    let objects = c.args.program.now.objects in
    let i = c.loop-object.object-index in
    let at = c.loop-object.invariant.at in
    let lt = rw c.as_slice-object-items.ensures at c.loop-object-test.true in
    let is = rw c.as_slice-object-items.ensures at c.object-item.is in
    let d = drop-cons objects i c.object-item.result lt ∙ ap (λ x. x ∷ drop (suc i) objects) (sym is) in
    let e : c.loop-object.number + 1 ≡ suc i = omega (arith, at) in
    let added = rw c.start_values-values.ensures at c.in_ok-add_static.ensures in
    record {
      at = omega (arith, at);
      cells = rw e (objects_left c.args.program.now.starts objects i c.object-item.result _ _ _ d (rw at at c.loop-object.invariant.cells) (rw at at added));
    }
