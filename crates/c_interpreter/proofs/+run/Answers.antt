use Rattle.std.proofs.Common.{rules, ◌≡◌, ◌∙◌, ◌+◌, ◌*◌, ◌≤◌, suc, ◌∷◌, length, drop, drop-cons, arith, ap, sym, refl, None, Some, Ok, Err, true, false}
use mir.Val.{SFits}
use mir.Syntax.{w128}
use Rattle.std.proofs.lemmas.Int.{to_z-of_z}
use Rattle.c_core.specs.Tree.{Index, Unary, Cast, Step, Binary, Logic, Choose, Comma, Assign, Call}
use Rattle.c_core.proofs.View.{view_of_index, view_of_call, view_of_block, view_of_switch}
use Rattle.c_core.specs.View.{program_view, expr_view, exprs_view, rows_view, switch_view, node_view, expr_view_if, stmt_view, first_view, form_view, init_view, function_view}
use Rattle.c_meaning.specs.Meaning.{Used, ACell, AParameter}
use Rattle.c_meaning.specs.Objects.{type_of, columns_of_object}
use Rattle.run_state.specs.Interpreting.{same, key_of, use_of, where_of, state_of, pairs_of, flow_of, else_part, convertible, loop_in, all_rounds, site_of}
use Rattle.run_state.proofs.Starting.{function_at, no_function_at}
use Rattle.run_state.proofs.Calling.{call_few_steps, call_full, call_no_room, call_all, number_found, number_missing, parameters_halted, parameters_passed}
use Rattle.run_state.specs.declared.machine.Typed.{Typed}
use Rattle.run_state.proofs.Giving.{halted, went}
use Rattle.run_state.proofs.Evaluating.{ticked_node, ticked_target, as_form, as_place, cast_gives, logic_gives, picked_first, picked_second, list_on, list_full, list_halted, call_halted, enter_halted, entered}
use Rattle.c_interpreter.proofs.Executing.{view_of_if, stepped, sequence_halted, sequence_on, sequence_left, chosen, choice_halts, declare_halted, declare_on, initial_stored, introduce_few_steps, introduce_no_room, introduce_no_cells, introduce_all, bodied}
use Rattle.c_interpreter.proofs.Expressing.{binary_goes, binary_halts, unary_goes, comma_goes, both_go_on, either_goes_on, step_goes, decided_goes, do_goes, for_rest_goes, replace_halts, update_halts, update_goes, choose_goes, choose_halts, call_goes, call_halts}
use Rattle.c_interpreter.proofs.Indexing.{one_item, two_items, one_halts, one_goes, row_halts, column_halts, two_go, many_halt, many_go, all_halted, all_on, index_halts, index_goes}
use Rattle.c_interpreter.proofs.Switching.{rest_taken, switch_halts, switch_goes, arms_are, no_arm, arms_halted, arms_on, arms_left}
use Rattle.c_interpreter.proofs.Looping.{while_given, do_given, for_given, while_chosen, while_halts, for_chosen, for_halts, rounds_halted, rounds_left, rounds_broken, rounds_on, test_done, test_halts}
use Rattle.c_core.specs.declared.number.IntType.TheVariants.{Int}
use Rattle.run_state.proofs.Declaring.{values_halted, values_full, values_on, rows_halted, rows_on}
use Rattle.run_state.specs.declared.machine.Flow.TheVariants.{Broken}
use Rattle.run_state.specs.declared.machine.Halt.TheVariants.{NoMemory}
use Rattle.c_interpreter.proofs.+run.Goals as goal

pub expressions::eval-returns-in_err-tick-clause-gives : goal.expressions::eval-returns-in_err-tick-clause-gives
expressions::eval-returns-in_err-tick-clause-gives g t c =
    let e : c.from_residual.result ≡ Err c.in_err-tick.field-0.0 = search rules in
    rw e (halted same same c.in_err-tick.field-0.0 _ _ _ (c.in_err-tick.ensures.gives (program_view c.args.program.now) (g.W.Watcher.seen c.args.watcher.now)))

pub expressions::eval-returns-clause-gives : goal.expressions::eval-returns-clause-gives
expressions::eval-returns-clause-gives g t c =
    let k = c.in_ok-tick.ensures.gives (program_view c.args.program.now) (g.W.Watcher.seen c.args.watcher.now) in
    ticked_node (program_view c.args.program.now) g.W.Watcher.Seen g.W.Watcher.after c.args.depth _ _ _ _ _ _ _ _ c.node.result k c.node.ensures.gives

pub expressions::target-returns-in_err-tick-clause-gives : goal.expressions::target-returns-in_err-tick-clause-gives
expressions::target-returns-in_err-tick-clause-gives g t c =
    let e : c.from_residual.result ≡ Err c.in_err-tick.field-0.0 = search rules in
    rw e (halted same key_of c.in_err-tick.field-0.0 _ _ _ (c.in_err-tick.ensures.gives (program_view c.args.program.now) (g.W.Watcher.seen c.args.watcher.now)))

pub expressions::target-returns-clause-gives : goal.expressions::target-returns-clause-gives
expressions::target-returns-clause-gives g t c =
    let k = c.in_ok-tick.ensures.gives (program_view c.args.program.now) (g.W.Watcher.seen c.args.watcher.now) in
    ticked_target (program_view c.args.program.now) g.W.Watcher.Seen g.W.Watcher.after c.args.depth _ _ c.args.e.now.ty _ _ _ _ c.place.result k c.place.ensures.gives

pub expressions::node-returns-in-Binary-clause-gives : goal.expressions::node-returns-in-Binary-clause-gives
expressions::node-returns-in-Binary-clause-gives g t c =
    let e : node_view c.args.e.now.node ≡ Binary c.in-Binary.op (expr_view c.deref.result.now) (expr_view c.deref-in-Binary.result.now) = rw (c.in-Binary.is, c.deref.ensures, c.deref-in-Binary.ensures) refl in
    as_form (program_view c.args.program.now) g.W.Watcher.Seen g.W.Watcher.after c.args.depth _ _ _ _ _ _ _ _ c.binary.result e c.binary.ensures.gives

pub expressions::node-returns-in-Unary-clause-gives : goal.expressions::node-returns-in-Unary-clause-gives
expressions::node-returns-in-Unary-clause-gives g t c =
    let e : node_view c.args.e.now.node ≡ Unary c.in-Unary.op (expr_view c.deref-in-Unary.result.now) = rw (c.in-Unary.is, c.deref-in-Unary.ensures) refl in
    as_form (program_view c.args.program.now) g.W.Watcher.Seen g.W.Watcher.after c.args.depth _ _ _ _ _ _ _ _ c.unary.result e c.unary.ensures.gives

pub expressions::node-returns-in-Cast-clause-gives : goal.expressions::node-returns-in-Cast-clause-gives
expressions::node-returns-in-Cast-clause-gives g t c =
    let e : node_view c.args.e.now.node ≡ Cast (expr_view c.deref-in-Cast.result.now) = rw (c.in-Cast.is, c.deref-in-Cast.ensures) refl in
    as_form (program_view c.args.program.now) g.W.Watcher.Seen g.W.Watcher.after c.args.depth _ _ _ _ _ _ _ _ c.cast.result e (cast_gives (program_view c.args.program.now) g.W.Watcher.Seen g.W.Watcher.after c.args.depth
    (where_of c.args.at) (use_of c.args.used) c.args.e.now.spot c.args.at.full c.args.e.now.ty (expr_view c.deref-in-Cast.result.now)
    (state_of c.args.machine.now (g.W.Watcher.seen c.args.watcher.now)) (state_of c.cast.new.machine (g.W.Watcher.seen c.cast.new.watcher)) c.cast.result c.cast.ensures.gives)

pub expressions::node-returns-in-Step-clause-gives : goal.expressions::node-returns-in-Step-clause-gives
expressions::node-returns-in-Step-clause-gives g t c =
    let e : node_view c.args.e.now.node ≡ Step c.in-Step.op (expr_view c.deref-in-Step.result.now) = rw (c.in-Step.is, c.deref-in-Step.ensures) refl in
    as_form (program_view c.args.program.now) g.W.Watcher.Seen g.W.Watcher.after c.args.depth _ _ _ _ _ _ _ _ c.step.result e c.step.ensures.gives

pub expressions::node-returns-in-Comma-clause-gives : goal.expressions::node-returns-in-Comma-clause-gives
expressions::node-returns-in-Comma-clause-gives g t c =
    let e : node_view c.args.e.now.node ≡ Comma (expr_view c.deref-in-Comma.result.now) (expr_view c.deref-in-Comma-2.result.now) = rw (c.in-Comma.is, c.deref-in-Comma.ensures, c.deref-in-Comma-2.ensures) refl in
    as_form (program_view c.args.program.now) g.W.Watcher.Seen g.W.Watcher.after c.args.depth _ _ _ _ _ _ _ _ c.comma.result e c.comma.ensures.gives

pub expressions::node-returns-in-Logic-clause-gives : goal.expressions::node-returns-in-Logic-clause-gives
expressions::node-returns-in-Logic-clause-gives g t c =
    let e : node_view c.args.e.now.node ≡ Logic c.in-Logic.both (expr_view c.deref-in-Logic.result.now) (expr_view c.deref-in-Logic-2.result.now) = rw (c.in-Logic.is, c.deref-in-Logic.ensures, c.deref-in-Logic-2.ensures) refl in
    as_form (program_view c.args.program.now) g.W.Watcher.Seen g.W.Watcher.after c.args.depth _ _ _ _ _ _ _ _ c.logic.result e (logic_gives (program_view c.args.program.now) g.W.Watcher.Seen g.W.Watcher.after c.args.depth
    (where_of c.args.at) (use_of c.args.used) c.args.e.now.spot c.args.at.full c.args.e.now.ty c.in-Logic.both (expr_view c.deref-in-Logic.result.now) (expr_view c.deref-in-Logic-2.result.now)
    (state_of c.args.machine.now (g.W.Watcher.seen c.args.watcher.now)) (state_of c.logic.new.machine (g.W.Watcher.seen c.logic.new.watcher)) c.logic.result c.logic.ensures.gives)

pub expressions::node-returns-in-Assign-clause-gives : goal.expressions::node-returns-in-Assign-clause-gives
expressions::node-returns-in-Assign-clause-gives g t c =
    let e : node_view c.args.e.now.node ≡ Assign c.in-Assign.op (expr_view c.deref-in-Assign.result.now) (expr_view c.deref-in-Assign-2.result.now) = rw (c.in-Assign.is, c.deref-in-Assign.ensures, c.deref-in-Assign-2.ensures) refl in
    as_form (program_view c.args.program.now) g.W.Watcher.Seen g.W.Watcher.after c.args.depth _ _ _ _ _ _ _ _ c.assign.result e c.assign.ensures.gives

pub expressions::node-returns-in-Choose-clause-gives : goal.expressions::node-returns-in-Choose-clause-gives
expressions::node-returns-in-Choose-clause-gives g t c =
    let e : node_view c.args.e.now.node ≡ Choose c.in-Choose.mark (expr_view c.deref-in-Choose.result.now) (expr_view c.deref-in-Choose-2.result.now) (expr_view c.deref-in-Choose-3.result.now) = rw (c.in-Choose.is, c.deref-in-Choose.ensures, c.deref-in-Choose-2.ensures, c.deref-in-Choose-3.ensures) refl in
    as_form (program_view c.args.program.now) g.W.Watcher.Seen g.W.Watcher.after c.args.depth _ _ _ _ _ _ _ _ c.choose.result e c.choose.ensures.gives

pub expressions::replace-returns-clause-gives : goal.expressions::replace-returns-clause-gives
expressions::replace-returns-clause-gives g t c =
    let z : SFits w128 c.in_ok-value.value = search rules in
    let y : SFits w128 c.store.result = search rules in
    let k = rw (to_z-of_z w128 c.in_ok-value.value z, c.type_of.ensures) at (c.store.ensures.gives (type_of (expr_view c.args.from.now)) (g.W.Watcher.seen c.eval.new.watcher)) in
    let q = went c.in_ok-value.value _ _ _ _ c.in_ok-value.ensures.gives k in
    rw (to_z-of_z w128 c.store.result y) (went (key_of c.in_ok-key.key) _ _ _ _ c.in_ok-key.ensures.gives q)

pub expressions::converted-returns-clause-gives : goal.expressions::converted-returns-clause-gives
expressions::converted-returns-clause-gives g t c =
    let z : SFits w128 c.in_ok-value.value = search rules in
    let y : SFits w128 c.convert_to.result = search rules in
    let k = rw (to_z-of_z w128 c.in_ok-value.value z) at (c.convert_to.ensures.gives (type_of (expr_view c.args.e.now)) (state_of c.eval.new.machine (g.W.Watcher.seen c.eval.new.watcher))) in
    rw (to_z-of_z w128 c.convert_to.result y) (went c.in_ok-value.value _ _ _ _ c.in_ok-value.ensures.gives k)

pub expressions::assign-returns-in-None-clause-gives : goal.expressions::assign-returns-in-None-clause-gives
expressions::assign-returns-in-None-clause-gives g t c =
    let e = ap (λ o. Assign o (expr_view c.args.to.now) (expr_view c.args.from.now)) c.in-None.is in
    as_form (program_view c.args.program.now) g.W.Watcher.Seen g.W.Watcher.after c.args.depth (where_of c.args.at) Used c.args.spot None
    (Assign c.args.op (expr_view c.args.to.now) (expr_view c.args.from.now)) (Assign None (expr_view c.args.to.now) (expr_view c.args.from.now))
    (state_of c.args.machine.now (g.W.Watcher.seen c.args.watcher.now)) (state_of c.replace.new.machine (g.W.Watcher.seen c.replace.new.watcher))
    c.replace.result e c.replace.ensures.gives

pub expressions::assign-returns-in-Some-clause-gives : goal.expressions::assign-returns-in-Some-clause-gives
expressions::assign-returns-in-Some-clause-gives g t c =
    let e = ap (λ o. Assign o (expr_view c.args.to.now) (expr_view c.args.from.now)) c.in-Some.is in
    as_form (program_view c.args.program.now) g.W.Watcher.Seen g.W.Watcher.after c.args.depth (where_of c.args.at) Used c.args.spot None
    (Assign c.args.op (expr_view c.args.to.now) (expr_view c.args.from.now)) (Assign (Some c.in-Some.op) (expr_view c.args.to.now) (expr_view c.args.from.now))
    (state_of c.args.machine.now (g.W.Watcher.seen c.args.watcher.now)) (state_of c.update.new.machine (g.W.Watcher.seen c.update.new.watcher))
    c.update.result e c.update.ensures.gives

pub expressions::node-returns-in-Call-clause-gives : goal.expressions::node-returns-in-Call-clause-gives
expressions::node-returns-in-Call-clause-gives g t c =
    let e = ap node_view c.in-Call.is ∙ view_of_call c.in-Call.callee c.in-Call.args c.in-Call.close in
    as_form (program_view c.args.program.now) g.W.Watcher.Seen g.W.Watcher.after c.args.depth _ _ _ _ _ _ _ _ c.call.result e c.call.ensures.gives

pub expressions::call-returns-in_err-values-clause-gives : goal.expressions::call-returns-in_err-values-clause-gives
expressions::call-returns-in_err-values-clause-gives g t c =
    let e : c.from_residual.result ≡ Err c.in_err-values.field-0.0 = search rules in
    rw e (call_halted (program_view c.args.program.now) g.W.Watcher.Seen g.W.Watcher.after c.args.depth (where_of c.args.at) (use_of c.args.used) c.args.e.now.spot c.args.close c.args.e.now.ty c.args.callee (exprs_view c.args.args.now)
    (state_of c.args.machine.now (g.W.Watcher.seen c.args.watcher.now)) (state_of c.arguments.new.machine (g.W.Watcher.seen c.arguments.new.watcher))
    c.in_err-values.field-0.0 (rw c.as_slice.ensures at c.in_err-values.ensures.gives))

pub expressions::call-returns-in_err-tell-clause-gives : goal.expressions::call-returns-in_err-tell-clause-gives
expressions::call-returns-in_err-tell-clause-gives g t c =
    let e : c.from_residual-in_err-tell.result ≡ Err c.in_err-tell.field-0.0 = search rules in
    rw (e, c.in_err-tell.ensures.refused) (enter_halted (program_view c.args.program.now) g.W.Watcher.Seen g.W.Watcher.after c.args.depth (where_of c.args.at) (use_of c.args.used) c.args.e.now.spot c.args.close c.args.e.now.ty c.args.callee (exprs_view c.args.args.now) c.in_ok-values.values
    (state_of c.args.machine.now (g.W.Watcher.seen c.args.watcher.now)) (state_of c.arguments.new.machine (g.W.Watcher.seen c.arguments.new.watcher)) (state_of c.arguments.new.machine (g.W.Watcher.seen c.tell.new.watcher))
    (rw c.as_slice.ensures at c.in_ok-values.ensures.gives) c.in_err-tell.ensures.unseen)

pub expressions::call-returns-clause-gives : goal.expressions::call-returns-clause-gives
expressions::call-returns-clause-gives g t c =
    let k = rw c.as_slice-2.ensures at c.called.ensures.gives in
    let v = rw c.as_slice.ensures at c.in_ok-values.ensures.gives in
    entered (program_view c.args.program.now) g.W.Watcher.Seen g.W.Watcher.after c.args.depth (where_of c.args.at) (use_of c.args.used) c.args.e.now.spot c.args.close c.args.e.now.ty c.args.callee (exprs_view c.args.args.now) c.in_ok-values.values c.is_needed.result
    (state_of c.args.machine.now (g.W.Watcher.seen c.args.watcher.now)) (state_of c.arguments.new.machine (g.W.Watcher.seen c.arguments.new.watcher)) _ _ c.called.result v c.in_ok-tell.ensures.seen c.is_needed.ensures k

pub expressions::arguments-returns-in_err-value-clause-gives : goal.expressions::arguments-returns-in_err-value-clause-gives
expressions::arguments-returns-in_err-value-clause-gives g t c =
    let e : c.from_residual.result ≡ Err c.in_err-value.field-0.0 = search rules in
    let d = drop-cons c.args.args.now c.loop-arg.arg-index c.arg-item.result c.loop-arg-test.true ∙ ap (λ x. x ∷ drop (suc c.loop-arg.arg-index) c.args.args.now) (sym c.arg-item.is) in
    rw e (list_halted (program_view c.args.program.now) g.W.Watcher.Seen g.W.Watcher.after c.args.depth (where_of c.args.at) c.args.args.now c.loop-arg.arg-index c.arg-item.result c.loop-arg.values _ _ _ c.in_err-value.field-0.0 d c.loop-arg.invariant.value c.in_err-value.ensures.gives)

pub expressions::arguments-returns-in_err-push-clause-gives : goal.expressions::arguments-returns-in_err-push-clause-gives
expressions::arguments-returns-in_err-push-clause-gives g t c =
    let e : c.from_residual-in_err-push.result ≡ Err NoMemory = search rules in
    let d = drop-cons c.args.args.now c.loop-arg.arg-index c.arg-item.result c.loop-arg-test.true ∙ ap (λ x. x ∷ drop (suc c.loop-arg.arg-index) c.args.args.now) (sym c.arg-item.is) in
    rw e (list_full (program_view c.args.program.now) g.W.Watcher.Seen g.W.Watcher.after c.args.depth (where_of c.args.at) c.args.args.now c.loop-arg.arg-index c.arg-item.result c.loop-arg.values _ _ _ c.in_ok-value.value d c.loop-arg.invariant.value c.in_ok-value.ensures.gives)

pub expressions::arguments-loop-arg-preserved : goal.expressions::arguments-loop-arg-preserved
expressions::arguments-loop-arg-preserved g t c =
    let d = drop-cons c.args.args.now c.loop-arg.arg-index c.arg-item.result c.loop-arg-test.true ∙ ap (λ x. x ∷ drop (suc c.loop-arg.arg-index) c.args.args.now) (sym c.arg-item.is) in
    let e : c.loop-arg.arg-index + 1 ≡ suc c.loop-arg.arg-index = omega arith in
    let z : SFits w128 c.in_ok-value.value = search rules in
    let y : Typed = record { value = c.in_ok-value.value; ty = c.type_of.result } in
    let m = rw (to_z-of_z w128 c.in_ok-value.value z) at c.in_ok-push.ensures.ok in
    record {
      spends = omega (arith, c.loop-arg.invariant.spends, c.in_ok-value.ensures.spends);
      value = rw e (list_on (program_view c.args.program.now) g.W.Watcher.Seen g.W.Watcher.after c.args.depth (where_of c.args.at) c.args.args.now c.loop-arg.arg-index c.arg-item.result c.loop-arg.values _ _ _ _ y d c.loop-arg.invariant.value c.in_ok-value.ensures.gives c.type_of.ensures m);
    }

pub statements::form-returns-in-Block-clause-gives : goal.statements::form-returns-in-Block-clause-gives
statements::form-returns-in-Block-clause-gives g t c =
    let e = ap form_view c.in-Block.is ∙ view_of_block c.in-Block.body in
    rw (e, ← c.as_slice-in-Block.ensures) c.block.ensures.gives

pub statements::form-returns-in-If-clause-gives : goal.statements::form-returns-in-If-clause-gives
statements::form-returns-in-If-clause-gives g t c =
    let e = ap form_view c.in-If.is ∙ view_of_if c.in-If.test c.in-If.yes c.in-If.no in
    rw (e, ← c.deref.ensures) c.choose.ensures.gives

pub statements::form-returns-in-Label-clause-gives : goal.statements::form-returns-in-Label-clause-gives
statements::form-returns-in-Label-clause-gives g t c = rw (c.in-Label.is, ← c.deref-in-Label.ensures) c.exec.ensures.gives

pub statements::otherwise-returns-in-Some-clause-gives : goal.statements::otherwise-returns-in-Some-clause-gives
statements::otherwise-returns-in-Some-clause-gives g t c = rw (c.in-Some.is, ← c.deref.ensures) c.arm.ensures.gives

pub statements::sequence-returns-in_err-flow-clause-gives : goal.statements::sequence-returns-in_err-flow-clause-gives
statements::sequence-returns-in_err-flow-clause-gives g t c =
    let e : c.from_residual.result ≡ Err c.in_err-flow.field-0.0 = search rules in
    let d = drop-cons c.args.body.now c.loop-s.s-index c.s-item.result c.loop-s-test.true ∙ ap (λ x. x ∷ drop (suc c.loop-s.s-index) c.args.body.now) (sym c.s-item.is) in
    rw e (sequence_halted (program_view c.args.program.now) g.W.Watcher.Seen g.W.Watcher.after c.args.depth c.args.wanted c.args.body.now c.loop-s.s-index c.s-item.result _ _ _ c.in_err-flow.field-0.0 d c.loop-s.invariant.value c.in_err-flow.ensures.gives)

pub statements::sequence-returns-in_default-clause-gives : goal.statements::sequence-returns-in_default-clause-gives
statements::sequence-returns-in_default-clause-gives g t c =
    let d = drop-cons c.args.body.now c.loop-s.s-index c.s-item.result c.loop-s-test.true ∙ ap (λ x. x ∷ drop (suc c.loop-s.s-index) c.args.body.now) (sym c.s-item.is) in
    sequence_left (program_view c.args.program.now) g.W.Watcher.Seen g.W.Watcher.after c.args.depth c.args.wanted c.args.body.now c.loop-s.s-index c.s-item.result _ _ _ c.in_ok-flow.flow d c.loop-s.invariant.value c.in_ok-flow.ensures.gives c.in_default.not-Next

pub statements::sequence-loop-s-preserved : goal.statements::sequence-loop-s-preserved
statements::sequence-loop-s-preserved g t c =
    let d = drop-cons c.args.body.now c.loop-s.s-index c.s-item.result c.loop-s-test.true ∙ ap (λ x. x ∷ drop (suc c.loop-s.s-index) c.args.body.now) (sym c.s-item.is) in
    let e : c.loop-s.s-index + 1 ≡ suc c.loop-s.s-index = omega arith in
    record {
      spends = omega (arith, c.loop-s.invariant.spends, c.in_ok-flow.ensures.spends);
      value = rw e (sequence_on (program_view c.args.program.now) g.W.Watcher.Seen g.W.Watcher.after c.args.depth c.args.wanted c.args.body.now c.loop-s.s-index c.s-item.result _ _ _ d c.loop-s.invariant.value (rw c.in-Next.is at c.in_ok-flow.ensures.gives));
    }

pub statements::choose-returns-in_err-decide-clause-gives : goal.statements::choose-returns-in_err-decide-clause-gives
statements::choose-returns-in_err-decide-clause-gives g t c =
    let e : c.from_residual.result ≡ Err c.in_err-decide.field-0.0 = search rules in
    rw e (choice_halts (program_view c.args.program.now) g.W.Watcher.Seen g.W.Watcher.after c.args.depth c.args.wanted c.args.at (expr_view c.args.test.now) (stmt_view c.args.yes.now) (else_part c.args.no.now)
    (state_of c.args.machine.now (g.W.Watcher.seen c.args.watcher.now)) (state_of c.decide.new.machine (g.W.Watcher.seen c.decide.new.watcher)) c.in_err-decide.field-0.0 c.in_err-decide.ensures.gives)

pub statements::choose-returns-then-branch-clause-gives : goal.statements::choose-returns-then-branch-clause-gives
statements::choose-returns-then-branch-clause-gives g t c =
    let h = rw c.if-branch.true at c.in_ok-decide.ensures.gives in
    chosen (program_view c.args.program.now) g.W.Watcher.Seen g.W.Watcher.after c.args.depth c.args.wanted c.args.at (expr_view c.args.test.now) (stmt_view c.args.yes.now) (else_part c.args.no.now) true _ _ c.arm.result _ h c.arm.ensures.gives

pub statements::choose-returns-else-branch-clause-gives : goal.statements::choose-returns-else-branch-clause-gives
statements::choose-returns-else-branch-clause-gives g t c =
    let h = rw c.if-branch.false at c.in_ok-decide.ensures.gives in
    chosen (program_view c.args.program.now) g.W.Watcher.Seen g.W.Watcher.after c.args.depth c.args.wanted c.args.at (expr_view c.args.test.now) (stmt_view c.args.yes.now) (else_part c.args.no.now) false _ _ c.otherwise.result _ h c.otherwise.ensures.gives

pub statements::exec-returns-in_err-tick-clause-gives : goal.statements::exec-returns-in_err-tick-clause-gives
statements::exec-returns-in_err-tick-clause-gives g t c =
    let e : c.from_residual.result ≡ Err c.in_err-tick.field-0.0 = search rules in
    rw e (halted same flow_of c.in_err-tick.field-0.0 _ _ _ (c.in_err-tick.ensures.gives (program_view c.args.program.now) (g.W.Watcher.seen c.args.watcher.now)))

pub statements::exec-returns-clause-gives : goal.statements::exec-returns-clause-gives
statements::exec-returns-clause-gives g t c =
    let k = c.in_ok-tick.ensures.gives (program_view c.args.program.now) (g.W.Watcher.seen c.args.watcher.now) in
    stepped (program_view c.args.program.now) g.W.Watcher.Seen g.W.Watcher.after c.args.depth c.args.wanted c.args.s.now.spot (form_view c.args.s.now.form) _ _ _ _ c.form.result k c.in_ok-arrive.ensures.gives c.form.ensures.gives

pub statements::form-returns-in-While-clause-gives : goal.statements::form-returns-in-While-clause-gives
statements::form-returns-in-While-clause-gives g t c = while_given (program_view c.args.program.now) g.W.Watcher.Seen g.W.Watcher.after c.args.depth c.args.wanted c.args.at (form_view c.args.f.now) (expr_view c.in-While.test) (stmt_view c.in-While.body.value) (ap form_view c.in-While.is) _ _ _ c.loop_scope.ensures.gives

pub statements::form-returns-in-Do-clause-gives : goal.statements::form-returns-in-Do-clause-gives
statements::form-returns-in-Do-clause-gives g t c = do_given (program_view c.args.program.now) g.W.Watcher.Seen g.W.Watcher.after c.args.depth c.args.wanted c.args.at (form_view c.args.f.now) (stmt_view c.in-Do.body.value) (expr_view c.in-Do.test) (ap form_view c.in-Do.is) _ _ _ c.loop_scope-in-Do.ensures.gives

pub statements::form-returns-in-For-clause-gives : goal.statements::form-returns-in-For-clause-gives
statements::form-returns-in-For-clause-gives g t c = for_given (program_view c.args.program.now) g.W.Watcher.Seen g.W.Watcher.after c.args.depth c.args.wanted c.args.at (form_view c.args.f.now) (first_view c.in-For.first) (expr_view_if c.in-For.test) (expr_view_if c.in-For.step) (stmt_view c.in-For.body.value) (ap form_view c.in-For.is) _ _ _ c.for_scope.ensures.gives

pub statements::turn-returns-in-While-clause-gives : goal.statements::turn-returns-in-While-clause-gives
statements::turn-returns-in-While-clause-gives g t c = rw (c.in-While.is, ← c.deref.ensures) c.while_turn.ensures.gives

pub statements::turn-returns-in-Do-clause-gives : goal.statements::turn-returns-in-Do-clause-gives
statements::turn-returns-in-Do-clause-gives g t c = rw (c.in-Do.is, ← c.deref-in-Do.ensures) c.do_turn.ensures.gives

pub statements::turn-returns-in-For-clause-gives : goal.statements::turn-returns-in-For-clause-gives
statements::turn-returns-in-For-clause-gives g t c = rw (c.in-For.is, ← c.deref-in-For.ensures) c.for_turn.ensures.gives

pub statements::while_turn-returns-in_err-decide-clause-gives : goal.statements::while_turn-returns-in_err-decide-clause-gives
statements::while_turn-returns-in_err-decide-clause-gives g t c =
    let e : c.from_residual.result ≡ Err c.in_err-decide.field-0.0 = search rules in
    rw e (while_halts (program_view c.args.program.now) g.W.Watcher.Seen g.W.Watcher.after c.args.depth c.args.wanted c.args.at (expr_view c.args.test.now) (stmt_view c.args.body.now)
    (state_of c.args.machine.now (g.W.Watcher.seen c.args.watcher.now)) (state_of c.decide.new.machine (g.W.Watcher.seen c.decide.new.watcher)) c.in_err-decide.field-0.0 c.in_err-decide.ensures.gives)

pub statements::while_turn-returns-then-branch-clause-gives : goal.statements::while_turn-returns-then-branch-clause-gives
statements::while_turn-returns-then-branch-clause-gives g t c =
    let h = rw c.if-branch.true at c.in_ok-decide.ensures.gives in
    while_chosen (program_view c.args.program.now) g.W.Watcher.Seen g.W.Watcher.after c.args.depth c.args.wanted c.args.at (expr_view c.args.test.now) (stmt_view c.args.body.now) true _ _ c.loop_body.result _ h c.loop_body.ensures.gives

pub statements::while_turn-returns-else-branch-clause-gives : goal.statements::while_turn-returns-else-branch-clause-gives
statements::while_turn-returns-else-branch-clause-gives g t c =
    let h = rw c.if-branch.false at c.in_ok-decide.ensures.gives in
    while_chosen (program_view c.args.program.now) g.W.Watcher.Seen g.W.Watcher.after c.args.depth c.args.wanted c.args.at (expr_view c.args.test.now) (stmt_view c.args.body.now) false (state_of c.args.machine.now (g.W.Watcher.seen c.args.watcher.now)) _ (Ok Broken) _ h refl

pub statements::for_turn-returns-then-branch-clause-gives : goal.statements::for_turn-returns-then-branch-clause-gives
statements::for_turn-returns-then-branch-clause-gives g t c =
    let h = rw c.if-branch.true at c.in_ok-for_goes_on.ensures.gives in
    for_chosen (program_view c.args.program.now) g.W.Watcher.Seen g.W.Watcher.after c.args.depth c.args.wanted c.args.at (expr_view_if c.args.test.now) (expr_view_if c.args.step.now) (stmt_view c.args.body.now) true _ _ c.for_body.result _ h c.for_body.ensures.gives

pub statements::turns-returns-in_err-flow-clause-gives : goal.statements::turns-returns-in_err-flow-clause-gives
statements::turns-returns-in_err-flow-clause-gives g t c =
    let e : c.from_residual.result ≡ Err c.in_err-flow.field-0.0 = search rules in
    let i = c.turns.invariant.value in
    rw e (rounds_halted (program_view c.args.program.now) g.W.Watcher.Seen g.W.Watcher.after c.args.depth c.args.wanted c.args.at (loop_in (form_view c.args.f.now)) (state_of c.turns.machine (g.W.Watcher.seen c.turns.watcher)) (state_of c.turn.new.machine (g.W.Watcher.seen c.turn.new.watcher))
    (all_rounds (program_view c.args.program.now) g.W.Watcher.Seen g.W.Watcher.after c.args.depth c.args.wanted c.args.at (loop_in (form_view c.args.f.now)) (state_of c.args.machine.now (g.W.Watcher.seen c.args.watcher.now)))
    i.0 c.in_err-flow.field-0.0 i.1 i.2 c.in_err-flow.ensures.gives)

pub statements::turns-turns-preserved : goal.statements::turns-turns-preserved
statements::turns-turns-preserved g t c =
    let i = c.turns.invariant.value in
    record {
      spends = omega (arith, c.turns.invariant.spends, c.in_ok-flow.ensures.spends);
      value = rounds_on (program_view c.args.program.now) g.W.Watcher.Seen g.W.Watcher.after c.args.depth c.args.wanted c.args.at (loop_in (form_view c.args.f.now)) (state_of c.turns.machine (g.W.Watcher.seen c.turns.watcher)) (state_of c.turn.new.machine (g.W.Watcher.seen c.turn.new.watcher))
          (all_rounds (program_view c.args.program.now) g.W.Watcher.Seen g.W.Watcher.after c.args.depth c.args.wanted c.args.at (loop_in (form_view c.args.f.now)) (state_of c.args.machine.now (g.W.Watcher.seen c.args.watcher.now)))
          i.0 i.1 i.2 (rw c.in-Next.is at c.in_ok-flow.ensures.gives) (rw c.in-Next.is at c.in_ok-flow.ensures.ends);
    }

pub statements::turns-returns-in-Broken-clause-gives : goal.statements::turns-returns-in-Broken-clause-gives
statements::turns-returns-in-Broken-clause-gives g t c =
    let i = c.turns.invariant.value in
    rounds_broken (program_view c.args.program.now) g.W.Watcher.Seen g.W.Watcher.after c.args.depth c.args.wanted c.args.at (loop_in (form_view c.args.f.now)) (state_of c.turns.machine (g.W.Watcher.seen c.turns.watcher)) (state_of c.turn.new.machine (g.W.Watcher.seen c.turn.new.watcher))
    (all_rounds (program_view c.args.program.now) g.W.Watcher.Seen g.W.Watcher.after c.args.depth c.args.wanted c.args.at (loop_in (form_view c.args.f.now)) (state_of c.args.machine.now (g.W.Watcher.seen c.args.watcher.now)))
    i.0 i.1 i.2 (rw c.in-Broken.is at c.in_ok-flow.ensures.gives)

pub statements::turns-returns-in_default-clause-gives : goal.statements::turns-returns-in_default-clause-gives
statements::turns-returns-in_default-clause-gives g t c =
    let i = c.turns.invariant.value in
    rounds_left (program_view c.args.program.now) g.W.Watcher.Seen g.W.Watcher.after c.args.depth c.args.wanted c.args.at (loop_in (form_view c.args.f.now)) (state_of c.turns.machine (g.W.Watcher.seen c.turns.watcher)) (state_of c.turn.new.machine (g.W.Watcher.seen c.turn.new.watcher))
    (all_rounds (program_view c.args.program.now) g.W.Watcher.Seen g.W.Watcher.after c.args.depth c.args.wanted c.args.at (loop_in (form_view c.args.f.now)) (state_of c.args.machine.now (g.W.Watcher.seen c.args.watcher.now)))
    i.0 c.in_ok-flow.flow i.1 i.2 c.in_ok-flow.ensures.gives c.in_default.not-Next c.in_default.not-Broken

pub declarations::declare-returns-in_err-introduce-clause-gives : goal.declarations::declare-returns-in_err-introduce-clause-gives
declarations::declare-returns-in_err-introduce-clause-gives g t c =
    let e : c.from_residual.result ≡ Err c.in_err-introduce.field-0.0 = search rules in
    let d = drop-cons c.args.names.now c.loop-name.name-index c.name-item.result c.loop-name-test.true ∙ ap (λ x. x ∷ drop (suc c.loop-name.name-index) c.args.names.now) (sym c.name-item.is) in
    rw e (declare_halted (program_view c.args.program.now) g.W.Watcher.Seen g.W.Watcher.after c.args.depth c.args.at c.args.names.now c.loop-name.name-index c.name-item.result _ _ _ c.in_err-introduce.field-0.0 d c.loop-name.invariant.value c.in_err-introduce.ensures.gives)

pub declarations::declare-loop-name-preserved : goal.declarations::declare-loop-name-preserved
declarations::declare-loop-name-preserved g t c =
    let d = drop-cons c.args.names.now c.loop-name.name-index c.name-item.result c.loop-name-test.true ∙ ap (λ x. x ∷ drop (suc c.loop-name.name-index) c.args.names.now) (sym c.name-item.is) in
    let e : c.loop-name.name-index + 1 ≡ suc c.loop-name.name-index = omega arith in
    record {
      spends = omega (arith, c.loop-name.invariant.spends, c.in_ok-introduce.ensures.spends);
      value = rw e (declare_on (program_view c.args.program.now) g.W.Watcher.Seen g.W.Watcher.after c.args.depth c.args.at c.args.names.now c.loop-name.name-index c.name-item.result _ _ _ d c.loop-name.invariant.value c.in_ok-introduce.ensures.gives);
    }

pub declarations::initial-returns-in-Absent-clause-gives : goal.declarations::initial-returns-in-Absent-clause-gives
declarations::initial-returns-in-Absent-clause-gives g t c = rw c.in-Absent.is (c.draw_cells.ensures.gives c.args.depth (g.W.Watcher.seen c.args.watcher.now))

pub declarations::initial_value-returns-clause-gives : goal.declarations::initial_value-returns-clause-gives
declarations::initial_value-returns-clause-gives g t c =
    let z : SFits w128 c.in_ok-value.value = search rules in
    let h = simp to_z-of_z at c.store.ensures.gives Int (g.W.Watcher.seen c.full.new.watcher) in
    initial_stored (program_view c.args.program.now) g.W.Watcher.Seen g.W.Watcher.after c.args.depth c.args.at c.args.object c.args.index (expr_view c.args.e.now) Int c.type_of_object-ty.result c.in_ok-value.value _ _ _ _
    c.in_ok-value.ensures.gives c.type_of_object-ty.ensures h

pub declarations::introduce-returns-in_err-ticks-clause-gives : goal.declarations::introduce-returns-in_err-ticks-clause-gives
declarations::introduce-returns-in_err-ticks-clause-gives g t c =
    let e : c.from_residual.result ≡ Err c.in_err-ticks.field-0.0 = search rules in
    let p = program_view c.args.program.now in
    let x = g.W.Watcher.seen c.args.watcher.now in
    rw e (introduce_few_steps p g.W.Watcher.Seen g.W.Watcher.after c.args.depth c.args.at c.args.name.now.spot c.args.name.now.object (init_view c.args.name.now.init) c.size_of_object-size.result c.size_of_object-size.ensures _ (state_of c.ticks.new.machine x) c.in_err-ticks.field-0.0 _
    (c.in_err-ticks.ensures.gives p ACell x))

pub declarations::introduce-returns-in_err-room-clause-gives : goal.declarations::introduce-returns-in_err-room-clause-gives
declarations::introduce-returns-in_err-room-clause-gives g t c =
    let e : c.from_residual-in_err-room.result ≡ Err c.in_err-room.field-0.0 = search rules in
    let p = program_view c.args.program.now in
    let x = g.W.Watcher.seen c.args.watcher.now in
    rw e (introduce_no_room p g.W.Watcher.Seen g.W.Watcher.after c.args.depth c.args.at c.args.name.now.spot c.args.name.now.object (init_view c.args.name.now.init) c.size_of_object-size.result c.size_of_object-size.ensures _ _ c.in_err-room.field-0.0 _
    (c.in_ok-ticks.ensures.gives p ACell x) (c.in_err-room.ensures.gives p x))

pub declarations::introduce-returns-clause-gives : goal.declarations::introduce-returns-clause-gives
declarations::introduce-returns-clause-gives g t c =
    let p = program_view c.args.program.now in
    let x = g.W.Watcher.seen c.args.watcher.now in
    introduce_all p g.W.Watcher.Seen g.W.Watcher.after c.args.depth c.args.at c.args.name.now.spot c.args.name.now.object (init_view c.args.name.now.init) c.size_of_object-size.result c.size_of_object-size.ensures _ _ c.initial.result _ _
    (c.in_ok-ticks.ensures.gives p ACell x) (c.in_ok-room.ensures.gives p x) (rw c.in_ok-add_cells.ensures.cells at c.initial.ensures.gives)

pub full_expressions::test_turn-returns-in_err-decide-clause-gives : goal.full_expressions::test_turn-returns-in_err-decide-clause-gives
full_expressions::test_turn-returns-in_err-decide-clause-gives g t c =
    let e : c.from_residual.result ≡ Err c.in_err-decide.field-0.0 = search rules in
    rw e (test_halts (program_view c.args.program.now) g.W.Watcher.Seen g.W.Watcher.after c.args.depth c.args.at (expr_view c.args.test.now)
    (state_of c.args.machine.now (g.W.Watcher.seen c.args.watcher.now)) (state_of c.decide.new.machine (g.W.Watcher.seen c.decide.new.watcher)) c.in_err-decide.field-0.0 c.in_err-decide.ensures.gives)

pub full_expressions::test_turn-returns-then-branch-clause-gives : goal.full_expressions::test_turn-returns-then-branch-clause-gives
full_expressions::test_turn-returns-then-branch-clause-gives g t c =
    let h = rw c.if-branch.true at c.in_ok-decide.ensures.gives in
    test_done (program_view c.args.program.now) g.W.Watcher.Seen g.W.Watcher.after c.args.depth c.args.at (expr_view c.args.test.now) true (state_of c.args.machine.now (g.W.Watcher.seen c.args.watcher.now)) _ h

pub full_expressions::test_turn-returns-else-branch-clause-gives : goal.full_expressions::test_turn-returns-else-branch-clause-gives
full_expressions::test_turn-returns-else-branch-clause-gives g t c =
    let h = rw c.if-branch.false at c.in_ok-decide.ensures.gives in
    test_done (program_view c.args.program.now) g.W.Watcher.Seen g.W.Watcher.after c.args.depth c.args.at (expr_view c.args.test.now) false (state_of c.args.machine.now (g.W.Watcher.seen c.args.watcher.now)) _ h

pub calls::body-returns-in_err-tick-clause-gives : goal.calls::body-returns-in_err-tick-clause-gives
calls::body-returns-in_err-tick-clause-gives g t c =
    let e : c.from_residual.result ≡ Err c.in_err-tick.field-0.0 = search rules in
    rw e (halted same flow_of c.in_err-tick.field-0.0 _ _ _ (c.in_err-tick.ensures.gives (program_view c.args.program.now) (g.W.Watcher.seen c.args.watcher.now)))

pub calls::body-returns-clause-gives : goal.calls::body-returns-clause-gives
calls::body-returns-clause-gives g t c =
    let f = c.args.function.now in
    let k = c.in_ok-tick.ensures.gives (program_view c.args.program.now) (g.W.Watcher.seen c.args.watcher.now) in
    bodied (program_view c.args.program.now) g.W.Watcher.Seen g.W.Watcher.after c.args.depth f.result f.params f.body.spot (form_view f.body.form) _ _ _ c.form.result k c.form.ensures.gives

pub calls::call_found-returns-in_err-ticks-clause-gives : goal.calls::call_found-returns-in_err-ticks-clause-gives
calls::call_found-returns-in_err-ticks-clause-gives g t c =
    let e : c.from_residual.result ≡ Err c.in_err-ticks.field-0.0 = search rules in
    let p = program_view c.args.program.now in
    let x = g.W.Watcher.seen c.args.watcher.now in
    let h = rw c.len-parameters.ensures at c.in_err-ticks.ensures.gives p AParameter x in
    rw e (call_few_steps p g.W.Watcher.Seen g.W.Watcher.after c.args.depth (site_of c.args.site) (function_view c.args.function.now) (pairs_of c.args.values.now)
    (state_of c.args.machine.now x) (state_of c.ticks.new.machine x) c.in_err-ticks.field-0.0 h)

pub calls::call_found-returns-in_err-cells-clause-gives : goal.calls::call_found-returns-in_err-cells-clause-gives
calls::call_found-returns-in_err-cells-clause-gives g t c =
    let e : c.from_residual-in_err-cells.result ≡ Err c.in_err-cells.field-0.0 = search rules in
    let p = program_view c.args.program.now in
    let x = g.W.Watcher.seen c.args.watcher.now in
    let h = rw c.len-parameters.ensures at c.in_ok-ticks.ensures.gives p AParameter x in
    rw (e, c.in_err-cells.ensures.refused) (call_full p g.W.Watcher.Seen g.W.Watcher.after c.args.depth (site_of c.args.site) (function_view c.args.function.now) (pairs_of c.args.values.now)
    (state_of c.args.machine.now x) (state_of c.ticks.new.machine x) h)

pub calls::call_found-returns-in_err-room-clause-gives : goal.calls::call_found-returns-in_err-room-clause-gives
calls::call_found-returns-in_err-room-clause-gives g t c =
    let e : c.from_residual-in_err-room.result ≡ Err c.in_err-room.field-0.0 = search rules in
    let p = program_view c.args.program.now in
    let x = g.W.Watcher.seen c.args.watcher.now in
    let h = rw c.len-parameters.ensures at c.in_ok-ticks.ensures.gives p AParameter x in
    let k = rw c.len-parameters.ensures at c.in_ok-cells.ensures.more in
    rw e (call_no_room p g.W.Watcher.Seen g.W.Watcher.after c.args.depth (site_of c.args.site) (function_view c.args.function.now) (pairs_of c.args.values.now) c.in_ok-cells.cells
    (state_of c.args.machine.now x) (state_of c.ticks.new.machine x) (state_of c.ticks.new.machine x) c.in_err-room.field-0.0 k h (c.in_err-room.ensures.gives p x))

pub calls::call_found-returns-clause-gives : goal.calls::call_found-returns-clause-gives
calls::call_found-returns-clause-gives g t c =
    let p = program_view c.args.program.now in
    let x = g.W.Watcher.seen c.args.watcher.now in
    let h = rw c.len-parameters.ensures at c.in_ok-ticks.ensures.gives p AParameter x in
    let k = rw c.len-parameters.ensures at c.in_ok-cells.ensures.more in
    call_all p g.W.Watcher.Seen g.W.Watcher.after c.args.depth (site_of c.args.site) (function_view c.args.function.now) (pairs_of c.args.values.now) c.in_ok-cells.cells
    (state_of c.args.machine.now x) (state_of c.ticks.new.machine x) (state_of c.ticks.new.machine x) _ c.run_call.result k h (c.in_ok-room.ensures.gives p x) c.run_call.ensures.gives

pub calls::call_number-returns-in-Some-clause-gives : goal.calls::call_number-returns-in-Some-clause-gives
calls::call_number-returns-in-Some-clause-gives g t c =
    let p = program_view c.args.program.now in
    let f = c.in-Some.function.now in
    let h = function_at c.args.program.now.functions c.args.number f (sym c.in-Some.ensures.item) in
    let k = number_found p g.W.Watcher.Seen g.W.Watcher.after c.args.depth (site_of c.args.site) c.args.number (function_view f) (pairs_of c.args.values.now) (state_of c.args.machine.now (g.W.Watcher.seen c.args.watcher.now)) h in
    rw k c.call_found.ensures.gives

pub calls::call_number-returns-in-None-clause-gives : goal.calls::call_number-returns-in-None-clause-gives
calls::call_number-returns-in-None-clause-gives g t c =
    let p = program_view c.args.program.now in
    number_missing p g.W.Watcher.Seen g.W.Watcher.after c.args.depth (site_of c.args.site) c.args.number (pairs_of c.args.values.now) (state_of c.args.machine.now (g.W.Watcher.seen c.args.watcher.now))
    (no_function_at c.args.program.now.functions c.args.number (sym c.in-None.ensures.item))

pub calls::enter-returns-in_err-set_parameters-clause-gives : goal.calls::enter-returns-in_err-set_parameters-clause-gives
calls::enter-returns-in_err-set_parameters-clause-gives g t c =
    let e : c.from_residual.result ≡ Err c.in_err-set_parameters.field-0.0 = search rules in
    let x = g.W.Watcher.seen c.args.watcher.now in
    let h = rw c.as_slice.ensures at c.in_err-set_parameters.ensures.gives x in
    rw e (parameters_halted (program_view c.args.program.now) g.W.Watcher.Seen g.W.Watcher.after c.args.depth (function_view c.args.function.now) (pairs_of c.args.values.now)
    (state_of c.args.machine.now x) (state_of c.set_parameters.new.machine x) c.in_err-set_parameters.field-0.0 h)

pub calls::enter-returns-clause-gives : goal.calls::enter-returns-clause-gives
calls::enter-returns-clause-gives g t c =
    let x = g.W.Watcher.seen c.args.watcher.now in
    let h = rw c.as_slice.ensures at c.in_ok-set_parameters.ensures.gives x in
    parameters_passed (program_view c.args.program.now) g.W.Watcher.Seen g.W.Watcher.after c.args.depth (function_view c.args.function.now) (pairs_of c.args.values.now)
    (state_of c.args.machine.now x) (state_of c.set_parameters.new.machine x) _ c.body_within.result h c.body_within.ensures.gives

pub expressions::and-returns-in_err-value-clause-gives : goal.expressions::and-returns-in_err-value-clause-gives
expressions::and-returns-in_err-value-clause-gives g t c =
    let e : c.from_residual.result ≡ Err c.in_err-value.field-0.0 = search rules in
    rw e (halted same same c.in_err-value.field-0.0 _ _ _ c.in_err-value.ensures.gives)

pub expressions::or-returns-in_err-value-clause-gives : goal.expressions::or-returns-in_err-value-clause-gives
expressions::or-returns-in_err-value-clause-gives g t c =
    let e : c.from_residual.result ≡ Err c.in_err-value.field-0.0 = search rules in
    rw e (halted same same c.in_err-value.field-0.0 _ _ _ c.in_err-value.ensures.gives)

pub expressions::binary-returns-in_err-a-clause-gives : goal.expressions::binary-returns-in_err-a-clause-gives
expressions::binary-returns-in_err-a-clause-gives g t c =
    let e : c.from_residual.result ≡ Err c.in_err-a.field-0.0 = search rules in
    rw e (halted same same c.in_err-a.field-0.0 _ _ _ c.in_err-a.ensures.gives)

pub expressions::cast_to-returns-in_err-value-clause-gives : goal.expressions::cast_to-returns-in_err-value-clause-gives
expressions::cast_to-returns-in_err-value-clause-gives g t c =
    let e : c.from_residual.result ≡ Err c.in_err-value.field-0.0 = search rules in
    rw e (halted same same c.in_err-value.field-0.0 _ _ _ c.in_err-value.ensures.gives)

pub expressions::choose-returns-in_err-value-clause-gives : goal.expressions::choose-returns-in_err-value-clause-gives
expressions::choose-returns-in_err-value-clause-gives g t c =
    let e : c.from_residual.result ≡ Err c.in_err-value.field-0.0 = search rules in
    rw e (halted same same c.in_err-value.field-0.0 _ _ _ c.in_err-value.ensures.gives)

pub expressions::comma-returns-in_err-eval-clause-gives : goal.expressions::comma-returns-in_err-eval-clause-gives
expressions::comma-returns-in_err-eval-clause-gives g t c =
    let e : c.from_residual.result ≡ Err c.in_err-eval.field-0.0 = search rules in
    rw e (halted same same c.in_err-eval.field-0.0 _ _ _ c.in_err-eval.ensures.gives)

pub expressions::converted-returns-in_err-value-clause-gives : goal.expressions::converted-returns-in_err-value-clause-gives
expressions::converted-returns-in_err-value-clause-gives g t c =
    let e : c.from_residual.result ≡ Err c.in_err-value.field-0.0 = search rules in
    rw e (halted same same c.in_err-value.field-0.0 _ _ _ c.in_err-value.ensures.gives)

pub expressions::replace-returns-in_err-key-clause-gives : goal.expressions::replace-returns-in_err-key-clause-gives
expressions::replace-returns-in_err-key-clause-gives g t c =
    let e : c.from_residual.result ≡ Err c.in_err-key.field-0.0 = search rules in
    rw e (halted key_of same c.in_err-key.field-0.0 _ _ _ c.in_err-key.ensures.gives)

pub expressions::step-returns-in_err-key-clause-gives : goal.expressions::step-returns-in_err-key-clause-gives
expressions::step-returns-in_err-key-clause-gives g t c =
    let e : c.from_residual.result ≡ Err c.in_err-key.field-0.0 = search rules in
    rw e (halted key_of same c.in_err-key.field-0.0 _ _ _ c.in_err-key.ensures.gives)

pub expressions::tested-returns-in_err-value-clause-gives : goal.expressions::tested-returns-in_err-value-clause-gives
expressions::tested-returns-in_err-value-clause-gives g t c =
    let e : c.from_residual.result ≡ Err c.in_err-value.field-0.0 = search rules in
    rw e (halted same same c.in_err-value.field-0.0 _ _ _ c.in_err-value.ensures.gives)

pub expressions::unary-returns-in_err-value-clause-gives : goal.expressions::unary-returns-in_err-value-clause-gives
expressions::unary-returns-in_err-value-clause-gives g t c =
    let e : c.from_residual.result ≡ Err c.in_err-value.field-0.0 = search rules in
    rw e (halted same same c.in_err-value.field-0.0 _ _ _ c.in_err-value.ensures.gives)

pub expressions::update-returns-in_err-key-clause-gives : goal.expressions::update-returns-in_err-key-clause-gives
expressions::update-returns-in_err-key-clause-gives g t c =
    let e : c.from_residual.result ≡ Err c.in_err-key.field-0.0 = search rules in
    rw e (halted key_of same c.in_err-key.field-0.0 _ _ _ c.in_err-key.ensures.gives)

pub full_expressions::decide-returns-in_err-value-clause-gives : goal.full_expressions::decide-returns-in_err-value-clause-gives
full_expressions::decide-returns-in_err-value-clause-gives g t c =
    let e : c.from_residual.result ≡ Err c.in_err-value.field-0.0 = search rules in
    rw e (halted same same c.in_err-value.field-0.0 _ _ _ c.in_err-value.ensures.gives)

pub full_expressions::only-returns-in_err-full-clause-gives : goal.full_expressions::only-returns-in_err-full-clause-gives
full_expressions::only-returns-in_err-full-clause-gives g t c =
    let e : c.from_residual.result ≡ Err c.in_err-full.field-0.0 = search rules in
    rw e (halted same flow_of c.in_err-full.field-0.0 _ _ _ c.in_err-full.ensures.gives)

pub full_expressions::give-returns-in_err-value-in-Some-clause-gives : goal.full_expressions::give-returns-in_err-value-in-Some-clause-gives
full_expressions::give-returns-in_err-value-in-Some-clause-gives g t c =
    let e : c.from_residual.result ≡ Err c.in_err-value-in-Some.field-0.0 = search rules in
    rw (e, c.in-Some.is) (halted same flow_of c.in_err-value-in-Some.field-0.0 _ _ _ c.in_err-value-in-Some.ensures.gives)

pub statements::do_turn-returns-in_err-flow-clause-gives : goal.statements::do_turn-returns-in_err-flow-clause-gives
statements::do_turn-returns-in_err-flow-clause-gives g t c =
    let e : c.from_residual.result ≡ Err c.in_err-flow.field-0.0 = search rules in
    rw e (halted flow_of flow_of c.in_err-flow.field-0.0 _ _ _ c.in_err-flow.ensures.gives)

pub statements::for_body-returns-in_err-flow-clause-gives : goal.statements::for_body-returns-in_err-flow-clause-gives
statements::for_body-returns-in_err-flow-clause-gives g t c =
    let e : c.from_residual.result ≡ Err c.in_err-flow.field-0.0 = search rules in
    rw e (halted flow_of flow_of c.in_err-flow.field-0.0 _ _ _ c.in_err-flow.ensures.gives)

pub declarations::initial_value-returns-in_err-value-clause-gives : goal.declarations::initial_value-returns-in_err-value-clause-gives
declarations::initial_value-returns-in_err-value-clause-gives g t c =
    let e : c.from_residual.result ≡ Err c.in_err-value.field-0.0 = search rules in
    rw e (halted same same c.in_err-value.field-0.0 _ _ _ c.in_err-value.ensures.gives)

pub expressions::update-returns-clause-gives : goal.expressions::update-returns-clause-gives
expressions::update-returns-clause-gives g t c =
    let z : SFits w128 c.in_ok-value.value = search rules in
    let y : SFits w128 c.look-old.result = search rules in
    let k = rw (to_z-of_z w128 c.in_ok-value.value z, to_z-of_z w128 c.look-old.result y, c.look-old.ensures, c.type_of.ensures, c.type_of-2.ensures) at c.change.ensures.gives in
    update_goes (program_view c.args.program.now) g.W.Watcher.Seen g.W.Watcher.after c.args.depth (where_of c.args.at) c.args.spot (expr_view c.args.to.now) (expr_view c.args.from.now) c.in_ok-key.key _ _ c.in_ok-key.ensures.gives
    c.args.op c.in_ok-value.value _ _ c.change.result c.in_ok-value.ensures.gives k

pub expressions::update-returns-in_err-value-clause-gives : goal.expressions::update-returns-in_err-value-clause-gives
expressions::update-returns-in_err-value-clause-gives g t c =
    let e : c.from_residual-in_err-value.result ≡ Err c.in_err-value.field-0.0 = search rules in
    rw e (update_halts (program_view c.args.program.now) g.W.Watcher.Seen g.W.Watcher.after c.args.depth (where_of c.args.at) c.args.spot (expr_view c.args.to.now) (expr_view c.args.from.now) c.in_ok-key.key _ _ c.in_ok-key.ensures.gives
    c.args.op c.in_err-value.field-0.0 _ c.in_err-value.ensures.gives)

pub expressions::replace-returns-in_err-value-clause-gives : goal.expressions::replace-returns-in_err-value-clause-gives
expressions::replace-returns-in_err-value-clause-gives g t c =
    let e : c.from_residual-in_err-value.result ≡ Err c.in_err-value.field-0.0 = search rules in
    rw e (replace_halts (program_view c.args.program.now) g.W.Watcher.Seen g.W.Watcher.after c.args.depth (where_of c.args.at) c.args.spot (expr_view c.args.to.now) (expr_view c.args.from.now) c.in_ok-key.key _ _ c.in_ok-key.ensures.gives
    c.in_err-value.field-0.0 _ c.in_err-value.ensures.gives)

pub expressions::choose-returns-then-taken-clause-gives : goal.expressions::choose-returns-then-taken-clause-gives
expressions::choose-returns-then-taken-clause-gives g t c =
    let z : SFits w128 c.in_ok-value.value = search rules in
    let h = rw (to_z-of_z w128 c.in_ok-value.value z) at c.holds-taken.ensures in
    let told = rw c.if-taken.true at c.in_ok-tell.ensures.seen in
    choose_goes (program_view c.args.program.now) g.W.Watcher.Seen g.W.Watcher.after c.args.depth (where_of c.args.at) c.args.at.full c.args.ty c.args.mark (expr_view c.args.test.now) (expr_view c.args.yes.now) (expr_view c.args.no.now) c.in_ok-value.value _ _ c.in_ok-value.ensures.gives _ c.converted.result
    (picked_first (program_view c.args.program.now) g.W.Watcher.Seen g.W.Watcher.after c.args.depth c.args.mark (convertible (program_view c.args.program.now) g.W.Watcher.Seen g.W.Watcher.after c.args.depth (where_of c.args.at) c.args.ty (expr_view c.args.yes.now)) (convertible (program_view c.args.program.now) g.W.Watcher.Seen g.W.Watcher.after c.args.depth (where_of c.args.at) c.args.ty (expr_view c.args.no.now)) c.in_ok-value.value
    (state_of c.eval.new.machine (g.W.Watcher.seen c.eval.new.watcher)) _ _ c.converted.result told (sym h ∙ c.if-taken.true) c.converted.ensures.gives)

pub expressions::choose-returns-else-taken-clause-gives : goal.expressions::choose-returns-else-taken-clause-gives
expressions::choose-returns-else-taken-clause-gives g t c =
    let z : SFits w128 c.in_ok-value.value = search rules in
    let h = rw (to_z-of_z w128 c.in_ok-value.value z) at c.holds-taken.ensures in
    let told = rw c.if-taken.false at c.in_ok-tell.ensures.seen in
    choose_goes (program_view c.args.program.now) g.W.Watcher.Seen g.W.Watcher.after c.args.depth (where_of c.args.at) c.args.at.full c.args.ty c.args.mark (expr_view c.args.test.now) (expr_view c.args.yes.now) (expr_view c.args.no.now) c.in_ok-value.value _ _ c.in_ok-value.ensures.gives _ c.converted-else-taken.result
    (picked_second (program_view c.args.program.now) g.W.Watcher.Seen g.W.Watcher.after c.args.depth c.args.mark (convertible (program_view c.args.program.now) g.W.Watcher.Seen g.W.Watcher.after c.args.depth (where_of c.args.at) c.args.ty (expr_view c.args.yes.now)) (convertible (program_view c.args.program.now) g.W.Watcher.Seen g.W.Watcher.after c.args.depth (where_of c.args.at) c.args.ty (expr_view c.args.no.now)) c.in_ok-value.value
    (state_of c.eval.new.machine (g.W.Watcher.seen c.eval.new.watcher)) _ _ c.converted-else-taken.result told (sym h ∙ c.if-taken.false) c.converted-else-taken.ensures.gives)

pub expressions::choose-returns-in_err-tell-clause-gives : goal.expressions::choose-returns-in_err-tell-clause-gives
expressions::choose-returns-in_err-tell-clause-gives g t c =
    let e : c.from_residual-in_err-tell.result ≡ Err c.in_err-tell.field-0.0 = search rules in
    rw (e, c.in_err-tell.ensures.refused) (choose_halts (program_view c.args.program.now) g.W.Watcher.Seen g.W.Watcher.after c.args.depth (where_of c.args.at) c.args.at.full c.args.ty c.args.mark (expr_view c.args.test.now) (expr_view c.args.yes.now) (expr_view c.args.no.now) c.in_ok-value.value
    (state_of c.args.machine.now (g.W.Watcher.seen c.args.watcher.now)) (state_of c.eval.new.machine (g.W.Watcher.seen c.eval.new.watcher)) c.in_ok-value.ensures.gives
    (state_of c.eval.new.machine (g.W.Watcher.seen c.tell.new.watcher)) c.in_err-tell.ensures.unseen)

pub expressions::binary-returns-clause-gives : goal.expressions::binary-returns-clause-gives
expressions::binary-returns-clause-gives g t c =
    let z : SFits w128 c.in_ok-a.a = search rules in
    let y : SFits w128 c.in_ok-b.b = search rules in
    let k = rw (to_z-of_z w128 c.in_ok-a.a z, to_z-of_z w128 c.in_ok-b.b y, c.type_of.ensures, c.type_of-2.ensures) at c.operate.ensures.gives in
    binary_goes (program_view c.args.program.now) g.W.Watcher.Seen g.W.Watcher.after c.args.depth (where_of c.args.at) c.args.spot c.args.op (expr_view c.args.left.now) (expr_view c.args.right.now) c.in_ok-a.a _ _ c.in_ok-a.ensures.gives
    c.in_ok-b.b _ _ c.operate.result c.in_ok-b.ensures.gives k

pub expressions::binary-returns-in_err-b-clause-gives : goal.expressions::binary-returns-in_err-b-clause-gives
expressions::binary-returns-in_err-b-clause-gives g t c =
    let e : c.from_residual-in_err-b.result ≡ Err c.in_err-b.field-0.0 = search rules in
    rw e (binary_halts (program_view c.args.program.now) g.W.Watcher.Seen g.W.Watcher.after c.args.depth (where_of c.args.at) c.args.spot c.args.op (expr_view c.args.left.now) (expr_view c.args.right.now) c.in_ok-a.a _ _ c.in_ok-a.ensures.gives
    c.in_err-b.field-0.0 _ c.in_err-b.ensures.gives)

pub expressions::unary-returns-clause-gives : goal.expressions::unary-returns-clause-gives
expressions::unary-returns-clause-gives g t c =
    let z : SFits w128 c.in_ok-value.value = search rules in
    let k = rw (to_z-of_z w128 c.in_ok-value.value z, c.type_of.ensures) at c.operate_one.ensures.gives in
    unary_goes (program_view c.args.program.now) g.W.Watcher.Seen g.W.Watcher.after c.args.depth (where_of c.args.at) c.args.spot c.args.op (expr_view c.args.of.now) c.in_ok-value.value _ _ _ c.operate_one.result c.in_ok-value.ensures.gives k

pub expressions::comma-returns-clause-gives : goal.expressions::comma-returns-clause-gives
expressions::comma-returns-clause-gives g t c =
    comma_goes (program_view c.args.program.now) g.W.Watcher.Seen g.W.Watcher.after c.args.depth (where_of c.args.at) c.args.at.full (expr_view c.args.first.now) (expr_view c.args.last.now) _ _ _ _ c.eval-2.result c.in_ok-eval.ensures.gives c.eval-2.ensures.gives

pub expressions::and-returns-then-holds-clause-gives : goal.expressions::and-returns-then-holds-clause-gives
expressions::and-returns-then-holds-clause-gives g t c =
    let z : SFits w128 c.in_ok-value.value = search rules in
    let h = rw (to_z-of_z w128 c.in_ok-value.value z) at c.holds.ensures in
    both_go_on (program_view c.args.program.now) g.W.Watcher.Seen g.W.Watcher.after c.args.depth (where_of c.args.at) c.args.at.full (expr_view c.args.left.now) (expr_view c.args.right.now) c.in_ok-value.value _ _ _ c.tested.result c.in_ok-value.ensures.gives (sym h ∙ c.if-holds.true) c.tested.ensures.gives

pub expressions::or-returns-else-holds-clause-gives : goal.expressions::or-returns-else-holds-clause-gives
expressions::or-returns-else-holds-clause-gives g t c =
    let z : SFits w128 c.in_ok-value.value = search rules in
    let h = rw (to_z-of_z w128 c.in_ok-value.value z) at c.holds.ensures in
    either_goes_on (program_view c.args.program.now) g.W.Watcher.Seen g.W.Watcher.after c.args.depth (where_of c.args.at) c.args.at.full (expr_view c.args.left.now) (expr_view c.args.right.now) c.in_ok-value.value _ _ _ c.tested.result c.in_ok-value.ensures.gives (sym h ∙ c.if-holds.false) c.tested.ensures.gives

pub expressions::step-returns-clause-gives : goal.expressions::step-returns-clause-gives
expressions::step-returns-clause-gives g t c =
    let k = rw c.type_of.ensures at c.bump.ensures.gives in
    step_goes (program_view c.args.program.now) g.W.Watcher.Seen g.W.Watcher.after c.args.depth (where_of c.args.at) c.args.spot c.args.op (expr_view c.args.to.now) c.in_ok-key.key _ _ _ c.bump.result c.in_ok-key.ensures.gives k

pub statements::do_turn-returns-in-Next-clause-gives : goal.statements::do_turn-returns-in-Next-clause-gives
statements::do_turn-returns-in-Next-clause-gives g t c =
    do_goes (program_view c.args.program.now) g.W.Watcher.Seen g.W.Watcher.after c.args.depth c.args.wanted c.args.at (stmt_view c.args.body.now) (expr_view c.args.test.now) _ _ _ c.test_turn.result (rw c.in-Next.is at c.in_ok-flow.ensures.gives) c.test_turn.ensures.gives

pub statements::for_body-returns-in-Next-clause-gives : goal.statements::for_body-returns-in-Next-clause-gives
statements::for_body-returns-in-Next-clause-gives g t c =
    for_rest_goes (program_view c.args.program.now) g.W.Watcher.Seen g.W.Watcher.after c.args.depth c.args.wanted c.args.at (expr_view_if c.args.step.now) (stmt_view c.args.body.now) _ _ _ c.step_on.result (rw c.in-Next.is at c.in_ok-flow.ensures.gives) c.step_on.ensures.gives

pub statements::for_turn-returns-in_err-for_goes_on-clause-gives : goal.statements::for_turn-returns-in_err-for_goes_on-clause-gives
statements::for_turn-returns-in_err-for_goes_on-clause-gives g t c =
    let e : c.from_residual.result ≡ Err c.in_err-for_goes_on.field-0.0 = search rules in
    rw e (for_halts (program_view c.args.program.now) g.W.Watcher.Seen g.W.Watcher.after c.args.depth c.args.wanted c.args.at (expr_view_if c.args.test.now) (expr_view_if c.args.step.now) (stmt_view c.args.body.now)
    (state_of c.args.machine.now (g.W.Watcher.seen c.args.watcher.now)) (state_of c.for_goes_on.new.machine (g.W.Watcher.seen c.for_goes_on.new.watcher)) c.in_err-for_goes_on.field-0.0 c.in_err-for_goes_on.ensures.gives)

pub declarations::introduce-returns-in_err-add_cells-clause-gives : goal.declarations::introduce-returns-in_err-add_cells-clause-gives
declarations::introduce-returns-in_err-add_cells-clause-gives g t c =
    let e : c.from_residual-in_err-add_cells.result ≡ Err c.in_err-add_cells.field-0.0 = search rules in
    let p = program_view c.args.program.now in
    let x = g.W.Watcher.seen c.args.watcher.now in
    let s = state_of c.ticks.new.machine x in
    rw (e, c.in_err-add_cells.ensures.refused) (introduce_no_cells p g.W.Watcher.Seen g.W.Watcher.after c.args.depth c.args.at c.args.name.now.spot c.args.name.now.object (init_view c.args.name.now.init) c.size_of_object-size.result c.size_of_object-size.ensures
    (state_of c.args.machine.now x) s s s (c.in_ok-ticks.ensures.gives p ACell x) (c.in_ok-room.ensures.gives p x) refl)

pub calls::run_call-returns-in_err-flow-clause-gives : goal.calls::run_call-returns-in_err-flow-clause-gives
calls::run_call-returns-in_err-flow-clause-gives g t c =
    let e : c.from_residual-in_err-flow.result ≡ Err c.in_err-flow.field-0.0 = search rules in
    let k = rw c.in_ok-machine.ensures.more at c.in_err-flow.ensures.gives in
    rw e (call_halts (program_view c.args.program.now) g.W.Watcher.Seen g.W.Watcher.after c.args.depth (site_of c.args.site) (function_view c.args.function.now) (pairs_of c.args.values.now)
    (state_of c.args.machine.now (g.W.Watcher.seen c.args.watcher.now)) (state_of c.enter.new.machine (g.W.Watcher.seen c.enter.new.watcher)) c.in_err-flow.field-0.0 k)

pub calls::run_call-returns-clause-gives : goal.calls::run_call-returns-clause-gives
calls::run_call-returns-clause-gives g t c =
    let k = rw c.in_ok-machine.ensures.more at c.in_ok-flow.ensures.gives in
    let h = rw (c.cut.ensures.cells, c.count-cells.ensures, c.saturating_sub-machine.ensures) at c.returned.ensures.gives in
    rw (c.cut.ensures.cells, c.count-cells.ensures, c.saturating_sub-machine.ensures)
    (call_goes (program_view c.args.program.now) g.W.Watcher.Seen g.W.Watcher.after c.args.depth (site_of c.args.site) (function_view c.args.function.now) (pairs_of c.args.values.now)
    (state_of c.args.machine.now (g.W.Watcher.seen c.args.watcher.now)) (state_of c.enter.new.machine (g.W.Watcher.seen c.enter.new.watcher)) c.in_ok-flow.flow _ c.returned.result k h)

pub full_expressions::decide-returns-clause-gives : goal.full_expressions::decide-returns-clause-gives
full_expressions::decide-returns-clause-gives g t c =
    let z : SFits w128 c.in_ok-value.value = search rules in
    let k = rw (to_z-of_z w128 c.in_ok-value.value z) at c.branch-program.ensures.gives in
    decided_goes (program_view c.args.program.now) g.W.Watcher.Seen g.W.Watcher.after c.args.depth c.args.at (expr_view c.args.test.now) c.in_ok-value.value _ _ _ c.branch-program.result c.in_ok-value.ensures.gives k

pub expressions::node-returns-in-Index-clause-gives : goal.expressions::node-returns-in-Index-clause-gives
expressions::node-returns-in-Index-clause-gives g t c =
    let e = ap node_view c.in-Index.is ∙ view_of_index c.in-Index.object c.in-Index.place in
    as_form (program_view c.args.program.now) g.W.Watcher.Seen g.W.Watcher.after c.args.depth _ _ _ _ _ _ _ _ c.index.result e c.index.ensures.gives

pub expressions::place-returns-in-Index-clause-gives : goal.expressions::place-returns-in-Index-clause-gives
expressions::place-returns-in-Index-clause-gives g t c =
    let v = ap node_view c.in-Index.is ∙ view_of_index c.in-Index.object c.in-Index.place in
    let e = v ∙ ap (λ es. Index c.in-Index.object (exprs_view es)) (sym c.as_slice.ensures) in
    as_place (program_view c.args.program.now) g.W.Watcher.Seen g.W.Watcher.after c.args.depth _ _ _ _ _ _ c.element_at.result e c.element_at.ensures.gives

pub statements::form-returns-in-Switch-clause-gives : goal.statements::form-returns-in-Switch-clause-gives
statements::form-returns-in-Switch-clause-gives g t c =
    let e = ap form_view c.in-Switch.is ∙ view_of_switch c.in-Switch.test c.in-Switch.arms in
    rw (e, ← c.as_slice-in-Switch.ensures) c.switch.ensures.gives

pub expressions::evaluate_all-returns-in_err-eval-clause-gives : goal.expressions::evaluate_all-returns-in_err-eval-clause-gives
expressions::evaluate_all-returns-in_err-eval-clause-gives g t c =
    let e : c.from_residual.result ≡ Err c.in_err-eval.field-0.0 = search rules in
    let d = drop-cons c.args.es.now c.loop-e.e-index c.e-item.result c.loop-e-test.true ∙ ap (λ x. x ∷ drop (suc c.loop-e.e-index) c.args.es.now) (sym c.e-item.is) in
    rw e (all_halted (program_view c.args.program.now) g.W.Watcher.Seen g.W.Watcher.after c.args.depth (where_of c.args.at) c.args.es.now c.loop-e.e-index c.e-item.result d _ _ _ c.loop-e.invariant.value c.in_err-eval.field-0.0 c.in_err-eval.ensures.gives)

pub expressions::evaluate_all-loop-e-preserved : goal.expressions::evaluate_all-loop-e-preserved
expressions::evaluate_all-loop-e-preserved g t c =
    let d = drop-cons c.args.es.now c.loop-e.e-index c.e-item.result c.loop-e-test.true ∙ ap (λ x. x ∷ drop (suc c.loop-e.e-index) c.args.es.now) (sym c.e-item.is) in
    let e : c.loop-e.e-index + 1 ≡ suc c.loop-e.e-index = omega arith in
    record {
      spends = omega (arith, c.loop-e.invariant.spends, c.in_ok-eval.ensures.spends);
      value = rw e (all_on (program_view c.args.program.now) g.W.Watcher.Seen g.W.Watcher.after c.args.depth (where_of c.args.at) c.args.es.now c.loop-e.e-index c.e-item.result d _ _ _ c.loop-e.invariant.value c.in_ok-eval.field-0 c.in_ok-eval.ensures.gives);
    }

pub expressions::element_at-returns-in_err-j-in-len1-clause-gives : goal.expressions::element_at-returns-in_err-j-in-len1-clause-gives
expressions::element_at-returns-in_err-j-in-len1-clause-gives g t c =
    let e : c.from_residual.result ≡ Err c.in_err-j-in-len1.field-0.0 = search rules in
    let s = one_item c.args.indexes.now c.index-item.result c.in-len1.len_at_least c.in-len1.len_below c.index-item.is in
    rw (e, s) (one_halts (program_view c.args.program.now) g.W.Watcher.Seen g.W.Watcher.after c.args.depth (where_of c.args.at) c.args.spot c.args.object (expr_view c.index-item.result) _ _ c.in_err-j-in-len1.field-0.0 c.in_err-j-in-len1.ensures.gives)

pub expressions::element_at-returns-in_ok-j-in-len1-clause-gives : goal.expressions::element_at-returns-in_ok-j-in-len1-clause-gives
expressions::element_at-returns-in_ok-j-in-len1-clause-gives g t c =
    let z : SFits w128 c.in_ok-j-in-len1.j = search rules in
    let s = one_item c.args.indexes.now c.index-item.result c.in-len1.len_at_least c.in-len1.len_below c.index-item.is in
    let k = rw (to_z-of_z w128 c.in_ok-j-in-len1.j z) at (c.element.ensures.gives (state_of c.eval.new.machine (g.W.Watcher.seen c.eval.new.watcher))) in
    rw s (one_goes (program_view c.args.program.now) g.W.Watcher.Seen g.W.Watcher.after c.args.depth (where_of c.args.at) c.args.spot c.args.object (expr_view c.index-item.result) _ _ c.in_ok-j-in-len1.j _ c.element.result c.in_ok-j-in-len1.ensures.gives k)

pub expressions::element_at-returns-in_err-i-in-len2-clause-gives : goal.expressions::element_at-returns-in_err-i-in-len2-clause-gives
expressions::element_at-returns-in_err-i-in-len2-clause-gives g t c =
    let e : c.from_residual-in_err-i-in-len2.result ≡ Err c.in_err-i-in-len2.field-0.0 = search rules in
    let s = two_items c.args.indexes.now c.row-item.result c.column-item.result c.in-len2.len_at_least c.in-len2.len_below c.row-item.is c.column-item.is in
    rw (e, s) (row_halts (program_view c.args.program.now) g.W.Watcher.Seen g.W.Watcher.after c.args.depth (where_of c.args.at) c.args.spot c.args.object (expr_view c.row-item.result) (expr_view c.column-item.result) _ _ c.in_err-i-in-len2.field-0.0 c.in_err-i-in-len2.ensures.gives)

pub expressions::element_at-returns-in_err-j-in-len2-clause-gives : goal.expressions::element_at-returns-in_err-j-in-len2-clause-gives
expressions::element_at-returns-in_err-j-in-len2-clause-gives g t c =
    let e : c.from_residual-in_err-j-in-len2.result ≡ Err c.in_err-j-in-len2.field-0.0 = search rules in
    let s = two_items c.args.indexes.now c.row-item.result c.column-item.result c.in-len2.len_at_least c.in-len2.len_below c.row-item.is c.column-item.is in
    rw (e, s) (column_halts (program_view c.args.program.now) g.W.Watcher.Seen g.W.Watcher.after c.args.depth (where_of c.args.at) c.args.spot c.args.object (expr_view c.row-item.result) (expr_view c.column-item.result) _ _ c.in_ok-i-in-len2.i _ c.in_err-j-in-len2.field-0.0
    c.in_ok-i-in-len2.ensures.gives c.in_err-j-in-len2.ensures.gives)

pub expressions::element_at-returns-in_ok-j-in-len2-clause-gives : goal.expressions::element_at-returns-in_ok-j-in-len2-clause-gives
expressions::element_at-returns-in_ok-j-in-len2-clause-gives g t c =
    let y : SFits w128 c.in_ok-i-in-len2.i = search rules in
    let z : SFits w128 c.in_ok-j-in-len2.j = search rules in
    let s = two_items c.args.indexes.now c.row-item.result c.column-item.result c.in-len2.len_at_least c.in-len2.len_below c.row-item.is c.column-item.is in
    let k = rw (to_z-of_z w128 c.in_ok-i-in-len2.i y, to_z-of_z w128 c.in_ok-j-in-len2.j z) at (c.element_in_row.ensures.gives (state_of c.eval-in-len2-2.new.machine (g.W.Watcher.seen c.eval-in-len2-2.new.watcher))) in
    rw s (two_go (program_view c.args.program.now) g.W.Watcher.Seen g.W.Watcher.after c.args.depth (where_of c.args.at) c.args.spot c.args.object (expr_view c.row-item.result) (expr_view c.column-item.result) _ _ c.in_ok-i-in-len2.i c.in_ok-j-in-len2.j _ _ c.element_in_row.result
    c.in_ok-i-in-len2.ensures.gives c.in_ok-j-in-len2.ensures.gives k)

pub expressions::element_at-returns-in_err-evaluate_all-in_default-clause-gives : goal.expressions::element_at-returns-in_err-evaluate_all-in_default-clause-gives
expressions::element_at-returns-in_err-evaluate_all-in_default-clause-gives g t c =
    let e : c.from_residual-in_err-evaluate_all-in_default.result ≡ Err c.in_err-evaluate_all-in_default.field-0.0 = search rules in
    rw e (many_halt (program_view c.args.program.now) g.W.Watcher.Seen g.W.Watcher.after c.args.depth (where_of c.args.at) c.args.spot c.args.object c.args.indexes.now _ _ c.in_default.len_at_least c.in_err-evaluate_all-in_default.field-0.0 c.in_err-evaluate_all-in_default.ensures.gives)

pub expressions::element_at-returns-in_ok-evaluate_all-in_default-clause-gives : goal.expressions::element_at-returns-in_ok-evaluate_all-in_default-clause-gives
expressions::element_at-returns-in_ok-evaluate_all-in_default-clause-gives g t c =
    many_go (program_view c.args.program.now) g.W.Watcher.Seen g.W.Watcher.after c.args.depth (where_of c.args.at) c.args.spot c.args.object c.args.indexes.now _ _ c.in_default.len_at_least c.in_ok-evaluate_all-in_default.ensures.gives

pub statements::switch-returns-in_err-value-clause-gives : goal.statements::switch-returns-in_err-value-clause-gives
statements::switch-returns-in_err-value-clause-gives g t c =
    let e : c.from_residual.result ≡ Err c.in_err-value.field-0.0 = search rules in
    rw e (halted same flow_of c.in_err-value.field-0.0 _ _ _ c.in_err-value.ensures.gives)

pub statements::switch-returns-in_err-first-clause-gives : goal.statements::switch-returns-in_err-first-clause-gives
statements::switch-returns-in_err-first-clause-gives g t c =
    let e : c.from_residual-in_err-first.result ≡ Err c.in_err-first.field-0.0 = search rules in
    let z : SFits w128 c.in_ok-value.value = search rules in
    let y : SFits w128 c.convert-promoted.result = search rules in
    let k = rw (to_z-of_z w128 c.convert-promoted.result y, c.convert-promoted.ensures, to_z-of_z w128 c.in_ok-value.value z, c.promote-ty.ensures, c.type_of.ensures) at c.in_err-first.ensures.gives in
    rw e (switch_halts (program_view c.args.program.now) g.W.Watcher.Seen g.W.Watcher.after c.args.depth c.args.wanted c.args.at (expr_view c.args.test.now) (switch_view c.args.arms.now) c.in_ok-value.value _ _ c.in_ok-value.ensures.gives _ c.in_err-first.field-0.0 k)

pub statements::switch-returns-clause-gives : goal.statements::switch-returns-clause-gives
statements::switch-returns-clause-gives g t c =
    let z : SFits w128 c.in_ok-value.value = search rules in
    let y : SFits w128 c.convert-promoted.result = search rules in
    let k = rw (to_z-of_z w128 c.convert-promoted.result y, c.convert-promoted.ensures, to_z-of_z w128 c.in_ok-value.value z, c.promote-ty.ensures, c.type_of.ensures) at c.in_ok-first.ensures.gives in
    switch_goes (program_view c.args.program.now) g.W.Watcher.Seen g.W.Watcher.after c.args.depth c.args.wanted c.args.at (expr_view c.args.test.now) (switch_view c.args.arms.now) c.in_ok-value.value _ _ c.in_ok-value.ensures.gives c.in_ok-first.first _ _ c.arms_from.result k c.arms_from.ensures.gives

pub statements::arms_from-returns-then-first-arms-clause-gives : goal.statements::arms_from-returns-then-first-arms-clause-gives
statements::arms_from-returns-then-first-arms-clause-gives g t c =
    let k = rw (rest_taken c.args.arms.now c.args.first) at c.hold_arms.ensures.gives in
    rw (arms_are (program_view c.args.program.now) g.W.Watcher.Seen g.W.Watcher.after c.args.depth c.args.wanted c.args.arms.now c.args.first c.if-first-arms.true (state_of c.args.machine.now (g.W.Watcher.seen c.args.watcher.now))) k

pub statements::arms_from-returns-else-first-arms-clause-gives : goal.statements::arms_from-returns-else-first-arms-clause-gives
statements::arms_from-returns-else-first-arms-clause-gives g t c =
    let l : length c.args.arms.now ≤ c.args.first = omega arith in
    no_arm (program_view c.args.program.now) g.W.Watcher.Seen g.W.Watcher.after c.args.depth c.args.wanted c.args.arms.now c.args.first l _

pub statements::sequence_arms-returns-in_err-flow-clause-gives : goal.statements::sequence_arms-returns-in_err-flow-clause-gives
statements::sequence_arms-returns-in_err-flow-clause-gives g t c =
    let e : c.from_residual.result ≡ Err c.in_err-flow.field-0.0 = search rules in
    let k = rw c.as_slice.ensures at c.in_err-flow.ensures.gives in
    rw e (arms_halted (program_view c.args.program.now) g.W.Watcher.Seen g.W.Watcher.after c.args.depth c.args.wanted c.args.arms.now c.loop-arm.arm-index c.arm-item.result c.loop-arm-test.true c.arm-item.is _ _ _ c.loop-arm.invariant.value c.in_err-flow.field-0.0 k)

pub statements::sequence_arms-returns-in_default-clause-gives : goal.statements::sequence_arms-returns-in_default-clause-gives
statements::sequence_arms-returns-in_default-clause-gives g t c =
    let k = rw c.as_slice.ensures at c.in_ok-flow.ensures.gives in
    arms_left (program_view c.args.program.now) g.W.Watcher.Seen g.W.Watcher.after c.args.depth c.args.wanted c.args.arms.now c.loop-arm.arm-index c.arm-item.result c.loop-arm-test.true c.arm-item.is _ _ _ c.loop-arm.invariant.value c.in_ok-flow.flow k c.in_default.not-Next

pub statements::sequence_arms-loop-arm-preserved : goal.statements::sequence_arms-loop-arm-preserved
statements::sequence_arms-loop-arm-preserved g t c =
    let k = rw (c.as_slice.ensures, c.in-Next.is) at c.in_ok-flow.ensures.gives in
    record {
      spends = omega (arith, c.loop-arm.invariant.spends, c.in_ok-flow.ensures.spends);
      value = arms_on (program_view c.args.program.now) g.W.Watcher.Seen g.W.Watcher.after c.args.depth c.args.wanted c.args.arms.now c.loop-arm.arm-index c.arm-item.result c.loop-arm-test.true c.arm-item.is _ _ _ c.loop-arm.invariant.value k;
    }

pub declarations::initial_values-returns-in_default-clause-gives : goal.declarations::initial_values-returns-in_default-clause-gives
declarations::initial_values-returns-in_default-clause-gives g t c =
    let d = drop-cons c.args.es.now c.loop-index.index c.index-es-index.result c.loop-index-test.true ∙ ap (λ x. x ∷ drop (suc c.loop-index.index) c.args.es.now) (sym c.index-es-index.is) in
    let u = state_of c.loop-index.machine (g.W.Watcher.seen c.loop-index.watcher) in
    values_full (program_view c.args.program.now) g.W.Watcher.Seen g.W.Watcher.after c.args.depth c.args.at c.args.object (c.args.first + c.loop-index.index) c.args.es.now c.loop-index.index c.index-es-index.result d u u _ c.loop-index.invariant.value

pub declarations::initial_values-returns-in_err-initial_value-clause-gives : goal.declarations::initial_values-returns-in_err-initial_value-clause-gives
declarations::initial_values-returns-in_err-initial_value-clause-gives g t c =
    let e : c.from_residual.result ≡ Err c.in_err-initial_value.field-0.0 = search rules in
    let d = drop-cons c.args.es.now c.loop-index.index c.index-es-index.result c.loop-index-test.true ∙ ap (λ x. x ∷ drop (suc c.loop-index.index) c.args.es.now) (sym c.index-es-index.is) in
    let k = rw c.in-Some.ensures at c.in_err-initial_value.ensures.gives in
    rw e (values_halted (program_view c.args.program.now) g.W.Watcher.Seen g.W.Watcher.after c.args.depth c.args.at c.args.object (c.args.first + c.loop-index.index) c.args.es.now c.loop-index.index c.index-es-index.result d _ _ _ c.loop-index.invariant.value c.in_err-initial_value.field-0.0 k)

pub declarations::initial_values-loop-index-preserved : goal.declarations::initial_values-loop-index-preserved
declarations::initial_values-loop-index-preserved g t c =
    let d = drop-cons c.args.es.now c.loop-index.index c.index-es-index.result c.loop-index-test.true ∙ ap (λ x. x ∷ drop (suc c.loop-index.index) c.args.es.now) (sym c.index-es-index.is) in
    let k = rw c.in-Some.ensures at c.in_ok-initial_value.ensures.gives in
    let i : c.loop-index.index + 1 ≡ suc c.loop-index.index = omega arith in
    let j : c.args.first + suc c.loop-index.index ≡ suc (c.args.first + c.loop-index.index) = omega arith in
    record {
      spends = omega (arith, c.loop-index.invariant.spends, c.in_ok-initial_value.ensures.spends);
      value = rw (i, j) (values_on (program_view c.args.program.now) g.W.Watcher.Seen g.W.Watcher.after c.args.depth c.args.at c.args.object (c.args.first + c.loop-index.index) c.args.es.now c.loop-index.index c.index-es-index.result d _ _ _ c.loop-index.invariant.value k);
    }

pub declarations::initial_rows-returns-in_err-initial_values-clause-gives : goal.declarations::initial_rows-returns-in_err-initial_values-clause-gives
declarations::initial_rows-returns-in_err-initial_values-clause-gives g t c =
    let e : c.from_residual.result ≡ Err c.in_err-initial_values.field-0.0 = search rules in
    let d = drop-cons c.args.rows.now c.loop-index.index c.index-rows-index.result c.loop-index-test.true ∙ ap (λ x. x ∷ drop (suc c.loop-index.index) c.args.rows.now) (sym c.index-rows-index.is) in
    let k = rw (c.columns_of_object-columns.ensures, c.as_slice-values.ensures) at c.in_err-initial_values.ensures.gives in
    rw e (rows_halted (program_view c.args.program.now) g.W.Watcher.Seen g.W.Watcher.after c.args.depth c.args.at c.args.object (c.loop-index.index * columns_of_object (program_view c.args.program.now) c.args.object) c.args.rows.now c.loop-index.index c.index-rows-index.result d _ _ _ c.loop-index.invariant.value c.in_err-initial_values.field-0.0 k)

pub declarations::initial_rows-loop-index-preserved : goal.declarations::initial_rows-loop-index-preserved
declarations::initial_rows-loop-index-preserved g t c =
    let d = drop-cons c.args.rows.now c.loop-index.index c.index-rows-index.result c.loop-index-test.true ∙ ap (λ x. x ∷ drop (suc c.loop-index.index) c.args.rows.now) (sym c.index-rows-index.is) in
    let columns = columns_of_object (program_view c.args.program.now) c.args.object in
    let k = rw (c.columns_of_object-columns.ensures, c.as_slice-values.ensures) at c.in_ok-initial_values.ensures.gives in
    let i : c.loop-index.index + 1 ≡ suc c.loop-index.index = omega arith in
    let j : suc c.loop-index.index * columns ≡ c.loop-index.index * columns + columns = omega arith in
    record {
      spends = omega (arith, c.loop-index.invariant.spends, c.in_ok-initial_values.ensures.spends);
      value = rw (i, j) (rows_on (program_view c.args.program.now) g.W.Watcher.Seen g.W.Watcher.after c.args.depth c.args.at c.args.object (c.loop-index.index * columns) c.args.rows.now c.loop-index.index c.index-rows-index.result d _ _ _ c.loop-index.invariant.value k);
    }
