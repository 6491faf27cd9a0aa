use Rattle.std.proofs.Common.{rules, ◌≡◌, ◌∙◌, ◌+◌, ◌*◌, ◌≤◌, suc, ◌∷◌, length, drop, drop-cons, arith, ap, sym, refl, None, Some, Ok, Err, true, false}
use mir.Val.{SFits}
use mir.Syntax.{w128}
use Rattle.std.proofs.lemmas.Int.{to_z-of_z}
use Rattle.c_core.specs.Tree.{Index, Unary, Cast, Step, Binary, Logic, Choose, Comma, Assign, Call}
use Rattle.c_core.proofs.View.{view_of_index, view_of_call, view_of_block, view_of_switch}
use Rattle.c_core.specs.View.{program_view, expr_view, exprs_view, rows_view, node_view, expr_view_if, stmt_view, stmts_view, switch_view, names_view, first_view, form_view, init_view, function_view, functions_view}
use Rattle.c_core.specs.declared.number.IntType.TheVariants.{Int}
use Rattle.c_meaning.specs.Meaning.{Used}
use Rattle.c_meaning.specs.Objects.{type_of, columns_of_object}
use Rattle.run_state.specs.Interpreting.{same, key_of, use_of, where_of, pairs_of, flow_of, else_part, site_of}
use Rattle.c_calls.specs.Loops.{loop_of}
use Rattle.run_state.specs.declared.machine.Typed.{Typed}
use Rattle.run_state.proofs.Starting.{function_at, no_function_at}
use Rattle.c_meaning.specs.Placing.{placed_view}
use Rattle.havoc_state.specs.Havocking.{left_of}
use Rattle.havoc_state.proofs.Giving.{halted, passed}
use Rattle.c_havoc.proofs.Sizes.{size_of_node, size_of_exps, size_if, size_of_rows, size_of_init, size_of_names, size_of_first, size_of_stm, size_of_form, size_of_else, size_of_stms, size_of_loop, level_above, body_within_all, loop_within, for_within, exp_within, stm_within, row_within, arm_within, arms_within, name_within}
use Rattle.c_havoc.proofs.Evaluating.{as_form, as_noded, as_place, cast_gives, logic_gives, list_on, list_halted, entered, evals_give, picked_first, picked_second}
use Rattle.c_havoc.proofs.Executing.{view_of_if, sequence_halted, sequence_on, sequence_left, chosen, choice_halts, declare_halted, declare_on, initial_stored, values_halted, values_on, rows_halted, rows_on}
use Rattle.c_havoc.proofs.Indexing.{one_item, two_items, one_halts, one_goes, row_halts, column_halts, two_go, many_halt, many_go, all_halted, all_on}
use Rattle.c_havoc.proofs.Switching.{rest_taken, switch_goes, arms_are, no_arm, arms_halted, arms_on, arms_left}
use Rattle.c_havoc.proofs.Looping.{while_given, do_given, for_given, while_chosen, while_halts, for_chosen, test_done, test_halts}
use Rattle.c_havoc.proofs.Calling.{parameters_halted, parameters_passed, number_found, number_missing}
use Rattle.c_havoc.proofs.+run.Goals as goal

pub expressions::eval-binary-requires : goal.expressions::eval-binary-requires
expressions::eval-binary-requires t c =
    let e : node_view c.args.e.now.node ≡ Binary c.in-Binary.op (expr_view c.deref.result.now) (expr_view c.deref-in-Binary.result.now) = rw (c.in-Binary.is, c.deref.ensures, c.deref-in-Binary.ensures) refl in
    (omega (arith, c.decreases, ap size_of_node e), tt)

pub expressions::eval-returns-in-Binary : goal.expressions::eval-returns-in-Binary
expressions::eval-returns-in-Binary t c =
    let e : node_view c.args.e.now.node ≡ Binary c.in-Binary.op (expr_view c.deref.result.now) (expr_view c.deref-in-Binary.result.now) = rw (c.in-Binary.is, c.deref.ensures, c.deref-in-Binary.ensures) refl in
    as_form (program_view c.args.program.now) (placed_view c.args.invariants.now) c.args.depth _ _ _ _ _ _ _ _ c.binary.result e c.binary.ensures

pub expressions::eval-unary-requires : goal.expressions::eval-unary-requires
expressions::eval-unary-requires t c =
    let e : node_view c.args.e.now.node ≡ Unary c.in-Unary.op (expr_view c.deref-in-Unary.result.now) = rw (c.in-Unary.is, c.deref-in-Unary.ensures) refl in
    (omega (arith, c.decreases, ap size_of_node e), tt)

pub expressions::eval-returns-in-Unary : goal.expressions::eval-returns-in-Unary
expressions::eval-returns-in-Unary t c =
    let e : node_view c.args.e.now.node ≡ Unary c.in-Unary.op (expr_view c.deref-in-Unary.result.now) = rw (c.in-Unary.is, c.deref-in-Unary.ensures) refl in
    as_form (program_view c.args.program.now) (placed_view c.args.invariants.now) c.args.depth _ _ _ _ _ _ _ _ c.unary.result e c.unary.ensures

pub expressions::eval-cast-requires : goal.expressions::eval-cast-requires
expressions::eval-cast-requires t c =
    let e : node_view c.args.e.now.node ≡ Cast (expr_view c.deref-in-Cast.result.now) = rw (c.in-Cast.is, c.deref-in-Cast.ensures) refl in
    (omega (arith, c.decreases, ap size_of_node e), tt)

pub expressions::eval-returns-in-Cast : goal.expressions::eval-returns-in-Cast
expressions::eval-returns-in-Cast t c =
    let e : node_view c.args.e.now.node ≡ Cast (expr_view c.deref-in-Cast.result.now) = rw (c.in-Cast.is, c.deref-in-Cast.ensures) refl in
    as_form (program_view c.args.program.now) (placed_view c.args.invariants.now) c.args.depth _ _ _ _ _ _ _ _ c.cast.result e (cast_gives (program_view c.args.program.now) (placed_view c.args.invariants.now) c.args.depth
    (where_of c.args.at) (use_of c.args.used) c.args.e.now.spot c.args.at.full c.args.e.now.ty (expr_view c.deref-in-Cast.result.now)
    (left_of c.args.machine.now) (left_of c.cast.new.machine) c.cast.result c.cast.ensures)

pub expressions::eval-step-requires : goal.expressions::eval-step-requires
expressions::eval-step-requires t c =
    let e : node_view c.args.e.now.node ≡ Step c.in-Step.op (expr_view c.deref-in-Step.result.now) = rw (c.in-Step.is, c.deref-in-Step.ensures) refl in
    (omega (arith, c.decreases, ap size_of_node e), tt)

pub expressions::eval-returns-in-Step : goal.expressions::eval-returns-in-Step
expressions::eval-returns-in-Step t c =
    let e : node_view c.args.e.now.node ≡ Step c.in-Step.op (expr_view c.deref-in-Step.result.now) = rw (c.in-Step.is, c.deref-in-Step.ensures) refl in
    as_form (program_view c.args.program.now) (placed_view c.args.invariants.now) c.args.depth _ _ _ _ _ _ _ _ c.step.result e c.step.ensures

pub expressions::eval-comma-requires : goal.expressions::eval-comma-requires
expressions::eval-comma-requires t c =
    let e : node_view c.args.e.now.node ≡ Comma (expr_view c.deref-in-Comma.result.now) (expr_view c.deref-in-Comma-2.result.now) = rw (c.in-Comma.is, c.deref-in-Comma.ensures, c.deref-in-Comma-2.ensures) refl in
    (omega (arith, c.decreases, ap size_of_node e), tt)

pub expressions::eval-returns-in-Comma : goal.expressions::eval-returns-in-Comma
expressions::eval-returns-in-Comma t c =
    let e : node_view c.args.e.now.node ≡ Comma (expr_view c.deref-in-Comma.result.now) (expr_view c.deref-in-Comma-2.result.now) = rw (c.in-Comma.is, c.deref-in-Comma.ensures, c.deref-in-Comma-2.ensures) refl in
    as_form (program_view c.args.program.now) (placed_view c.args.invariants.now) c.args.depth _ _ _ _ _ _ _ _ c.comma.result e c.comma.ensures

pub expressions::eval-logic-requires : goal.expressions::eval-logic-requires
expressions::eval-logic-requires t c =
    let e : node_view c.args.e.now.node ≡ Logic c.in-Logic.both (expr_view c.deref-in-Logic.result.now) (expr_view c.deref-in-Logic-2.result.now) = rw (c.in-Logic.is, c.deref-in-Logic.ensures, c.deref-in-Logic-2.ensures) refl in
    (omega (arith, c.decreases, ap size_of_node e), tt)

pub expressions::eval-returns-in-Logic : goal.expressions::eval-returns-in-Logic
expressions::eval-returns-in-Logic t c =
    let e : node_view c.args.e.now.node ≡ Logic c.in-Logic.both (expr_view c.deref-in-Logic.result.now) (expr_view c.deref-in-Logic-2.result.now) = rw (c.in-Logic.is, c.deref-in-Logic.ensures, c.deref-in-Logic-2.ensures) refl in
    as_form (program_view c.args.program.now) (placed_view c.args.invariants.now) c.args.depth _ _ _ _ _ _ _ _ c.logic.result e (logic_gives (program_view c.args.program.now) (placed_view c.args.invariants.now) c.args.depth
    (where_of c.args.at) (use_of c.args.used) c.args.e.now.spot c.args.at.full c.args.e.now.ty c.in-Logic.both (expr_view c.deref-in-Logic.result.now) (expr_view c.deref-in-Logic-2.result.now)
    (left_of c.args.machine.now) (left_of c.logic.new.machine) c.logic.result c.logic.ensures)

pub expressions::eval-assign-requires : goal.expressions::eval-assign-requires
expressions::eval-assign-requires t c =
    let e : node_view c.args.e.now.node ≡ Assign c.in-Assign.op (expr_view c.deref-in-Assign.result.now) (expr_view c.deref-in-Assign-2.result.now) = rw (c.in-Assign.is, c.deref-in-Assign.ensures, c.deref-in-Assign-2.ensures) refl in
    (omega (arith, c.decreases, ap size_of_node e), tt)

pub expressions::eval-returns-in-Assign : goal.expressions::eval-returns-in-Assign
expressions::eval-returns-in-Assign t c =
    let e : node_view c.args.e.now.node ≡ Assign c.in-Assign.op (expr_view c.deref-in-Assign.result.now) (expr_view c.deref-in-Assign-2.result.now) = rw (c.in-Assign.is, c.deref-in-Assign.ensures, c.deref-in-Assign-2.ensures) refl in
    as_form (program_view c.args.program.now) (placed_view c.args.invariants.now) c.args.depth _ _ _ _ _ _ _ _ c.assign.result e c.assign.ensures

pub expressions::eval-choose-requires : goal.expressions::eval-choose-requires
expressions::eval-choose-requires t c =
    let e : node_view c.args.e.now.node ≡ Choose c.in-Choose.mark (expr_view c.deref-in-Choose.result.now) (expr_view c.deref-in-Choose-2.result.now) (expr_view c.deref-in-Choose-3.result.now) = rw (c.in-Choose.is, c.deref-in-Choose.ensures, c.deref-in-Choose-2.ensures, c.deref-in-Choose-3.ensures) refl in
    (omega (arith, c.decreases, ap size_of_node e), tt)

pub expressions::eval-returns-in-Choose : goal.expressions::eval-returns-in-Choose
expressions::eval-returns-in-Choose t c =
    let e : node_view c.args.e.now.node ≡ Choose c.in-Choose.mark (expr_view c.deref-in-Choose.result.now) (expr_view c.deref-in-Choose-2.result.now) (expr_view c.deref-in-Choose-3.result.now) = rw (c.in-Choose.is, c.deref-in-Choose.ensures, c.deref-in-Choose-2.ensures, c.deref-in-Choose-3.ensures) refl in
    as_form (program_view c.args.program.now) (placed_view c.args.invariants.now) c.args.depth _ _ _ _ _ _ _ _ c.choose.result e c.choose.ensures

pub expressions::eval-call-requires : goal.expressions::eval-call-requires
expressions::eval-call-requires t c =
    let v = ap node_view c.in-Call.is ∙ view_of_call c.in-Call.callee c.in-Call.args c.in-Call.close in
    let e = v ∙ ap (λ es. Call c.in-Call.callee (exprs_view es) c.in-Call.close) (sym c.as_slice-in-Call.ensures) in
    (omega (arith, c.decreases, ap size_of_node e), tt)

pub expressions::eval-returns-in-Call : goal.expressions::eval-returns-in-Call
expressions::eval-returns-in-Call t c =
    let v = ap node_view c.in-Call.is ∙ view_of_call c.in-Call.callee c.in-Call.args c.in-Call.close in
    let e = v ∙ ap (λ es. Call c.in-Call.callee (exprs_view es) c.in-Call.close) (sym c.as_slice-in-Call.ensures) in
    as_form (program_view c.args.program.now) (placed_view c.args.invariants.now) c.args.depth _ _ _ _ _ _ _ _ c.call.result e c.call.ensures

pub expressions::binary-returns : goal.expressions::binary-returns
expressions::binary-returns t c =
    let z : SFits w128 c.in_ok-a.a = search rules in
    let y : SFits w128 c.in_ok-b.b = search rules in
    let k = rw (to_z-of_z w128 c.in_ok-a.a z, to_z-of_z w128 c.in_ok-b.b y, c.type_of.ensures, c.type_of-2.ensures) at (c.operate.ensures (left_of c.eval-2.new.machine)) in
    passed same same c.in_ok-a.a _ _ _ _ c.operate.result c.in_ok-a.ensures (passed same same c.in_ok-b.b _ _ _ _ c.operate.result c.in_ok-b.ensures k)

pub expressions::unary-returns : goal.expressions::unary-returns
expressions::unary-returns t c =
    let z : SFits w128 c.in_ok-value.value = search rules in
    let k = rw (to_z-of_z w128 c.in_ok-value.value z, c.type_of.ensures) at (c.operate_one.ensures (left_of c.eval.new.machine)) in
    passed same same c.in_ok-value.value _ _ _ _ c.operate_one.result c.in_ok-value.ensures k

pub expressions::replace-returns : goal.expressions::replace-returns
expressions::replace-returns t c =
    let z : SFits w128 c.in_ok-value.value = search rules in
    let y : SFits w128 c.store.result = search rules in
    let k = rw (to_z-of_z w128 c.in_ok-value.value z, c.type_of.ensures) at (c.store.ensures (type_of (expr_view c.args.from.now))) in
    let q = passed same same c.in_ok-value.value _ _ _ _ (Ok c.store.result) c.in_ok-value.ensures k in
    rw (to_z-of_z w128 c.store.result y) (passed key_of same c.in_ok-key.key _ _ _ _ (Ok c.store.result) c.in_ok-key.ensures q)

pub expressions::update-returns : goal.expressions::update-returns
expressions::update-returns t c =
    let z : SFits w128 c.in_ok-value.value = search rules in
    let y : SFits w128 c.look-old.result = search rules in
    let k = rw (to_z-of_z w128 c.in_ok-value.value z, to_z-of_z w128 c.look-old.result y, c.look-old.ensures, c.type_of.ensures, c.type_of-2.ensures) at c.change.ensures in
    let q = passed same same c.in_ok-value.value _ _ _ _ c.change.result c.in_ok-value.ensures k in
    passed key_of same c.in_ok-key.key _ _ _ _ c.change.result c.in_ok-key.ensures q

pub expressions::converted-returns : goal.expressions::converted-returns
expressions::converted-returns t c =
    let z : SFits w128 c.in_ok-value.value = search rules in
    let y : SFits w128 c.convert_to.result = search rules in
    let k = rw (to_z-of_z w128 c.in_ok-value.value z) at (c.convert_to.ensures (type_of (expr_view c.args.e.now)) (left_of c.eval.new.machine)) in
    rw (to_z-of_z w128 c.convert_to.result y) (passed same same c.in_ok-value.value _ _ _ _ (Ok c.convert_to.result) c.in_ok-value.ensures k)

pub expressions::choose-returns-then-holds : goal.expressions::choose-returns-then-holds
expressions::choose-returns-then-holds t c =
    let z : SFits w128 c.in_ok-value.value = search rules in
    let h = rw (to_z-of_z w128 c.in_ok-value.value z) at c.holds.ensures in
    passed same same c.in_ok-value.value _ _ _ _ c.converted.result c.in_ok-value.ensures
    (picked_first (program_view c.args.program.now) (placed_view c.args.invariants.now) c.args.depth _ _ c.in_ok-value.value (left_of c.eval.new.machine) _ c.converted.result (sym h ∙ c.if-holds.true) c.converted.ensures)

pub expressions::choose-returns-else-holds : goal.expressions::choose-returns-else-holds
expressions::choose-returns-else-holds t c =
    let z : SFits w128 c.in_ok-value.value = search rules in
    let h = rw (to_z-of_z w128 c.in_ok-value.value z) at c.holds.ensures in
    passed same same c.in_ok-value.value _ _ _ _ c.converted-else-holds.result c.in_ok-value.ensures
    (picked_second (program_view c.args.program.now) (placed_view c.args.invariants.now) c.args.depth _ _ c.in_ok-value.value (left_of c.eval.new.machine) _ c.converted-else-holds.result (sym h ∙ c.if-holds.false) c.converted-else-holds.ensures)

pub expressions::assign-returns-in-None : goal.expressions::assign-returns-in-None
expressions::assign-returns-in-None t c =
    let e = ap (λ o. Assign o (expr_view c.args.to.now) (expr_view c.args.from.now)) c.in-None.is in
    as_noded (program_view c.args.program.now) (placed_view c.args.invariants.now) c.args.depth (where_of c.args.at) Used c.args.at.full None
    (Assign c.args.op (expr_view c.args.to.now) (expr_view c.args.from.now)) (Assign None (expr_view c.args.to.now) (expr_view c.args.from.now))
    (left_of c.args.machine.now) (left_of c.replace.new.machine)
    c.replace.result e c.replace.ensures

pub expressions::assign-returns-in-Some : goal.expressions::assign-returns-in-Some
expressions::assign-returns-in-Some t c =
    let e = ap (λ o. Assign o (expr_view c.args.to.now) (expr_view c.args.from.now)) c.in-Some.is in
    as_noded (program_view c.args.program.now) (placed_view c.args.invariants.now) c.args.depth (where_of c.args.at) Used c.args.at.full None
    (Assign c.args.op (expr_view c.args.to.now) (expr_view c.args.from.now)) (Assign (Some c.in-Some.op) (expr_view c.args.to.now) (expr_view c.args.from.now))
    (left_of c.args.machine.now) (left_of c.update.new.machine)
    c.update.result e c.update.ensures

pub expressions::call-returns-in_err-values : goal.expressions::call-returns-in_err-values
expressions::call-returns-in_err-values t c =
    let e : c.from_residual.result ≡ Err c.in_err-values.field-0.0 = search rules in
    let q = evals_give (program_view c.args.program.now) (placed_view c.args.invariants.now) c.args.depth (where_of c.args.at) (exprs_view c.args.args.now)
    (left_of c.args.machine.now) (left_of c.arguments.new.machine)
    (Err c.in_err-values.field-0.0) c.in_err-values.ensures in
    rw e (halted pairs_of same c.in_err-values.field-0.0 _ _ _ q)

pub expressions::call-returns : goal.expressions::call-returns
expressions::call-returns t c =
    let k = rw c.as_slice.ensures at c.called.ensures in
    entered (program_view c.args.program.now) (placed_view c.args.invariants.now) c.args.depth (where_of c.args.at) (use_of c.args.used) c.args.spot c.args.close c.args.ty c.args.callee (exprs_view c.args.args.now) c.in_ok-values.values c.is_needed.result
    (left_of c.args.machine.now) (left_of c.arguments.new.machine) _ c.called.result c.in_ok-values.ensures c.is_needed.ensures k

pub expressions::arguments-returns-in_err-value : goal.expressions::arguments-returns-in_err-value
expressions::arguments-returns-in_err-value t c =
    let e : c.from_residual.result ≡ Err c.in_err-value.field-0.0 = search rules in
    let d = drop-cons c.args.args.now c.loop-arg.arg-index c.arg-item.result c.loop-arg-test.true ∙ ap (λ x. x ∷ drop (suc c.loop-arg.arg-index) c.args.args.now) (sym c.arg-item.is) in
    rw e (list_halted (program_view c.args.program.now) (placed_view c.args.invariants.now) c.args.depth (where_of c.args.at) c.args.args.now c.loop-arg.arg-index c.arg-item.result c.loop-arg.values _ _ _ c.in_err-value.field-0.0 d c.loop-arg.invariant c.in_err-value.ensures)

pub expressions::arguments-loop-arg-preserved : goal.expressions::arguments-loop-arg-preserved
expressions::arguments-loop-arg-preserved t c =
    let d = drop-cons c.args.args.now c.loop-arg.arg-index c.arg-item.result c.loop-arg-test.true ∙ ap (λ x. x ∷ drop (suc c.loop-arg.arg-index) c.args.args.now) (sym c.arg-item.is) in
    let e : c.loop-arg.arg-index + 1 ≡ suc c.loop-arg.arg-index = omega arith in
    let z : SFits w128 c.in_ok-value.value = search rules in
    let y : Typed = record { value = c.in_ok-value.value; ty = c.type_of.result } in
    let m = rw (to_z-of_z w128 c.in_ok-value.value z) at c.in_ok-push.ensures.ok in
    rw e (list_on (program_view c.args.program.now) (placed_view c.args.invariants.now) c.args.depth (where_of c.args.at) c.args.args.now c.loop-arg.arg-index c.arg-item.result c.loop-arg.values _ _ _ _ y d c.loop-arg.invariant c.in_ok-value.ensures c.type_of.ensures m)

pub expressions::arguments-eval-requires : goal.expressions::arguments-eval-requires
expressions::arguments-eval-requires t c =
    let d = drop-cons c.args.args.now c.loop-arg.arg-index c.arg-item.result c.loop-arg-test.true ∙ ap (λ x. x ∷ drop (suc c.loop-arg.arg-index) c.args.args.now) (sym c.arg-item.is) in
    (omega (arith, c.decreases, exp_within c.args.args.now c.loop-arg.arg-index c.arg-item.result d), tt)

pub expressions::called-returns-in-ReachError : goal.expressions::called-returns-in-ReachError
expressions::called-returns-in-ReachError t c = rw c.in-ReachError.is (c.reach.ensures (left_of c.args.machine.now))

pub statements::form-block-requires : goal.statements::form-block-requires
statements::form-block-requires t c =
    let e = ap form_view c.in-Block.is ∙ view_of_block c.in-Block.body in
    (omega (arith, c.decreases, ap size_of_form e, ap (λ ss. size_of_stms (stmts_view ss)) c.as_slice-in-Block.ensures), tt)

pub statements::form-returns-in-Block : goal.statements::form-returns-in-Block
statements::form-returns-in-Block t c =
    let e = ap form_view c.in-Block.is ∙ view_of_block c.in-Block.body in
    rw (e, ← c.as_slice-in-Block.ensures) c.block.ensures

pub statements::form-returns-in-If : goal.statements::form-returns-in-If
statements::form-returns-in-If t c =
    let e = ap form_view c.in-If.is ∙ view_of_if c.in-If.test c.in-If.yes c.in-If.no in
    rw (e, ← c.deref.ensures) c.choose.ensures

pub statements::form-choose-requires : goal.statements::form-choose-requires
statements::form-choose-requires t c =
    let e = ap form_view c.in-If.is ∙ view_of_if c.in-If.test c.in-If.yes c.in-If.no in
    (omega (arith, c.decreases, ap size_of_form e, ap (λ s. size_of_stm (stmt_view s)) c.deref.ensures), tt)

pub statements::form-returns-in-Label : goal.statements::form-returns-in-Label
statements::form-returns-in-Label t c = rw (c.in-Label.is, ← c.deref-in-Label.ensures) c.exec.ensures

pub statements::form-exec-requires : goal.statements::form-exec-requires
statements::form-exec-requires t c =
    (omega (arith, c.decreases, ap (λ f. size_of_form (form_view f)) c.in-Label.is, ap (λ s. size_of_stm (stmt_view s)) c.deref-in-Label.ensures), tt)

pub statements::form-only-requires : goal.statements::form-only-requires
statements::form-only-requires t c =
    (omega (arith, c.decreases, ap (λ f. size_of_form (form_view f)) c.in-Expr.is), tt)

pub statements::form-declare-requires : goal.statements::form-declare-requires
statements::form-declare-requires t c =
    (omega (arith, c.decreases, ap (λ f. size_of_form (form_view f)) c.in-Declare.is, ap (λ ns. size_of_names (names_view ns)) c.as_slice.ensures), tt)

pub statements::form-give-requires : goal.statements::form-give-requires
statements::form-give-requires t c =
    (omega (arith, c.decreases, ap (λ f. size_of_form (form_view f)) c.in-Return.is), tt)

pub statements::form-loop_scope-requires : goal.statements::form-loop_scope-requires
statements::form-loop_scope-requires t c =
    (omega (arith, c.decreases, loop_within (form_view c.args.f.now)), tt)

pub statements::form-loop_scope-requires-in-Do : goal.statements::form-loop_scope-requires-in-Do
statements::form-loop_scope-requires-in-Do t c = (omega (arith, c.decreases, loop_within (form_view c.args.f.now)), tt)

pub statements::form-for_scope-requires : goal.statements::form-for_scope-requires
statements::form-for_scope-requires t c = (omega (arith, c.decreases, for_within (form_view c.args.f.now) (first_view c.in-For.first) (expr_view_if c.in-For.test) (expr_view_if c.in-For.step) (stmt_view c.in-For.body.value) (ap form_view c.in-For.is)), tt)

pub statements::otherwise-returns-in-Some : goal.statements::otherwise-returns-in-Some
statements::otherwise-returns-in-Some t c = rw (c.in-Some.is, ← c.deref.ensures) c.arm.ensures

pub statements::otherwise-arm-requires : goal.statements::otherwise-arm-requires
statements::otherwise-arm-requires t c = (omega (arith, c.decreases, ap (λ o. size_of_else (else_part o)) c.in-Some.is, ap (λ s. size_of_stm (stmt_view s)) c.deref.ensures), tt)

pub statements::sequence-returns-in_err-flow : goal.statements::sequence-returns-in_err-flow
statements::sequence-returns-in_err-flow t c =
    let e : c.from_residual.result ≡ Err c.in_err-flow.field-0.0 = search rules in
    let d = drop-cons c.args.body.now c.loop-s.s-index c.s-item.result c.loop-s-test.true ∙ ap (λ x. x ∷ drop (suc c.loop-s.s-index) c.args.body.now) (sym c.s-item.is) in
    rw e (sequence_halted (program_view c.args.program.now) (placed_view c.args.invariants.now) c.args.depth c.args.wanted c.args.body.now c.loop-s.s-index c.s-item.result _ _ _ c.in_err-flow.field-0.0 d c.loop-s.invariant c.in_err-flow.ensures)

pub statements::sequence-returns-in_default : goal.statements::sequence-returns-in_default
statements::sequence-returns-in_default t c =
    let d = drop-cons c.args.body.now c.loop-s.s-index c.s-item.result c.loop-s-test.true ∙ ap (λ x. x ∷ drop (suc c.loop-s.s-index) c.args.body.now) (sym c.s-item.is) in
    sequence_left (program_view c.args.program.now) (placed_view c.args.invariants.now) c.args.depth c.args.wanted c.args.body.now c.loop-s.s-index c.s-item.result _ _ _ c.in_ok-flow.flow d c.loop-s.invariant c.in_ok-flow.ensures c.in_default.not-Next

pub statements::sequence-loop-s-preserved : goal.statements::sequence-loop-s-preserved
statements::sequence-loop-s-preserved t c =
    let d = drop-cons c.args.body.now c.loop-s.s-index c.s-item.result c.loop-s-test.true ∙ ap (λ x. x ∷ drop (suc c.loop-s.s-index) c.args.body.now) (sym c.s-item.is) in
    let e : c.loop-s.s-index + 1 ≡ suc c.loop-s.s-index = omega arith in
    rw e (sequence_on (program_view c.args.program.now) (placed_view c.args.invariants.now) c.args.depth c.args.wanted c.args.body.now c.loop-s.s-index c.s-item.result _ _ _ d c.loop-s.invariant (rw c.in-Next.is at c.in_ok-flow.ensures))

pub statements::sequence-exec-requires : goal.statements::sequence-exec-requires
statements::sequence-exec-requires t c =
    let d = drop-cons c.args.body.now c.loop-s.s-index c.s-item.result c.loop-s-test.true ∙ ap (λ x. x ∷ drop (suc c.loop-s.s-index) c.args.body.now) (sym c.s-item.is) in
    (omega (arith, c.decreases, stm_within c.args.body.now c.loop-s.s-index c.s-item.result d), tt)

pub statements::choose-returns-in_err-decide : goal.statements::choose-returns-in_err-decide
statements::choose-returns-in_err-decide t c =
    let e : c.from_residual.result ≡ Err c.in_err-decide.field-0.0 = search rules in
    rw e (choice_halts (program_view c.args.program.now) (placed_view c.args.invariants.now) c.args.depth c.args.wanted c.args.at (expr_view c.args.test.now) (stmt_view c.args.yes.now) (else_part c.args.no.now)
    (left_of c.args.machine.now) (left_of c.decide.new.machine) c.in_err-decide.field-0.0 c.in_err-decide.ensures)

pub statements::choose-returns-then-branch : goal.statements::choose-returns-then-branch
statements::choose-returns-then-branch t c =
    let h = rw c.if-branch.true at c.in_ok-decide.ensures in
    let k = chosen (program_view c.args.program.now) (placed_view c.args.invariants.now) c.args.depth c.args.wanted c.args.at (expr_view c.args.test.now) (stmt_view c.args.yes.now) (else_part c.args.no.now) true _ _ h in
    rw k c.arm.ensures

pub statements::choose-returns-else-branch : goal.statements::choose-returns-else-branch
statements::choose-returns-else-branch t c =
    let h = rw c.if-branch.false at c.in_ok-decide.ensures in
    let k = chosen (program_view c.args.program.now) (placed_view c.args.invariants.now) c.args.depth c.args.wanted c.args.at (expr_view c.args.test.now) (stmt_view c.args.yes.now) (else_part c.args.no.now) false _ _ h in
    rw k c.otherwise.ensures

pub statements::form-returns-in-While : goal.statements::form-returns-in-While
statements::form-returns-in-While t c = while_given (program_view c.args.program.now) (placed_view c.args.invariants.now) c.args.depth c.args.wanted c.args.at (form_view c.args.f.now) (expr_view c.in-While.test) (stmt_view c.in-While.body.value) (ap form_view c.in-While.is) _ _ _ c.loop_scope.ensures

pub statements::form-returns-in-Do : goal.statements::form-returns-in-Do
statements::form-returns-in-Do t c = do_given (program_view c.args.program.now) (placed_view c.args.invariants.now) c.args.depth c.args.wanted c.args.at (form_view c.args.f.now) (stmt_view c.in-Do.body.value) (expr_view c.in-Do.test) (ap form_view c.in-Do.is) _ _ _ c.loop_scope-in-Do.ensures

pub statements::form-returns-in-For : goal.statements::form-returns-in-For
statements::form-returns-in-For t c = for_given (program_view c.args.program.now) (placed_view c.args.invariants.now) c.args.depth c.args.wanted c.args.at (form_view c.args.f.now) (first_view c.in-For.first) (expr_view_if c.in-For.test) (expr_view_if c.in-For.step) (stmt_view c.in-For.body.value) (ap form_view c.in-For.is) _ _ _ c.for_scope.ensures

pub statements::turn-returns-in-While : goal.statements::turn-returns-in-While
statements::turn-returns-in-While t c = rw (c.in-While.is, ← c.deref.ensures) c.while_turn.ensures

pub statements::turn-while_turn-requires : goal.statements::turn-while_turn-requires
statements::turn-while_turn-requires t c = (omega (arith, c.decreases, ap (λ f. size_of_loop (loop_of (form_view f))) c.in-While.is, ap (λ s. size_of_stm (stmt_view s)) c.deref.ensures), tt)

pub statements::turn-returns-in-Do : goal.statements::turn-returns-in-Do
statements::turn-returns-in-Do t c = rw (c.in-Do.is, ← c.deref-in-Do.ensures) c.do_turn.ensures

pub statements::turn-do_turn-requires : goal.statements::turn-do_turn-requires
statements::turn-do_turn-requires t c = (omega (arith, c.decreases, ap (λ f. size_of_loop (loop_of (form_view f))) c.in-Do.is, ap (λ s. size_of_stm (stmt_view s)) c.deref-in-Do.ensures), tt)

pub statements::turn-returns-in-For : goal.statements::turn-returns-in-For
statements::turn-returns-in-For t c = rw (c.in-For.is, ← c.deref-in-For.ensures) c.for_turn.ensures

pub statements::turn-for_turn-requires : goal.statements::turn-for_turn-requires
statements::turn-for_turn-requires t c = (omega (arith, c.decreases, ap (λ f. size_of_loop (loop_of (form_view f))) c.in-For.is, ap (λ s. size_of_stm (stmt_view s)) c.deref-in-For.ensures), tt)

pub statements::while_turn-returns-in_err-decide : goal.statements::while_turn-returns-in_err-decide
statements::while_turn-returns-in_err-decide t c =
    let e : c.from_residual.result ≡ Err c.in_err-decide.field-0.0 = search rules in
    rw e (while_halts (program_view c.args.program.now) (placed_view c.args.invariants.now) c.args.depth c.args.wanted c.args.at (expr_view c.args.test.now) (stmt_view c.args.body.now)
    (left_of c.args.machine.now) (left_of c.decide.new.machine) c.in_err-decide.field-0.0 c.in_err-decide.ensures)

pub statements::while_turn-returns-then-branch : goal.statements::while_turn-returns-then-branch
statements::while_turn-returns-then-branch t c =
    let h = rw c.if-branch.true at c.in_ok-decide.ensures in
    let k = while_chosen (program_view c.args.program.now) (placed_view c.args.invariants.now) c.args.depth c.args.wanted c.args.at (expr_view c.args.test.now) (stmt_view c.args.body.now) true _ _ h in
    rw k c.loop_body.ensures

pub statements::while_turn-returns-else-branch : goal.statements::while_turn-returns-else-branch
statements::while_turn-returns-else-branch t c =
    let h = rw c.if-branch.false at c.in_ok-decide.ensures in
    while_chosen (program_view c.args.program.now) (placed_view c.args.invariants.now) c.args.depth c.args.wanted c.args.at (expr_view c.args.test.now) (stmt_view c.args.body.now) false _ _ h

pub statements::for_turn-returns-then-branch : goal.statements::for_turn-returns-then-branch
statements::for_turn-returns-then-branch t c =
    let h = rw c.if-branch.true at c.in_ok-for_goes_on.ensures in
    let k = for_chosen (program_view c.args.program.now) (placed_view c.args.invariants.now) c.args.depth c.args.wanted c.args.at (expr_view_if c.args.test.now) (expr_view_if c.args.step.now) (stmt_view c.args.body.now) true _ _ h in
    rw k c.for_body.ensures

pub declarations::declare-returns-in_err-introduce : goal.declarations::declare-returns-in_err-introduce
declarations::declare-returns-in_err-introduce t c =
    let e : c.from_residual.result ≡ Err c.in_err-introduce.field-0.0 = search rules in
    let d = drop-cons c.args.names.now c.loop-name.name-index c.name-item.result c.loop-name-test.true ∙ ap (λ x. x ∷ drop (suc c.loop-name.name-index) c.args.names.now) (sym c.name-item.is) in
    rw e (declare_halted (program_view c.args.program.now) (placed_view c.args.invariants.now) c.args.depth c.args.at c.args.names.now c.loop-name.name-index c.name-item.result (left_of c.loop-name.machine) (left_of c.introduce.new.machine) _ d c.loop-name.invariant c.in_err-introduce.field-0.0 c.in_err-introduce.ensures)

pub declarations::declare-loop-name-preserved : goal.declarations::declare-loop-name-preserved
declarations::declare-loop-name-preserved t c =
    let d = drop-cons c.args.names.now c.loop-name.name-index c.name-item.result c.loop-name-test.true ∙ ap (λ x. x ∷ drop (suc c.loop-name.name-index) c.args.names.now) (sym c.name-item.is) in
    let e : c.loop-name.name-index + 1 ≡ suc c.loop-name.name-index = omega arith in
    rw e (declare_on (program_view c.args.program.now) (placed_view c.args.invariants.now) c.args.depth c.args.at c.args.names.now c.loop-name.name-index c.name-item.result (left_of c.loop-name.machine) (left_of c.introduce.new.machine) _ d c.loop-name.invariant c.in_ok-introduce.ensures)

pub declarations::declare-introduce-requires : goal.declarations::declare-introduce-requires
declarations::declare-introduce-requires t c =
    let d = drop-cons c.args.names.now c.loop-name.name-index c.name-item.result c.loop-name-test.true ∙ ap (λ x. x ∷ drop (suc c.loop-name.name-index) c.args.names.now) (sym c.name-item.is) in
    (omega (arith, c.decreases, name_within c.args.names.now c.loop-name.name-index c.name-item.result d), tt)

pub declarations::initial-returns-in-Absent : goal.declarations::initial-returns-in-Absent
declarations::initial-returns-in-Absent t c = rw c.in-Absent.is (c.draw_cells.ensures c.args.depth)

pub declarations::initial-initial_value-requires : goal.declarations::initial-initial_value-requires
declarations::initial-initial_value-requires t c = (omega (arith, c.decreases, ap (λ i. size_of_init (init_view i)) c.in-One.is), tt)

pub declarations::initial-initial_values-requires : goal.declarations::initial-initial_values-requires
declarations::initial-initial_values-requires t c = (omega (arith, c.decreases, ap (λ i. size_of_init (init_view i)) c.in-Many.is, ap (λ es. size_of_exps (exprs_view es)) c.as_slice.ensures), tt)

pub declarations::initial_value-returns : goal.declarations::initial_value-returns
declarations::initial_value-returns t c =
    let z : SFits w128 c.in_ok-value.value = search rules in
    let h = simp to_z-of_z at c.store.ensures Int in
    initial_stored (program_view c.args.program.now) (placed_view c.args.invariants.now) c.args.depth c.args.at c.args.object c.args.index (expr_view c.args.e.now) Int c.type_of_object-ty.result c.in_ok-value.value _ _ _ _
    c.in_ok-value.ensures c.type_of_object-ty.ensures h

pub declarations::initial_values-initial_value-requires : goal.declarations::initial_values-initial_value-requires
declarations::initial_values-initial_value-requires t c =
    let d = drop-cons c.args.es.now c.loop-index.index c.index-es-index.result c.loop-index-test.true ∙ ap (λ x. x ∷ drop (suc c.loop-index.index) c.args.es.now) (sym c.index-es-index.is) in
    (omega (arith, c.decreases, exp_within c.args.es.now c.loop-index.index c.index-es-index.result d), tt)

pub declarations::introduce-returns : goal.declarations::introduce-returns
declarations::introduce-returns t c = rw (c.in_ok-add_started.ensures.cells, c.size_of_object-size.ensures) at c.initial.ensures

pub declarations::begin-only-requires : goal.declarations::begin-only-requires
declarations::begin-only-requires t c = (omega (arith, c.decreases, ap (λ i. size_of_first (first_view i)) c.in-Expr.is), tt)

pub declarations::begin-declare-requires : goal.declarations::begin-declare-requires
declarations::begin-declare-requires t c = (omega (arith, c.decreases, ap (λ i. size_of_first (first_view i)) c.in-Declare.is, ap (λ ns. size_of_names (names_view ns)) c.as_slice.ensures), tt)

pub full_expressions::test_turn-returns-in_err-decide : goal.full_expressions::test_turn-returns-in_err-decide
full_expressions::test_turn-returns-in_err-decide t c =
    let e : c.from_residual.result ≡ Err c.in_err-decide.field-0.0 = search rules in
    rw e (test_halts (program_view c.args.program.now) (placed_view c.args.invariants.now) c.args.depth c.args.at (expr_view c.args.test.now)
    (left_of c.args.machine.now) (left_of c.decide.new.machine) c.in_err-decide.field-0.0 c.in_err-decide.ensures)

pub full_expressions::test_turn-returns-then-branch : goal.full_expressions::test_turn-returns-then-branch
full_expressions::test_turn-returns-then-branch t c =
    let h = rw c.if-branch.true at c.in_ok-decide.ensures in
    test_done (program_view c.args.program.now) (placed_view c.args.invariants.now) c.args.depth c.args.at (expr_view c.args.test.now) true _ _ h

pub full_expressions::test_turn-returns-else-branch : goal.full_expressions::test_turn-returns-else-branch
full_expressions::test_turn-returns-else-branch t c =
    let h = rw c.if-branch.false at c.in_ok-decide.ensures in
    test_done (program_view c.args.program.now) (placed_view c.args.invariants.now) c.args.depth c.args.at (expr_view c.args.test.now) false _ _ h

pub full_expressions::give-full-requires : goal.full_expressions::give-full-requires
full_expressions::give-full-requires t c = (omega (arith, c.decreases, ap (λ o. size_if (expr_view_if o)) c.in-Some.is), tt)

pub full_expressions::for_goes_on-decide-requires : goal.full_expressions::for_goes_on-decide-requires
full_expressions::for_goes_on-decide-requires t c = (omega (arith, c.decreases, ap (λ o. size_if (expr_view_if o)) c.in-Some.is), tt)

pub full_expressions::step_on-only-requires : goal.full_expressions::step_on-only-requires
full_expressions::step_on-only-requires t c = (omega (arith, c.decreases, ap (λ o. size_if (expr_view_if o)) c.in-Some.is), tt)

pub calls::call_number-run_call-requires : goal.calls::call_number-run_call-requires
calls::call_number-run_call-requires t c =
    let f = c.in-Some.function.now in
    let h = function_at c.args.program.now.functions c.args.number f (sym c.in-Some.ensures.item) in
    (omega (arith, c.decreases, level_above (program_view c.args.program.now) c.args.depth, body_within_all (functions_view c.args.program.now.functions) c.args.number (function_view f) h), tt)

pub calls::call_number-returns-in-Some : goal.calls::call_number-returns-in-Some
calls::call_number-returns-in-Some t c =
    let f = c.in-Some.function.now in
    let h = function_at c.args.program.now.functions c.args.number f (sym c.in-Some.ensures.item) in
    let k = number_found (program_view c.args.program.now) (placed_view c.args.invariants.now) c.args.depth (site_of c.args.site) c.args.number (function_view f) (pairs_of c.args.values.now) (left_of c.args.machine.now) h in
    rw k c.run_call.ensures

pub calls::call_number-returns-in-None : goal.calls::call_number-returns-in-None
calls::call_number-returns-in-None t c =
    number_missing (program_view c.args.program.now) (placed_view c.args.invariants.now) c.args.depth (site_of c.args.site) c.args.number (pairs_of c.args.values.now) (left_of c.args.machine.now)
    (no_function_at c.args.program.now.functions c.args.number (sym c.in-None.ensures.item))

pub calls::enter-returns-in_err-set_parameters : goal.calls::enter-returns-in_err-set_parameters
calls::enter-returns-in_err-set_parameters t c =
    let e : c.from_residual.result ≡ Err c.in_err-set_parameters.field-0.0 = search rules in
    let h = rw c.as_slice.ensures at c.in_err-set_parameters.ensures in
    rw e (parameters_halted (program_view c.args.program.now) (placed_view c.args.invariants.now) c.args.depth (function_view c.args.function.now) (pairs_of c.args.values.now)
    (left_of c.args.machine.now) (left_of c.set_parameters.new.machine) c.in_err-set_parameters.field-0.0 h)

pub calls::enter-returns : goal.calls::enter-returns
calls::enter-returns t c =
    let h = rw c.as_slice.ensures at c.in_ok-set_parameters.ensures in
    parameters_passed (program_view c.args.program.now) (placed_view c.args.invariants.now) c.args.depth (function_view c.args.function.now) (pairs_of c.args.values.now)
    (left_of c.args.machine.now) (left_of c.set_parameters.new.machine) _ c.body_within.result h c.body_within.ensures

pub calls::run_call-returns : goal.calls::run_call-returns
calls::run_call-returns t c =
    passed flow_of same c.in_ok-flow.flow _ _ _ _ c.returned.result c.in_ok-flow.ensures (c.returned.ensures (left_of c.scope.new.machine))

pub expressions::eval-index-requires : goal.expressions::eval-index-requires
expressions::eval-index-requires t c =
    let v = ap node_view c.in-Index.is ∙ view_of_index c.in-Index.object c.in-Index.place in
    let e = v ∙ ap (λ es. Index c.in-Index.object (exprs_view es)) (sym c.as_slice.ensures) in
    (omega (arith, c.decreases, ap size_of_node e), tt)

pub expressions::eval-returns-in-Index : goal.expressions::eval-returns-in-Index
expressions::eval-returns-in-Index t c =
    let v = ap node_view c.in-Index.is ∙ view_of_index c.in-Index.object c.in-Index.place in
    let e = v ∙ ap (λ es. Index c.in-Index.object (exprs_view es)) (sym c.as_slice.ensures) in
    as_form (program_view c.args.program.now) (placed_view c.args.invariants.now) c.args.depth _ _ _ _ _ _ _ _ c.index.result e c.index.ensures

pub expressions::target-element_at-requires : goal.expressions::target-element_at-requires
expressions::target-element_at-requires t c =
    let v = ap node_view c.in-Index.is ∙ view_of_index c.in-Index.object c.in-Index.place in
    let e = v ∙ ap (λ es. Index c.in-Index.object (exprs_view es)) (sym c.as_slice.ensures) in
    (omega (arith, c.decreases, ap size_of_node e), tt)

pub expressions::target-returns-in-Index : goal.expressions::target-returns-in-Index
expressions::target-returns-in-Index t c =
    let v = ap node_view c.in-Index.is ∙ view_of_index c.in-Index.object c.in-Index.place in
    let e = v ∙ ap (λ es. Index c.in-Index.object (exprs_view es)) (sym c.as_slice.ensures) in
    as_place (program_view c.args.program.now) (placed_view c.args.invariants.now) c.args.depth _ _ c.args.e.now.ty _ _ _ _ c.element_at.result e c.element_at.ensures

pub statements::form-switch-requires : goal.statements::form-switch-requires
statements::form-switch-requires t c =
    let e = ap form_view c.in-Switch.is ∙ view_of_switch c.in-Switch.test c.in-Switch.arms in
    (omega (arith, c.decreases, ap size_of_form e, ap (λ ss. size_of_stms (switch_view ss)) c.as_slice-in-Switch.ensures), tt)

pub statements::form-returns-in-Switch : goal.statements::form-returns-in-Switch
statements::form-returns-in-Switch t c =
    let e = ap form_view c.in-Switch.is ∙ view_of_switch c.in-Switch.test c.in-Switch.arms in
    rw (e, ← c.as_slice-in-Switch.ensures) c.switch.ensures

pub declarations::initial-initial_rows-requires : goal.declarations::initial-initial_rows-requires
declarations::initial-initial_rows-requires t c = (omega (arith, c.decreases, ap (λ i. size_of_init (init_view i)) c.in-Rows.is, ap (λ rs. size_of_rows (rows_view rs)) c.as_slice-in-Rows.ensures), tt)

pub expressions::evaluate_all-returns-in_err-eval : goal.expressions::evaluate_all-returns-in_err-eval
expressions::evaluate_all-returns-in_err-eval t c =
    let e : c.from_residual.result ≡ Err c.in_err-eval.field-0.0 = search rules in
    let d = drop-cons c.args.es.now c.loop-e.e-index c.e-item.result c.loop-e-test.true ∙ ap (λ x. x ∷ drop (suc c.loop-e.e-index) c.args.es.now) (sym c.e-item.is) in
    rw e (all_halted (program_view c.args.program.now) (placed_view c.args.invariants.now) c.args.depth (where_of c.args.at) c.args.es.now c.loop-e.e-index c.e-item.result d _ _ _ c.loop-e.invariant c.in_err-eval.field-0.0 c.in_err-eval.ensures)

pub expressions::evaluate_all-loop-e-preserved : goal.expressions::evaluate_all-loop-e-preserved
expressions::evaluate_all-loop-e-preserved t c =
    let d = drop-cons c.args.es.now c.loop-e.e-index c.e-item.result c.loop-e-test.true ∙ ap (λ x. x ∷ drop (suc c.loop-e.e-index) c.args.es.now) (sym c.e-item.is) in
    let e : c.loop-e.e-index + 1 ≡ suc c.loop-e.e-index = omega arith in
    rw e (all_on (program_view c.args.program.now) (placed_view c.args.invariants.now) c.args.depth (where_of c.args.at) c.args.es.now c.loop-e.e-index c.e-item.result d _ _ _ c.loop-e.invariant c.in_ok-eval.field-0 c.in_ok-eval.ensures)

pub expressions::evaluate_all-eval-requires : goal.expressions::evaluate_all-eval-requires
expressions::evaluate_all-eval-requires t c =
    let d = drop-cons c.args.es.now c.loop-e.e-index c.e-item.result c.loop-e-test.true ∙ ap (λ x. x ∷ drop (suc c.loop-e.e-index) c.args.es.now) (sym c.e-item.is) in
    (omega (arith, c.decreases, exp_within c.args.es.now c.loop-e.e-index c.e-item.result d), tt)

pub expressions::element_at-eval-requires : goal.expressions::element_at-eval-requires
expressions::element_at-eval-requires t c = (omega (arith, c.decreases, ap size_of_exps (one_item c.args.indexes.now c.index-item.result c.in-len1.len_at_least c.in-len1.len_below c.index-item.is)), tt)

pub expressions::element_at-returns-in_err-j-in-len1 : goal.expressions::element_at-returns-in_err-j-in-len1
expressions::element_at-returns-in_err-j-in-len1 t c =
    let e : c.from_residual.result ≡ Err c.in_err-j-in-len1.field-0.0 = search rules in
    let s = one_item c.args.indexes.now c.index-item.result c.in-len1.len_at_least c.in-len1.len_below c.index-item.is in
    rw (e, s) (one_halts (program_view c.args.program.now) (placed_view c.args.invariants.now) c.args.depth (where_of c.args.at) c.args.at.full c.args.object (expr_view c.index-item.result) _ _ c.in_err-j-in-len1.field-0.0 c.in_err-j-in-len1.ensures)

pub expressions::element_at-returns-in_ok-j-in-len1 : goal.expressions::element_at-returns-in_ok-j-in-len1
expressions::element_at-returns-in_ok-j-in-len1 t c =
    let z : SFits w128 c.in_ok-j-in-len1.j = search rules in
    let s = one_item c.args.indexes.now c.index-item.result c.in-len1.len_at_least c.in-len1.len_below c.index-item.is in
    let k = rw (to_z-of_z w128 c.in_ok-j-in-len1.j z) at (c.element.ensures (left_of c.eval.new.machine)) in
    rw s (one_goes (program_view c.args.program.now) (placed_view c.args.invariants.now) c.args.depth (where_of c.args.at) c.args.at.full c.args.object (expr_view c.index-item.result) _ _ c.in_ok-j-in-len1.j _ c.element.result c.in_ok-j-in-len1.ensures k)

pub expressions::element_at-eval-requires-in-len2 : goal.expressions::element_at-eval-requires-in-len2
expressions::element_at-eval-requires-in-len2 t c = (omega (arith, c.decreases, ap size_of_exps (two_items c.args.indexes.now c.row-item.result c.column-item.result c.in-len2.len_at_least c.in-len2.len_below c.row-item.is c.column-item.is)), tt)

pub expressions::element_at-eval-requires-in-len2-2 : goal.expressions::element_at-eval-requires-in-len2-2
expressions::element_at-eval-requires-in-len2-2 t c = (omega (arith, c.decreases, ap size_of_exps (two_items c.args.indexes.now c.row-item.result c.column-item.result c.in-len2.len_at_least c.in-len2.len_below c.row-item.is c.column-item.is)), tt)

pub expressions::element_at-returns-in_err-i-in-len2 : goal.expressions::element_at-returns-in_err-i-in-len2
expressions::element_at-returns-in_err-i-in-len2 t c =
    let e : c.from_residual-in_err-i-in-len2.result ≡ Err c.in_err-i-in-len2.field-0.0 = search rules in
    let s = two_items c.args.indexes.now c.row-item.result c.column-item.result c.in-len2.len_at_least c.in-len2.len_below c.row-item.is c.column-item.is in
    rw (e, s) (row_halts (program_view c.args.program.now) (placed_view c.args.invariants.now) c.args.depth (where_of c.args.at) c.args.at.full c.args.object (expr_view c.row-item.result) (expr_view c.column-item.result) _ _ c.in_err-i-in-len2.field-0.0 c.in_err-i-in-len2.ensures)

pub expressions::element_at-returns-in_err-j-in-len2 : goal.expressions::element_at-returns-in_err-j-in-len2
expressions::element_at-returns-in_err-j-in-len2 t c =
    let e : c.from_residual-in_err-j-in-len2.result ≡ Err c.in_err-j-in-len2.field-0.0 = search rules in
    let s = two_items c.args.indexes.now c.row-item.result c.column-item.result c.in-len2.len_at_least c.in-len2.len_below c.row-item.is c.column-item.is in
    rw (e, s) (column_halts (program_view c.args.program.now) (placed_view c.args.invariants.now) c.args.depth (where_of c.args.at) c.args.at.full c.args.object (expr_view c.row-item.result) (expr_view c.column-item.result) _ _ c.in_ok-i-in-len2.i _ c.in_err-j-in-len2.field-0.0
    c.in_ok-i-in-len2.ensures c.in_err-j-in-len2.ensures)

pub expressions::element_at-returns-in_ok-j-in-len2 : goal.expressions::element_at-returns-in_ok-j-in-len2
expressions::element_at-returns-in_ok-j-in-len2 t c =
    let y : SFits w128 c.in_ok-i-in-len2.i = search rules in
    let z : SFits w128 c.in_ok-j-in-len2.j = search rules in
    let s = two_items c.args.indexes.now c.row-item.result c.column-item.result c.in-len2.len_at_least c.in-len2.len_below c.row-item.is c.column-item.is in
    let k = rw (to_z-of_z w128 c.in_ok-i-in-len2.i y, to_z-of_z w128 c.in_ok-j-in-len2.j z) at (c.element_in_row.ensures (left_of c.eval-in-len2-2.new.machine)) in
    rw s (two_go (program_view c.args.program.now) (placed_view c.args.invariants.now) c.args.depth (where_of c.args.at) c.args.at.full c.args.object (expr_view c.row-item.result) (expr_view c.column-item.result) _ _ c.in_ok-i-in-len2.i c.in_ok-j-in-len2.j _ _ c.element_in_row.result
    c.in_ok-i-in-len2.ensures c.in_ok-j-in-len2.ensures k)

pub expressions::element_at-returns-in_err-evaluate_all-in_default : goal.expressions::element_at-returns-in_err-evaluate_all-in_default
expressions::element_at-returns-in_err-evaluate_all-in_default t c =
    let e : c.from_residual-in_err-evaluate_all-in_default.result ≡ Err c.in_err-evaluate_all-in_default.field-0.0 = search rules in
    rw e (many_halt (program_view c.args.program.now) (placed_view c.args.invariants.now) c.args.depth (where_of c.args.at) c.args.at.full c.args.object c.args.indexes.now _ _ c.in_default.len_at_least c.in_err-evaluate_all-in_default.field-0.0 c.in_err-evaluate_all-in_default.ensures)

pub expressions::element_at-returns-in_ok-evaluate_all-in_default : goal.expressions::element_at-returns-in_ok-evaluate_all-in_default
expressions::element_at-returns-in_ok-evaluate_all-in_default t c =
    many_go (program_view c.args.program.now) (placed_view c.args.invariants.now) c.args.depth (where_of c.args.at) c.args.at.full c.args.object c.args.indexes.now _ _ c.in_default.len_at_least c.in_ok-evaluate_all-in_default.ensures

pub statements::switch-returns : goal.statements::switch-returns
statements::switch-returns t c =
    let z : SFits w128 c.in_ok-value.value = search rules in
    let y : SFits w128 c.convert.result = search rules in
    let k = rw (to_z-of_z w128 c.convert.result y, c.convert.ensures, to_z-of_z w128 c.in_ok-value.value z, c.promote-ty.ensures, c.type_of.ensures) at c.arm_for-first.ensures in
    switch_goes (program_view c.args.program.now) (placed_view c.args.invariants.now) c.args.depth c.args.wanted c.args.at (expr_view c.args.test.now) (switch_view c.args.arms.now) c.in_ok-value.value c.arm_for-first.result _ _ _ c.arms_from.result c.in_ok-value.ensures k c.arms_from.ensures

pub statements::arms_from-hold_arms-requires : goal.statements::arms_from-hold_arms-requires
statements::arms_from-hold_arms-requires t c =
    (omega (arith, c.decreases, arms_within c.args.arms.now c.args.first, ap (λ xs. size_of_stms (switch_view xs)) (rest_taken c.args.arms.now c.args.first)), tt)

pub statements::arms_from-returns-then-first-arms : goal.statements::arms_from-returns-then-first-arms
statements::arms_from-returns-then-first-arms t c =
    let k = rw (rest_taken c.args.arms.now c.args.first) at c.hold_arms.ensures in
    rw (arms_are (program_view c.args.program.now) (placed_view c.args.invariants.now) c.args.depth c.args.wanted c.args.arms.now c.args.first c.if-first-arms.true (left_of c.args.machine.now)) k

pub statements::arms_from-returns-else-first-arms : goal.statements::arms_from-returns-else-first-arms
statements::arms_from-returns-else-first-arms t c =
    let l : length c.args.arms.now ≤ c.args.first = omega arith in
    no_arm (program_view c.args.program.now) (placed_view c.args.invariants.now) c.args.depth c.args.wanted c.args.arms.now c.args.first l _

pub statements::sequence_arms-sequence-requires : goal.statements::sequence_arms-sequence-requires
statements::sequence_arms-sequence-requires t c =
    let d = drop-cons c.args.arms.now c.loop-arm.arm-index c.arm-item.result c.loop-arm-test.true ∙ ap (λ x. x ∷ drop (suc c.loop-arm.arm-index) c.args.arms.now) (sym c.arm-item.is) in
    (omega (arith, c.decreases, arm_within c.args.arms.now c.loop-arm.arm-index c.arm-item.result d, ap (λ ss. size_of_stms (stmts_view ss)) c.as_slice-body.ensures), tt)

pub statements::sequence_arms-returns-in_err-flow : goal.statements::sequence_arms-returns-in_err-flow
statements::sequence_arms-returns-in_err-flow t c =
    let e : c.from_residual.result ≡ Err c.in_err-flow.field-0.0 = search rules in
    let k = rw c.as_slice-body.ensures at c.in_err-flow.ensures in
    rw e (arms_halted (program_view c.args.program.now) (placed_view c.args.invariants.now) c.args.depth c.args.wanted c.args.arms.now c.loop-arm.arm-index c.arm-item.result c.loop-arm-test.true c.arm-item.is _ _ _ c.loop-arm.invariant c.in_err-flow.field-0.0 k)

pub statements::sequence_arms-returns-in_default : goal.statements::sequence_arms-returns-in_default
statements::sequence_arms-returns-in_default t c =
    let k = rw c.as_slice-body.ensures at c.in_ok-flow.ensures in
    arms_left (program_view c.args.program.now) (placed_view c.args.invariants.now) c.args.depth c.args.wanted c.args.arms.now c.loop-arm.arm-index c.arm-item.result c.loop-arm-test.true c.arm-item.is _ _ _ c.loop-arm.invariant c.in_ok-flow.flow k c.in_default.not-Next

pub statements::sequence_arms-loop-arm-preserved : goal.statements::sequence_arms-loop-arm-preserved
statements::sequence_arms-loop-arm-preserved t c =
    let k = rw (c.as_slice-body.ensures, c.in-Next.is) at c.in_ok-flow.ensures in
    arms_on (program_view c.args.program.now) (placed_view c.args.invariants.now) c.args.depth c.args.wanted c.args.arms.now c.loop-arm.arm-index c.arm-item.result c.loop-arm-test.true c.arm-item.is _ _ _ c.loop-arm.invariant k

pub declarations::initial_values-returns-in_err-initial_value : goal.declarations::initial_values-returns-in_err-initial_value
declarations::initial_values-returns-in_err-initial_value t c =
    let e : c.from_residual.result ≡ Err c.in_err-initial_value.field-0.0 = search rules in
    let d = drop-cons c.args.es.now c.loop-index.index c.index-es-index.result c.loop-index-test.true ∙ ap (λ x. x ∷ drop (suc c.loop-index.index) c.args.es.now) (sym c.index-es-index.is) in
    let k = rw c.in-Some.ensures at c.in_err-initial_value.ensures in
    rw e (values_halted (program_view c.args.program.now) (placed_view c.args.invariants.now) c.args.depth c.args.at c.args.object (c.args.first + c.loop-index.index) c.args.es.now c.loop-index.index c.index-es-index.result d _ _ _ c.loop-index.invariant c.in_err-initial_value.field-0.0 k)

pub declarations::initial_values-loop-index-preserved : goal.declarations::initial_values-loop-index-preserved
declarations::initial_values-loop-index-preserved t c =
    let d = drop-cons c.args.es.now c.loop-index.index c.index-es-index.result c.loop-index-test.true ∙ ap (λ x. x ∷ drop (suc c.loop-index.index) c.args.es.now) (sym c.index-es-index.is) in
    let k = rw c.in-Some.ensures at c.in_ok-initial_value.ensures in
    let i : c.loop-index.index + 1 ≡ suc c.loop-index.index = omega arith in
    let j : c.args.first + suc c.loop-index.index ≡ suc (c.args.first + c.loop-index.index) = omega arith in
    rw (i, j) (values_on (program_view c.args.program.now) (placed_view c.args.invariants.now) c.args.depth c.args.at c.args.object (c.args.first + c.loop-index.index) c.args.es.now c.loop-index.index c.index-es-index.result d _ _ _ c.loop-index.invariant k)

pub declarations::initial_rows-initial_values-requires : goal.declarations::initial_rows-initial_values-requires
declarations::initial_rows-initial_values-requires t c =
    let d = drop-cons c.args.rows.now c.loop-index.index c.index-rows-index.result c.loop-index-test.true ∙ ap (λ x. x ∷ drop (suc c.loop-index.index) c.args.rows.now) (sym c.index-rows-index.is) in
    (omega (arith, c.decreases, row_within c.args.rows.now c.loop-index.index c.index-rows-index.result d, ap (λ es. size_of_exps (exprs_view es)) c.as_slice-values.ensures), tt)

pub declarations::initial_rows-returns-in_err-initial_values : goal.declarations::initial_rows-returns-in_err-initial_values
declarations::initial_rows-returns-in_err-initial_values t c =
    let e : c.from_residual.result ≡ Err c.in_err-initial_values.field-0.0 = search rules in
    let d = drop-cons c.args.rows.now c.loop-index.index c.index-rows-index.result c.loop-index-test.true ∙ ap (λ x. x ∷ drop (suc c.loop-index.index) c.args.rows.now) (sym c.index-rows-index.is) in
    let k = rw (c.columns_of_object-columns.ensures, c.as_slice-values.ensures) at c.in_err-initial_values.ensures in
    rw e (rows_halted (program_view c.args.program.now) (placed_view c.args.invariants.now) c.args.depth c.args.at c.args.object (c.loop-index.index * columns_of_object (program_view c.args.program.now) c.args.object) c.args.rows.now c.loop-index.index c.index-rows-index.result d _ _ _ c.loop-index.invariant c.in_err-initial_values.field-0.0 k)

pub declarations::initial_rows-loop-index-preserved : goal.declarations::initial_rows-loop-index-preserved
declarations::initial_rows-loop-index-preserved t c =
    let d = drop-cons c.args.rows.now c.loop-index.index c.index-rows-index.result c.loop-index-test.true ∙ ap (λ x. x ∷ drop (suc c.loop-index.index) c.args.rows.now) (sym c.index-rows-index.is) in
    let columns = columns_of_object (program_view c.args.program.now) c.args.object in
    let k = rw (c.columns_of_object-columns.ensures, c.as_slice-values.ensures) at c.in_ok-initial_values.ensures in
    let i : c.loop-index.index + 1 ≡ suc c.loop-index.index = omega arith in
    let j : suc c.loop-index.index * columns ≡ c.loop-index.index * columns + columns = omega arith in
    rw (i, j) (rows_on (program_view c.args.program.now) (placed_view c.args.invariants.now) c.args.depth c.args.at c.args.object (c.loop-index.index * columns) c.args.rows.now c.loop-index.index c.index-rows-index.result d _ _ _ c.loop-index.invariant k)
