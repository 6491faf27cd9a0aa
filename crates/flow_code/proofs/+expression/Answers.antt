use mir.Val.{SFits}
use mir.Syntax.{w128}
use Rattle.std.proofs.lemmas.Int.{to_z-of_z}
use Rattle.std.proofs.Common.{◌≡◌, ◌+◌, pos, Bool, ◌∷◌, [], ℕ, not, true, false, drop, length, refl, sym, ap, ap₂, ◌∙◌, arith, rules, subst, IfOk}
use Rattle.std.proofs.lemmas.List.{drop_all}
use Rattle.std.proofs.lemmas.Result.{on_ok_weaker}
use Rattle.c_core.specs.Tree.{Const, Var, Index, Unary, Cast, Step, Binary, Logic, Choose, Comma, Assign, Call}
use Rattle.c_core.specs.Operators.{op_of_step, is_prefix}
use Rattle.c_core.specs.declared.number.IntType.TheVariants.{Int}
use Rattle.c_core.specs.View.{program_view, expr_view, exprs_view, node_view}
use Rattle.c_core.proofs.View.{view_of_index, view_of_call}
use Rattle.c_meaning.specs.Meaning.{Used, Unused}
use Rattle.c_meaning.specs.Objects.{type_of, size_of_object, columns_of_object}
use Rattle.run_state.specs.Interpreting.{use_of}
use Rattle.run_state.specs.declared.machine.CallSite.{CallSite}
use Rattle.c_core.specs.Types.{promote_of}
use Rattle.flow_code.specs.declared.code.Operand.TheVariants.{Number}
use Rattle.flow_code.specs.declared.code.Then.TheVariants.{Push, Drop}
use Rattle.flow_code.specs.declared.code.Action.TheVariants.{Give, Truth, Convert, Look, Aim, Row, OperateOne}
use Rattle.flow_code.specs.Making.{IsReady}
use Rattle.flow_code.specs.Preparing.{only, prepared, paired_at, kept, rest}
use Rattle.flow_code.specs.Sizes.{operand_of}
use Rattle.flow_code.specs.Words.{word_of, native}
use Rattle.flow_code.specs.Expressions.{code, aim_code, element_code, rows_of_object, args_code, left_by, operator, source, both_ready, place_of, stored_at, as_type}
use Rattle.flow_code.proofs.Indexes.{one_ready, two_ready, many_ready}
use Rattle.flow_code.proofs.Weights.{weight_in, argument_part}
use Rattle.flow_code.proofs.Gluing.{glued, behind_it, next_item, walk_on, walk_done}
use Rattle.flow_code.proofs.Readying.{ready_operand, ready_value, pair_operand, pair_value, pair_both, pair_number, taken_is, taken_both_is}
use Rattle.flow_code.proofs.Forms.{as_form, stored_binary, stored_other, not_binary, aimed_element, aimed_scalar, aimed_other, into_is, replaced, logic_is, choice_is, call_is, counted_all, no_steps_left}
use Rattle.flow_code.proofs.+expression.Goals as goal

pub expressions::expression-returns-in-Const : goal.expressions::expression-returns-in-Const
expressions::expression-returns-in-Const t c =
    let z : SFits w128 c.in-Const.value = search rules in
    let e : node_view c.args.e.now.node ≡ Const c.in-Const.value = rw c.in-Const.is refl in
    as_form (program_view c.args.program.now) c.args.around c.args.e.now (length c.args.ops.now) c.args.steps c.in_ok-sum.sum c.args.used c.args.then
    (Const c.in-Const.value) c.args.ops.now c.give.new.ops c.give.result c.in_ok-sum.ensures e
    (rw (to_z-of_z w128 c.in-Const.value z) at c.give.ensures)

pub expressions::expression-returns-in-Var : goal.expressions::expression-returns-in-Var
expressions::expression-returns-in-Var t c =
    let e : node_view c.args.e.now.node ≡ Var c.in-Var.object = rw c.in-Var.is refl in
    as_form (program_view c.args.program.now) c.args.around c.args.e.now (length c.args.ops.now) c.args.steps c.in_ok-sum.sum c.args.used c.args.then
    (Var c.in-Var.object) c.args.ops.now c.give-in-Var.new.ops c.give-in-Var.result c.in_ok-sum.ensures e c.give-in-Var.ensures

pub expressions::expression-element-requires : goal.expressions::expression-element-requires
expressions::expression-element-requires t c =
    let e : node_view c.args.e.now.node ≡ Index c.in-Index.object (exprs_view c.as_slice.result.now) =
    ap node_view c.in-Index.is ∙ view_of_index c.in-Index.object c.in-Index.at ∙ ap (λ es. Index c.in-Index.object (exprs_view es)) (sym c.as_slice.ensures) in
    (omega (arith, c.decreases, ap weight_in e), tt)

pub expressions::expression-returns-in-Index : goal.expressions::expression-returns-in-Index
expressions::expression-returns-in-Index t c =
    let e : node_view c.args.e.now.node ≡ Index c.in-Index.object (exprs_view c.as_slice.result.now) =
    ap node_view c.in-Index.is ∙ view_of_index c.in-Index.object c.in-Index.at ∙ ap (λ es. Index c.in-Index.object (exprs_view es)) (sym c.as_slice.ensures) in
    as_form (program_view c.args.program.now) c.args.around c.args.e.now (length c.args.ops.now) c.args.steps c.in_ok-sum.sum c.args.used c.args.then
    (Index c.in-Index.object (exprs_view c.as_slice.result.now)) c.args.ops.now c.element.new.ops c.element.result c.in_ok-sum.ensures e c.element.ensures

pub expressions::expression-unary-requires : goal.expressions::expression-unary-requires
expressions::expression-unary-requires t c =
    let e : node_view c.args.e.now.node ≡ Unary c.in-Unary.op (expr_view c.deref.result.now) = rw (c.in-Unary.is, c.deref.ensures) refl in
    (omega (arith, c.decreases, ap weight_in e), tt)

pub expressions::expression-returns-in-Unary : goal.expressions::expression-returns-in-Unary
expressions::expression-returns-in-Unary t c =
    let e : node_view c.args.e.now.node ≡ Unary c.in-Unary.op (expr_view c.deref.result.now) = rw (c.in-Unary.is, c.deref.ensures) refl in
    as_form (program_view c.args.program.now) c.args.around c.args.e.now (length c.args.ops.now) c.args.steps c.in_ok-sum.sum c.args.used c.args.then
    (Unary c.in-Unary.op (expr_view c.deref.result.now)) c.args.ops.now c.unary.new.ops c.unary.result c.in_ok-sum.ensures e c.unary.ensures

pub expressions::expression-cast-requires : goal.expressions::expression-cast-requires
expressions::expression-cast-requires t c =
    let e : node_view c.args.e.now.node ≡ Cast (expr_view c.deref-in-Cast.result.now) = rw (c.in-Cast.is, c.deref-in-Cast.ensures) refl in
    (omega (arith, c.decreases, ap weight_in e), tt)

pub expressions::expression-returns-in-Cast : goal.expressions::expression-returns-in-Cast
expressions::expression-returns-in-Cast t c =
    let e : node_view c.args.e.now.node ≡ Cast (expr_view c.deref-in-Cast.result.now) = rw (c.in-Cast.is, c.deref-in-Cast.ensures) refl in
    as_form (program_view c.args.program.now) c.args.around c.args.e.now (length c.args.ops.now) c.args.steps c.in_ok-sum.sum c.args.used c.args.then
    (Cast (expr_view c.deref-in-Cast.result.now)) c.args.ops.now c.cast.new.ops c.cast.result c.in_ok-sum.ensures e c.cast.ensures

pub expressions::expression-step-requires : goal.expressions::expression-step-requires
expressions::expression-step-requires t c =
    let e : node_view c.args.e.now.node ≡ Step c.in-Step.op (expr_view c.deref-in-Step.result.now) = rw (c.in-Step.is, c.deref-in-Step.ensures) refl in
    (omega (arith, c.decreases, ap weight_in e), tt)

pub expressions::expression-returns-in-Step : goal.expressions::expression-returns-in-Step
expressions::expression-returns-in-Step t c =
    let e : node_view c.args.e.now.node ≡ Step c.in-Step.op (expr_view c.deref-in-Step.result.now) = rw (c.in-Step.is, c.deref-in-Step.ensures) refl in
    as_form (program_view c.args.program.now) c.args.around c.args.e.now (length c.args.ops.now) c.args.steps c.in_ok-sum.sum c.args.used c.args.then
    (Step c.in-Step.op (expr_view c.deref-in-Step.result.now)) c.args.ops.now c.step.new.ops c.step.result c.in_ok-sum.ensures e c.step.ensures

pub expressions::expression-binary-requires : goal.expressions::expression-binary-requires
expressions::expression-binary-requires t c =
    let e : node_view c.args.e.now.node ≡ Binary c.in-Binary.op (expr_view c.deref-in-Binary.result.now) (expr_view c.deref-in-Binary-2.result.now) = rw (c.in-Binary.is, c.deref-in-Binary.ensures, c.deref-in-Binary-2.ensures) refl in
    (omega (arith, c.decreases, ap weight_in e), tt)

pub expressions::expression-returns-in-Binary : goal.expressions::expression-returns-in-Binary
expressions::expression-returns-in-Binary t c =
    let e : node_view c.args.e.now.node ≡ Binary c.in-Binary.op (expr_view c.deref-in-Binary.result.now) (expr_view c.deref-in-Binary-2.result.now) = rw (c.in-Binary.is, c.deref-in-Binary.ensures, c.deref-in-Binary-2.ensures) refl in
    as_form (program_view c.args.program.now) c.args.around c.args.e.now (length c.args.ops.now) c.args.steps c.in_ok-sum.sum c.args.used c.args.then
    (Binary c.in-Binary.op (expr_view c.deref-in-Binary.result.now) (expr_view c.deref-in-Binary-2.result.now)) c.args.ops.now c.binary.new.ops c.binary.result c.in_ok-sum.ensures e (on_ok_weaker c.binary.result (λ h. rw c.only.ensures at h) c.binary.ensures)

pub expressions::expression-logic-requires : goal.expressions::expression-logic-requires
expressions::expression-logic-requires t c =
    let e : node_view c.args.e.now.node ≡ Logic c.in-Logic.both (expr_view c.deref-in-Logic.result.now) (expr_view c.deref-in-Logic-2.result.now) = rw (c.in-Logic.is, c.deref-in-Logic.ensures, c.deref-in-Logic-2.ensures) refl in
    (omega (arith, c.decreases, ap weight_in e), tt)

pub expressions::expression-returns-in-Logic : goal.expressions::expression-returns-in-Logic
expressions::expression-returns-in-Logic t c =
    let e : node_view c.args.e.now.node ≡ Logic c.in-Logic.both (expr_view c.deref-in-Logic.result.now) (expr_view c.deref-in-Logic-2.result.now) = rw (c.in-Logic.is, c.deref-in-Logic.ensures, c.deref-in-Logic-2.ensures) refl in
    as_form (program_view c.args.program.now) c.args.around c.args.e.now (length c.args.ops.now) c.args.steps c.in_ok-sum.sum c.args.used c.args.then
    (Logic c.in-Logic.both (expr_view c.deref-in-Logic.result.now) (expr_view c.deref-in-Logic-2.result.now)) c.args.ops.now c.logic.new.ops c.logic.result c.in_ok-sum.ensures e c.logic.ensures

pub expressions::expression-choose-requires : goal.expressions::expression-choose-requires
expressions::expression-choose-requires t c =
    let e : node_view c.args.e.now.node ≡ Choose c.in-Choose.mark (expr_view c.deref-in-Choose.result.now) (expr_view c.deref-in-Choose-2.result.now) (expr_view c.deref-in-Choose-3.result.now) = rw (c.in-Choose.is, c.deref-in-Choose.ensures, c.deref-in-Choose-2.ensures, c.deref-in-Choose-3.ensures) refl in
    (omega (arith, c.decreases, ap weight_in e), tt)

pub expressions::expression-returns-in-Choose : goal.expressions::expression-returns-in-Choose
expressions::expression-returns-in-Choose t c =
    let e : node_view c.args.e.now.node ≡ Choose c.in-Choose.mark (expr_view c.deref-in-Choose.result.now) (expr_view c.deref-in-Choose-2.result.now) (expr_view c.deref-in-Choose-3.result.now) = rw (c.in-Choose.is, c.deref-in-Choose.ensures, c.deref-in-Choose-2.ensures, c.deref-in-Choose-3.ensures) refl in
    as_form (program_view c.args.program.now) c.args.around c.args.e.now (length c.args.ops.now) c.args.steps c.in_ok-sum.sum c.args.used c.args.then
    (Choose c.in-Choose.mark (expr_view c.deref-in-Choose.result.now) (expr_view c.deref-in-Choose-2.result.now) (expr_view c.deref-in-Choose-3.result.now)) c.args.ops.now c.choose.new.ops c.choose.result c.in_ok-sum.ensures e c.choose.ensures

pub expressions::expression-comma-requires : goal.expressions::expression-comma-requires
expressions::expression-comma-requires t c =
    let e : node_view c.args.e.now.node ≡ Comma (expr_view c.deref-in-Comma.result.now) (expr_view c.deref-in-Comma-2.result.now) = rw (c.in-Comma.is, c.deref-in-Comma.ensures, c.deref-in-Comma-2.ensures) refl in
    (omega (arith, c.decreases, ap weight_in e), tt)

pub expressions::expression-returns-in-Comma : goal.expressions::expression-returns-in-Comma
expressions::expression-returns-in-Comma t c =
    let e : node_view c.args.e.now.node ≡ Comma (expr_view c.deref-in-Comma.result.now) (expr_view c.deref-in-Comma-2.result.now) = rw (c.in-Comma.is, c.deref-in-Comma.ensures, c.deref-in-Comma-2.ensures) refl in
    as_form (program_view c.args.program.now) c.args.around c.args.e.now (length c.args.ops.now) c.args.steps c.in_ok-sum.sum c.args.used c.args.then
    (Comma (expr_view c.deref-in-Comma.result.now) (expr_view c.deref-in-Comma-2.result.now)) c.args.ops.now c.comma.new.ops c.comma.result c.in_ok-sum.ensures e c.comma.ensures

pub expressions::expression-assign-requires : goal.expressions::expression-assign-requires
expressions::expression-assign-requires t c =
    let e : node_view c.args.e.now.node ≡ Assign c.in-Assign.op (expr_view c.deref-in-Assign.result.now) (expr_view c.deref-in-Assign-2.result.now) = rw (c.in-Assign.is, c.deref-in-Assign.ensures, c.deref-in-Assign-2.ensures) refl in
    (omega (arith, c.decreases, ap weight_in e), tt)

pub expressions::expression-returns-in-Assign : goal.expressions::expression-returns-in-Assign
expressions::expression-returns-in-Assign t c =
    let e : node_view c.args.e.now.node ≡ Assign c.in-Assign.op (expr_view c.deref-in-Assign.result.now) (expr_view c.deref-in-Assign-2.result.now) = rw (c.in-Assign.is, c.deref-in-Assign.ensures, c.deref-in-Assign-2.ensures) refl in
    as_form (program_view c.args.program.now) c.args.around c.args.e.now (length c.args.ops.now) c.args.steps c.in_ok-sum.sum c.args.used c.args.then
    (Assign c.in-Assign.op (expr_view c.deref-in-Assign.result.now) (expr_view c.deref-in-Assign-2.result.now)) c.args.ops.now c.assign.new.ops c.assign.result c.in_ok-sum.ensures e c.assign.ensures

pub expressions::expression-call-requires : goal.expressions::expression-call-requires
expressions::expression-call-requires t c =
    let e : node_view c.args.e.now.node ≡ Call c.in-Call.callee (exprs_view c.as_slice-in-Call.result.now) c.in-Call.close =
    ap node_view c.in-Call.is ∙ view_of_call c.in-Call.callee c.in-Call.args c.in-Call.close ∙ ap (λ es. Call c.in-Call.callee (exprs_view es) c.in-Call.close) (sym c.as_slice-in-Call.ensures) in
    (omega (arith, c.decreases, ap weight_in e), tt)

pub expressions::expression-returns-in-Call : goal.expressions::expression-returns-in-Call
expressions::expression-returns-in-Call t c =
    let e : node_view c.args.e.now.node ≡ Call c.in-Call.callee (exprs_view c.as_slice-in-Call.result.now) c.in-Call.close =
    ap node_view c.in-Call.is ∙ view_of_call c.in-Call.callee c.in-Call.args c.in-Call.close ∙ ap (λ es. Call c.in-Call.callee (exprs_view es) c.in-Call.close) (sym c.as_slice-in-Call.ensures) in
    as_form (program_view c.args.program.now) c.args.around c.args.e.now (length c.args.ops.now) c.args.steps c.in_ok-sum.sum c.args.used c.args.then
    (Call c.in-Call.callee (exprs_view c.as_slice-in-Call.result.now) c.in-Call.close) c.args.ops.now c.call.new.ops c.call.result c.in_ok-sum.ensures e c.call.ensures

pub operands::prepare-returns-in_ok-steps-in-Some : goal.operands::prepare-returns-in_ok-steps-in-Some
operands::prepare-returns-in_ok-steps-in-Some t c =
    ready_operand c.args.ops.now c.in-Some.operand c.in_ok-steps-in-Some.steps c.args.steps (operand_of (expr_view c.args.e.now)) (code (program_view c.args.program.now) c.args.around (length c.args.ops.now) c.args.steps Used (expr_view c.args.e.now) Push) c.in-Some.ensures c.in_ok-steps-in-Some.ensures

pub operands::prepare-returns-in_ok-expression-in-None : goal.operands::prepare-returns-in_ok-expression-in-None
operands::prepare-returns-in_ok-expression-in-None t c =
    ready_value c.args.ops.now c.expression.new.ops c.args.steps (operand_of (expr_view c.args.e.now)) (code (program_view c.args.program.now) c.args.around (length c.args.ops.now) c.args.steps Used (expr_view c.args.e.now) Push) c.in-None.ensures c.in_ok-expression-in-None.ensures

pub operands::prepare_second-returns-in_ok-steps-in-Some : goal.operands::prepare_second-returns-in_ok-steps-in-Some
operands::prepare_second-returns-in_ok-steps-in-Some t c =
    pair_operand c.args.ops.now c.args.left c.in-Some.right c.in_ok-steps-in-Some.steps c.args.steps (operand_of (expr_view c.args.e.now))
    (code (program_view c.args.program.now) c.args.around (length c.args.ops.now + length (kept c.args.left c.args.steps)) (rest c.args.left c.args.steps) Used (expr_view c.args.e.now) Push) c.in-Some.ensures c.in_ok-steps-in-Some.ensures

pub operands::prepare_second-returns-in_ok-expression-in-None : goal.operands::prepare_second-returns-in_ok-expression-in-None
operands::prepare_second-returns-in_ok-expression-in-None t c =
    pair_value c.args.ops.now c.keep_left.new.ops c.expression.new.ops c.args.left c.in_ok-more_steps-in-None.more_steps c.args.steps (operand_of (expr_view c.args.e.now))
    (λ i k. code (program_view c.args.program.now) c.args.around i k Used (expr_view c.args.e.now) Push) c.in-None.ensures c.in_ok-more_steps-in-None.ensures.put c.in_ok-more_steps-in-None.ensures.due c.in_ok-expression-in-None.ensures

pub operands::prepare_both-returns : goal.operands::prepare_both-returns
operands::prepare_both-returns t c =
    pair_both c.args.ops.now c.prepare.new.ops c.prepare_second.new.ops c.in_ok-first.first (prepared (operand_of (expr_view c.args.a.now)) c.args.steps (code (program_view c.args.program.now) c.args.around (length c.args.ops.now) c.args.steps Used (expr_view c.args.a.now) Push)) c.in_ok-pair.pair (operand_of (expr_view c.args.b.now))
    (λ i k. code (program_view c.args.program.now) c.args.around i k Used (expr_view c.args.b.now) Push) c.in_ok-first.ensures c.in_ok-pair.ensures

pub expressions::binary-returns : goal.expressions::binary-returns
expressions::binary-returns t c =
    let p = program_view c.args.program.now in
    let at = source c.args.around c.args.spot in
    taken_both_is c.args.ops.now c.prepare_both.new.ops c.operate.new.ops c.in_ok-pair.pair (both_ready p c.args.around (length c.args.ops.now) c.args.steps (expr_view c.args.left.now) (expr_view c.args.right.now)) _
    (operator p at c.args.op (type_of (expr_view c.args.left.now)) (type_of (expr_view c.args.right.now)) c.args.into) c.in_ok-pair.ensures c.in_ok-operate.ensures
    (ap₂ (λ a b. operator p at c.args.op a b c.args.into c.in_ok-pair.pair.left c.in_ok-pair.pair.right) c.type_of-a.ensures c.type_of-b.ensures)

pub expressions::element-returns : goal.expressions::element-returns
expressions::element-returns t c =
    let p = program_view c.args.program.now in
    taken_is c.args.ops.now c.element_cell.new.ops c.emit.new.ops c.in_ok-found.found (element_code p c.args.around (length c.args.ops.now) c.args.steps c.args.spot c.args.object (exprs_view c.args.indexes.now)) _
    (λ y. Look c.args.object (size_of_object p c.args.object) y c.args.spot (only c.args.then)) c.in_ok-found.ensures c.in_ok-emit.ensures cc

pub elements::element_cell-returns-in-len1 : goal.elements::element_cell-returns-in-len1
elements::element_cell-returns-in-len1 t c =
    let e = one_ready (program_view c.args.program.now) c.args.around (length c.args.ops.now) c.args.steps c.args.spot c.args.object c.args.indexes.now c.index-item.result c.in-len1.len_at_least c.in-len1.len_below c.index-item.is in
    subst (λ r. IfOk c.prepare.result (λ q. IsReady q c.args.ops.now c.prepare.new.ops r)) (sym e) c.prepare.ensures

pub elements::element_cell-returns-in-len2 : goal.elements::element_cell-returns-in-len2
elements::element_cell-returns-in-len2 t c =
    let e = two_ready (program_view c.args.program.now) c.args.around (length c.args.ops.now) c.args.steps c.args.spot c.args.object c.args.indexes.now c.row-item.result c.column-item.result c.in-len2.len_at_least c.in-len2.len_below c.row-item.is c.column-item.is in
    subst (λ r. IfOk c.in_row.result (λ q. IsReady q c.args.ops.now c.in_row.new.ops r)) (sym e) c.in_row.ensures

pub elements::element_cell-returns-in_ok-left-in_default : goal.elements::element_cell-returns-in_ok-left-in_default
elements::element_cell-returns-in_ok-left-in_default t c =
    many_ready (program_view c.args.program.now) c.args.around (length c.args.ops.now) c.args.steps c.args.spot c.args.object c.args.indexes.now c.args.ops.now c.arguments.new.ops c.in_ok-left-in_default.left
    c.in_default.len_at_least c.in_ok-left-in_default.ensures.code c.in_ok-left-in_default.ensures.due

pub elements::in_row-returns : goal.elements::in_row-returns
elements::in_row-returns t c =
    let p = program_view c.args.program.now in
    let o = c.args.object in
    let pair = c.in_ok-pair.pair in
    record {
      ops = taken_both_is c.args.ops.now c.prepare_both.new.ops c.emit.new.ops pair (both_ready p c.args.around (length c.args.ops.now) c.args.steps (expr_view c.args.row.now) (expr_view c.args.column.now)) _
          (λ y z. Row (rows_of_object p o) (columns_of_object p o) y z c.args.spot) c.in_ok-pair.ensures c.in_ok-emit.ensures
          (ap₂ (λ n m. Row n m pair.left pair.right c.args.spot) c.rows_of_object-rows.ensures c.columns_of_object-columns.ensures);
      operand = refl;
      steps = refl;
    }

pub expressions::unary-returns : goal.expressions::unary-returns
expressions::unary-returns t c =
    let p = program_view c.args.program.now in
    taken_is c.args.ops.now c.prepare.new.ops c.emit.new.ops c.in_ok-value.value (prepared (operand_of (expr_view c.args.of.now)) c.args.steps (code p c.args.around (length c.args.ops.now) c.args.steps Used (expr_view c.args.of.now) Push)) _
    (λ y. OperateOne c.args.op (word_of p.model (promote_of (type_of (expr_view c.args.of.now)))) y (source c.args.around c.args.spot) (only c.args.then)) c.in_ok-value.ensures c.in_ok-emit.ensures cc

pub expressions::cast_to-returns : goal.expressions::cast_to-returns
expressions::cast_to-returns t c =
    let p = program_view c.args.program.now in
    taken_is c.args.ops.now c.prepare.new.ops c.emit.new.ops c.in_ok-value.value (prepared (operand_of (expr_view c.args.of.now)) c.args.steps (code p c.args.around (length c.args.ops.now) c.args.steps Used (expr_view c.args.of.now) Push)) _
    (λ y. Convert (native p.model c.args.to) y (only c.args.then)) c.in_ok-value.ensures c.in_ok-emit.ensures cc

pub expressions::cast-returns-in-None : goal.expressions::cast-returns-in-None
expressions::cast-returns-in-None t c =
    rw c.in-None.is c.expression.ensures

pub expressions::cast-returns-in-Some : goal.expressions::cast-returns-in-Some
expressions::cast-returns-in-Some t c =
    rw c.in-Some.is c.cast_to.ensures

pub expressions::comma-returns : goal.expressions::comma-returns
expressions::comma-returns t c =
    let p = program_view c.args.program.now in
    on_ok_weaker c.expression-2.result (λ h. glued c.args.ops.now (code p c.args.around (length c.args.ops.now) c.args.steps Unused (expr_view c.args.first.now) Drop) c.expression.new.ops c.expression-2.new.ops
    (λ j. code p c.args.around j 0 Used (expr_view c.args.last.now) c.args.then) c.in_ok-expression.ensures h) c.expression-2.ensures

pub choices::truth-returns : goal.choices::truth-returns
choices::truth-returns t c =
    let p = program_view c.args.program.now in
    taken_is c.args.ops.now c.prepare.new.ops c.emit.new.ops c.in_ok-value.value (prepared (operand_of (expr_view c.args.e.now)) 0 (code p c.args.around (length c.args.ops.now) 0 Used (expr_view c.args.e.now) Push)) _
    (λ y. Truth y (only c.args.then)) c.in_ok-value.ensures c.in_ok-emit.ensures cc

pub choices::logic-returns : goal.choices::logic-returns
choices::logic-returns t c =
    let p = program_view c.args.program.now in
    let whole = c.in_ok-whole.ensures ∙ ap₂ ◌+◌ c.in_ok-first.ensures (c.in_ok-rest.ensures ∙ ap (λ n. n + 1) c.in_ok-second.ensures) in
    logic_is p c.args.around c.args.both (expr_view c.args.left.now) (expr_view c.args.right.now) c.args.steps c.in_ok-decided.decided c.in_ok-end.end c.constant.result c.args.then
    c.args.ops.now c.expression.new.ops c.truth.new.ops c.emit.new.ops c.give.new.ops (c.in_ok-decided.ensures ∙ ap (λ n. length c.args.ops.now + n) whole) c.in_ok-end.ensures c.constant.ensures
    c.in_ok-expression.ensures c.in_ok-truth.ensures c.in_ok-emit.ensures c.in_ok-give.ensures

pub choices::arm-returns : goal.choices::arm-returns
choices::arm-returns t c =
    let p = program_view c.args.program.now in
    behind_it c.args.ops.now (code p c.args.around (length c.args.ops.now) 0 Used (expr_view c.args.e.now) Push) c.expression.new.ops c.convert_top.new.ops (as_type p.model c.args.ty (only c.args.then) ∷ []) c.in_ok-expression.ensures c.in_ok-convert_top.ensures

pub choices::choose-returns : goal.choices::choose-returns
choices::choose-returns t c =
    let p = program_view c.args.program.now in
    let first = c.in_ok-first.ensures ∙ ap (λ n. n + 2) (c.in_ok-both.ensures ∙ ap₂ ◌+◌ c.in_ok-tested.ensures c.in_ok-taken.ensures) in
    choice_is p c.args.around c.args.mark c.args.ty (expr_view c.args.test.now) (expr_view c.args.yes.now) (expr_view c.args.no.now) c.args.steps c.in_ok-second.second c.in_ok-end.end c.args.then
    c.args.ops.now c.expression.new.ops c.arm.new.ops c.emit.new.ops c.arm-2.new.ops (c.in_ok-second.ensures ∙ ap (λ n. length c.args.ops.now + n) first)
    (c.in_ok-end.ensures ∙ ap (λ n. c.in_ok-second.second + n) (c.in_ok-rest.ensures ∙ ap (λ n. n + 1) c.in_ok-other.ensures))
    c.in_ok-expression.ensures c.in_ok-arm.ensures c.in_ok-emit.ensures c.in_ok-arm-2.ensures

pub targets::stored-binary-requires : goal.targets::stored-binary-requires
targets::stored-binary-requires t c =
    let e : node_view c.args.e.now.node ≡ Binary c.in-Binary.op (expr_view c.deref.result.now) (expr_view c.deref-in-Binary.result.now) = rw (c.in-Binary.is, c.deref.ensures, c.deref-in-Binary.ensures) refl in
    (omega (arith, c.decreases, ap weight_in e), tt)

pub targets::stored-returns-in_ok-sum-in-Binary : goal.targets::stored-returns-in_ok-sum-in-Binary
targets::stored-returns-in_ok-sum-in-Binary t c =
    let e : node_view c.args.e.now.node ≡ Binary c.in-Binary.op (expr_view c.deref.result.now) (expr_view c.deref-in-Binary.result.now) = rw (c.in-Binary.is, c.deref.ensures, c.deref-in-Binary.ensures) refl in
    stored_binary (program_view c.args.program.now) c.args.around c.args.e.now (length c.args.ops.now) c.args.steps c.in_ok-sum-in-Binary.sum c.in-Binary.op (expr_view c.deref.result.now) (expr_view c.deref-in-Binary.result.now) c.args.into
    c.args.ops.now c.binary.new.ops c.binary.result c.in_ok-sum-in-Binary.ensures e c.binary.ensures

pub targets::stored-returns-in_ok-emit-in_default : goal.targets::stored-returns-in_ok-emit-in_default
targets::stored-returns-in_ok-emit-in_default t c =
    let p = program_view c.args.program.now in
    stored_other p c.args.around c.args.e.now (length c.args.ops.now) c.args.steps c.args.into c.args.ops.now c.emit.new.ops (not_binary c.args.e.now.node c.in_default.not-Binary)
    (taken_is c.args.ops.now c.prepare.new.ops c.emit.new.ops c.in_ok-value-in_default.value (prepared (operand_of (expr_view c.args.e.now)) c.args.steps (code (program_view c.args.program.now) c.args.around (length c.args.ops.now) c.args.steps Used (expr_view c.args.e.now) Push)) _
    (λ z. Give z c.args.into) c.in_ok-value-in_default.ensures c.in_ok-emit-in_default.ensures refl)

pub targets::aim-element_cell-requires : goal.targets::aim-element_cell-requires
targets::aim-element_cell-requires t c =
    let e : node_view c.args.target.now.node ≡ Index c.in-Index.object (exprs_view c.as_slice-indexes.result.now) =
    ap node_view c.in-Index.is ∙ view_of_index c.in-Index.object c.in-Index.at ∙ ap (λ es. Index c.in-Index.object (exprs_view es)) (sym c.as_slice-indexes.ensures) in
    (omega (arith, c.decreases, ap weight_in e), tt)

pub targets::aim-returns-in_ok-emit-in-Index : goal.targets::aim-returns-in_ok-emit-in-Index
targets::aim-returns-in_ok-emit-in-Index t c =
    let e : node_view c.args.target.now.node ≡ Index c.in-Index.object (exprs_view c.as_slice-indexes.result.now) =
    ap node_view c.in-Index.is ∙ view_of_index c.in-Index.object c.in-Index.at ∙ ap (λ es. Index c.in-Index.object (exprs_view es)) (sym c.as_slice-indexes.ensures) in
    let p = program_view c.args.program.now in
    let k = c.in_ok-sum.sum in
    aimed_element p c.args.around c.args.target.now c.args.steps k c.in-Index.object (exprs_view c.as_slice-indexes.result.now) c.args.reads c.args.ops.now c.emit.new.ops c.in_ok-sum.ensures e
    (taken_is c.args.ops.now c.element_cell.new.ops c.emit.new.ops c.in_ok-found-in-Index.found (element_code p c.args.around (length c.args.ops.now) k c.args.target.now.spot c.in-Index.object (exprs_view c.as_slice-indexes.result.now)) _
    (λ y. Aim c.in-Index.object (size_of_object p c.in-Index.object) y c.args.target.now.spot c.args.reads) c.in_ok-found-in-Index.ensures c.in_ok-emit-in-Index.ensures cc)

pub targets::aim-returns-in-Var : goal.targets::aim-returns-in-Var
targets::aim-returns-in-Var t c =
    aimed_scalar (program_view c.args.program.now) c.args.around c.args.target.now c.args.steps c.in_ok-sum.sum c.in-Var.object c.args.reads c.args.ops.now c.in_ok-sum.ensures (rw c.in-Var.is refl)

pub targets::aim-returns-in_default : goal.targets::aim-returns-in_default
targets::aim-returns-in_default t c =
    aimed_other (program_view c.args.program.now) c.args.around c.args.target.now c.args.steps c.in_ok-sum.sum c.args.reads c.args.ops.now c.in_ok-sum.ensures c.in_default.not-Index c.in_default.not-Var

pub targets::assign-returns-in-None : goal.targets::assign-returns-in-None
targets::assign-returns-in-None t c =
    rw c.in-None.is c.replace.ensures

pub targets::assign-returns-in-Some : goal.targets::assign-returns-in-Some
targets::assign-returns-in-Some t c =
    rw c.in-Some.is c.update.ensures

pub targets::replace-returns : goal.targets::replace-returns
targets::replace-returns t c =
    let p = program_view c.args.program.now in
    let into = into_is c.into_place-into.result p.model c.place_in-place.result (place_of (node_view c.args.target.now.node)) c.type_of-ty.result (type_of (expr_view c.args.target.now)) false c.args.then c.into_place-into.ensures c.place_in-place.ensures c.type_of-ty.ensures in
    replaced p c.args.around c.args.steps (expr_view c.args.target.now) (expr_view c.args.from.now) c.in_ok-found.found c.into_place-into.result c.args.then c.args.ops.now c.aim.new.ops c.stored.new.ops
    c.in_ok-found.ensures into c.in_ok-stored.ensures

pub targets::update-returns : goal.targets::update-returns
targets::update-returns t c =
    let p = program_view c.args.program.now in
    let at = source c.args.around c.args.spot in
    let a = type_of (expr_view c.args.target.now) in
    let b = type_of (expr_view c.args.from.now) in
    let x = stored_at p.model (expr_view c.args.target.now) false c.args.then in
    let into = into_is c.into_place-into.result p.model c.place_in-place.result (place_of (node_view c.args.target.now.node)) c.type_of-a.result (type_of (expr_view c.args.target.now)) false c.args.then c.into_place-into.ensures c.place_in-place.ensures c.type_of-a.ensures in
    let j = aim_code p c.args.around (length c.args.ops.now) c.args.steps (expr_view c.args.target.now) true in
    let value = λ (i k : ℕ). code p c.args.around i k Used (expr_view c.args.from.now) Push in
    let ready = pair_both c.args.ops.now c.aim.new.ops c.prepare_second.new.ops c.in_ok-old.old j c.in_ok-pair.pair (operand_of (expr_view c.args.from.now)) value c.in_ok-old.ensures c.in_ok-pair.ensures in
    taken_both_is c.args.ops.now c.prepare_second.new.ops c.operate.new.ops c.in_ok-pair.pair (paired_at (length c.args.ops.now) j (operand_of (expr_view c.args.from.now)) value)
    (operator p at c.args.op c.type_of-a.result c.type_of-b.result c.into_place-into.result c.in_ok-pair.pair.left c.in_ok-pair.pair.right) (operator p at c.args.op a b x) ready c.in_ok-operate.ensures
    (ap₂ (λ u v. operator p at c.args.op u v c.into_place-into.result c.in_ok-pair.pair.left c.in_ok-pair.pair.right) c.type_of-a.ensures c.type_of-b.ensures
    ∙ ap (λ z. operator p at c.args.op a b z c.in_ok-pair.pair.left c.in_ok-pair.pair.right) into)

pub targets::step-returns : goal.targets::step-returns
targets::step-returns t c =
    let p = program_view c.args.program.now in
    let at = source c.args.around c.args.spot in
    let a = type_of (expr_view c.args.target.now) in
    let keeps = not (is_prefix c.args.op) in
    let x = stored_at p.model (expr_view c.args.target.now) keeps c.args.then in
    let into = into_is c.into_place-into.result p.model c.place_in-place.result (place_of (node_view c.args.target.now.node)) c.type_of-a.result (type_of (expr_view c.args.target.now)) c.keeps_old-keeps.result c.args.then c.into_place-into.ensures c.place_in-place.ensures c.type_of-a.ensures ∙ ap (λ b. stored_at p.model (expr_view c.args.target.now) b c.args.then) c.keeps_old-keeps.ensures in
    let j = aim_code p c.args.around (length c.args.ops.now) c.args.steps (expr_view c.args.target.now) true in
    let one = Number (pos 1) in
    let ready = pair_number c.args.ops.now c.aim.new.ops c.in_ok-old.old j one c.in_ok-old.ensures in
    taken_both_is c.args.ops.now c.aim.new.ops c.operate.new.ops (record { left = c.in_ok-old.old.operand; right = one; steps = c.in_ok-old.old.steps }) (record { ops = j.ops; left = j.operand; right = one; steps = j.steps })
    (operator p at c.op_of_step-by.result c.type_of-a.result Int c.into_place-into.result c.in_ok-old.old.operand one) (operator p at (op_of_step c.args.op) a Int x) ready c.in_ok-operate.ensures
    (ap₂ (λ o u. operator p at o u Int c.into_place-into.result c.in_ok-old.old.operand one) c.op_of_step-by.ensures c.type_of-a.ensures
    ∙ ap (λ z. operator p at (op_of_step c.args.op) a Int z c.in_ok-old.old.operand one) into)

pub calls::arguments-expression-requires : goal.calls::arguments-expression-requires
calls::arguments-expression-requires t c =
    (omega (arith, c.decreases, argument_part c.args.args.now c.loop-e.e-index c.e-item.result c.loop-e-test.true c.e-item.is), tt)

pub calls::arguments-loop-e-preserved : goal.calls::arguments-loop-e-preserved
calls::arguments-loop-e-preserved t c =
    let p = program_view c.args.program.now in
    let es = c.args.args.now in
    let i = c.loop-e.e-index in
    let x = c.e-item.result in
    let d = next_item es i x c.loop-e-test.true c.e-item.is in
    record {
      code = walk_on es i x c.loop-e.ops c.expression.new.ops _ (λ j xs. args_code p c.args.around j c.loop-e.left c.args.then (exprs_view xs)) (λ j xs. args_code p c.args.around j 0 c.args.then (exprs_view xs))
          (λ j. code p c.args.around j c.loop-e.left Used (expr_view x) c.args.then) d (λ j. refl) c.loop-e.invariant.code c.in_ok-expression.ensures;
      due = no_steps_left (exprs_view (drop (i + 1) es)) ∙ sym (ap (λ xs. left_by (exprs_view xs) c.loop-e.left) d) ∙ c.loop-e.invariant.due;
    }

pub calls::arguments-returns-clause-code : goal.calls::arguments-returns-clause-code
calls::arguments-returns-clause-code t c =
    let p = program_view c.args.program.now in
    walk_done c.args.args.now c.loop-e.e-index c.loop-e.ops _ (λ j xs. args_code p c.args.around j c.loop-e.left c.args.then (exprs_view xs)) (drop_all c.loop-e.e-index c.args.args.now c.loop-e-test.false) refl c.loop-e.invariant.code

pub calls::arguments-returns-clause-due : goal.calls::arguments-returns-clause-due
calls::arguments-returns-clause-due t c =
    ap (λ xs. left_by (exprs_view xs) c.loop-e.left) (sym (drop_all c.loop-e.e-index c.args.args.now c.loop-e-test.false)) ∙ c.loop-e.invariant.due

pub calls::call-returns : goal.calls::call-returns
calls::call-returns t c =
    let p = program_view c.args.program.now in
    let site : Bool → CallSite = λ b. record { spot = c.args.spot; close = c.args.close; needed = b } in
    call_is p c.args.around c.args.spot c.args.close (use_of c.args.used) c.args.ty c.args.callee (exprs_view c.args.args.now) c.args.steps c.in_ok-left.left (length c.args.args.now) (site c.is_needed-needed.result) c.argument_goes-goes.result c.args.then
    c.args.ops.now c.arguments.new.ops c.emit.new.ops c.called.new.ops (ap site c.is_needed-needed.ensures) (sym (counted_all c.args.args.now)) c.argument_goes-goes.ensures c.in_ok-left.ensures.code c.in_ok-left.ensures.due c.in_ok-emit.ensures c.in_ok-called.ensures
