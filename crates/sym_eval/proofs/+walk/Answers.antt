use mir.Val.{SFits, to_z, of_z}
use mir.Syntax.{w128}
use Rattle.std.proofs.lemmas.Int.{to_z-of_z}
use Rattle.std.proofs.Common.{rules, cond, suc, slice_get, ◌≡◌, ◌≤◌, ◌∙◌, refl, sym, ap, ap₂, subst, arith, None, Some, length, vec_len, IfOk, IsTrue, ◌+◌, ◌*◌, take, ◌<◌, ◌^◌, ◌-◌, false, get_or, map, not}
use Rattle.c_core.specs.Operators.{type_for, op_of_step, is_prefix}
use Rattle.c_core.specs.Tree.{Expr, Const, Var, Index, Unary, Cast, Step, Binary, Logic, Choose, Comma, Assign, Call, MoreExp, NoExp, Many, Rows, FirstNames, Return, Declare, Block, If, Label, OrElse, While, DoWhile, For, Switch}
use Rattle.c_core.specs.View.{expr_view, exprs_view, node_view, init_view, names_view, rows_view, first_view, expr_view_if, form_view, stmt_view, stmts_view, function_view, switch_view}
use Rattle.c_core.specs.declared.number.IntType.TheVariants.{Int}
use Rattle.c_core.specs.declared.tree.Callee.TheVariants.{Defined, Input, ReachError, Abort, Exit}
use Rattle.c_core.proofs.View.{view_of_index, view_of_call, view_of_block, view_of_switch}
use Rattle.c_core.specs.Types.{is_zero}
use Rattle.c_meaning.specs.declared.run.Event.TheVariants.{Branch}
use Rattle.c_meaning.specs.declared.run.Way.TheVariants.{Truth}
use Rattle.c_meaning.specs.Run.{is_case, way_for}
use Rattle.c_meaning.specs.Meaning.{Used, Unused, WhileLoop, DoLoop, ForLoop}
use Rattle.c_meaning.specs.Objects.{type_of}
use Rattle.sym_state.proofs.Nets.{unchanged, added_of, in_added, longer_by, state_grown, typed_added, are_typed_added}
use Rattle.sym_exprs.specs.Evaluating.{use_of, weight_of, Ready, Values}
use Rattle.sym_exprs.specs.Targeting.{weight_of_target, TargetReady}
use Rattle.sym_exprs.proofs.Typed.{unary_parts, cast_parts, binary_parts, comma_parts, logic_parts, choose_parts, assign_parts, step_parts, exit_counts}
use Rattle.sym_exprs.proofs.Forms.{first_ready, next_ready, wanted, unary_side, unary_step, binary_sides, binary_step, void_values, cast_side, cast_step, comma_values}
use Rattle.sym_exprs.proofs.Choosing.{kept_in, where_ready, where_values, logic_first, logic_where, logic_second, logic_bits, logic_step, pick_first, branched, branch_room, pick_yes, pick_yes_value, pick_no, pick_no_value, pick_last, pick_step, void_no, void_step}
use Rattle.sym_exprs.proofs.Assigning.{assign_target, step_target, assign_value, replace_sides, replace_step, update_sides, update_last, update_step, step_sides, step_last, step_step}
use Rattle.sym_exprs.proofs.Calls.{site_of, input_values, reach_values, abort_values, exit_ready, exit_values}
use Rattle.sym_walk.specs.Walking.{program_of, mode_of}
use Rattle.sym_eval.specs.Targets.{finding, finding_in, storing, Found}
use Rattle.sym_eval.proofs.Nodes.{as_node, as_call, logic_alike, reach_alike, one_argument, one_counted}
use Rattle.sym_eval.proofs.Found.{spent_target, spent_look, object_type, replace_cost, update_cost, target_kept, keys_kept, kept_twice, kept_thrice, stored_before, found_scalar, element_weighs, element_ready, element_type, element_room, element_values, index_ready, index_in, index_room, index_found, row_ready, column_ready, row_in, column_in, row_room, row_found}
use Rattle.c_calls.specs.Loops.{is_loop, loop_of}
use Rattle.sym_eval.proofs.Declaring.{stored_ready, stored_in, stored_room, store_in, store_room, stored_does, values_none, values_next, values_on, rows_none, rows_part, rows_next, rows_on, absent_room, absent_does, one_ready, one_does, many_ready, many_does, rows_ready, rows_do, name_ready, name_does, names_none, names_next, names_on, no_first, first_exp_ready, first_exp_does, first_names_ready, first_names_do, values_part, names_part}
use Rattle.std.proofs.lemmas.List.{take_all}
use Rattle.sym_eval.specs.Doing.{weight_of_initials, InitialsReady, InitialsDo, RowsDo, InitialReady, InitialDoes, NamesDo, FirstReady, FirstDoes, FormReady, FormDoes, weight_of_form, weight_of_else, ElseReady, ElseDoes, BlockDoes, weight_of_initial, weight_of_first, weight_of_block}
use Rattle.sym_eval.proofs.Blocks.{only_ready, only_does, value_ready, value_in, value_room, give_room, give_type, give_does, no_value, form_room, return_does, view_of_if, test_room, form_ready, statement_does, empty_does, break_does, continue_does, names_ready, names_do, label_ready, label_does, scope_does, block_ready, block_does, block_none, block_part, block_next, block_more, else_ready, else_does, no_else, choice_ready, first_room, yes_ready, second_room, still_in, no_ready, last_room, last_in}
use Rattle.circuits.specs.Net.{IsIn, opposite, holds}
use Rattle.sym_weight.specs.Views.{else_of}
use Rattle.sym_eval.proofs.Choices.{choose_runs}
use Rattle.sym_eval.specs.Control.{weight_of_test, weight_of_step, TestIfReady, TestIfDoes, StepReady, StepDoes}
use Rattle.sym_eval.specs.Looping.{turn_glue, weight_of_turn, TurnReady, TurnDoes, weight_of_turns, TurnsReady, TurnsDo, LastDoes, weight_of_loop, LoopReady, ForReady, ForDoes, LoopDoes}
use Rattle.sym_eval.proofs.Deciding.{full_ready, full_gives, control_ready, control_room, control_bits, decides, test_ready, test_does, some_test_ready, no_test, some_step_ready, no_step, some_step}
use Rattle.sym_eval.proofs.Loopless.{no_loop}
use Rattle.sym_eval.proofs.Turns.{stays_in, body_starts, body_ends, body_does, while_tests, while_goes_on, while_does, do_starts, do_tests, do_does, for_tests, for_goes_on, for_steps, for_turn_does, no_turn, turn_within, head_room, turn_starts, head_room_again, outer_kept, loop_ends, loop_does, for_starts, for_arrives, for_does, for_ready, for_form, loop_ready, while_form, do_form, loop_within, for_within}
use Rattle.sym_eval.specs.Calling.{AllValues, Sets, set_cost, CallReady, Called}
use Rattle.sym_eval.proofs.Arguments.{argument_ready, first_values, next_values, argument_weight}
use Rattle.sym_eval.proofs.Running.{entered_arguments, entered_room, body_ready, back_around, back_room, told_in, told_room, need_in, need_room, function_run}
use Rattle.sym_eval.proofs.Reached.{ended_called, found_ready, found_called, arguments_ready, call_ready, call_within, call_values, found_nodes}
use Rattle.c_core.specs.Types.{promote_of}
use Rattle.c_core.specs.Typing.{label_fits, labels_in}
use Rattle.c_core.proofs.Promoted.{IsPromoted-promote_of}
use Rattle.circuits.specs.Numbers.{typed, AreIn}
use Rattle.sym_choices.specs.Cases.{AreCases, cases_cost}
use Rattle.sym_eval.specs.Switching.{ArmsDo, ArmReady, ArmDoes, ArmsReady}
use Rattle.std.specs.List.{list_all}
use Rattle.sym_eval.proofs.Switchable.{labels_many, chosen_by_ready, chosen_by_in, chosen_by_room, promoted_as, cases_room, told_room as choice_told_room, entries_room, cases_many, cases_then, cases_still, chosen_chooses, arm_room, arm_starts, arm_still, arm_room_again, arm_last_in, arm_last_room, arm_does, arms_none, arms_part, arms_next, arms_on, switch_chooses, arms_start, switch_kept_in, switch_room, switch_does}
use Rattle.c_core.specs.declared.number.IntType.TheVariants.{Bool as BoolType}
use Rattle.c_core.specs.Types.{width_of}
use Rattle.c_meaning.specs.Placing.{placed_view}
use Rattle.circuits.specs.Outcome.{conversion_cost}
use Rattle.sym_exprs.proofs.Costs.{test_costs}
use Rattle.sym_scale.specs.Cost.{nodes_in}
use Rattle.sym_state.proofs.Telling.{told_as}
use Rattle.sym_state.specs.Standing.{Turned}
use Rattle.sym_state.specs.Telling.{telling}
use Rattle.sym_walk.specs.Walking.{segments_of, mode_by, IsJudging}
use Rattle.sym_walk.specs.declared.walk.Judging.TheVariants.{Obliges}
use Rattle.sym_weight.specs.Table.{params_of}
use Rattle.sym_eval.proofs.Taken.{turn_first, turns_next, turns_more, last_test_room, turns_end, while_last, for_last, do_last, none_last, all_ready, all_room, turns_within, all_done}
use Rattle.sym_eval.proofs.+walk.Goals as goal

pub expressions::eval-constant-requires-clause-ready : goal.expressions::eval-constant-requires-clause-ready
expressions::eval-constant-requires-clause-ready t c =
    let z : SFits w128 c.in-Const.value = search rules in
    let e : node_view c.args.e.now.node ≡ Const (to_z w128 (of_z w128 c.in-Const.value)) = ap node_view c.in-Const.is ∙ ap Const (sym (to_z-of_z w128 c.in-Const.value z)) in
    subst (λ k. Ready (program_of c.args.walk.now) (mode_of c.args.walk.now) c.args.depth c.args.at c.args.sym.now (Expr c.args.e.now.spot c.args.e.now.ty k)) e c.requires.ready

pub expressions::eval-returns-in-Const : goal.expressions::eval-returns-in-Const
expressions::eval-returns-in-Const t c =
    let z : SFits w128 c.in-Const.value = search rules in
    let form = Const (to_z w128 (of_z w128 c.in-Const.value)) in
    let e : node_view c.args.e.now.node ≡ form = ap node_view c.in-Const.is ∙ ap Const (sym (to_z-of_z w128 c.in-Const.value z)) in
    as_node (program_of c.args.walk.now) (mode_of c.args.walk.now) c.args.depth c.args.at c.args.sym.now c.constant.new.sym (use_of c.args.used) c.args.e.now.spot c.args.e.now.ty (node_view c.args.e.now.node) form c.constant.result e (λ v l. refl) c.constant.ensures

pub expressions::eval-scalar-requires-clause-ready : goal.expressions::eval-scalar-requires-clause-ready
expressions::eval-scalar-requires-clause-ready t c =
    let form = Var c.in-Var.object in
    let e : node_view c.args.e.now.node ≡ form = rw c.in-Var.is refl in
    subst (λ k. Ready (program_of c.args.walk.now) (mode_of c.args.walk.now) c.args.depth c.args.at c.args.sym.now (Expr c.args.e.now.spot c.args.e.now.ty k)) e c.requires.ready

pub expressions::eval-returns-in-Var : goal.expressions::eval-returns-in-Var
expressions::eval-returns-in-Var t c =
    let form = Var c.in-Var.object in
    let e : node_view c.args.e.now.node ≡ form = rw c.in-Var.is refl in
    as_node (program_of c.args.walk.now) (mode_of c.args.walk.now) c.args.depth c.args.at c.args.sym.now c.scalar.new.sym (use_of c.args.used) c.args.e.now.spot c.args.e.now.ty (node_view c.args.e.now.node) form c.scalar.result e (λ v l. refl) c.scalar.ensures

pub expressions::eval-element-requires : goal.expressions::eval-element-requires
expressions::eval-element-requires t c =
    let form = Index c.in-Index.object (exprs_view c.as_slice.result.now) in
    let e : node_view c.args.e.now.node ≡ form = ap node_view c.in-Index.is ∙ view_of_index c.in-Index.object c.in-Index.indexes ∙ ap (λ es. Index c.in-Index.object (exprs_view es)) (sym c.as_slice.ensures) in
    (omega (arith, c.decreases, ap (λ k. weight_of (program_of c.args.walk.now) (mode_of c.args.walk.now) c.args.depth (Expr c.args.e.now.spot c.args.e.now.ty k)) e), (c.requires.walk, subst (λ k. Ready (program_of c.args.walk.now) (mode_of c.args.walk.now) c.args.depth c.args.at c.args.sym.now (Expr c.args.e.now.spot c.args.e.now.ty k)) e c.requires.ready))

pub expressions::eval-returns-in-Index : goal.expressions::eval-returns-in-Index
expressions::eval-returns-in-Index t c =
    let form = Index c.in-Index.object (exprs_view c.as_slice.result.now) in
    let e : node_view c.args.e.now.node ≡ form = ap node_view c.in-Index.is ∙ view_of_index c.in-Index.object c.in-Index.indexes ∙ ap (λ es. Index c.in-Index.object (exprs_view es)) (sym c.as_slice.ensures) in
    as_node (program_of c.args.walk.now) (mode_of c.args.walk.now) c.args.depth c.args.at c.args.sym.now c.element.new.sym (use_of c.args.used) c.args.e.now.spot c.args.e.now.ty (node_view c.args.e.now.node) form c.element.result e (λ v l. refl) c.element.ensures

pub expressions::eval-unary-requires : goal.expressions::eval-unary-requires
expressions::eval-unary-requires t c =
    let form = Unary c.in-Unary.op (expr_view c.deref.result.now) in
    let e : node_view c.args.e.now.node ≡ form = rw (c.in-Unary.is, c.deref.ensures) refl in
    (omega (arith, c.decreases, ap (λ k. weight_of (program_of c.args.walk.now) (mode_of c.args.walk.now) c.args.depth (Expr c.args.e.now.spot c.args.e.now.ty k)) e), (c.requires.walk, subst (λ k. Ready (program_of c.args.walk.now) (mode_of c.args.walk.now) c.args.depth c.args.at c.args.sym.now (Expr c.args.e.now.spot c.args.e.now.ty k)) e c.requires.ready))

pub expressions::eval-returns-in-Unary : goal.expressions::eval-returns-in-Unary
expressions::eval-returns-in-Unary t c =
    let form = Unary c.in-Unary.op (expr_view c.deref.result.now) in
    let e : node_view c.args.e.now.node ≡ form = rw (c.in-Unary.is, c.deref.ensures) refl in
    as_node (program_of c.args.walk.now) (mode_of c.args.walk.now) c.args.depth c.args.at c.args.sym.now c.unary.new.sym (use_of c.args.used) c.args.e.now.spot c.args.e.now.ty (node_view c.args.e.now.node) form c.unary.result e (λ v l. refl) c.unary.ensures

pub expressions::eval-cast-requires : goal.expressions::eval-cast-requires
expressions::eval-cast-requires t c =
    let form = Cast (expr_view c.deref-in-Cast.result.now) in
    let e : node_view c.args.e.now.node ≡ form = rw (c.in-Cast.is, c.deref-in-Cast.ensures) refl in
    (omega (arith, c.decreases, ap (λ k. weight_of (program_of c.args.walk.now) (mode_of c.args.walk.now) c.args.depth (Expr c.args.e.now.spot c.args.e.now.ty k)) e), (c.requires.walk, subst (λ k. Ready (program_of c.args.walk.now) (mode_of c.args.walk.now) c.args.depth c.args.at c.args.sym.now (Expr c.args.e.now.spot c.args.e.now.ty k)) e c.requires.ready))

pub expressions::eval-returns-in-Cast : goal.expressions::eval-returns-in-Cast
expressions::eval-returns-in-Cast t c =
    let form = Cast (expr_view c.deref-in-Cast.result.now) in
    let e : node_view c.args.e.now.node ≡ form = rw (c.in-Cast.is, c.deref-in-Cast.ensures) refl in
    as_node (program_of c.args.walk.now) (mode_of c.args.walk.now) c.args.depth c.args.at c.args.sym.now c.cast.new.sym (use_of c.args.used) c.args.e.now.spot c.args.e.now.ty (node_view c.args.e.now.node) form c.cast.result e (λ v l. refl) c.cast.ensures

pub expressions::eval-step-requires : goal.expressions::eval-step-requires
expressions::eval-step-requires t c =
    let form = Step c.in-Step.op (expr_view c.deref-in-Step.result.now) in
    let e : node_view c.args.e.now.node ≡ form = rw (c.in-Step.is, c.deref-in-Step.ensures) refl in
    (omega (arith, c.decreases, ap (λ k. weight_of (program_of c.args.walk.now) (mode_of c.args.walk.now) c.args.depth (Expr c.args.e.now.spot c.args.e.now.ty k)) e), (c.requires.walk, subst (λ k. Ready (program_of c.args.walk.now) (mode_of c.args.walk.now) c.args.depth c.args.at c.args.sym.now (Expr c.args.e.now.spot c.args.e.now.ty k)) e c.requires.ready))

pub expressions::eval-returns-in-Step : goal.expressions::eval-returns-in-Step
expressions::eval-returns-in-Step t c =
    let form = Step c.in-Step.op (expr_view c.deref-in-Step.result.now) in
    let e : node_view c.args.e.now.node ≡ form = rw (c.in-Step.is, c.deref-in-Step.ensures) refl in
    as_node (program_of c.args.walk.now) (mode_of c.args.walk.now) c.args.depth c.args.at c.args.sym.now c.step.new.sym (use_of c.args.used) c.args.e.now.spot c.args.e.now.ty (node_view c.args.e.now.node) form c.step.result e (λ v l. refl) c.step.ensures

pub expressions::eval-binary-requires : goal.expressions::eval-binary-requires
expressions::eval-binary-requires t c =
    let form = Binary c.in-Binary.op (expr_view c.deref-in-Binary.result.now) (expr_view c.deref-in-Binary-2.result.now) in
    let e : node_view c.args.e.now.node ≡ form = rw (c.in-Binary.is, c.deref-in-Binary.ensures, c.deref-in-Binary-2.ensures) refl in
    (omega (arith, c.decreases, ap (λ k. weight_of (program_of c.args.walk.now) (mode_of c.args.walk.now) c.args.depth (Expr c.args.e.now.spot c.args.e.now.ty k)) e), (c.requires.walk, subst (λ k. Ready (program_of c.args.walk.now) (mode_of c.args.walk.now) c.args.depth c.args.at c.args.sym.now (Expr c.args.e.now.spot c.args.e.now.ty k)) e c.requires.ready))

pub expressions::eval-returns-in-Binary : goal.expressions::eval-returns-in-Binary
expressions::eval-returns-in-Binary t c =
    let form = Binary c.in-Binary.op (expr_view c.deref-in-Binary.result.now) (expr_view c.deref-in-Binary-2.result.now) in
    let e : node_view c.args.e.now.node ≡ form = rw (c.in-Binary.is, c.deref-in-Binary.ensures, c.deref-in-Binary-2.ensures) refl in
    as_node (program_of c.args.walk.now) (mode_of c.args.walk.now) c.args.depth c.args.at c.args.sym.now c.binary.new.sym (use_of c.args.used) c.args.e.now.spot c.args.e.now.ty (node_view c.args.e.now.node) form c.binary.result e (λ v l. refl) c.binary.ensures

pub expressions::eval-logic-requires : goal.expressions::eval-logic-requires
expressions::eval-logic-requires t c =
    let form = Logic c.in-Logic.both (expr_view c.deref-in-Logic.result.now) (expr_view c.deref-in-Logic-2.result.now) in
    let e : node_view c.args.e.now.node ≡ form = rw (c.in-Logic.is, c.deref-in-Logic.ensures, c.deref-in-Logic-2.ensures) refl in
    (omega (arith, c.decreases, ap (λ k. weight_of (program_of c.args.walk.now) (mode_of c.args.walk.now) c.args.depth (Expr c.args.e.now.spot c.args.e.now.ty k)) e), (c.requires.walk, subst (λ k. Ready (program_of c.args.walk.now) (mode_of c.args.walk.now) c.args.depth c.args.at c.args.sym.now (Expr c.args.e.now.spot c.args.e.now.ty k)) e c.requires.ready))

pub expressions::eval-returns-in-Logic : goal.expressions::eval-returns-in-Logic
expressions::eval-returns-in-Logic t c =
    let form = Logic c.in-Logic.both (expr_view c.deref-in-Logic.result.now) (expr_view c.deref-in-Logic-2.result.now) in
    let e : node_view c.args.e.now.node ≡ form = rw (c.in-Logic.is, c.deref-in-Logic.ensures, c.deref-in-Logic-2.ensures) refl in
    as_node (program_of c.args.walk.now) (mode_of c.args.walk.now) c.args.depth c.args.at c.args.sym.now c.logic.new.sym (use_of c.args.used) c.args.e.now.spot c.args.e.now.ty (node_view c.args.e.now.node) form c.logic.result e (λ v l. logic_alike (program_of c.args.walk.now) (mode_of c.args.walk.now) c.args.depth c.args.at (use_of c.args.used) c.args.e.now.spot c.args.e.now.ty c.in-Logic.both (expr_view c.deref-in-Logic.result.now) (expr_view c.deref-in-Logic-2.result.now) v l) c.logic.ensures

pub expressions::eval-conditional-requires : goal.expressions::eval-conditional-requires
expressions::eval-conditional-requires t c =
    let form = Choose c.in-Choose.mark (expr_view c.deref-in-Choose.result.now) (expr_view c.deref-in-Choose-2.result.now) (expr_view c.deref-in-Choose-3.result.now) in
    let e : node_view c.args.e.now.node ≡ form = rw (c.in-Choose.is, c.deref-in-Choose.ensures, c.deref-in-Choose-2.ensures, c.deref-in-Choose-3.ensures) refl in
    (omega (arith, c.decreases, ap (λ k. weight_of (program_of c.args.walk.now) (mode_of c.args.walk.now) c.args.depth (Expr c.args.e.now.spot c.args.e.now.ty k)) e), (c.requires.walk, subst (λ k. Ready (program_of c.args.walk.now) (mode_of c.args.walk.now) c.args.depth c.args.at c.args.sym.now (Expr c.args.e.now.spot c.args.e.now.ty k)) e c.requires.ready))

pub expressions::eval-returns-in-Choose : goal.expressions::eval-returns-in-Choose
expressions::eval-returns-in-Choose t c =
    let form = Choose c.in-Choose.mark (expr_view c.deref-in-Choose.result.now) (expr_view c.deref-in-Choose-2.result.now) (expr_view c.deref-in-Choose-3.result.now) in
    let e : node_view c.args.e.now.node ≡ form = rw (c.in-Choose.is, c.deref-in-Choose.ensures, c.deref-in-Choose-2.ensures, c.deref-in-Choose-3.ensures) refl in
    as_node (program_of c.args.walk.now) (mode_of c.args.walk.now) c.args.depth c.args.at c.args.sym.now c.conditional.new.sym (use_of c.args.used) c.args.e.now.spot c.args.e.now.ty (node_view c.args.e.now.node) form c.conditional.result e (λ v l. refl) c.conditional.ensures

pub expressions::eval-comma-requires : goal.expressions::eval-comma-requires
expressions::eval-comma-requires t c =
    let form = Comma (expr_view c.deref-in-Comma.result.now) (expr_view c.deref-in-Comma-2.result.now) in
    let e : node_view c.args.e.now.node ≡ form = rw (c.in-Comma.is, c.deref-in-Comma.ensures, c.deref-in-Comma-2.ensures) refl in
    (omega (arith, c.decreases, ap (λ k. weight_of (program_of c.args.walk.now) (mode_of c.args.walk.now) c.args.depth (Expr c.args.e.now.spot c.args.e.now.ty k)) e), (c.requires.walk, subst (λ k. Ready (program_of c.args.walk.now) (mode_of c.args.walk.now) c.args.depth c.args.at c.args.sym.now (Expr c.args.e.now.spot c.args.e.now.ty k)) e c.requires.ready))

pub expressions::eval-returns-in-Comma : goal.expressions::eval-returns-in-Comma
expressions::eval-returns-in-Comma t c =
    let form = Comma (expr_view c.deref-in-Comma.result.now) (expr_view c.deref-in-Comma-2.result.now) in
    let e : node_view c.args.e.now.node ≡ form = rw (c.in-Comma.is, c.deref-in-Comma.ensures, c.deref-in-Comma-2.ensures) refl in
    as_node (program_of c.args.walk.now) (mode_of c.args.walk.now) c.args.depth c.args.at c.args.sym.now c.comma.new.sym (use_of c.args.used) c.args.e.now.spot c.args.e.now.ty (node_view c.args.e.now.node) form c.comma.result e (λ v l. refl) c.comma.ensures

pub expressions::eval-assign-requires : goal.expressions::eval-assign-requires
expressions::eval-assign-requires t c =
    let form = Assign c.in-Assign.op (expr_view c.deref-in-Assign.result.now) (expr_view c.deref-in-Assign-2.result.now) in
    let e : node_view c.args.e.now.node ≡ form = rw (c.in-Assign.is, c.deref-in-Assign.ensures, c.deref-in-Assign-2.ensures) refl in
    (omega (arith, c.decreases, ap (λ k. weight_of (program_of c.args.walk.now) (mode_of c.args.walk.now) c.args.depth (Expr c.args.e.now.spot c.args.e.now.ty k)) e), (c.requires.walk, subst (λ k. Ready (program_of c.args.walk.now) (mode_of c.args.walk.now) c.args.depth c.args.at c.args.sym.now (Expr c.args.e.now.spot c.args.e.now.ty k)) e c.requires.ready))

pub expressions::eval-returns-in-Assign : goal.expressions::eval-returns-in-Assign
expressions::eval-returns-in-Assign t c =
    let form = Assign c.in-Assign.op (expr_view c.deref-in-Assign.result.now) (expr_view c.deref-in-Assign-2.result.now) in
    let e : node_view c.args.e.now.node ≡ form = rw (c.in-Assign.is, c.deref-in-Assign.ensures, c.deref-in-Assign-2.ensures) refl in
    as_node (program_of c.args.walk.now) (mode_of c.args.walk.now) c.args.depth c.args.at c.args.sym.now c.assign.new.sym (use_of c.args.used) c.args.e.now.spot c.args.e.now.ty (node_view c.args.e.now.node) form c.assign.result e (λ v l. refl) c.assign.ensures

pub expressions::eval-call-requires : goal.expressions::eval-call-requires
expressions::eval-call-requires t c =
    let form = Call c.in-Call.callee (exprs_view c.as_slice-in-Call.result.now) c.in-Call.close in
    let v = ap node_view c.in-Call.is ∙ view_of_call c.in-Call.callee c.in-Call.args c.in-Call.close in
    let e : node_view c.args.e.now.node ≡ form = v ∙ ap (λ es. Call c.in-Call.callee (exprs_view es) c.in-Call.close) (sym c.as_slice-in-Call.ensures) in
    (omega (arith, c.decreases, ap (λ k. weight_of (program_of c.args.walk.now) (mode_of c.args.walk.now) c.args.depth (Expr c.args.e.now.spot c.args.e.now.ty k)) e), (c.requires.walk, subst (λ k. Ready (program_of c.args.walk.now) (mode_of c.args.walk.now) c.args.depth c.args.at c.args.sym.now (Expr c.args.e.now.spot c.args.e.now.ty k)) e c.requires.ready))

pub expressions::eval-returns-in-Call : goal.expressions::eval-returns-in-Call
expressions::eval-returns-in-Call t c =
    let form = Call c.in-Call.callee (exprs_view c.as_slice-in-Call.result.now) c.in-Call.close in
    let v = ap node_view c.in-Call.is ∙ view_of_call c.in-Call.callee c.in-Call.args c.in-Call.close in
    let e : node_view c.args.e.now.node ≡ form = v ∙ ap (λ es. Call c.in-Call.callee (exprs_view es) c.in-Call.close) (sym c.as_slice-in-Call.ensures) in
    as_call (program_of c.args.walk.now) (mode_of c.args.walk.now) c.args.depth c.args.at c.args.sym.now c.call.new.sym (use_of c.args.used) c.args.e.now.spot c.args.e.now.ty (node_view c.args.e.now.node) form c.call.result e c.call.ensures

pub expressions::element-indexed-requires : goal.expressions::element-indexed-requires
expressions::element-indexed-requires t c =
    (omega (arith, c.decreases, element_weighs (program_of c.args.walk.now) c.args.object (exprs_view c.args.indexes.now)), (c.requires.walk, element_ready (program_of c.args.walk.now) (mode_of c.args.walk.now) c.args.depth c.args.at c.args.e.now.spot c.args.e.now.ty c.args.object (exprs_view c.args.indexes.now) c.requires.ready))

pub expressions::element-look_target-requires-clause-typed : goal.expressions::element-look_target-requires-clause-typed
expressions::element-look_target-requires-clause-typed t c =
    element_type (program_of c.args.walk.now) (mode_of c.args.walk.now) c.args.depth c.args.at c.args.e.now.spot c.args.e.now.ty c.args.object (exprs_view c.args.indexes.now) c.type_of.result c.in_ok-cell.cell c.type_of.ensures c.requires.ready.types c.in_ok-cell.ensures.meant

pub expressions::element-look_target-requires-clause-room : goal.expressions::element-look_target-requires-clause-room
expressions::element-look_target-requires-clause-room t c =
    element_room (program_of c.args.walk.now) (mode_of c.args.walk.now) c.args.depth c.args.at c.args.e.now.spot c.args.e.now.ty c.args.object (exprs_view c.args.indexes.now) c.requires.ready c.in_ok-cell.ensures

pub expressions::element-returns : goal.expressions::element-returns
expressions::element-returns t c =
    element_values (program_of c.args.walk.now) (mode_of c.args.walk.now) c.args.depth c.args.at c.args.e.now.spot c.args.e.now.ty c.args.object (exprs_view c.args.indexes.now) c.type_of.result c.type_of.ensures c.requires.ready c.in_ok-cell.ensures (c.in_ok-r.ensures (mode_of c.args.walk.now))

pub expressions::unary-eval-requires : goal.expressions::unary-eval-requires
expressions::unary-eval-requires t c =
    (omega (arith, c.decreases), (c.requires.walk, first_ready (program_of c.args.walk.now) (mode_of c.args.walk.now) c.args.depth c.args.at (Expr c.args.e.now.spot c.args.e.now.ty (Unary c.args.op (expr_view c.args.of.now))) (expr_view c.args.of.now) c.requires.ready (unary_parts (program_of c.args.walk.now) c.args.e.now.spot c.args.e.now.ty c.args.op (expr_view c.args.of.now) c.requires.ready.types).1 (omega arith)))

pub expressions::unary-operate_one-requires-clause-x_in : goal.expressions::unary-operate_one-requires-clause-x_in
expressions::unary-operate_one-requires-clause-x_in t c =
    (unary_side (program_of c.args.walk.now) (mode_of c.args.walk.now) c.args.depth c.args.at c.args.e.now.spot c.args.e.now.ty c.args.op (expr_view c.args.of.now) c.type_of.result c.type_of.ensures c.requires.ready c.in_ok-x.ensures).0

pub expressions::unary-operate_one-requires-clause-room : goal.expressions::unary-operate_one-requires-clause-room
expressions::unary-operate_one-requires-clause-room t c =
    (unary_side (program_of c.args.walk.now) (mode_of c.args.walk.now) c.args.depth c.args.at c.args.e.now.spot c.args.e.now.ty c.args.op (expr_view c.args.of.now) c.type_of.result c.type_of.ensures c.requires.ready c.in_ok-x.ensures).1

pub expressions::unary-returns : goal.expressions::unary-returns
expressions::unary-returns t c =
    unary_step (program_of c.args.walk.now) (mode_of c.args.walk.now) c.args.depth c.args.at c.args.e.now.spot c.args.e.now.ty c.args.op (expr_view c.args.of.now) c.type_of.result c.type_of.ensures c.requires.ready c.in_ok-x.ensures c.in_ok-r.ensures

pub expressions::binary-eval-requires : goal.expressions::binary-eval-requires
expressions::binary-eval-requires t c =
    let e = Expr c.args.e.now.spot c.args.e.now.ty (Binary c.args.op (expr_view c.args.left.now) (expr_view c.args.right.now)) in
    let g = binary_parts (program_of c.args.walk.now) c.args.e.now.spot c.args.e.now.ty c.args.op (expr_view c.args.left.now) (expr_view c.args.right.now) c.requires.ready.types in
    (omega (arith, c.decreases), (c.requires.walk, first_ready (program_of c.args.walk.now) (mode_of c.args.walk.now) c.args.depth c.args.at e (expr_view c.args.left.now) c.requires.ready g.1 (omega arith)))

pub expressions::binary-eval-requires-2 : goal.expressions::binary-eval-requires-2
expressions::binary-eval-requires-2 t c =
    let e = Expr c.args.e.now.spot c.args.e.now.ty (Binary c.args.op (expr_view c.args.left.now) (expr_view c.args.right.now)) in
    let g = binary_parts (program_of c.args.walk.now) c.args.e.now.spot c.args.e.now.ty c.args.op (expr_view c.args.left.now) (expr_view c.args.right.now) c.requires.ready.types in
    (omega (arith, c.decreases), (c.requires.walk, next_ready (program_of c.args.walk.now) (mode_of c.args.walk.now) c.args.depth c.args.at Used e (expr_view c.args.left.now) (expr_view c.args.right.now) c.requires.ready c.in_ok-x.ensures g.2 (omega arith)))

pub expressions::binary-operate-requires-clause-x_in : goal.expressions::binary-operate-requires-clause-x_in
expressions::binary-operate-requires-clause-x_in t c =
    (binary_sides (program_of c.args.walk.now) (mode_of c.args.walk.now) c.args.depth c.args.at c.args.e.now.spot c.args.e.now.ty c.args.op (expr_view c.args.left.now) (expr_view c.args.right.now) c.type_of-a.result c.type_of-b.result c.type_of-a.ensures c.type_of-b.ensures c.requires.ready c.in_ok-x.ensures c.in_ok-y.ensures).0

pub expressions::binary-operate-requires-clause-y_in : goal.expressions::binary-operate-requires-clause-y_in
expressions::binary-operate-requires-clause-y_in t c =
    (binary_sides (program_of c.args.walk.now) (mode_of c.args.walk.now) c.args.depth c.args.at c.args.e.now.spot c.args.e.now.ty c.args.op (expr_view c.args.left.now) (expr_view c.args.right.now) c.type_of-a.result c.type_of-b.result c.type_of-a.ensures c.type_of-b.ensures c.requires.ready c.in_ok-x.ensures c.in_ok-y.ensures).1

pub expressions::binary-operate-requires-clause-room : goal.expressions::binary-operate-requires-clause-room
expressions::binary-operate-requires-clause-room t c =
    (binary_sides (program_of c.args.walk.now) (mode_of c.args.walk.now) c.args.depth c.args.at c.args.e.now.spot c.args.e.now.ty c.args.op (expr_view c.args.left.now) (expr_view c.args.right.now) c.type_of-a.result c.type_of-b.result c.type_of-a.ensures c.type_of-b.ensures c.requires.ready c.in_ok-x.ensures c.in_ok-y.ensures).2

pub expressions::binary-returns : goal.expressions::binary-returns
expressions::binary-returns t c =
    binary_step (program_of c.args.walk.now) (mode_of c.args.walk.now) c.args.depth c.args.at c.args.e.now.spot c.args.e.now.ty c.args.op (expr_view c.args.left.now) (expr_view c.args.right.now) c.type_of-a.result c.type_of-b.result c.type_of-a.ensures c.type_of-b.ensures c.requires.ready c.in_ok-x.ensures c.in_ok-y.ensures c.in_ok-r.ensures

pub expressions::cast-eval-requires : goal.expressions::cast-eval-requires
expressions::cast-eval-requires t c =
    (omega (arith, c.decreases), (c.requires.walk, first_ready (program_of c.args.walk.now) (mode_of c.args.walk.now) c.args.depth c.args.at (Expr c.args.e.now.spot c.args.e.now.ty (Cast (expr_view c.args.of.now))) (expr_view c.args.of.now) c.requires.ready (cast_parts (program_of c.args.walk.now) c.args.e.now.spot c.args.e.now.ty (expr_view c.args.of.now) c.requires.ready.types).1 (omega arith)))

pub expressions::cast-eval-requires-in-Some : goal.expressions::cast-eval-requires-in-Some
expressions::cast-eval-requires-in-Some t c =
    (omega (arith, c.decreases), (c.requires.walk, first_ready (program_of c.args.walk.now) (mode_of c.args.walk.now) c.args.depth c.args.at (Expr c.args.e.now.spot c.args.e.now.ty (Cast (expr_view c.args.of.now))) (expr_view c.args.of.now) c.requires.ready (cast_parts (program_of c.args.walk.now) c.args.e.now.spot c.args.e.now.ty (expr_view c.args.of.now) c.requires.ready.types).1 (omega arith)))

pub expressions::cast-convert-requires-clause-x_in : goal.expressions::cast-convert-requires-clause-x_in
expressions::cast-convert-requires-clause-x_in t c =
    cast_side (program_of c.args.walk.now) (mode_of c.args.walk.now) c.args.depth c.args.at c.args.e.now.spot c.args.e.now.ty c.in-Some.to (expr_view c.args.of.now) c.type_of.result c.in-Some.is c.type_of.ensures c.requires.ready c.in_ok-x-in-Some.ensures

pub expressions::cast-returns-in_ok-r-in-None : goal.expressions::cast-returns-in_ok-r-in-None
expressions::cast-returns-in_ok-r-in-None t c =
    subst (λ k. Values (program_of c.args.walk.now) (mode_of c.args.walk.now) c.args.depth c.args.at Used (Expr c.args.e.now.spot k (Cast (expr_view c.args.of.now))) c.args.sym.now c.eval.new.sym c.in_ok-r-in-None.r.bits) (sym c.in-None.is) (void_values (program_of c.args.walk.now) (mode_of c.args.walk.now) c.args.depth c.args.at c.args.e.now.spot (expr_view c.args.of.now) c.in_ok-r-in-None.ensures)

pub expressions::cast-returns-in_ok-r-in-Some : goal.expressions::cast-returns-in_ok-r-in-Some
expressions::cast-returns-in_ok-r-in-Some t c =
    cast_step (program_of c.args.walk.now) (mode_of c.args.walk.now) c.args.depth c.args.at c.args.e.now.spot c.args.e.now.ty c.in-Some.to (expr_view c.args.of.now) c.type_of.result c.in-Some.is c.type_of.ensures c.requires.ready c.in_ok-x-in-Some.ensures c.in_ok-r-in-Some.ensures

pub expressions::comma-eval-requires : goal.expressions::comma-eval-requires
expressions::comma-eval-requires t c =
    let e = Expr c.args.e.now.spot c.args.e.now.ty (Comma (expr_view c.args.first.now) (expr_view c.args.last.now)) in
    let g = comma_parts (program_of c.args.walk.now) c.args.e.now.spot c.args.e.now.ty (expr_view c.args.first.now) (expr_view c.args.last.now) c.requires.ready.types in
    (omega (arith, c.decreases), (c.requires.walk, first_ready (program_of c.args.walk.now) (mode_of c.args.walk.now) c.args.depth c.args.at e (expr_view c.args.first.now) c.requires.ready g.1 (omega arith)))

pub expressions::comma-eval-requires-2 : goal.expressions::comma-eval-requires-2
expressions::comma-eval-requires-2 t c =
    let e = Expr c.args.e.now.spot c.args.e.now.ty (Comma (expr_view c.args.first.now) (expr_view c.args.last.now)) in
    let g = comma_parts (program_of c.args.walk.now) c.args.e.now.spot c.args.e.now.ty (expr_view c.args.first.now) (expr_view c.args.last.now) c.requires.ready.types in
    (omega (arith, c.decreases), (c.requires.walk, next_ready (program_of c.args.walk.now) (mode_of c.args.walk.now) c.args.depth c.args.at Unused e (expr_view c.args.first.now) (expr_view c.args.last.now) c.requires.ready c.in_ok-_value.ensures g.2 (omega arith)))

pub expressions::comma-returns : goal.expressions::comma-returns
expressions::comma-returns t c =
    comma_values (program_of c.args.walk.now) (mode_of c.args.walk.now) c.args.depth c.args.at c.args.e.now.spot c.args.e.now.ty (expr_view c.args.first.now) (expr_view c.args.last.now) c.requires.ready c.in_ok-_value.ensures c.in_ok-r.ensures

pub expressions::eval_where-narrow-requires-clause-fits : goal.expressions::eval_where-narrow-requires-clause-fits
expressions::eval_where-narrow-requires-clause-fits t c =
    state_grown (program_of c.args.walk.now) c.in_ok-skipped.ensures.grown c.requires.ready.fits

pub expressions::eval_where-narrow-requires-clause-a_in : goal.expressions::eval_where-narrow-requires-clause-a_in
expressions::eval_where-narrow-requires-clause-a_in t c =
    in_added (added_of c.in_ok-skipped.ensures.grown) c.args.sym.now.live c.requires.ready.fits.live

pub expressions::eval_where-narrow-requires-clause-b_in : goal.expressions::eval_where-narrow-requires-clause-b_in
expressions::eval_where-narrow-requires-clause-b_in t c =
    in_added (added_of c.in_ok-skipped.ensures.grown) c.args.go c.requires.ready.go_in

pub expressions::eval_where-narrow-requires-clause-room : goal.expressions::eval_where-narrow-requires-clause-room
expressions::eval_where-narrow-requires-clause-room t c =
    omega (arith, (longer_by (added_of c.in_ok-skipped.ensures.grown)).1, c.requires.ready.room)

pub expressions::eval_where-eval-requires : goal.expressions::eval_where-eval-requires
expressions::eval_where-eval-requires t c =
    (omega (arith, c.decreases), (c.requires.walk, where_ready (program_of c.args.walk.now) (mode_of c.args.walk.now) c.args.depth c.args.at (expr_view c.args.e.now) c.requires.ready c.in_ok-skipped.ensures.grown c.in_ok-narrow.ensures))

pub expressions::eval_where-join-requires-clause-other_in : goal.expressions::eval_where-join-requires-clause-other_in
expressions::eval_where-join-requires-clause-other_in t c =
    in_added c.in_ok-r.ensures.follows.added c.in_ok-skipped.skipped (in_added c.in_ok-narrow.ensures.added c.in_ok-skipped.skipped c.in_ok-skipped.ensures.value.inside)

pub expressions::eval_where-join-requires-clause-room : goal.expressions::eval_where-join-requires-clause-room
expressions::eval_where-join-requires-clause-room t c =
    omega (arith, (longer_by (added_of c.in_ok-skipped.ensures.grown)).1, (longer_by c.in_ok-narrow.ensures.added).1, (longer_by c.in_ok-r.ensures.follows.added).1, c.requires.ready.room)

pub expressions::eval_where-returns : goal.expressions::eval_where-returns
expressions::eval_where-returns t c =
    where_values (program_of c.args.walk.now) (mode_of c.args.walk.now) c.args.depth c.args.at c.args.sym.now c.narrow.new.sym c.eval.new.sym c.join.new.sym c.under.new.self c.args.go c.not.result c.in_ok-skipped.skipped (expr_view c.args.e.now) c.in_ok-r.r.bits c.requires.ready c.not.ensures
    c.in_ok-skipped.ensures.grown c.in_ok-skipped.ensures.value c.in_ok-narrow.ensures c.in_ok-r.ensures c.in_ok-join.ensures

pub expressions::logic-eval-requires : goal.expressions::logic-eval-requires
expressions::logic-eval-requires t c =
    (omega (arith, c.decreases), (c.requires.walk, first_ready (program_of c.args.walk.now) (mode_of c.args.walk.now) c.args.depth c.args.at (Expr c.args.e.now.spot c.args.e.now.ty (Logic c.args.both (expr_view c.args.left.now) (expr_view c.args.right.now))) (expr_view c.args.left.now) c.requires.ready (logic_parts (program_of c.args.walk.now) c.args.e.now.spot c.args.e.now.ty c.args.both (expr_view c.args.left.now) (expr_view c.args.right.now) c.requires.ready.types).3 (omega arith)))

pub expressions::logic-test-requires-clause-x_in : goal.expressions::logic-test-requires-clause-x_in
expressions::logic-test-requires-clause-x_in t c =
    (logic_first (program_of c.args.walk.now) (mode_of c.args.walk.now) c.args.depth c.args.at c.args.e.now.spot c.args.e.now.ty c.args.both (expr_view c.args.left.now) (expr_view c.args.right.now) c.type_of.result c.type_of.ensures c.requires.ready c.in_ok-x.ensures).0

pub expressions::logic-test-requires-clause-room : goal.expressions::logic-test-requires-clause-room
expressions::logic-test-requires-clause-room t c =
    (logic_first (program_of c.args.walk.now) (mode_of c.args.walk.now) c.args.depth c.args.at c.args.e.now.spot c.args.e.now.ty c.args.both (expr_view c.args.left.now) (expr_view c.args.right.now) c.type_of.result c.type_of.ensures c.requires.ready c.in_ok-x.ensures).1

pub expressions::logic-eval_where-requires : goal.expressions::logic-eval_where-requires
expressions::logic-eval_where-requires t c =
    (omega (arith, c.decreases), (c.requires.walk, logic_where (program_of c.args.walk.now) (mode_of c.args.walk.now) c.args.depth c.args.at c.args.e.now.spot c.args.e.now.ty c.args.both (expr_view c.args.left.now) (expr_view c.args.right.now) c.type_of.result c.in_ok-first.first c.kept_if-go.result c.type_of.ensures c.requires.ready c.in_ok-x.ensures c.in_ok-first.ensures c.kept_if-go.ensures))

pub expressions::logic-test-requires-2-clause-x_in : goal.expressions::logic-test-requires-2-clause-x_in
expressions::logic-test-requires-2-clause-x_in t c =
    (logic_second (program_of c.args.walk.now) (mode_of c.args.walk.now) c.args.depth c.args.at c.args.e.now.spot c.args.e.now.ty c.args.both (expr_view c.args.left.now) (expr_view c.args.right.now) c.type_of.result c.type_of-2.result c.in_ok-first.first c.kept_if-go.result c.type_of.ensures c.type_of-2.ensures c.requires.ready c.in_ok-x.ensures c.in_ok-first.ensures c.in_ok-y.ensures).0

pub expressions::logic-test-requires-2-clause-room : goal.expressions::logic-test-requires-2-clause-room
expressions::logic-test-requires-2-clause-room t c =
    let r = (logic_second (program_of c.args.walk.now) (mode_of c.args.walk.now) c.args.depth c.args.at c.args.e.now.spot c.args.e.now.ty c.args.both (expr_view c.args.left.now) (expr_view c.args.right.now) c.type_of.result c.type_of-2.result c.in_ok-first.first c.kept_if-go.result c.type_of.ensures c.type_of-2.ensures c.requires.ready c.in_ok-x.ensures c.in_ok-first.ensures c.in_ok-y.ensures).1 in
    omega (arith, r)

pub expressions::logic-and-requires-clause-a_in : goal.expressions::logic-and-requires-clause-a_in
expressions::logic-and-requires-clause-a_in t c =
    (logic_bits (program_of c.args.walk.now) (mode_of c.args.walk.now) c.args.depth c.args.at c.args.both (expr_view c.args.right.now) c.type_of-2.result c.kept_if-go.result c.in_ok-second.second c.kept_if-hit.result c.type_of-2.ensures (kept_in c.test.new.sym.net c.args.both c.in_ok-first.first c.kept_if-go.result c.kept_if-go.ensures c.in_ok-first.ensures.means.inside) c.in_ok-y.ensures c.in_ok-second.ensures c.kept_if-hit.ensures (logic_second (program_of c.args.walk.now) (mode_of c.args.walk.now) c.args.depth c.args.at c.args.e.now.spot c.args.e.now.ty c.args.both (expr_view c.args.left.now) (expr_view c.args.right.now) c.type_of.result c.type_of-2.result c.in_ok-first.first c.kept_if-go.result c.type_of.ensures c.type_of-2.ensures c.requires.ready c.in_ok-x.ensures c.in_ok-first.ensures c.in_ok-y.ensures).1).0

pub expressions::logic-and-requires-clause-b_in : goal.expressions::logic-and-requires-clause-b_in
expressions::logic-and-requires-clause-b_in t c =
    (logic_bits (program_of c.args.walk.now) (mode_of c.args.walk.now) c.args.depth c.args.at c.args.both (expr_view c.args.right.now) c.type_of-2.result c.kept_if-go.result c.in_ok-second.second c.kept_if-hit.result c.type_of-2.ensures (kept_in c.test.new.sym.net c.args.both c.in_ok-first.first c.kept_if-go.result c.kept_if-go.ensures c.in_ok-first.ensures.means.inside) c.in_ok-y.ensures c.in_ok-second.ensures c.kept_if-hit.ensures (logic_second (program_of c.args.walk.now) (mode_of c.args.walk.now) c.args.depth c.args.at c.args.e.now.spot c.args.e.now.ty c.args.both (expr_view c.args.left.now) (expr_view c.args.right.now) c.type_of.result c.type_of-2.result c.in_ok-first.first c.kept_if-go.result c.type_of.ensures c.type_of-2.ensures c.requires.ready c.in_ok-x.ensures c.in_ok-first.ensures c.in_ok-y.ensures).1).1

pub expressions::logic-and-requires-clause-room : goal.expressions::logic-and-requires-clause-room
expressions::logic-and-requires-clause-room t c =
    let r = (logic_bits (program_of c.args.walk.now) (mode_of c.args.walk.now) c.args.depth c.args.at c.args.both (expr_view c.args.right.now) c.type_of-2.result c.kept_if-go.result c.in_ok-second.second c.kept_if-hit.result c.type_of-2.ensures (kept_in c.test.new.sym.net c.args.both c.in_ok-first.first c.kept_if-go.result c.kept_if-go.ensures c.in_ok-first.ensures.means.inside) c.in_ok-y.ensures c.in_ok-second.ensures c.kept_if-hit.ensures (logic_second (program_of c.args.walk.now) (mode_of c.args.walk.now) c.args.depth c.args.at c.args.e.now.spot c.args.e.now.ty c.args.both (expr_view c.args.left.now) (expr_view c.args.right.now) c.type_of.result c.type_of-2.result c.in_ok-first.first c.kept_if-go.result c.type_of.ensures c.type_of-2.ensures c.requires.ready c.in_ok-x.ensures c.in_ok-first.ensures c.in_ok-y.ensures).1).2 in
    omega (arith, r)

pub expressions::logic-truth-requires-clause-fits : goal.expressions::logic-truth-requires-clause-fits
expressions::logic-truth-requires-clause-fits t c =
    state_grown (program_of c.args.walk.now) c.in_ok-all.ensures.grown c.in_ok-second.ensures.turned.fits

pub expressions::logic-truth-requires-clause-bit_in : goal.expressions::logic-truth-requires-clause-bit_in
expressions::logic-truth-requires-clause-bit_in t c =
    kept_in c.and.new.self c.args.both c.in_ok-all.all c.kept_if-decided.result c.kept_if-decided.ensures c.in_ok-all.ensures.value.inside

pub expressions::logic-truth-requires-clause-room : goal.expressions::logic-truth-requires-clause-room
expressions::logic-truth-requires-clause-room t c =
    let r = (logic_bits (program_of c.args.walk.now) (mode_of c.args.walk.now) c.args.depth c.args.at c.args.both (expr_view c.args.right.now) c.type_of-2.result c.kept_if-go.result c.in_ok-second.second c.kept_if-hit.result c.type_of-2.ensures (kept_in c.test.new.sym.net c.args.both c.in_ok-first.first c.kept_if-go.result c.kept_if-go.ensures c.in_ok-first.ensures.means.inside) c.in_ok-y.ensures c.in_ok-second.ensures c.kept_if-hit.ensures (logic_second (program_of c.args.walk.now) (mode_of c.args.walk.now) c.args.depth c.args.at c.args.e.now.spot c.args.e.now.ty c.args.both (expr_view c.args.left.now) (expr_view c.args.right.now) c.type_of.result c.type_of-2.result c.in_ok-first.first c.kept_if-go.result c.type_of.ensures c.type_of-2.ensures c.requires.ready c.in_ok-x.ensures c.in_ok-first.ensures c.in_ok-y.ensures).1).2 in
    omega (arith, (longer_by (added_of c.in_ok-all.ensures.grown)).1, r)

pub expressions::logic-returns : goal.expressions::logic-returns
expressions::logic-returns t c =
    logic_step (program_of c.args.walk.now) (mode_of c.args.walk.now) c.args.depth c.args.at c.args.e.now.spot c.args.e.now.ty c.args.both (expr_view c.args.left.now) (expr_view c.args.right.now) c.type_of.result c.type_of-2.result c.in_ok-first.first c.in_ok-second.second c.kept_if-go.result c.kept_if-hit.result c.in_ok-all.all c.kept_if-decided.result c.type_of.ensures c.type_of-2.ensures
    c.requires.ready c.in_ok-x.ensures c.in_ok-first.ensures c.kept_if-go.ensures c.in_ok-y.ensures c.in_ok-second.ensures c.kept_if-hit.ensures c.in_ok-all.ensures.grown c.in_ok-all.ensures.value c.kept_if-decided.ensures c.in_ok-r.ensures

pub expressions::conditional-pick-requires : goal.expressions::conditional-pick-requires
expressions::conditional-pick-requires t c =
    (omega (arith, c.decreases, ap (λ k. weight_of (program_of c.args.walk.now) (mode_of c.args.walk.now) c.args.depth (Expr c.args.e.now.spot k (Choose c.args.mark (expr_view c.args.condition.now) (expr_view c.args.yes.now) (expr_view c.args.no.now)))) c.in-Some.is), (c.requires.walk, subst (λ k. Ready (program_of c.args.walk.now) (mode_of c.args.walk.now) c.args.depth c.args.at c.args.sym.now (Expr c.args.e.now.spot k (Choose c.args.mark (expr_view c.args.condition.now) (expr_view c.args.yes.now) (expr_view c.args.no.now)))) c.in-Some.is c.requires.ready))

pub expressions::conditional-returns-in_ok-r-in-Some : goal.expressions::conditional-returns-in_ok-r-in-Some
expressions::conditional-returns-in_ok-r-in-Some t c =
    subst (λ k. Values (program_of c.args.walk.now) (mode_of c.args.walk.now) c.args.depth c.args.at Used (Expr c.args.e.now.spot k (Choose c.args.mark (expr_view c.args.condition.now) (expr_view c.args.yes.now) (expr_view c.args.no.now))) c.args.sym.now c.pick.new.sym c.in_ok-r-in-Some.r.bits) (sym c.in-Some.is) c.in_ok-r-in-Some.ensures

pub expressions::conditional-void_arms-requires : goal.expressions::conditional-void_arms-requires
expressions::conditional-void_arms-requires t c =
    (omega (arith, c.decreases, ap (λ k. weight_of (program_of c.args.walk.now) (mode_of c.args.walk.now) c.args.depth (Expr c.args.e.now.spot k (Choose c.args.mark (expr_view c.args.condition.now) (expr_view c.args.yes.now) (expr_view c.args.no.now)))) c.in-None.is), (c.requires.walk, subst (λ k. Ready (program_of c.args.walk.now) (mode_of c.args.walk.now) c.args.depth c.args.at c.args.sym.now (Expr c.args.e.now.spot k (Choose c.args.mark (expr_view c.args.condition.now) (expr_view c.args.yes.now) (expr_view c.args.no.now)))) c.in-None.is c.requires.ready))

pub expressions::conditional-returns-in_ok-r-in-None : goal.expressions::conditional-returns-in_ok-r-in-None
expressions::conditional-returns-in_ok-r-in-None t c =
    subst (λ k. Values (program_of c.args.walk.now) (mode_of c.args.walk.now) c.args.depth c.args.at Used (Expr c.args.e.now.spot k (Choose c.args.mark (expr_view c.args.condition.now) (expr_view c.args.yes.now) (expr_view c.args.no.now))) c.args.sym.now c.void_arms.new.sym c.in_ok-r-in-None.r.bits) (sym c.in-None.is) c.in_ok-r-in-None.ensures

pub expressions::pick-eval-requires : goal.expressions::pick-eval-requires
expressions::pick-eval-requires t c =
    (omega (arith, c.decreases), (c.requires.walk, first_ready (program_of c.args.walk.now) (mode_of c.args.walk.now) c.args.depth c.args.at (Expr c.args.spot (Some c.args.to) (Choose c.args.mark (expr_view c.args.condition.now) (expr_view c.args.yes.now) (expr_view c.args.no.now))) (expr_view c.args.condition.now) c.requires.ready (choose_parts (program_of c.args.walk.now) c.args.spot c.args.mark (Some c.args.to) (expr_view c.args.condition.now) (expr_view c.args.yes.now) (expr_view c.args.no.now) c.requires.ready.types).typed_test (omega arith)))

pub expressions::pick-test-requires-clause-x_in : goal.expressions::pick-test-requires-clause-x_in
expressions::pick-test-requires-clause-x_in t c =
    (pick_first (program_of c.args.walk.now) (mode_of c.args.walk.now) c.args.depth c.args.at c.args.spot c.args.mark (Some c.args.to) (expr_view c.args.condition.now) (expr_view c.args.yes.now) (expr_view c.args.no.now) c.type_of.result c.type_of.ensures c.requires.ready c.in_ok-e.ensures).0

pub expressions::pick-test-requires-clause-room : goal.expressions::pick-test-requires-clause-room
expressions::pick-test-requires-clause-room t c =
    (pick_first (program_of c.args.walk.now) (mode_of c.args.walk.now) c.args.depth c.args.at c.args.spot c.args.mark (Some c.args.to) (expr_view c.args.condition.now) (expr_view c.args.yes.now) (expr_view c.args.no.now) c.type_of.result c.type_of.ensures c.requires.ready c.in_ok-e.ensures).1

pub expressions::pick-eval_where-requires : goal.expressions::pick-eval_where-requires
expressions::pick-eval_where-requires t c =
    (omega (arith, c.decreases), (c.requires.walk, pick_yes (program_of c.args.walk.now) (mode_of c.args.walk.now) c.args.depth c.args.at c.args.spot c.args.mark (Some c.args.to) (expr_view c.args.condition.now) (expr_view c.args.yes.now) (expr_view c.args.no.now) c.type_of.result c.in_ok-go.go c.type_of.ensures c.requires.ready c.in_ok-e.ensures (branched (program_of c.args.walk.now) (mode_of c.args.walk.now) c.args.depth c.args.at c.args.mark c.type_of.result c.in_ok-go.go c.in_ok-go.ensures c.in_ok-tell_branch.ensures)))

pub expressions::pick-convert-requires-clause-x_in : goal.expressions::pick-convert-requires-clause-x_in
expressions::pick-convert-requires-clause-x_in t c =
    (pick_yes_value (program_of c.args.walk.now) (mode_of c.args.walk.now) c.args.depth c.args.at c.args.spot c.args.mark c.args.to (expr_view c.args.condition.now) (expr_view c.args.yes.now) (expr_view c.args.no.now) c.type_of.result c.type_of-2.result c.in_ok-go.go c.type_of.ensures c.type_of-2.ensures c.requires.ready c.in_ok-e.ensures (branched (program_of c.args.walk.now) (mode_of c.args.walk.now) c.args.depth c.args.at c.args.mark c.type_of.result c.in_ok-go.go c.in_ok-go.ensures c.in_ok-tell_branch.ensures) c.in_ok-x.ensures).0

pub expressions::pick-convert-requires-clause-room : goal.expressions::pick-convert-requires-clause-room
expressions::pick-convert-requires-clause-room t c =
    (pick_yes_value (program_of c.args.walk.now) (mode_of c.args.walk.now) c.args.depth c.args.at c.args.spot c.args.mark c.args.to (expr_view c.args.condition.now) (expr_view c.args.yes.now) (expr_view c.args.no.now) c.type_of.result c.type_of-2.result c.in_ok-go.go c.type_of.ensures c.type_of-2.ensures c.requires.ready c.in_ok-e.ensures (branched (program_of c.args.walk.now) (mode_of c.args.walk.now) c.args.depth c.args.at c.args.mark c.type_of.result c.in_ok-go.go c.in_ok-go.ensures c.in_ok-tell_branch.ensures) c.in_ok-x.ensures).1

pub expressions::pick-eval_where-requires-2 : goal.expressions::pick-eval_where-requires-2
expressions::pick-eval_where-requires-2 t c =
    (omega (arith, c.decreases), (c.requires.walk, pick_no (program_of c.args.walk.now) (mode_of c.args.walk.now) c.args.depth c.args.at c.args.spot c.args.mark c.args.to (expr_view c.args.condition.now) (expr_view c.args.yes.now) (expr_view c.args.no.now) c.type_of.result c.type_of-2.result c.in_ok-go.go c.not-other.result c.type_of.ensures c.type_of-2.ensures c.not-other.ensures c.requires.ready c.in_ok-e.ensures (branched (program_of c.args.walk.now) (mode_of c.args.walk.now) c.args.depth c.args.at c.args.mark c.type_of.result c.in_ok-go.go c.in_ok-go.ensures c.in_ok-tell_branch.ensures) c.in_ok-x.ensures c.in_ok-u.ensures))

pub expressions::pick-convert-requires-2-clause-x_in : goal.expressions::pick-convert-requires-2-clause-x_in
expressions::pick-convert-requires-2-clause-x_in t c =
    (pick_no_value (program_of c.args.walk.now) (mode_of c.args.walk.now) c.args.depth c.args.at c.args.spot c.args.mark c.args.to (expr_view c.args.condition.now) (expr_view c.args.yes.now) (expr_view c.args.no.now) c.type_of.result c.type_of-2.result c.type_of-3.result c.in_ok-go.go c.not-other.result c.type_of.ensures c.type_of-2.ensures c.type_of-3.ensures c.requires.ready c.in_ok-e.ensures (branched (program_of c.args.walk.now) (mode_of c.args.walk.now) c.args.depth c.args.at c.args.mark c.type_of.result c.in_ok-go.go c.in_ok-go.ensures c.in_ok-tell_branch.ensures) c.in_ok-x.ensures c.in_ok-u.ensures c.in_ok-y.ensures).0

pub expressions::pick-convert-requires-2-clause-room : goal.expressions::pick-convert-requires-2-clause-room
expressions::pick-convert-requires-2-clause-room t c =
    let r = (pick_no_value (program_of c.args.walk.now) (mode_of c.args.walk.now) c.args.depth c.args.at c.args.spot c.args.mark c.args.to (expr_view c.args.condition.now) (expr_view c.args.yes.now) (expr_view c.args.no.now) c.type_of.result c.type_of-2.result c.type_of-3.result c.in_ok-go.go c.not-other.result c.type_of.ensures c.type_of-2.ensures c.type_of-3.ensures c.requires.ready c.in_ok-e.ensures (branched (program_of c.args.walk.now) (mode_of c.args.walk.now) c.args.depth c.args.at c.args.mark c.type_of.result c.in_ok-go.go c.in_ok-go.ensures c.in_ok-tell_branch.ensures) c.in_ok-x.ensures c.in_ok-u.ensures c.in_ok-y.ensures).1 in
    omega (arith, r)

pub expressions::pick-choose-requires-clause-test_in : goal.expressions::pick-choose-requires-clause-test_in
expressions::pick-choose-requires-clause-test_in t c =
    (pick_last (program_of c.args.walk.now) (mode_of c.args.walk.now) c.args.depth c.args.at c.args.to (expr_view c.args.yes.now) (expr_view c.args.no.now) c.type_of-3.result c.in_ok-go.go c.not-other.result c.type_of-3.ensures (branched (program_of c.args.walk.now) (mode_of c.args.walk.now) c.args.depth c.args.at c.args.mark c.type_of.result c.in_ok-go.go c.in_ok-go.ensures c.in_ok-tell_branch.ensures).inside c.in_ok-x.ensures c.in_ok-u.ensures c.in_ok-y.ensures c.in_ok-w.ensures (pick_no_value (program_of c.args.walk.now) (mode_of c.args.walk.now) c.args.depth c.args.at c.args.spot c.args.mark c.args.to (expr_view c.args.condition.now) (expr_view c.args.yes.now) (expr_view c.args.no.now) c.type_of.result c.type_of-2.result c.type_of-3.result c.in_ok-go.go c.not-other.result c.type_of.ensures c.type_of-2.ensures c.type_of-3.ensures c.requires.ready c.in_ok-e.ensures (branched (program_of c.args.walk.now) (mode_of c.args.walk.now) c.args.depth c.args.at c.args.mark c.type_of.result c.in_ok-go.go c.in_ok-go.ensures c.in_ok-tell_branch.ensures) c.in_ok-x.ensures c.in_ok-u.ensures c.in_ok-y.ensures).1).0

pub expressions::pick-choose-requires-clause-yes_in : goal.expressions::pick-choose-requires-clause-yes_in
expressions::pick-choose-requires-clause-yes_in t c =
    (pick_last (program_of c.args.walk.now) (mode_of c.args.walk.now) c.args.depth c.args.at c.args.to (expr_view c.args.yes.now) (expr_view c.args.no.now) c.type_of-3.result c.in_ok-go.go c.not-other.result c.type_of-3.ensures (branched (program_of c.args.walk.now) (mode_of c.args.walk.now) c.args.depth c.args.at c.args.mark c.type_of.result c.in_ok-go.go c.in_ok-go.ensures c.in_ok-tell_branch.ensures).inside c.in_ok-x.ensures c.in_ok-u.ensures c.in_ok-y.ensures c.in_ok-w.ensures (pick_no_value (program_of c.args.walk.now) (mode_of c.args.walk.now) c.args.depth c.args.at c.args.spot c.args.mark c.args.to (expr_view c.args.condition.now) (expr_view c.args.yes.now) (expr_view c.args.no.now) c.type_of.result c.type_of-2.result c.type_of-3.result c.in_ok-go.go c.not-other.result c.type_of.ensures c.type_of-2.ensures c.type_of-3.ensures c.requires.ready c.in_ok-e.ensures (branched (program_of c.args.walk.now) (mode_of c.args.walk.now) c.args.depth c.args.at c.args.mark c.type_of.result c.in_ok-go.go c.in_ok-go.ensures c.in_ok-tell_branch.ensures) c.in_ok-x.ensures c.in_ok-u.ensures c.in_ok-y.ensures).1).1

pub expressions::pick-choose-requires-clause-room : goal.expressions::pick-choose-requires-clause-room
expressions::pick-choose-requires-clause-room t c =
    (pick_last (program_of c.args.walk.now) (mode_of c.args.walk.now) c.args.depth c.args.at c.args.to (expr_view c.args.yes.now) (expr_view c.args.no.now) c.type_of-3.result c.in_ok-go.go c.not-other.result c.type_of-3.ensures (branched (program_of c.args.walk.now) (mode_of c.args.walk.now) c.args.depth c.args.at c.args.mark c.type_of.result c.in_ok-go.go c.in_ok-go.ensures c.in_ok-tell_branch.ensures).inside c.in_ok-x.ensures c.in_ok-u.ensures c.in_ok-y.ensures c.in_ok-w.ensures (pick_no_value (program_of c.args.walk.now) (mode_of c.args.walk.now) c.args.depth c.args.at c.args.spot c.args.mark c.args.to (expr_view c.args.condition.now) (expr_view c.args.yes.now) (expr_view c.args.no.now) c.type_of.result c.type_of-2.result c.type_of-3.result c.in_ok-go.go c.not-other.result c.type_of.ensures c.type_of-2.ensures c.type_of-3.ensures c.requires.ready c.in_ok-e.ensures (branched (program_of c.args.walk.now) (mode_of c.args.walk.now) c.args.depth c.args.at c.args.mark c.type_of.result c.in_ok-go.go c.in_ok-go.ensures c.in_ok-tell_branch.ensures) c.in_ok-x.ensures c.in_ok-u.ensures c.in_ok-y.ensures).1).2

pub expressions::pick-tell_branch-requires-clause-room : goal.expressions::pick-tell_branch-requires-clause-room
expressions::pick-tell_branch-requires-clause-room t c =
    branch_room (program_of c.args.walk.now) (mode_of c.args.walk.now) c.args.depth c.args.at c.args.spot c.args.mark (Some c.args.to) (expr_view c.args.condition.now) (expr_view c.args.yes.now) (expr_view c.args.no.now) c.type_of.result c.in_ok-go.go c.type_of.ensures c.requires.ready c.in_ok-e.ensures c.in_ok-go.ensures

pub expressions::pick-returns : goal.expressions::pick-returns
expressions::pick-returns t c =
    pick_step (program_of c.args.walk.now) (mode_of c.args.walk.now) c.args.depth c.args.at ((mode_of c.args.walk.now).scale.test c.args.mark) c.args.spot c.args.mark c.args.to (expr_view c.args.condition.now) (expr_view c.args.yes.now) (expr_view c.args.no.now) c.type_of.result c.type_of-2.result c.type_of-3.result c.in_ok-go.go c.not-other.result c.type_of.ensures c.type_of-2.ensures c.type_of-3.ensures c.requires.ready c.in_ok-e.ensures c.in_ok-go.ensures c.not-other.ensures
    (told_as (program_of c.args.walk.now) (mode_of c.args.walk.now) (λ v. Branch c.args.mark (Truth (not (is_zero (typed c.args.walk.now.program.now.model c.type_of.result v c.eval.new.sym.net c.in_ok-e.e.bits))))) c.in_ok-tell_branch.ensures (λ v. ap (λ t. Branch c.args.mark (Truth t)) (c.in_ok-go.ensures.means.is v))) (omega arith)
    c.in_ok-x.ensures c.in_ok-u.ensures c.in_ok-y.ensures c.in_ok-w.ensures c.in_ok-r.ensures

pub expressions::void_arms-eval-requires : goal.expressions::void_arms-eval-requires
expressions::void_arms-eval-requires t c =
    (omega (arith, c.decreases), (c.requires.walk, first_ready (program_of c.args.walk.now) (mode_of c.args.walk.now) c.args.depth c.args.at (Expr c.args.spot None (Choose c.args.mark (expr_view c.args.condition.now) (expr_view c.args.yes.now) (expr_view c.args.no.now))) (expr_view c.args.condition.now) c.requires.ready (choose_parts (program_of c.args.walk.now) c.args.spot c.args.mark None (expr_view c.args.condition.now) (expr_view c.args.yes.now) (expr_view c.args.no.now) c.requires.ready.types).typed_test (omega arith)))

pub expressions::void_arms-test-requires-clause-x_in : goal.expressions::void_arms-test-requires-clause-x_in
expressions::void_arms-test-requires-clause-x_in t c =
    (pick_first (program_of c.args.walk.now) (mode_of c.args.walk.now) c.args.depth c.args.at c.args.spot c.args.mark None (expr_view c.args.condition.now) (expr_view c.args.yes.now) (expr_view c.args.no.now) c.type_of.result c.type_of.ensures c.requires.ready c.in_ok-e.ensures).0

pub expressions::void_arms-test-requires-clause-room : goal.expressions::void_arms-test-requires-clause-room
expressions::void_arms-test-requires-clause-room t c =
    (pick_first (program_of c.args.walk.now) (mode_of c.args.walk.now) c.args.depth c.args.at c.args.spot c.args.mark None (expr_view c.args.condition.now) (expr_view c.args.yes.now) (expr_view c.args.no.now) c.type_of.result c.type_of.ensures c.requires.ready c.in_ok-e.ensures).1

pub expressions::void_arms-eval_where-requires : goal.expressions::void_arms-eval_where-requires
expressions::void_arms-eval_where-requires t c =
    (omega (arith, c.decreases), (c.requires.walk, pick_yes (program_of c.args.walk.now) (mode_of c.args.walk.now) c.args.depth c.args.at c.args.spot c.args.mark None (expr_view c.args.condition.now) (expr_view c.args.yes.now) (expr_view c.args.no.now) c.type_of.result c.in_ok-go.go c.type_of.ensures c.requires.ready c.in_ok-e.ensures (branched (program_of c.args.walk.now) (mode_of c.args.walk.now) c.args.depth c.args.at c.args.mark c.type_of.result c.in_ok-go.go c.in_ok-go.ensures c.in_ok-tell_branch.ensures)))

pub expressions::void_arms-eval_where-requires-2 : goal.expressions::void_arms-eval_where-requires-2
expressions::void_arms-eval_where-requires-2 t c =
    (omega (arith, c.decreases), (c.requires.walk, void_no (program_of c.args.walk.now) (mode_of c.args.walk.now) c.args.depth c.args.at c.args.spot c.args.mark (expr_view c.args.condition.now) (expr_view c.args.yes.now) (expr_view c.args.no.now) c.type_of.result c.in_ok-go.go c.not-other.result c.type_of.ensures c.not-other.ensures c.requires.ready c.in_ok-e.ensures (branched (program_of c.args.walk.now) (mode_of c.args.walk.now) c.args.depth c.args.at c.args.mark c.type_of.result c.in_ok-go.go c.in_ok-go.ensures c.in_ok-tell_branch.ensures) c.in_ok-_nothing.ensures))

pub expressions::void_arms-tell_branch-requires-clause-room : goal.expressions::void_arms-tell_branch-requires-clause-room
expressions::void_arms-tell_branch-requires-clause-room t c =
    branch_room (program_of c.args.walk.now) (mode_of c.args.walk.now) c.args.depth c.args.at c.args.spot c.args.mark None (expr_view c.args.condition.now) (expr_view c.args.yes.now) (expr_view c.args.no.now) c.type_of.result c.in_ok-go.go c.type_of.ensures c.requires.ready c.in_ok-e.ensures c.in_ok-go.ensures

pub expressions::void_arms-returns : goal.expressions::void_arms-returns
expressions::void_arms-returns t c =
    void_step (program_of c.args.walk.now) (mode_of c.args.walk.now) c.args.depth c.args.at ((mode_of c.args.walk.now).scale.test c.args.mark) c.args.spot c.args.mark (expr_view c.args.condition.now) (expr_view c.args.yes.now) (expr_view c.args.no.now) c.type_of.result c.in_ok-go.go c.not-other.result c.type_of.ensures c.requires.ready c.in_ok-e.ensures c.in_ok-go.ensures c.not-other.ensures
    (told_as (program_of c.args.walk.now) (mode_of c.args.walk.now) (λ v. Branch c.args.mark (Truth (not (is_zero (typed c.args.walk.now.program.now.model c.type_of.result v c.eval.new.sym.net c.in_ok-e.e.bits))))) c.in_ok-tell_branch.ensures (λ v. ap (λ t. Branch c.args.mark (Truth t)) (c.in_ok-go.ensures.means.is v))) (omega arith)
    c.in_ok-_nothing.ensures c.in_ok-r.ensures

pub expressions::call-call_defined-requires : goal.expressions::call-call_defined-requires
expressions::call-call_defined-requires t c =
    (omega (arith, c.decreases, ap (λ k. weight_of (program_of c.args.walk.now) (mode_of c.args.walk.now) c.args.depth (Expr c.args.e.now.spot c.args.e.now.ty (Call k (exprs_view c.args.args.now) c.args.close))) c.in-Defined.is), (c.requires.walk, subst (λ k. Ready (program_of c.args.walk.now) (mode_of c.args.walk.now) c.args.depth c.args.at c.args.sym.now (Expr c.args.e.now.spot c.args.e.now.ty (Call k (exprs_view c.args.args.now) c.args.close))) c.in-Defined.is c.requires.ready))

pub expressions::call-returns-in-Defined : goal.expressions::call-returns-in-Defined
expressions::call-returns-in-Defined t c =
    as_call (program_of c.args.walk.now) (mode_of c.args.walk.now) c.args.depth c.args.at c.args.sym.now c.call_defined.new.sym (use_of c.args.used) c.args.e.now.spot c.args.e.now.ty (Call c.args.callee (exprs_view c.args.args.now) c.args.close) (Call (Defined c.in-Defined.f) (exprs_view c.args.args.now) c.args.close) c.call_defined.result (ap (λ k. Call k (exprs_view c.args.args.now) c.args.close) c.in-Defined.is) c.call_defined.ensures

pub expressions::call-tell_enter-requires-clause-room : goal.expressions::call-tell_enter-requires-clause-room
expressions::call-tell_enter-requires-clause-room t c =
    omega (arith, c.requires.ready.room)

pub expressions::call-input-requires-clause-room : goal.expressions::call-input-requires-clause-room
expressions::call-input-requires-clause-room t c =
    omega (arith, (longer_by c.in_ok-tell_enter-in-Input.ensures.added).1, c.requires.ready.room)

pub expressions::call-tell_value-requires-clause-fits : goal.expressions::call-tell_value-requires-clause-fits
expressions::call-tell_value-requires-clause-fits t c =
    (c.in_ok-r-in-Input.ensures (mode_of c.args.walk.now)).follows.fits

pub expressions::call-tell_value-requires-clause-bits_in : goal.expressions::call-tell_value-requires-clause-bits_in
expressions::call-tell_value-requires-clause-bits_in t c =
    (c.in_ok-r-in-Input.ensures (mode_of c.args.walk.now)).bits_in

pub expressions::call-tell_value-requires-clause-room : goal.expressions::call-tell_value-requires-clause-room
expressions::call-tell_value-requires-clause-room t c =
    let ready = subst (λ k. Ready (program_of c.args.walk.now) (mode_of c.args.walk.now) c.args.depth c.args.at c.args.sym.now (Expr c.args.e.now.spot c.args.e.now.ty (Call k (exprs_view c.args.args.now) c.args.close))) c.in-Input.is c.requires.ready in
    omega (arith, (longer_by c.in_ok-tell_enter-in-Input.ensures.added).1, (longer_by (c.in_ok-r-in-Input.ensures (mode_of c.args.walk.now)).follows.added).1, ready.room)

pub expressions::call-reach-requires-clause-room : goal.expressions::call-reach-requires-clause-room
expressions::call-reach-requires-clause-room t c =
    omega (arith, (longer_by c.in_ok-tell_enter-in-ReachError.ensures.added).1, c.requires.ready.room)

pub expressions::call-end-requires-clause-room : goal.expressions::call-end-requires-clause-room
expressions::call-end-requires-clause-room t c =
    omega (arith, (longer_by c.in_ok-tell_enter-in-Abort.ensures.added).1, c.requires.ready.room)

pub expressions::call-returns-in_ok-tell_value-in-Input : goal.expressions::call-returns-in_ok-tell_value-in-Input
expressions::call-returns-in_ok-tell_value-in-Input t c =
    subst (λ k. Values (program_of c.args.walk.now) (mode_of c.args.walk.now) c.args.depth c.args.at (use_of c.args.used) (Expr c.args.e.now.spot c.args.e.now.ty (Call k (exprs_view c.args.args.now) c.args.close)) c.args.sym.now c.tell_value.new.sym c.in_ok-r-in-Input.r.bits) (sym c.in-Input.is)
    (wanted (program_of c.args.walk.now) (mode_of c.args.walk.now) c.args.depth c.args.at (use_of c.args.used) (Expr c.args.e.now.spot c.args.e.now.ty (Call (Input c.in-Input.of) (exprs_view c.args.args.now) c.args.close)) (λ v l. refl) (input_values (program_of c.args.walk.now) (mode_of c.args.walk.now) c.args.depth c.args.at ((mode_of c.args.walk.now).scale.enters c.args.close) ((mode_of c.args.walk.now).scale.returns c.args.close) c.args.e.now.spot c.args.close c.args.e.now.ty c.in-Input.of (exprs_view c.args.args.now) (subst (λ k. Ready (program_of c.args.walk.now) (mode_of c.args.walk.now) c.args.depth c.args.at c.args.sym.now (Expr c.args.e.now.spot c.args.e.now.ty (Call k (exprs_view c.args.args.now) c.args.close))) c.in-Input.is c.requires.ready) c.in_ok-tell_enter-in-Input.ensures (c.in_ok-r-in-Input.ensures (mode_of c.args.walk.now))
    c.in_ok-tell_value-in-Input.ensures (omega arith) (omega arith)))

pub expressions::call-returns-in_ok-reach-in-ReachError : goal.expressions::call-returns-in_ok-reach-in-ReachError
expressions::call-returns-in_ok-reach-in-ReachError t c =
    subst (λ k. Values (program_of c.args.walk.now) (mode_of c.args.walk.now) c.args.depth c.args.at (use_of c.args.used) (Expr c.args.e.now.spot c.args.e.now.ty (Call k (exprs_view c.args.args.now) c.args.close)) c.args.sym.now c.reach.new.sym c.new-bits.result) (sym c.in-ReachError.is)
    (wanted (program_of c.args.walk.now) (mode_of c.args.walk.now) c.args.depth c.args.at (use_of c.args.used) (Expr c.args.e.now.spot c.args.e.now.ty (Call ReachError (exprs_view c.args.args.now) c.args.close)) (λ v l. reach_alike (program_of c.args.walk.now) (mode_of c.args.walk.now) c.args.depth c.args.at (use_of c.args.used) c.args.e.now.spot c.args.close c.args.e.now.ty (exprs_view c.args.args.now) v l) (reach_values (program_of c.args.walk.now) (mode_of c.args.walk.now) c.args.depth c.args.at ((mode_of c.args.walk.now).scale.enters c.args.close) c.new-bits.result c.args.e.now.spot c.args.close c.args.e.now.ty (exprs_view c.args.args.now) (subst (λ k. Ready (program_of c.args.walk.now) (mode_of c.args.walk.now) c.args.depth c.args.at c.args.sym.now (Expr c.args.e.now.spot c.args.e.now.ty (Call k (exprs_view c.args.args.now) c.args.close))) c.in-ReachError.is c.requires.ready) c.in_ok-tell_enter-in-ReachError.ensures
    (c.in_ok-reach-in-ReachError.ensures (site_of (program_of c.args.walk.now) (mode_of c.args.walk.now) c.args.depth c.args.at c.args.e.now.spot c.args.close c.args.e.now.ty) refl) (omega arith)))

pub expressions::call-returns-in_ok-end-in-Abort : goal.expressions::call-returns-in_ok-end-in-Abort
expressions::call-returns-in_ok-end-in-Abort t c =
    subst (λ k. Values (program_of c.args.walk.now) (mode_of c.args.walk.now) c.args.depth c.args.at (use_of c.args.used) (Expr c.args.e.now.spot c.args.e.now.ty (Call k (exprs_view c.args.args.now) c.args.close)) c.args.sym.now c.end.new.sym c.new-bits-in-Abort.result) (sym c.in-Abort.is)
    (wanted (program_of c.args.walk.now) (mode_of c.args.walk.now) c.args.depth c.args.at (use_of c.args.used) (Expr c.args.e.now.spot c.args.e.now.ty (Call Abort (exprs_view c.args.args.now) c.args.close)) (λ v l. refl) (abort_values (program_of c.args.walk.now) (mode_of c.args.walk.now) c.args.depth c.args.at ((mode_of c.args.walk.now).scale.enters c.args.close) c.new-bits-in-Abort.result c.args.e.now.spot c.args.close c.args.e.now.ty (exprs_view c.args.args.now) (subst (λ k. Ready (program_of c.args.walk.now) (mode_of c.args.walk.now) c.args.depth c.args.at c.args.sym.now (Expr c.args.e.now.spot c.args.e.now.ty (Call k (exprs_view c.args.args.now) c.args.close))) c.in-Abort.is c.requires.ready) c.in_ok-tell_enter-in-Abort.ensures (c.in_ok-end-in-Abort.ensures (mode_of c.args.walk.now)) (omega arith)))

pub expressions::call-exit-requires : goal.expressions::call-exit-requires
expressions::call-exit-requires t c =
    (omega (arith, c.decreases, ap (λ k. weight_of (program_of c.args.walk.now) (mode_of c.args.walk.now) c.args.depth (Expr c.args.e.now.spot c.args.e.now.ty (Call k (exprs_view c.args.args.now) c.args.close))) c.in-Exit.is), (c.requires.walk, (subst (λ k. Ready (program_of c.args.walk.now) (mode_of c.args.walk.now) c.args.depth c.args.at c.args.sym.now (Expr c.args.e.now.spot c.args.e.now.ty (Call k (exprs_view c.args.args.now) c.args.close))) c.in-Exit.is c.requires.ready)))

pub expressions::call-returns-in-Exit : goal.expressions::call-returns-in-Exit
expressions::call-returns-in-Exit t c =
    as_node (program_of c.args.walk.now) (mode_of c.args.walk.now) c.args.depth c.args.at c.args.sym.now c.exit.new.sym (use_of c.args.used) c.args.e.now.spot c.args.e.now.ty (Call c.args.callee (exprs_view c.args.args.now) c.args.close) (Call Exit (exprs_view c.args.args.now) c.args.close) c.exit.result (ap (λ k. Call k (exprs_view c.args.args.now) c.args.close) c.in-Exit.is) (λ v l. refl) c.exit.ensures

pub expressions::exit-bounds-args-0 : goal.expressions::exit-bounds-args-0
expressions::exit-bounds-args-0 t c =
    let counted = exit_counts (program_of c.args.walk.now) c.args.e.now.spot c.args.close c.args.e.now.ty (exprs_view c.args.args.now) c.requires.ready.types in
    omega (arith, one_counted c.args.args.now counted)

pub expressions::exit-eval-requires : goal.expressions::exit-eval-requires
expressions::exit-eval-requires t c =
    let counted = exit_counts (program_of c.args.walk.now) c.args.e.now.spot c.args.close c.args.e.now.ty (exprs_view c.args.args.now) c.requires.ready.types in
    let one : exprs_view c.args.args.now ≡ MoreExp (expr_view c.index-args-0.result) NoExp = one_argument c.args.args.now c.index-args-0.result counted ∙ ap (λ x. MoreExp (expr_view x) NoExp) (sym c.index-args-0.is) in
    let ready = subst (λ k. Ready (program_of c.args.walk.now) (mode_of c.args.walk.now) c.args.depth c.args.at c.args.sym.now (Expr c.args.e.now.spot c.args.e.now.ty (Call Exit k c.args.close))) one c.requires.ready in
    (omega (arith, c.decreases, ap (λ k. weight_of (program_of c.args.walk.now) (mode_of c.args.walk.now) c.args.depth (Expr c.args.e.now.spot c.args.e.now.ty (Call Exit k c.args.close))) one), (c.requires.walk, exit_ready (program_of c.args.walk.now) (mode_of c.args.walk.now) c.args.depth c.args.at c.args.e.now.spot c.args.close c.args.e.now.ty (expr_view c.index-args-0.result) ready))

pub expressions::exit-tell_enter-requires-clause-room : goal.expressions::exit-tell_enter-requires-clause-room
expressions::exit-tell_enter-requires-clause-room t c =
    let counted = exit_counts (program_of c.args.walk.now) c.args.e.now.spot c.args.close c.args.e.now.ty (exprs_view c.args.args.now) c.requires.ready.types in
    let one : exprs_view c.args.args.now ≡ MoreExp (expr_view c.index-args-0.result) NoExp = one_argument c.args.args.now c.index-args-0.result counted ∙ ap (λ x. MoreExp (expr_view x) NoExp) (sym c.index-args-0.is) in
    let ready = subst (λ k. Ready (program_of c.args.walk.now) (mode_of c.args.walk.now) c.args.depth c.args.at c.args.sym.now (Expr c.args.e.now.spot c.args.e.now.ty (Call Exit k c.args.close))) one c.requires.ready in
    omega (arith, (longer_by c.in_ok-r.ensures.follows.added).1, ready.room)

pub expressions::exit-end-requires-clause-room : goal.expressions::exit-end-requires-clause-room
expressions::exit-end-requires-clause-room t c =
    let counted = exit_counts (program_of c.args.walk.now) c.args.e.now.spot c.args.close c.args.e.now.ty (exprs_view c.args.args.now) c.requires.ready.types in
    let one : exprs_view c.args.args.now ≡ MoreExp (expr_view c.index-args-0.result) NoExp = one_argument c.args.args.now c.index-args-0.result counted ∙ ap (λ x. MoreExp (expr_view x) NoExp) (sym c.index-args-0.is) in
    let ready = subst (λ k. Ready (program_of c.args.walk.now) (mode_of c.args.walk.now) c.args.depth c.args.at c.args.sym.now (Expr c.args.e.now.spot c.args.e.now.ty (Call Exit k c.args.close))) one c.requires.ready in
    omega (arith, (longer_by c.in_ok-r.ensures.follows.added).1, (longer_by c.in_ok-tell_enter.ensures.added).1, ready.room)

pub expressions::exit-returns : goal.expressions::exit-returns
expressions::exit-returns t c =
    let counted = exit_counts (program_of c.args.walk.now) c.args.e.now.spot c.args.close c.args.e.now.ty (exprs_view c.args.args.now) c.requires.ready.types in
    let one : exprs_view c.args.args.now ≡ MoreExp (expr_view c.index-args-0.result) NoExp = one_argument c.args.args.now c.index-args-0.result counted ∙ ap (λ x. MoreExp (expr_view x) NoExp) (sym c.index-args-0.is) in
    let ready = subst (λ k. Ready (program_of c.args.walk.now) (mode_of c.args.walk.now) c.args.depth c.args.at c.args.sym.now (Expr c.args.e.now.spot c.args.e.now.ty (Call Exit k c.args.close))) one c.requires.ready in
    subst (λ k. Values (program_of c.args.walk.now) (mode_of c.args.walk.now) c.args.depth c.args.at Used (Expr c.args.e.now.spot c.args.e.now.ty (Call Exit k c.args.close)) c.args.sym.now c.end.new.sym c.in_ok-r.r.bits) (sym one) (exit_values (program_of c.args.walk.now) (mode_of c.args.walk.now) c.args.depth c.args.at ((mode_of c.args.walk.now).scale.enters c.args.close) c.in_ok-r.r.bits c.args.e.now.spot c.args.close c.args.e.now.ty (expr_view c.index-args-0.result) ready c.in_ok-r.ensures c.in_ok-tell_enter.ensures (c.in_ok-end.ensures (mode_of c.args.walk.now)) (omega arith))

pub assignments::target-indexed-requires : goal.assignments::target-indexed-requires
assignments::target-indexed-requires t c =
    let form = Index c.in-Index.object (exprs_view c.as_slice.result.now) in
    let e : node_view c.args.e.now.node ≡ form = ap node_view c.in-Index.is ∙ view_of_index c.in-Index.object c.in-Index.indexes ∙ ap (λ es. Index c.in-Index.object (exprs_view es)) (sym c.as_slice.ensures) in
    let ready = subst (λ k. TargetReady (program_of c.args.walk.now) (mode_of c.args.walk.now) c.args.depth c.args.at (finding_in (program_of c.args.walk.now) k) c.args.sym.now (Expr c.args.e.now.spot c.args.e.now.ty k)) e c.requires.ready in
    (omega (arith, c.decreases, ap (λ k. weight_of_target (program_of c.args.walk.now) (mode_of c.args.walk.now) c.args.depth (Expr c.args.e.now.spot c.args.e.now.ty k)) e), (c.requires.walk, ready))

pub assignments::target-returns-in-Var : goal.assignments::target-returns-in-Var
assignments::target-returns-in-Var t c =
    found_scalar (program_of c.args.walk.now) (mode_of c.args.walk.now) c.args.depth c.args.at c.args.sym.now c.args.e.now.spot c.args.e.now.ty (node_view c.args.e.now.node) c.in-Var.object (ap node_view c.in-Var.is) c.requires.ready.fits

pub assignments::target-returns-in-Index : goal.assignments::target-returns-in-Index
assignments::target-returns-in-Index t c =
    let form = Index c.in-Index.object (exprs_view c.as_slice.result.now) in
    let e : node_view c.args.e.now.node ≡ form = ap node_view c.in-Index.is ∙ view_of_index c.in-Index.object c.in-Index.indexes ∙ ap (λ es. Index c.in-Index.object (exprs_view es)) (sym c.as_slice.ensures) in
    subst (λ k. IfOk c.indexed.result (λ cell. Found (program_of c.args.walk.now) (mode_of c.args.walk.now) c.args.depth c.args.at (Expr c.args.e.now.spot c.args.e.now.ty k) c.args.sym.now c.indexed.new.sym cell)) (sym e) c.indexed.ensures

pub assignments::at_index-eval-requires : goal.assignments::at_index-eval-requires
assignments::at_index-eval-requires t c =
    (omega (arith, c.decreases), (c.requires.walk, index_ready (program_of c.args.walk.now) (mode_of c.args.walk.now) c.args.depth c.args.at c.args.e.now.spot c.args.e.now.ty c.args.object (expr_view c.args.index.now) c.requires.ready))

pub assignments::at_index-find-requires-clause-index_in : goal.assignments::at_index-find-requires-clause-index_in
assignments::at_index-find-requires-clause-index_in t c =
    index_in (program_of c.args.walk.now) (mode_of c.args.walk.now) c.args.depth c.args.at c.args.e.now.spot c.args.e.now.ty c.args.object (expr_view c.args.index.now) c.type_of.result c.type_of.ensures c.requires.ready.types c.in_ok-i.ensures

pub assignments::at_index-find-requires-clause-room : goal.assignments::at_index-find-requires-clause-room
assignments::at_index-find-requires-clause-room t c =
    index_room (program_of c.args.walk.now) (mode_of c.args.walk.now) c.args.depth c.args.at c.args.e.now.spot c.args.e.now.ty c.args.object (expr_view c.args.index.now) c.type_of.result c.type_of.ensures c.requires.ready c.in_ok-i.ensures

pub assignments::at_index-returns : goal.assignments::at_index-returns
assignments::at_index-returns t c =
    index_found (program_of c.args.walk.now) (mode_of c.args.walk.now) c.args.depth c.args.at c.args.e.now.spot c.args.e.now.ty c.args.object (expr_view c.args.index.now) c.type_of.result c.in_ok-places.places c.type_of.ensures c.requires.ready.types c.in_ok-i.ensures (c.in_ok-places.ensures (mode_of c.args.walk.now))

pub assignments::at_row-eval-requires : goal.assignments::at_row-eval-requires
assignments::at_row-eval-requires t c =
    (omega (arith, c.decreases), (c.requires.walk, row_ready (program_of c.args.walk.now) (mode_of c.args.walk.now) c.args.depth c.args.at c.args.e.now.spot c.args.e.now.ty c.args.object (expr_view c.args.row.now) (expr_view c.args.column.now) c.requires.ready))

pub assignments::at_row-eval-requires-2 : goal.assignments::at_row-eval-requires-2
assignments::at_row-eval-requires-2 t c =
    (omega (arith, c.decreases), (c.requires.walk, column_ready (program_of c.args.walk.now) (mode_of c.args.walk.now) c.args.depth c.args.at c.args.e.now.spot c.args.e.now.ty c.args.object (expr_view c.args.row.now) (expr_view c.args.column.now) c.requires.ready c.in_ok-i.ensures))

pub assignments::at_row-find_in_row-requires-clause-row_in : goal.assignments::at_row-find_in_row-requires-clause-row_in
assignments::at_row-find_in_row-requires-clause-row_in t c =
    row_in (program_of c.args.walk.now) (mode_of c.args.walk.now) c.args.depth c.args.at c.args.e.now.spot c.args.e.now.ty c.args.object (expr_view c.args.row.now) (expr_view c.args.column.now) c.type_of-a.result c.type_of-a.ensures c.requires.ready.types c.in_ok-i.ensures c.in_ok-j.ensures

pub assignments::at_row-find_in_row-requires-clause-column_in : goal.assignments::at_row-find_in_row-requires-clause-column_in
assignments::at_row-find_in_row-requires-clause-column_in t c =
    column_in (program_of c.args.walk.now) (mode_of c.args.walk.now) c.args.depth c.args.at c.args.e.now.spot c.args.e.now.ty c.args.object (expr_view c.args.row.now) (expr_view c.args.column.now) c.type_of-b.result c.type_of-b.ensures c.requires.ready.types c.in_ok-j.ensures

pub assignments::at_row-find_in_row-requires-clause-room : goal.assignments::at_row-find_in_row-requires-clause-room
assignments::at_row-find_in_row-requires-clause-room t c =
    row_room (program_of c.args.walk.now) (mode_of c.args.walk.now) c.args.depth c.args.at c.args.e.now.spot c.args.e.now.ty c.args.object (expr_view c.args.row.now) (expr_view c.args.column.now) c.type_of-a.result c.type_of-b.result c.type_of-a.ensures c.type_of-b.ensures c.requires.ready c.in_ok-i.ensures c.in_ok-j.ensures

pub assignments::at_row-returns : goal.assignments::at_row-returns
assignments::at_row-returns t c =
    row_found (program_of c.args.walk.now) (mode_of c.args.walk.now) c.args.depth c.args.at c.args.e.now.spot c.args.e.now.ty c.args.object (expr_view c.args.row.now) (expr_view c.args.column.now) c.type_of-a.result c.type_of-b.result c.in_ok-places.places c.type_of-a.ensures c.type_of-b.ensures c.requires.ready.types c.in_ok-i.ensures c.in_ok-j.ensures (c.in_ok-places.ensures (mode_of c.args.walk.now))

pub assignments::assign-replace-requires : goal.assignments::assign-replace-requires
assignments::assign-replace-requires t c =
    (omega (arith, c.decreases, ap (λ k. weight_of (program_of c.args.walk.now) (mode_of c.args.walk.now) c.args.depth (Expr c.args.e.now.spot c.args.e.now.ty (Assign k (expr_view c.args.to.now) (expr_view c.args.from.now)))) c.in-None.is), (c.requires.walk, subst (λ k. Ready (program_of c.args.walk.now) (mode_of c.args.walk.now) c.args.depth c.args.at c.args.sym.now (Expr c.args.e.now.spot c.args.e.now.ty (Assign k (expr_view c.args.to.now) (expr_view c.args.from.now)))) c.in-None.is c.requires.ready))

pub assignments::assign-returns-in_ok-r-in-None : goal.assignments::assign-returns-in_ok-r-in-None
assignments::assign-returns-in_ok-r-in-None t c =
    subst (λ k. Values (program_of c.args.walk.now) (mode_of c.args.walk.now) c.args.depth c.args.at Used (Expr c.args.e.now.spot c.args.e.now.ty (Assign k (expr_view c.args.to.now) (expr_view c.args.from.now))) c.args.sym.now c.replace.new.sym c.in_ok-r-in-None.r.bits) (sym c.in-None.is) c.in_ok-r-in-None.ensures

pub assignments::assign-update-requires : goal.assignments::assign-update-requires
assignments::assign-update-requires t c =
    (omega (arith, c.decreases, ap (λ k. weight_of (program_of c.args.walk.now) (mode_of c.args.walk.now) c.args.depth (Expr c.args.e.now.spot c.args.e.now.ty (Assign k (expr_view c.args.to.now) (expr_view c.args.from.now)))) c.in-Some.is), (c.requires.walk, subst (λ k. Ready (program_of c.args.walk.now) (mode_of c.args.walk.now) c.args.depth c.args.at c.args.sym.now (Expr c.args.e.now.spot c.args.e.now.ty (Assign k (expr_view c.args.to.now) (expr_view c.args.from.now)))) c.in-Some.is c.requires.ready))

pub assignments::assign-returns-in_ok-r-in-Some : goal.assignments::assign-returns-in_ok-r-in-Some
assignments::assign-returns-in_ok-r-in-Some t c =
    subst (λ k. Values (program_of c.args.walk.now) (mode_of c.args.walk.now) c.args.depth c.args.at Used (Expr c.args.e.now.spot c.args.e.now.ty (Assign k (expr_view c.args.to.now) (expr_view c.args.from.now))) c.args.sym.now c.update.new.sym c.in_ok-r-in-Some.r.bits) (sym c.in-Some.is) c.in_ok-r-in-Some.ensures

pub assignments::replace-target-requires : goal.assignments::replace-target-requires
assignments::replace-target-requires t c =
    (omega (arith, c.decreases), (c.requires.walk, assign_target (program_of c.args.walk.now) (mode_of c.args.walk.now) c.args.depth c.args.at (finding (program_of c.args.walk.now) (expr_view c.args.to.now)) c.args.e.now.spot c.args.e.now.ty None (expr_view c.args.to.now) (expr_view c.args.from.now) c.requires.ready (omega (arith, spent_target (program_of c.args.walk.now) (expr_view c.args.to.now)))))

pub assignments::replace-eval-requires : goal.assignments::replace-eval-requires
assignments::replace-eval-requires t c =
    (omega (arith, c.decreases), (c.requires.walk, assign_value (program_of c.args.walk.now) (mode_of c.args.walk.now) c.args.depth c.args.at c.args.e.now.spot c.args.e.now.ty None (expr_view c.args.to.now) (expr_view c.args.from.now) c.requires.ready c.in_ok-cell.ensures.targets c.in_ok-cell.ensures.targets.follows.fits (unchanged 0 c.target.new.sym.net) (omega (arith, spent_target (program_of c.args.walk.now) (expr_view c.args.to.now)))))

pub assignments::replace-store_target-requires-clause-typed : goal.assignments::replace-store_target-requires-clause-typed
assignments::replace-store_target-requires-clause-typed t c =
    let q = assign_parts (program_of c.args.walk.now) c.args.e.now.spot c.args.e.now.ty None (expr_view c.args.to.now) (expr_view c.args.from.now) c.requires.ready.types in
    c.type_of.ensures ∙ object_type (program_of c.args.walk.now) (expr_view c.args.to.now) c.in_ok-cell.cell c.in_ok-cell.ensures.meant q.target q.typed_target

pub assignments::replace-store_target-requires-clause-is : goal.assignments::replace-store_target-requires-clause-is
assignments::replace-store_target-requires-clause-is t c =
    target_kept (program_of c.args.walk.now) (mode_of c.args.walk.now) c.in_ok-cell.cell c.in_ok-cell.ensures.is c.in_ok-y.ensures.follows

pub assignments::replace-store_target-requires-clause-value_in : goal.assignments::replace-store_target-requires-clause-value_in
assignments::replace-store_target-requires-clause-value_in t c =
    let q = assign_parts (program_of c.args.walk.now) c.args.e.now.spot c.args.e.now.ty None (expr_view c.args.to.now) (expr_view c.args.from.now) c.requires.ready.types in
    let cost = replace_cost (program_of c.args.walk.now) (expr_view c.args.to.now) (expr_view c.args.from.now) c.in_ok-cell.cell c.type_of-b.result c.type_of-b.ensures c.in_ok-cell.ensures.meant q.target q.typed_target in
    (replace_sides (program_of c.args.walk.now) (mode_of c.args.walk.now) c.args.depth c.args.at (storing (program_of c.args.walk.now) c.type_of-b.result c.in_ok-cell.cell) c.args.e.now.spot c.args.e.now.ty (expr_view c.args.to.now) (expr_view c.args.from.now) c.type_of-b.result c.type_of-b.ensures c.requires.ready c.in_ok-cell.ensures.targets c.in_ok-y.ensures cost).0

pub assignments::replace-store_target-requires-clause-room : goal.assignments::replace-store_target-requires-clause-room
assignments::replace-store_target-requires-clause-room t c =
    let q = assign_parts (program_of c.args.walk.now) c.args.e.now.spot c.args.e.now.ty None (expr_view c.args.to.now) (expr_view c.args.from.now) c.requires.ready.types in
    let cost = replace_cost (program_of c.args.walk.now) (expr_view c.args.to.now) (expr_view c.args.from.now) c.in_ok-cell.cell c.type_of-b.result c.type_of-b.ensures c.in_ok-cell.ensures.meant q.target q.typed_target in
    (replace_sides (program_of c.args.walk.now) (mode_of c.args.walk.now) c.args.depth c.args.at (storing (program_of c.args.walk.now) c.type_of-b.result c.in_ok-cell.cell) c.args.e.now.spot c.args.e.now.ty (expr_view c.args.to.now) (expr_view c.args.from.now) c.type_of-b.result c.type_of-b.ensures c.requires.ready c.in_ok-cell.ensures.targets c.in_ok-y.ensures cost).1

pub assignments::replace-returns : goal.assignments::replace-returns
assignments::replace-returns t c =
    let q = assign_parts (program_of c.args.walk.now) c.args.e.now.spot c.args.e.now.ty None (expr_view c.args.to.now) (expr_view c.args.from.now) c.requires.ready.types in
    let cost = replace_cost (program_of c.args.walk.now) (expr_view c.args.to.now) (expr_view c.args.from.now) c.in_ok-cell.cell c.type_of-b.result c.type_of-b.ensures c.in_ok-cell.ensures.meant q.target q.typed_target in
    replace_step (program_of c.args.walk.now) (mode_of c.args.walk.now) c.args.depth c.args.at c.args.e.now.spot c.args.e.now.ty (expr_view c.args.to.now) (expr_view c.args.from.now) c.type_of.result c.type_of-b.result c.type_of.ensures c.type_of-b.ensures c.requires.ready c.in_ok-cell.ensures.targets c.in_ok-y.ensures
    (stored_before (program_of c.args.walk.now) (mode_of c.args.walk.now) c.in_ok-cell.cell c.target.new.sym.net c.type_of-b.result c.type_of.result c.in_ok-y.y.bits (keys_kept (program_of c.args.walk.now) (mode_of c.args.walk.now) c.in_ok-cell.cell c.in_ok-cell.ensures.is c.in_ok-y.ensures.follows) (c.in_ok-r.ensures (mode_of c.args.walk.now))) cost

pub assignments::update-target-requires : goal.assignments::update-target-requires
assignments::update-target-requires t c =
    (omega (arith, c.decreases), (c.requires.walk, assign_target (program_of c.args.walk.now) (mode_of c.args.walk.now) c.args.depth c.args.at (finding (program_of c.args.walk.now) (expr_view c.args.to.now)) c.args.e.now.spot c.args.e.now.ty (Some c.args.op) (expr_view c.args.to.now) (expr_view c.args.from.now) c.requires.ready (omega (arith, spent_target (program_of c.args.walk.now) (expr_view c.args.to.now)))))

pub assignments::update-look_target-requires-clause-typed : goal.assignments::update-look_target-requires-clause-typed
assignments::update-look_target-requires-clause-typed t c =
    let q = assign_parts (program_of c.args.walk.now) c.args.e.now.spot c.args.e.now.ty (Some c.args.op) (expr_view c.args.to.now) (expr_view c.args.from.now) c.requires.ready.types in
    c.type_of-a.ensures ∙ object_type (program_of c.args.walk.now) (expr_view c.args.to.now) c.in_ok-cell.cell c.in_ok-cell.ensures.meant q.target q.typed_target

pub assignments::update-look_target-requires-clause-room : goal.assignments::update-look_target-requires-clause-room
assignments::update-look_target-requires-clause-room t c =
    omega (arith, spent_look (program_of c.args.walk.now) (expr_view c.args.to.now) c.in_ok-cell.cell c.in_ok-cell.ensures.meant, (longer_by c.in_ok-cell.ensures.targets.follows.added).1, c.requires.ready.room)

pub assignments::update-eval-requires : goal.assignments::update-eval-requires
assignments::update-eval-requires t c =
    let look = c.in_ok-x.ensures (mode_of c.args.walk.now) in
    let few = spent_look (program_of c.args.walk.now) (expr_view c.args.to.now) c.in_ok-cell.cell c.in_ok-cell.ensures.meant in
    (omega (arith, c.decreases), (c.requires.walk, assign_value (program_of c.args.walk.now) (mode_of c.args.walk.now) c.args.depth c.args.at c.args.e.now.spot c.args.e.now.ty (Some c.args.op) (expr_view c.args.to.now) (expr_view c.args.from.now) c.requires.ready c.in_ok-cell.ensures.targets look.follows.fits look.follows.added (omega (arith, few))))

pub assignments::update-operate-requires-clause-x_in : goal.assignments::update-operate-requires-clause-x_in
assignments::update-operate-requires-clause-x_in t c =
    let look = c.in_ok-x.ensures (mode_of c.args.walk.now) in
    let few = spent_look (program_of c.args.walk.now) (expr_view c.args.to.now) c.in_ok-cell.cell c.in_ok-cell.ensures.meant in
    (update_sides (program_of c.args.walk.now) (mode_of c.args.walk.now) c.args.depth c.args.at c.args.e.now.spot c.args.e.now.ty c.args.op (expr_view c.args.to.now) (expr_view c.args.from.now) c.type_of-a.result c.type_of-b.result c.type_of-a.ensures c.type_of-b.ensures c.requires.ready c.in_ok-cell.ensures.targets look c.in_ok-y.ensures (omega (arith, few))).0

pub assignments::update-operate-requires-clause-y_in : goal.assignments::update-operate-requires-clause-y_in
assignments::update-operate-requires-clause-y_in t c =
    let look = c.in_ok-x.ensures (mode_of c.args.walk.now) in
    let few = spent_look (program_of c.args.walk.now) (expr_view c.args.to.now) c.in_ok-cell.cell c.in_ok-cell.ensures.meant in
    (update_sides (program_of c.args.walk.now) (mode_of c.args.walk.now) c.args.depth c.args.at c.args.e.now.spot c.args.e.now.ty c.args.op (expr_view c.args.to.now) (expr_view c.args.from.now) c.type_of-a.result c.type_of-b.result c.type_of-a.ensures c.type_of-b.ensures c.requires.ready c.in_ok-cell.ensures.targets look c.in_ok-y.ensures (omega (arith, few))).1

pub assignments::update-operate-requires-clause-room : goal.assignments::update-operate-requires-clause-room
assignments::update-operate-requires-clause-room t c =
    let look = c.in_ok-x.ensures (mode_of c.args.walk.now) in
    let few = spent_look (program_of c.args.walk.now) (expr_view c.args.to.now) c.in_ok-cell.cell c.in_ok-cell.ensures.meant in
    (update_sides (program_of c.args.walk.now) (mode_of c.args.walk.now) c.args.depth c.args.at c.args.e.now.spot c.args.e.now.ty c.args.op (expr_view c.args.to.now) (expr_view c.args.from.now) c.type_of-a.result c.type_of-b.result c.type_of-a.ensures c.type_of-b.ensures c.requires.ready c.in_ok-cell.ensures.targets look c.in_ok-y.ensures (omega (arith, few))).2

pub assignments::update-store_target-requires-clause-fits : goal.assignments::update-store_target-requires-clause-fits
assignments::update-store_target-requires-clause-fits t c = c.in_ok-z.ensures.follows.fits

pub assignments::update-store_target-requires-clause-typed : goal.assignments::update-store_target-requires-clause-typed
assignments::update-store_target-requires-clause-typed t c =
    let q = assign_parts (program_of c.args.walk.now) c.args.e.now.spot c.args.e.now.ty (Some c.args.op) (expr_view c.args.to.now) (expr_view c.args.from.now) c.requires.ready.types in
    c.type_of-a.ensures ∙ object_type (program_of c.args.walk.now) (expr_view c.args.to.now) c.in_ok-cell.cell c.in_ok-cell.ensures.meant q.target q.typed_target

pub assignments::update-store_target-requires-clause-is : goal.assignments::update-store_target-requires-clause-is
assignments::update-store_target-requires-clause-is t c =
    let look = c.in_ok-x.ensures (mode_of c.args.walk.now) in
    let done = c.in_ok-z.ensures in
    let kept = kept_thrice (program_of c.args.walk.now) (mode_of c.args.walk.now) c.in_ok-cell.cell c.in_ok-cell.ensures.is look.follows c.in_ok-y.ensures.follows done.follows in
    kept.0

pub assignments::update-store_target-requires-clause-value_in : goal.assignments::update-store_target-requires-clause-value_in
assignments::update-store_target-requires-clause-value_in t c =
    let q = assign_parts (program_of c.args.walk.now) c.args.e.now.spot c.args.e.now.ty (Some c.args.op) (expr_view c.args.to.now) (expr_view c.args.from.now) c.requires.ready.types in
    let look = c.in_ok-x.ensures (mode_of c.args.walk.now) in
    let done = c.in_ok-z.ensures in
    let tc : c.type_for-c.result ≡ type_for (program_of c.args.walk.now).model c.args.op (type_of (expr_view c.args.to.now)) (type_of (expr_view c.args.from.now)) = c.type_for-c.ensures.value ∙ ap₂ (λ i j. type_for (program_of c.args.walk.now).model c.args.op i j) c.type_of-a.ensures c.type_of-b.ensures in
    let cost = update_cost (program_of c.args.walk.now) (expr_view c.args.to.now) c.in_ok-cell.cell c.type_for-c.result (type_for (program_of c.args.walk.now).model c.args.op (type_of (expr_view c.args.to.now)) (type_of (expr_view c.args.from.now))) tc c.in_ok-cell.ensures.meant q.target q.typed_target in
    (update_last (program_of c.args.walk.now) (mode_of c.args.walk.now) c.args.depth c.args.at (storing (program_of c.args.walk.now) c.type_for-c.result c.in_ok-cell.cell) c.args.e.now.spot c.args.e.now.ty c.args.op (expr_view c.args.to.now) (expr_view c.args.from.now) c.type_of-a.result c.type_of-b.result c.type_for-c.result c.type_of-a.ensures c.type_of-b.ensures c.type_for-c.ensures.value c.requires.ready c.in_ok-cell.ensures.targets look c.in_ok-y.ensures done cost).0

pub assignments::update-store_target-requires-clause-room : goal.assignments::update-store_target-requires-clause-room
assignments::update-store_target-requires-clause-room t c =
    let q = assign_parts (program_of c.args.walk.now) c.args.e.now.spot c.args.e.now.ty (Some c.args.op) (expr_view c.args.to.now) (expr_view c.args.from.now) c.requires.ready.types in
    let look = c.in_ok-x.ensures (mode_of c.args.walk.now) in
    let done = c.in_ok-z.ensures in
    let tc : c.type_for-c.result ≡ type_for (program_of c.args.walk.now).model c.args.op (type_of (expr_view c.args.to.now)) (type_of (expr_view c.args.from.now)) = c.type_for-c.ensures.value ∙ ap₂ (λ i j. type_for (program_of c.args.walk.now).model c.args.op i j) c.type_of-a.ensures c.type_of-b.ensures in
    let cost = update_cost (program_of c.args.walk.now) (expr_view c.args.to.now) c.in_ok-cell.cell c.type_for-c.result (type_for (program_of c.args.walk.now).model c.args.op (type_of (expr_view c.args.to.now)) (type_of (expr_view c.args.from.now))) tc c.in_ok-cell.ensures.meant q.target q.typed_target in
    (update_last (program_of c.args.walk.now) (mode_of c.args.walk.now) c.args.depth c.args.at (storing (program_of c.args.walk.now) c.type_for-c.result c.in_ok-cell.cell) c.args.e.now.spot c.args.e.now.ty c.args.op (expr_view c.args.to.now) (expr_view c.args.from.now) c.type_of-a.result c.type_of-b.result c.type_for-c.result c.type_of-a.ensures c.type_of-b.ensures c.type_for-c.ensures.value c.requires.ready c.in_ok-cell.ensures.targets look c.in_ok-y.ensures done cost).1

pub assignments::update-returns : goal.assignments::update-returns
assignments::update-returns t c =
    let q = assign_parts (program_of c.args.walk.now) c.args.e.now.spot c.args.e.now.ty (Some c.args.op) (expr_view c.args.to.now) (expr_view c.args.from.now) c.requires.ready.types in
    let look = c.in_ok-x.ensures (mode_of c.args.walk.now) in
    let done = c.in_ok-z.ensures in
    let tc : c.type_for-c.result ≡ type_for (program_of c.args.walk.now).model c.args.op (type_of (expr_view c.args.to.now)) (type_of (expr_view c.args.from.now)) = c.type_for-c.ensures.value ∙ ap₂ (λ i j. type_for (program_of c.args.walk.now).model c.args.op i j) c.type_of-a.ensures c.type_of-b.ensures in
    let cost = update_cost (program_of c.args.walk.now) (expr_view c.args.to.now) c.in_ok-cell.cell c.type_for-c.result (type_for (program_of c.args.walk.now).model c.args.op (type_of (expr_view c.args.to.now)) (type_of (expr_view c.args.from.now))) tc c.in_ok-cell.ensures.meant q.target q.typed_target in
    let kept = kept_thrice (program_of c.args.walk.now) (mode_of c.args.walk.now) c.in_ok-cell.cell c.in_ok-cell.ensures.is look.follows c.in_ok-y.ensures.follows done.follows in
    update_step (program_of c.args.walk.now) (mode_of c.args.walk.now) c.args.depth c.args.at c.args.e.now.spot c.args.e.now.ty c.args.op (expr_view c.args.to.now) (expr_view c.args.from.now) c.type_of-a.result c.type_of-b.result c.type_for-c.result c.type_of-a.ensures c.type_of-b.ensures c.type_for-c.ensures.value c.requires.ready c.in_ok-cell.ensures.targets look c.in_ok-y.ensures done
    (stored_before (program_of c.args.walk.now) (mode_of c.args.walk.now) c.in_ok-cell.cell c.target.new.sym.net c.type_for-c.result c.type_of-a.result c.in_ok-z.z.bits kept.1 (c.in_ok-r.ensures (mode_of c.args.walk.now))) cost

pub assignments::step-target-requires : goal.assignments::step-target-requires
assignments::step-target-requires t c =
    (omega (arith, c.decreases), (c.requires.walk, step_target (program_of c.args.walk.now) (mode_of c.args.walk.now) c.args.depth c.args.at (finding (program_of c.args.walk.now) (expr_view c.args.to.now)) c.args.e.now.spot c.args.e.now.ty c.args.op (expr_view c.args.to.now) c.requires.ready (omega (arith, spent_target (program_of c.args.walk.now) (expr_view c.args.to.now)))))

pub assignments::step-look_target-requires-clause-typed : goal.assignments::step-look_target-requires-clause-typed
assignments::step-look_target-requires-clause-typed t c =
    let q = step_parts (program_of c.args.walk.now) c.args.e.now.spot c.args.e.now.ty c.args.op (expr_view c.args.to.now) c.requires.ready.types in
    c.type_of-a.ensures ∙ object_type (program_of c.args.walk.now) (expr_view c.args.to.now) c.in_ok-cell.cell c.in_ok-cell.ensures.meant q.0 q.2

pub assignments::step-look_target-requires-clause-room : goal.assignments::step-look_target-requires-clause-room
assignments::step-look_target-requires-clause-room t c =
    omega (arith, spent_look (program_of c.args.walk.now) (expr_view c.args.to.now) c.in_ok-cell.cell c.in_ok-cell.ensures.meant, (longer_by c.in_ok-cell.ensures.targets.follows.added).1, c.requires.ready.room)

pub assignments::step-operate-requires-clause-fits : goal.assignments::step-operate-requires-clause-fits
assignments::step-operate-requires-clause-fits t c = (c.in_ok-x.ensures (mode_of c.args.walk.now)).follows.fits

pub assignments::step-operate-requires-clause-x_in : goal.assignments::step-operate-requires-clause-x_in
assignments::step-operate-requires-clause-x_in t c = (c.in_ok-x.ensures (mode_of c.args.walk.now)).bits_in

pub assignments::step-operate-requires-clause-room : goal.assignments::step-operate-requires-clause-room
assignments::step-operate-requires-clause-room t c =
    let look = c.in_ok-x.ensures (mode_of c.args.walk.now) in
    let few = spent_look (program_of c.args.walk.now) (expr_view c.args.to.now) c.in_ok-cell.cell c.in_ok-cell.ensures.meant in
    step_sides (program_of c.args.walk.now) (mode_of c.args.walk.now) c.args.depth c.args.at c.args.e.now.spot c.args.e.now.ty c.args.op (expr_view c.args.to.now) c.type_of-a.result c.op_of_step-by.result c.type_of-a.ensures c.op_of_step-by.ensures c.requires.ready c.in_ok-cell.ensures.targets look (omega (arith, few))

pub assignments::step-store_target-requires-clause-fits : goal.assignments::step-store_target-requires-clause-fits
assignments::step-store_target-requires-clause-fits t c = c.in_ok-z.ensures.follows.fits

pub assignments::step-store_target-requires-clause-typed : goal.assignments::step-store_target-requires-clause-typed
assignments::step-store_target-requires-clause-typed t c =
    let q = step_parts (program_of c.args.walk.now) c.args.e.now.spot c.args.e.now.ty c.args.op (expr_view c.args.to.now) c.requires.ready.types in
    c.type_of-a.ensures ∙ object_type (program_of c.args.walk.now) (expr_view c.args.to.now) c.in_ok-cell.cell c.in_ok-cell.ensures.meant q.0 q.2

pub assignments::step-store_target-requires-clause-is : goal.assignments::step-store_target-requires-clause-is
assignments::step-store_target-requires-clause-is t c =
    let look = c.in_ok-x.ensures (mode_of c.args.walk.now) in
    let done = c.in_ok-z.ensures in
    let kept = kept_twice (program_of c.args.walk.now) (mode_of c.args.walk.now) c.in_ok-cell.cell c.in_ok-cell.ensures.is look.follows done.follows in
    kept.0

pub assignments::step-store_target-requires-clause-value_in : goal.assignments::step-store_target-requires-clause-value_in
assignments::step-store_target-requires-clause-value_in t c =
    let q = step_parts (program_of c.args.walk.now) c.args.e.now.spot c.args.e.now.ty c.args.op (expr_view c.args.to.now) c.requires.ready.types in
    let look = c.in_ok-x.ensures (mode_of c.args.walk.now) in
    let done = c.in_ok-z.ensures in
    let tc : c.type_for-c.result ≡ type_for (program_of c.args.walk.now).model (op_of_step c.args.op) (type_of (expr_view c.args.to.now)) Int = c.type_for-c.ensures.value ∙ ap₂ (λ i j. type_for (program_of c.args.walk.now).model i j Int) c.op_of_step-by.ensures c.type_of-a.ensures in
    let cost = update_cost (program_of c.args.walk.now) (expr_view c.args.to.now) c.in_ok-cell.cell c.type_for-c.result (type_for (program_of c.args.walk.now).model (op_of_step c.args.op) (type_of (expr_view c.args.to.now)) Int) tc c.in_ok-cell.ensures.meant q.0 q.2 in
    (step_last (program_of c.args.walk.now) (mode_of c.args.walk.now) c.args.depth c.args.at (storing (program_of c.args.walk.now) c.type_for-c.result c.in_ok-cell.cell) c.args.e.now.spot c.args.e.now.ty c.args.op (expr_view c.args.to.now) c.type_of-a.result c.type_for-c.result c.op_of_step-by.result c.type_of-a.ensures c.op_of_step-by.ensures c.type_for-c.ensures.value c.requires.ready c.in_ok-cell.ensures.targets look done cost).0

pub assignments::step-store_target-requires-clause-room : goal.assignments::step-store_target-requires-clause-room
assignments::step-store_target-requires-clause-room t c =
    let q = step_parts (program_of c.args.walk.now) c.args.e.now.spot c.args.e.now.ty c.args.op (expr_view c.args.to.now) c.requires.ready.types in
    let look = c.in_ok-x.ensures (mode_of c.args.walk.now) in
    let done = c.in_ok-z.ensures in
    let tc : c.type_for-c.result ≡ type_for (program_of c.args.walk.now).model (op_of_step c.args.op) (type_of (expr_view c.args.to.now)) Int = c.type_for-c.ensures.value ∙ ap₂ (λ i j. type_for (program_of c.args.walk.now).model i j Int) c.op_of_step-by.ensures c.type_of-a.ensures in
    let cost = update_cost (program_of c.args.walk.now) (expr_view c.args.to.now) c.in_ok-cell.cell c.type_for-c.result (type_for (program_of c.args.walk.now).model (op_of_step c.args.op) (type_of (expr_view c.args.to.now)) Int) tc c.in_ok-cell.ensures.meant q.0 q.2 in
    (step_last (program_of c.args.walk.now) (mode_of c.args.walk.now) c.args.depth c.args.at (storing (program_of c.args.walk.now) c.type_for-c.result c.in_ok-cell.cell) c.args.e.now.spot c.args.e.now.ty c.args.op (expr_view c.args.to.now) c.type_of-a.result c.type_for-c.result c.op_of_step-by.result c.type_of-a.ensures c.op_of_step-by.ensures c.type_for-c.ensures.value c.requires.ready c.in_ok-cell.ensures.targets look done cost).1

pub assignments::step-returns : goal.assignments::step-returns
assignments::step-returns t c =
    let q = step_parts (program_of c.args.walk.now) c.args.e.now.spot c.args.e.now.ty c.args.op (expr_view c.args.to.now) c.requires.ready.types in
    let look = c.in_ok-x.ensures (mode_of c.args.walk.now) in
    let done = c.in_ok-z.ensures in
    let tc : c.type_for-c.result ≡ type_for (program_of c.args.walk.now).model (op_of_step c.args.op) (type_of (expr_view c.args.to.now)) Int = c.type_for-c.ensures.value ∙ ap₂ (λ i j. type_for (program_of c.args.walk.now).model i j Int) c.op_of_step-by.ensures c.type_of-a.ensures in
    let cost = update_cost (program_of c.args.walk.now) (expr_view c.args.to.now) c.in_ok-cell.cell c.type_for-c.result (type_for (program_of c.args.walk.now).model (op_of_step c.args.op) (type_of (expr_view c.args.to.now)) Int) tc c.in_ok-cell.ensures.meant q.0 q.2 in
    let kept = kept_twice (program_of c.args.walk.now) (mode_of c.args.walk.now) c.in_ok-cell.cell c.in_ok-cell.ensures.is look.follows done.follows in
    subst (λ bs. Values (program_of c.args.walk.now) (mode_of c.args.walk.now) c.args.depth c.args.at Used (Expr c.args.e.now.spot c.args.e.now.ty (Step c.args.op (expr_view c.args.to.now))) c.args.sym.now c.store_target.new.sym bs) (sym (c.value_of_step.ensures ∙ ap (λ k. cond k c.in_ok-w.w.bits c.in_ok-x.x.bits) c.is_prefix.ensures))
    (step_step (program_of c.args.walk.now) (mode_of c.args.walk.now) c.args.depth c.args.at c.args.e.now.spot c.args.e.now.ty c.args.op (expr_view c.args.to.now) c.type_of-a.result c.type_for-c.result c.op_of_step-by.result c.type_of-a.ensures c.op_of_step-by.ensures c.type_for-c.ensures.value c.requires.ready c.in_ok-cell.ensures.targets look c.in_ok-one.ensures done
    (stored_before (program_of c.args.walk.now) (mode_of c.args.walk.now) c.in_ok-cell.cell c.target.new.sym.net c.type_for-c.result c.type_of-a.result c.in_ok-z.z.bits kept.1 (c.in_ok-w.ensures (mode_of c.args.walk.now))) cost (is_prefix c.args.op) refl)

pub declarations::initial_value-full-requires : goal.declarations::initial_value-full-requires
declarations::initial_value-full-requires t c =
    (omega (arith, c.decreases), (c.requires.walk, stored_ready (program_of c.args.walk.now) (mode_of c.args.walk.now) c.args.depth c.args.at c.args.object c.args.index (expr_view c.args.e.now) c.requires.ready))

pub declarations::initial_value-convert-requires-clause-fits : goal.declarations::initial_value-convert-requires-clause-fits
declarations::initial_value-convert-requires-clause-fits t c =
    c.in_ok-x.ensures.follows.fits

pub declarations::initial_value-convert-requires-clause-x_in : goal.declarations::initial_value-convert-requires-clause-x_in
declarations::initial_value-convert-requires-clause-x_in t c =
    stored_in (program_of c.args.walk.now) (mode_of c.args.walk.now) c.args.depth c.args.at c.args.object c.args.index (expr_view c.args.e.now) c.requires.ready c.in_ok-x.ensures c.type_of.result c.type_of.ensures

pub declarations::initial_value-convert-requires-clause-room : goal.declarations::initial_value-convert-requires-clause-room
declarations::initial_value-convert-requires-clause-room t c =
    stored_room (program_of c.args.walk.now) (mode_of c.args.walk.now) c.args.depth c.args.at c.args.object c.args.index (expr_view c.args.e.now) c.requires.ready c.in_ok-x.ensures c.type_of.result c.type_of.ensures

pub declarations::initial_value-write-requires-clause-fits : goal.declarations::initial_value-write-requires-clause-fits
declarations::initial_value-write-requires-clause-fits t c =
    c.in_ok-y.ensures.turned.fits

pub declarations::initial_value-write-requires-clause-here_in : goal.declarations::initial_value-write-requires-clause-here_in
declarations::initial_value-write-requires-clause-here_in t c =
    c.in_ok-y.ensures.turned.fits.live

pub declarations::initial_value-write-requires-clause-value_in : goal.declarations::initial_value-write-requires-clause-value_in
declarations::initial_value-write-requires-clause-value_in t c =
    store_in (program_of c.args.walk.now) (mode_of c.args.walk.now) c.args.depth c.args.at c.args.object c.args.index (expr_view c.args.e.now) c.requires.ready c.in_ok-x.ensures c.type_of.result c.type_of.ensures
    c.type_of_object-ty.result c.type_of_object-ty.ensures c.in_ok-y.ensures

pub declarations::initial_value-write-requires-clause-room : goal.declarations::initial_value-write-requires-clause-room
declarations::initial_value-write-requires-clause-room t c =
    store_room (program_of c.args.walk.now) (mode_of c.args.walk.now) c.args.depth c.args.at c.args.object c.args.index (expr_view c.args.e.now) c.requires.ready c.in_ok-x.ensures c.type_of.result c.type_of.ensures
    c.type_of_object-ty.result c.type_of_object-ty.ensures c.in_ok-y.ensures

pub declarations::initial_value-returns : goal.declarations::initial_value-returns
declarations::initial_value-returns t c =
    stored_does (program_of c.args.walk.now) (mode_of c.args.walk.now) c.args.depth c.args.at c.args.object c.args.index (expr_view c.args.e.now) c.requires.ready c.in_ok-x.ensures c.type_of.result c.type_of.ensures
    c.type_of_object-ty.result c.type_of_object-ty.ensures c.in_ok-y.ensures c.in_ok-write.ensures

pub declarations::initial_values-loop-index-init : goal.declarations::initial_values-loop-index-init
declarations::initial_values-loop-index-init t c =
    values_none (program_of c.args.walk.now) (mode_of c.args.walk.now) c.args.depth c.args.at c.args.object c.args.first c.args.sym.now c.requires.ready.fits

pub declarations::initial_values-initial_value-requires : goal.declarations::initial_values-initial_value-requires
declarations::initial_values-initial_value-requires t c =
    (omega (arith, c.decreases, values_part (program_of c.args.walk.now) (mode_of c.args.walk.now) c.args.depth c.args.at c.args.object c.args.first c.args.es.now c.loop-index.index c.index-es-index.result c.loop-index-test.true c.index-es-index.is), (c.requires.walk, values_next (program_of c.args.walk.now) (mode_of c.args.walk.now) c.args.depth c.args.at c.args.object c.args.first c.args.es.now c.loop-index.index c.index-es-index.result c.loop-index-test.true c.index-es-index.is c.requires.ready c.loop-index.invariant))

pub declarations::initial_values-loop-index-preserved : goal.declarations::initial_values-loop-index-preserved
declarations::initial_values-loop-index-preserved t c =
    values_on (program_of c.args.walk.now) (mode_of c.args.walk.now) c.args.depth c.args.at c.args.object c.args.first c.args.es.now c.loop-index.index c.index-es-index.result c.loop-index-test.true c.index-es-index.is c.loop-index.invariant c.in_ok-initial_value.ensures

pub declarations::initial_values-returns : goal.declarations::initial_values-returns
declarations::initial_values-returns t c =
    subst (λ z. InitialsDo (program_of c.args.walk.now) (mode_of c.args.walk.now) c.args.depth c.args.at c.args.object c.args.first (exprs_view z) c.args.sym.now c.loop-index.sym)
    (take_all c.loop-index.index c.args.es.now (omega (arith, c.loop-index-test.false))) c.loop-index.invariant

pub declarations::initial_rows-loop-index-init : goal.declarations::initial_rows-loop-index-init
declarations::initial_rows-loop-index-init t c =
    rows_none (program_of c.args.walk.now) (mode_of c.args.walk.now) c.args.depth c.args.at c.args.object c.args.sym.now c.requires.ready.fits

pub declarations::initial_rows-initial_values-requires : goal.declarations::initial_rows-initial_values-requires
declarations::initial_rows-initial_values-requires t c =
    (omega (arith, c.decreases, rows_part (program_of c.args.walk.now) (mode_of c.args.walk.now) c.args.depth c.args.at c.args.object c.args.rows.now c.loop-index.index c.index-rows-index.result c.loop-index-test.true c.index-rows-index.is, ap (λ es. weight_of_initials (program_of c.args.walk.now) (mode_of c.args.walk.now) c.args.depth c.args.object (exprs_view es)) c.as_slice.ensures), (c.requires.walk, subst (λ es. InitialsReady (program_of c.args.walk.now) (mode_of c.args.walk.now) c.args.depth c.args.object c.loop-index.sym (exprs_view es)) (sym c.as_slice.ensures) (rows_next (program_of c.args.walk.now) (mode_of c.args.walk.now) c.args.depth c.args.at c.args.object c.args.rows.now c.loop-index.index c.index-rows-index.result c.loop-index-test.true c.index-rows-index.is c.requires.ready c.loop-index.invariant)))

pub declarations::initial_rows-loop-index-preserved : goal.declarations::initial_rows-loop-index-preserved
declarations::initial_rows-loop-index-preserved t c =
    rows_on (program_of c.args.walk.now) (mode_of c.args.walk.now) c.args.depth c.args.at c.args.object c.args.rows.now c.loop-index.index c.index-rows-index.result c.loop-index-test.true c.index-rows-index.is c.in_ok-first.first (c.in_ok-first.ensures ∙ ap (λ k. c.loop-index.index * k) c.columns_of_object-columns.ensures) c.loop-index.invariant
    (subst (λ es. InitialsDo (program_of c.args.walk.now) (mode_of c.args.walk.now) c.args.depth c.args.at c.args.object c.in_ok-first.first (exprs_view es) c.loop-index.sym c.initial_values.new.sym) c.as_slice.ensures c.in_ok-initial_values.ensures)

pub declarations::initial_rows-returns : goal.declarations::initial_rows-returns
declarations::initial_rows-returns t c =
    subst (λ z. RowsDo (program_of c.args.walk.now) (mode_of c.args.walk.now) c.args.depth c.args.at c.args.object (rows_view z) c.args.sym.now c.loop-index.sym)
    (take_all c.loop-index.index c.args.rows.now (omega (arith, c.loop-index-test.false))) c.loop-index.invariant

pub declarations::initial-draw_cells-requires-clause-fits : goal.declarations::initial-draw_cells-requires-clause-fits
declarations::initial-draw_cells-requires-clause-fits t c =
    c.requires.ready.fits

pub declarations::initial-draw_cells-requires-clause-room : goal.declarations::initial-draw_cells-requires-clause-room
declarations::initial-draw_cells-requires-clause-room t c =
    let p = program_of c.args.walk.now in
    let W = mode_of c.args.walk.now in
    absent_room p W c.args.depth c.args.object c.args.sym.now (subst (λ i. InitialReady p W c.args.depth c.args.object c.args.sym.now (init_view i)) c.in-Absent.is c.requires.ready)

pub declarations::initial-initial_value-requires : goal.declarations::initial-initial_value-requires
declarations::initial-initial_value-requires t c =
    let p = program_of c.args.walk.now in
    let W = mode_of c.args.walk.now in
    (omega (arith, c.decreases, ap (λ i. weight_of_initial (program_of c.args.walk.now) (mode_of c.args.walk.now) c.args.depth c.args.object (init_view i)) c.in-One.is), (c.requires.walk, one_ready p W c.args.depth c.args.object (expr_view c.in-One.e) (subst (λ i. InitialReady p W c.args.depth c.args.object c.args.sym.now (init_view i)) c.in-One.is c.requires.ready)))

pub declarations::initial-initial_values-requires : goal.declarations::initial-initial_values-requires
declarations::initial-initial_values-requires t c =
    let p = program_of c.args.walk.now in
    let W = mode_of c.args.walk.now in (
      omega (arith, c.decreases, ap (λ i. weight_of_initial (program_of c.args.walk.now) (mode_of c.args.walk.now) c.args.depth c.args.object (init_view i)) c.in-Many.is, ap (λ es. weight_of_initial (program_of c.args.walk.now) (mode_of c.args.walk.now) c.args.depth c.args.object (Many (exprs_view es))) c.as_slice.ensures),
      (
        c.requires.walk,
        many_ready p W c.args.depth c.args.object (exprs_view c.as_slice.result.now)
            (subst (λ es. InitialReady p W c.args.depth c.args.object c.args.sym.now (Many (exprs_view es))) (sym c.as_slice.ensures)
            (subst (λ i. InitialReady p W c.args.depth c.args.object c.args.sym.now (init_view i)) c.in-Many.is c.requires.ready)),
      ),
    )

pub declarations::initial-returns-in_ok-draw_cells-in-Absent : goal.declarations::initial-returns-in_ok-draw_cells-in-Absent
declarations::initial-returns-in_ok-draw_cells-in-Absent t c =
    let p = program_of c.args.walk.now in
    let W = mode_of c.args.walk.now in
    subst (λ i. InitialDoes p W c.args.depth c.args.at c.args.spot c.args.object (init_view i) c.args.sym.now c.draw_cells.new.sym) (sym c.in-Absent.is)
    (absent_does p W c.args.depth c.args.at c.args.spot c.args.object c.args.sym.now c.draw_cells.new.sym (c.in_ok-draw_cells-in-Absent.ensures _))

pub declarations::initial-returns-in_ok-initial_value-in-One : goal.declarations::initial-returns-in_ok-initial_value-in-One
declarations::initial-returns-in_ok-initial_value-in-One t c =
    let p = program_of c.args.walk.now in
    let W = mode_of c.args.walk.now in
    subst (λ i. InitialDoes p W c.args.depth c.args.at c.args.spot c.args.object (init_view i) c.args.sym.now c.initial_value.new.sym) (sym c.in-One.is)
    (one_does p W c.args.depth c.args.at c.args.spot c.args.object (expr_view c.in-One.e) c.in_ok-initial_value-in-One.ensures)

pub declarations::initial-returns-in_ok-initial_values-in-Many : goal.declarations::initial-returns-in_ok-initial_values-in-Many
declarations::initial-returns-in_ok-initial_values-in-Many t c =
    let p = program_of c.args.walk.now in
    let W = mode_of c.args.walk.now in
    subst (λ i. InitialDoes p W c.args.depth c.args.at c.args.spot c.args.object (init_view i) c.args.sym.now c.initial_values.new.sym) (sym c.in-Many.is)
    (subst (λ es. InitialDoes p W c.args.depth c.args.at c.args.spot c.args.object (Many (exprs_view es)) c.args.sym.now c.initial_values.new.sym) c.as_slice.ensures
    (many_does p W c.args.depth c.args.at c.args.spot c.args.object (exprs_view c.as_slice.result.now) c.in_ok-initial_values-in-Many.ensures))

pub declarations::initial-initial_rows-requires : goal.declarations::initial-initial_rows-requires
declarations::initial-initial_rows-requires t c =
    let p = program_of c.args.walk.now in
    let W = mode_of c.args.walk.now in (
      omega (arith, c.decreases, ap (λ i. weight_of_initial (program_of c.args.walk.now) (mode_of c.args.walk.now) c.args.depth c.args.object (init_view i)) c.in-Rows.is, ap (λ rows. weight_of_initial (program_of c.args.walk.now) (mode_of c.args.walk.now) c.args.depth c.args.object (Rows (rows_view rows))) c.as_slice-in-Rows.ensures),
      (
        c.requires.walk,
        rows_ready p W c.args.depth c.args.object (rows_view c.as_slice-in-Rows.result.now)
            (subst (λ rows. InitialReady p W c.args.depth c.args.object c.args.sym.now (Rows (rows_view rows))) (sym c.as_slice-in-Rows.ensures)
            (subst (λ i. InitialReady p W c.args.depth c.args.object c.args.sym.now (init_view i)) c.in-Rows.is c.requires.ready)),
      ),
    )

pub declarations::initial-returns-in_ok-initial_rows-in-Rows : goal.declarations::initial-returns-in_ok-initial_rows-in-Rows
declarations::initial-returns-in_ok-initial_rows-in-Rows t c =
    let p = program_of c.args.walk.now in
    let W = mode_of c.args.walk.now in
    subst (λ i. InitialDoes p W c.args.depth c.args.at c.args.spot c.args.object (init_view i) c.args.sym.now c.initial_rows.new.sym) (sym c.in-Rows.is)
    (subst (λ rows. InitialDoes p W c.args.depth c.args.at c.args.spot c.args.object (Rows (rows_view rows)) c.args.sym.now c.initial_rows.new.sym) c.as_slice-in-Rows.ensures
    (rows_do p W c.args.depth c.args.at c.args.spot c.args.object (rows_view c.as_slice-in-Rows.result.now) c.in_ok-initial_rows-in-Rows.ensures))

pub declarations::introduce-initial-requires : goal.declarations::introduce-initial-requires
declarations::introduce-initial-requires t c =
    let name = c.args.name.now in
    (omega (arith, c.decreases), (c.requires.walk, name_ready (program_of c.args.walk.now) (mode_of c.args.walk.now) c.args.depth c.args.at name.spot name.object (init_view name.init) c.requires.ready c.size_of_object-size.result c.size_of_object-size.ensures c.in_ok-declare.ensures))

pub declarations::introduce-returns : goal.declarations::introduce-returns
declarations::introduce-returns t c =
    let name = c.args.name.now in
    name_does (program_of c.args.walk.now) (mode_of c.args.walk.now) c.args.depth c.args.at name.spot name.object (init_view name.init) c.requires.ready c.size_of_object-size.result c.size_of_object-size.ensures c.in_ok-declare.ensures c.in_ok-initial.ensures

pub declarations::declare_names-loop-name-init : goal.declarations::declare_names-loop-name-init
declarations::declare_names-loop-name-init t c =
    names_none (program_of c.args.walk.now) (mode_of c.args.walk.now) c.args.depth c.args.at c.args.sym.now c.requires.ready.fits

pub declarations::declare_names-introduce-requires : goal.declarations::declare_names-introduce-requires
declarations::declare_names-introduce-requires t c =
    (omega (arith, c.decreases, names_part (program_of c.args.walk.now) (mode_of c.args.walk.now) c.args.depth c.args.at c.args.names.now c.loop-name.name-index c.name-item.result c.loop-name-test.true c.name-item.is), (c.requires.walk, names_next (program_of c.args.walk.now) (mode_of c.args.walk.now) c.args.depth c.args.at c.args.names.now c.loop-name.name-index c.name-item.result c.loop-name-test.true c.name-item.is c.requires.ready c.loop-name.invariant))

pub declarations::declare_names-loop-name-preserved : goal.declarations::declare_names-loop-name-preserved
declarations::declare_names-loop-name-preserved t c =
    names_on (program_of c.args.walk.now) (mode_of c.args.walk.now) c.args.depth c.args.at c.args.names.now c.loop-name.name-index c.name-item.result c.loop-name-test.true c.name-item.is c.loop-name.invariant c.in_ok-introduce.ensures

pub declarations::declare_names-returns : goal.declarations::declare_names-returns
declarations::declare_names-returns t c =
    subst (λ z. NamesDo (program_of c.args.walk.now) (mode_of c.args.walk.now) c.args.depth c.args.at (names_view z) c.args.sym.now c.loop-name.sym)
    (take_all c.loop-name.name-index c.args.names.now (omega (arith, c.loop-name-test.false))) c.loop-name.invariant

pub declarations::first-returns-in-Absent : goal.declarations::first-returns-in-Absent
declarations::first-returns-in-Absent t c =
    let p = program_of c.args.walk.now in
    let W = mode_of c.args.walk.now in
    subst (λ i. FirstDoes p W c.args.depth c.args.at (first_view i) c.args.sym.now c.args.sym.now) (sym c.in-Absent.is) (no_first p W c.args.depth c.args.at c.args.sym.now c.requires.ready.fits)

pub declarations::first-full-requires : goal.declarations::first-full-requires
declarations::first-full-requires t c =
    let p = program_of c.args.walk.now in
    let W = mode_of c.args.walk.now in
    (omega (arith, c.decreases, ap (λ i. weight_of_first (program_of c.args.walk.now) (mode_of c.args.walk.now) c.args.depth (first_view i)) c.in-Expr.is), (c.requires.walk, first_exp_ready p W c.args.depth (expr_view c.in-Expr.e) (subst (λ i. FirstReady p W c.args.depth c.args.sym.now (first_view i)) c.in-Expr.is c.requires.ready)))

pub declarations::first-returns-in_ok-_value-in-Expr : goal.declarations::first-returns-in_ok-_value-in-Expr
declarations::first-returns-in_ok-_value-in-Expr t c =
    let p = program_of c.args.walk.now in
    let W = mode_of c.args.walk.now in
    subst (λ i. FirstDoes p W c.args.depth c.args.at (first_view i) c.args.sym.now c.full.new.sym) (sym c.in-Expr.is) (first_exp_does p W c.args.depth c.args.at (expr_view c.in-Expr.e) c.in_ok-_value-in-Expr.ensures)

pub declarations::first-declare_names-requires : goal.declarations::first-declare_names-requires
declarations::first-declare_names-requires t c =
    let p = program_of c.args.walk.now in
    let W = mode_of c.args.walk.now in (
      omega (arith, c.decreases, ap (λ i. weight_of_first (program_of c.args.walk.now) (mode_of c.args.walk.now) c.args.depth (first_view i)) c.in-Declare.is, ap (λ ns. weight_of_first (program_of c.args.walk.now) (mode_of c.args.walk.now) c.args.depth (FirstNames (names_view ns))) c.as_slice.ensures),
      (
        c.requires.walk,
        first_names_ready p W c.args.depth (names_view c.as_slice.result.now)
            (subst (λ ns. FirstReady p W c.args.depth c.args.sym.now (FirstNames (names_view ns))) (sym c.as_slice.ensures)
            (subst (λ i. FirstReady p W c.args.depth c.args.sym.now (first_view i)) c.in-Declare.is c.requires.ready)),
      ),
    )

pub declarations::first-returns-in_ok-declare_names-in-Declare : goal.declarations::first-returns-in_ok-declare_names-in-Declare
declarations::first-returns-in_ok-declare_names-in-Declare t c =
    let p = program_of c.args.walk.now in
    let W = mode_of c.args.walk.now in
    subst (λ i. FirstDoes p W c.args.depth c.args.at (first_view i) c.args.sym.now c.declare_names.new.sym) (sym c.in-Declare.is)
    (subst (λ ns. FirstDoes p W c.args.depth c.args.at (FirstNames (names_view ns)) c.args.sym.now c.declare_names.new.sym) c.as_slice.ensures
    (first_names_do p W c.args.depth c.args.at (names_view c.as_slice.result.now) c.in_ok-declare_names-in-Declare.ensures))

pub statements::only-full-requires : goal.statements::only-full-requires
statements::only-full-requires t c =
    (omega (arith, c.decreases), (c.requires.walk, only_ready (program_of c.args.walk.now) (mode_of c.args.walk.now) c.args.depth c.args.gives c.args.at (expr_view c.args.e.now) c.requires.ready))

pub statements::only-returns : goal.statements::only-returns
statements::only-returns t c =
    only_does (program_of c.args.walk.now) (mode_of c.args.walk.now) c.args.depth c.args.gives c.args.at (expr_view c.args.e.now) c.in_ok-_value.ensures

pub statements::give_as-full-requires : goal.statements::give_as-full-requires
statements::give_as-full-requires t c =
    (omega (arith, c.decreases), (c.requires.walk, value_ready (program_of c.args.walk.now) (mode_of c.args.walk.now) c.args.depth c.args.to c.args.at (expr_view c.args.e.now) c.requires.ready))

pub statements::give_as-convert-requires-clause-fits : goal.statements::give_as-convert-requires-clause-fits
statements::give_as-convert-requires-clause-fits t c =
    c.in_ok-x.ensures.follows.fits

pub statements::give_as-convert-requires-clause-x_in : goal.statements::give_as-convert-requires-clause-x_in
statements::give_as-convert-requires-clause-x_in t c =
    value_in (program_of c.args.walk.now) (mode_of c.args.walk.now) c.args.depth c.args.to c.args.at (expr_view c.args.e.now) c.requires.ready c.in_ok-x.ensures c.type_of.result c.type_of.ensures

pub statements::give_as-convert-requires-clause-room : goal.statements::give_as-convert-requires-clause-room
statements::give_as-convert-requires-clause-room t c =
    value_room (program_of c.args.walk.now) (mode_of c.args.walk.now) c.args.depth c.args.to c.args.at (expr_view c.args.e.now) c.requires.ready c.in_ok-x.ensures c.type_of.result c.type_of.ensures

pub statements::give_as-give-requires-clause-fits : goal.statements::give_as-give-requires-clause-fits
statements::give_as-give-requires-clause-fits t c =
    c.in_ok-y.ensures.turned.fits

pub statements::give_as-give-requires-clause-typed : goal.statements::give_as-give-requires-clause-typed
statements::give_as-give-requires-clause-typed t c =
    give_type (program_of c.args.walk.now) (mode_of c.args.walk.now) c.args.depth c.args.to c.args.at (expr_view c.args.e.now) c.requires.ready c.in_ok-x.ensures c.type_of.result c.type_of.ensures c.in_ok-y.ensures

pub statements::give_as-give-requires-clause-value_in : goal.statements::give_as-give-requires-clause-value_in
statements::give_as-give-requires-clause-value_in t c =
    c.in_ok-y.ensures.bits_in

pub statements::give_as-give-requires-clause-room : goal.statements::give_as-give-requires-clause-room
statements::give_as-give-requires-clause-room t c =
    give_room (program_of c.args.walk.now) (mode_of c.args.walk.now) c.args.depth c.args.to c.args.at (expr_view c.args.e.now) c.requires.ready c.in_ok-x.ensures c.type_of.result c.type_of.ensures c.in_ok-y.ensures

pub statements::give_as-returns : goal.statements::give_as-returns
statements::give_as-returns t c =
    give_does (program_of c.args.walk.now) (mode_of c.args.walk.now) c.args.depth c.args.to c.args.at (expr_view c.args.e.now) c.requires.ready c.in_ok-x.ensures c.type_of.result c.type_of.ensures c.in_ok-y.ensures c.in_ok-give.ensures

pub statements::give_value-give_as-requires : goal.statements::give_value-give_as-requires
statements::give_value-give_as-requires t c =
    (omega (arith, c.decreases, ap (λ g. weight_of_form (program_of c.args.walk.now) (mode_of c.args.walk.now) c.args.depth g c.args.at (Return (Some (expr_view c.args.e.now)))) c.in-Some.is), (c.requires.walk, subst (λ g. FormReady (program_of c.args.walk.now) (mode_of c.args.walk.now) c.args.depth g c.args.at c.args.sym.now (Return (Some (expr_view c.args.e.now)))) c.in-Some.is c.requires.ready))

pub statements::give_value-returns : goal.statements::give_value-returns
statements::give_value-returns t c =
    subst (λ g. FormDoes (program_of c.args.walk.now) (mode_of c.args.walk.now) c.args.depth g c.args.at (Return (Some (expr_view c.args.e.now))) c.args.sym.now c.give_as.new.sym) (sym c.in-Some.is) c.in_ok-give_as-in-Some.ensures

pub statements::give_value-unreachable-requires : goal.statements::give_value-unreachable-requires
statements::give_value-unreachable-requires t c =
    no_value (program_of c.args.walk.now) (mode_of c.args.walk.now) c.args.depth c.args.at c.args.sym.now (expr_view c.args.e.now)
    (subst (λ g. FormReady (program_of c.args.walk.now) (mode_of c.args.walk.now) c.args.depth g c.args.at c.args.sym.now (Return (Some (expr_view c.args.e.now)))) c.in-None.is c.requires.ready)

pub statements::give_back-give_value-requires : goal.statements::give_back-give_value-requires
statements::give_back-give_value-requires t c =
    (omega (arith, c.decreases, ap (λ e. weight_of_form (program_of c.args.walk.now) (mode_of c.args.walk.now) c.args.depth c.args.gives c.args.at (Return (expr_view_if e))) c.in-Some.is), (c.requires.walk, subst (λ e. FormReady (program_of c.args.walk.now) (mode_of c.args.walk.now) c.args.depth c.args.gives c.args.at c.args.sym.now (Return (expr_view_if e))) c.in-Some.is c.requires.ready))

pub statements::give_back-returns-in_ok-give_value-in-Some : goal.statements::give_back-returns-in_ok-give_value-in-Some
statements::give_back-returns-in_ok-give_value-in-Some t c =
    subst (λ e. FormDoes (program_of c.args.walk.now) (mode_of c.args.walk.now) c.args.depth c.args.gives c.args.at (Return (expr_view_if e)) c.args.sym.now c.give_value.new.sym) (sym c.in-Some.is) c.in_ok-give_value-in-Some.ensures

pub statements::give_back-go_back-requires-clause-fits : goal.statements::give_back-go_back-requires-clause-fits
statements::give_back-go_back-requires-clause-fits t c =
    c.requires.ready.fits

pub statements::give_back-go_back-requires-clause-room : goal.statements::give_back-go_back-requires-clause-room
statements::give_back-go_back-requires-clause-room t c =
    form_room (program_of c.args.walk.now) (mode_of c.args.walk.now) c.args.depth c.args.gives c.args.at (Return (expr_view_if c.args.e.now)) c.requires.ready

pub statements::give_back-returns-in_ok-go_back-in-None : goal.statements::give_back-returns-in_ok-go_back-in-None
statements::give_back-returns-in_ok-go_back-in-None t c =
    subst (λ e. FormDoes (program_of c.args.walk.now) (mode_of c.args.walk.now) c.args.depth c.args.gives c.args.at (Return (expr_view_if e)) c.args.sym.now c.go_back.new.sym) (sym c.in-None.is)
    (return_does (program_of c.args.walk.now) (mode_of c.args.walk.now) c.args.depth c.args.gives c.args.at
    (subst (λ e. FormReady (program_of c.args.walk.now) (mode_of c.args.walk.now) c.args.depth c.args.gives c.args.at c.args.sym.now (Return (expr_view_if e))) c.in-None.is c.requires.ready) c.in_ok-go_back-in-None.ensures)

pub statements::statement-begin-requires-clause-fits : goal.statements::statement-begin-requires-clause-fits
statements::statement-begin-requires-clause-fits t c =
    c.requires.ready.fits

pub statements::statement-begin-requires-clause-room : goal.statements::statement-begin-requires-clause-room
statements::statement-begin-requires-clause-room t c =
    let p = program_of c.args.walk.now in
    let W = mode_of c.args.walk.now in
    test_room p W c.args.depth c.args.gives c.args.s.now.spot (form_view c.args.s.now.form) c.requires.ready

pub statements::statement-form-requires : goal.statements::statement-form-requires
statements::statement-form-requires t c =
    let p = program_of c.args.walk.now in
    let W = mode_of c.args.walk.now in
    (omega (arith, c.decreases), (c.requires.walk, form_ready p W c.args.depth c.args.gives c.args.s.now.spot (form_view c.args.s.now.form) c.requires.ready c.in_ok-begin.ensures))

pub statements::statement-returns : goal.statements::statement-returns
statements::statement-returns t c =
    let p = program_of c.args.walk.now in
    let W = mode_of c.args.walk.now in
    statement_does p W c.args.depth c.args.gives c.args.s.now.spot (form_view c.args.s.now.form) c.in_ok-begin.ensures c.in_ok-form.ensures

pub statements::form-returns-in-Empty : goal.statements::form-returns-in-Empty
statements::form-returns-in-Empty t c =
    let p = program_of c.args.walk.now in
    let W = mode_of c.args.walk.now in
    subst (λ k. FormDoes p W c.args.depth c.args.gives c.args.at k c.args.sym.now c.args.sym.now) (sym (ap form_view c.in-Empty.is)) (empty_does p W c.args.depth c.args.gives c.args.sym.now c.args.at c.requires.ready.fits)

pub statements::form-only-requires : goal.statements::form-only-requires
statements::form-only-requires t c =
    let p = program_of c.args.walk.now in
    let W = mode_of c.args.walk.now in
    (omega (arith, c.decreases, ap (λ k. weight_of_form p W c.args.depth c.args.gives c.args.at k) (ap form_view c.in-Expr.is)), (c.requires.walk, subst (λ k. FormReady p W c.args.depth c.args.gives c.args.at c.args.sym.now k) (ap form_view c.in-Expr.is) c.requires.ready))

pub statements::form-returns-in_ok-only-in-Expr : goal.statements::form-returns-in_ok-only-in-Expr
statements::form-returns-in_ok-only-in-Expr t c =
    let p = program_of c.args.walk.now in
    let W = mode_of c.args.walk.now in
    subst (λ k. FormDoes p W c.args.depth c.args.gives c.args.at k c.args.sym.now c.only.new.sym) (sym (ap form_view c.in-Expr.is)) (c.in_ok-only-in-Expr.ensures)

pub statements::form-declare_names-requires : goal.statements::form-declare_names-requires
statements::form-declare_names-requires t c =
    let p = program_of c.args.walk.now in
    let W = mode_of c.args.walk.now in
    (omega (arith, c.decreases, ap (λ k. weight_of_form p W c.args.depth c.args.gives c.args.at k) (ap form_view c.in-Declare.is ∙ ap (λ ns. Declare (names_view ns)) (sym c.as_slice.ensures))), (c.requires.walk, names_ready p W c.args.depth c.args.gives c.args.at (names_view c.as_slice.result.now) (subst (λ k. FormReady p W c.args.depth c.args.gives c.args.at c.args.sym.now k) (ap form_view c.in-Declare.is ∙ ap (λ ns. Declare (names_view ns)) (sym c.as_slice.ensures)) c.requires.ready)))

pub statements::form-returns-in_ok-declare_names-in-Declare : goal.statements::form-returns-in_ok-declare_names-in-Declare
statements::form-returns-in_ok-declare_names-in-Declare t c =
    let p = program_of c.args.walk.now in
    let W = mode_of c.args.walk.now in
    subst (λ k. FormDoes p W c.args.depth c.args.gives c.args.at k c.args.sym.now c.declare_names.new.sym) (sym (ap form_view c.in-Declare.is ∙ ap (λ ns. Declare (names_view ns)) (sym c.as_slice.ensures))) (names_do p W c.args.depth c.args.gives c.args.at (names_view c.as_slice.result.now) c.in_ok-declare_names-in-Declare.ensures)

pub statements::form-block-requires : goal.statements::form-block-requires
statements::form-block-requires t c =
    let p = program_of c.args.walk.now in
    let W = mode_of c.args.walk.now in
    let e : form_view c.args.f.now ≡ Block (stmts_view c.as_slice-in-Block.result.now) = ap form_view c.in-Block.is ∙ view_of_block c.in-Block.body ∙ ap (λ ss. Block (stmts_view ss)) (sym c.as_slice-in-Block.ensures) in
    (omega (arith, c.decreases, ap (λ k. weight_of_form p W c.args.depth c.args.gives c.args.at k) e), (c.requires.walk, subst (λ k. FormReady p W c.args.depth c.args.gives c.args.at c.args.sym.now k) (e) c.requires.ready))

pub statements::form-returns-in_ok-block-in-Block : goal.statements::form-returns-in_ok-block-in-Block
statements::form-returns-in_ok-block-in-Block t c =
    let p = program_of c.args.walk.now in
    let W = mode_of c.args.walk.now in
    subst (λ k. FormDoes p W c.args.depth c.args.gives c.args.at k c.args.sym.now c.block.new.sym) (sym (ap form_view c.in-Block.is ∙ view_of_block c.in-Block.body ∙ ap (λ ss. Block (stmts_view ss)) (sym c.as_slice-in-Block.ensures))) (c.in_ok-block-in-Block.ensures)

pub statements::form-choose-requires : goal.statements::form-choose-requires
statements::form-choose-requires t c =
    let p = program_of c.args.walk.now in
    let W = mode_of c.args.walk.now in
    let e : form_view c.args.f.now ≡ If (expr_view c.in-If.test) (stmt_view c.deref.result.now) (else_of c.in-If.no) = ap form_view c.in-If.is ∙ view_of_if c.in-If.test c.in-If.yes c.in-If.no ∙ ap (λ s. If (expr_view c.in-If.test) (stmt_view s) (else_of c.in-If.no)) (sym c.deref.ensures) in
    (omega (arith, c.decreases, ap (λ k. weight_of_form p W c.args.depth c.args.gives c.args.at k) e), (c.requires.walk, subst (λ k. FormReady p W c.args.depth c.args.gives c.args.at c.args.sym.now k) (e) c.requires.ready))

pub statements::form-returns-in_ok-choose-in-If : goal.statements::form-returns-in_ok-choose-in-If
statements::form-returns-in_ok-choose-in-If t c =
    let p = program_of c.args.walk.now in
    let W = mode_of c.args.walk.now in
    subst (λ k. FormDoes p W c.args.depth c.args.gives c.args.at k c.args.sym.now c.choose.new.sym) (sym (ap form_view c.in-If.is ∙ view_of_if c.in-If.test c.in-If.yes c.in-If.no ∙ ap (λ s. If (expr_view c.in-If.test) (stmt_view s) (else_of c.in-If.no)) (sym c.deref.ensures))) (c.in_ok-choose-in-If.ensures)

pub statements::form-leave_loop-requires-clause-fits : goal.statements::form-leave_loop-requires-clause-fits
statements::form-leave_loop-requires-clause-fits t c =
    c.requires.ready.fits

pub statements::form-leave_loop-requires-clause-room : goal.statements::form-leave_loop-requires-clause-room
statements::form-leave_loop-requires-clause-room t c =
    let p = program_of c.args.walk.now in
    let W = mode_of c.args.walk.now in
    form_room p W c.args.depth c.args.gives c.args.at (form_view c.args.f.now) c.requires.ready

pub statements::form-returns-in_ok-leave_loop-in-Break : goal.statements::form-returns-in_ok-leave_loop-in-Break
statements::form-returns-in_ok-leave_loop-in-Break t c =
    let p = program_of c.args.walk.now in
    let W = mode_of c.args.walk.now in
    subst (λ k. FormDoes p W c.args.depth c.args.gives c.args.at k c.args.sym.now c.leave_loop.new.sym) (sym (ap form_view c.in-Break.is)) (break_does p W c.args.depth c.args.gives c.args.at c.in_ok-leave_loop-in-Break.ensures)

pub statements::form-go_again-requires-clause-fits : goal.statements::form-go_again-requires-clause-fits
statements::form-go_again-requires-clause-fits t c =
    c.requires.ready.fits

pub statements::form-go_again-requires-clause-room : goal.statements::form-go_again-requires-clause-room
statements::form-go_again-requires-clause-room t c =
    let p = program_of c.args.walk.now in
    let W = mode_of c.args.walk.now in
    form_room p W c.args.depth c.args.gives c.args.at (form_view c.args.f.now) c.requires.ready

pub statements::form-returns-in_ok-go_again-in-Continue : goal.statements::form-returns-in_ok-go_again-in-Continue
statements::form-returns-in_ok-go_again-in-Continue t c =
    let p = program_of c.args.walk.now in
    let W = mode_of c.args.walk.now in
    subst (λ k. FormDoes p W c.args.depth c.args.gives c.args.at k c.args.sym.now c.go_again.new.sym) (sym (ap form_view c.in-Continue.is)) (continue_does p W c.args.depth c.args.gives c.args.at c.in_ok-go_again-in-Continue.ensures)

pub statements::form-give_back-requires : goal.statements::form-give_back-requires
statements::form-give_back-requires t c =
    let p = program_of c.args.walk.now in
    let W = mode_of c.args.walk.now in
    (omega (arith, c.decreases, ap (λ k. weight_of_form p W c.args.depth c.args.gives c.args.at k) (ap form_view c.in-Return.is)), (c.requires.walk, subst (λ k. FormReady p W c.args.depth c.args.gives c.args.at c.args.sym.now k) (ap form_view c.in-Return.is) c.requires.ready))

pub statements::form-returns-in_ok-give_back-in-Return : goal.statements::form-returns-in_ok-give_back-in-Return
statements::form-returns-in_ok-give_back-in-Return t c =
    let p = program_of c.args.walk.now in
    let W = mode_of c.args.walk.now in
    subst (λ k. FormDoes p W c.args.depth c.args.gives c.args.at k c.args.sym.now c.give_back.new.sym) (sym (ap form_view c.in-Return.is)) (c.in_ok-give_back-in-Return.ensures)

pub statements::form-statement-requires : goal.statements::form-statement-requires
statements::form-statement-requires t c =
    let p = program_of c.args.walk.now in
    let W = mode_of c.args.walk.now in
    let e : form_view c.args.f.now ≡ Label (stmt_view c.deref-in-Label.result.now) = ap form_view c.in-Label.is ∙ ap (λ s. Label (stmt_view s)) (sym c.deref-in-Label.ensures) in
    (omega (arith, c.decreases, ap (λ k. weight_of_form p W c.args.depth c.args.gives c.args.at k) e), (c.requires.walk, label_ready p W c.args.depth c.args.gives c.args.at (stmt_view c.deref-in-Label.result.now) (subst (λ k. FormReady p W c.args.depth c.args.gives c.args.at c.args.sym.now k) (e) c.requires.ready)))

pub statements::form-returns-in_ok-statement-in-Label : goal.statements::form-returns-in_ok-statement-in-Label
statements::form-returns-in_ok-statement-in-Label t c =
    let p = program_of c.args.walk.now in
    let W = mode_of c.args.walk.now in
    subst (λ k. FormDoes p W c.args.depth c.args.gives c.args.at k c.args.sym.now c.statement.new.sym) (sym (ap form_view c.in-Label.is ∙ ap (λ s. Label (stmt_view s)) (sym c.deref-in-Label.ensures))) (label_does p W c.args.depth c.args.gives c.args.at (stmt_view c.deref-in-Label.result.now) c.in_ok-statement-in-Label.ensures)

pub statements::execs-loop-s-init : goal.statements::execs-loop-s-init
statements::execs-loop-s-init t c =
    let p = program_of c.args.walk.now in
    let W = mode_of c.args.walk.now in
    block_none p W c.args.depth c.args.gives c.args.sym.now c.requires.ready.fits

pub statements::execs-statement-requires : goal.statements::execs-statement-requires
statements::execs-statement-requires t c =
    let p = program_of c.args.walk.now in
    let W = mode_of c.args.walk.now in
    (omega (arith, c.decreases, block_part p W c.args.depth c.args.gives c.args.body.now c.loop-s.s-index c.s-item.result c.loop-s-test.true c.s-item.is), (c.requires.walk, block_next p W c.args.depth c.args.gives c.args.body.now c.loop-s.s-index c.s-item.result c.loop-s-test.true c.s-item.is c.requires.ready c.loop-s.invariant))

pub statements::execs-loop-s-preserved : goal.statements::execs-loop-s-preserved
statements::execs-loop-s-preserved t c =
    let p = program_of c.args.walk.now in
    let W = mode_of c.args.walk.now in
    block_more p W c.args.depth c.args.gives c.args.body.now c.loop-s.s-index c.s-item.result c.loop-s-test.true c.s-item.is c.loop-s.invariant c.in_ok-statement.ensures

pub statements::execs-returns : goal.statements::execs-returns
statements::execs-returns t c =
    let p = program_of c.args.walk.now in
    let W = mode_of c.args.walk.now in
    subst (λ z. BlockDoes p W c.args.depth c.args.gives (stmts_view z) c.args.sym.now c.loop-s.sym) (take_all c.loop-s.s-index c.args.body.now (omega (arith, c.loop-s-test.false))) c.loop-s.invariant

pub statements::block-execs-requires : goal.statements::block-execs-requires
statements::block-execs-requires t c =
    let p = program_of c.args.walk.now in
    let W = mode_of c.args.walk.now in
    (omega (arith, c.decreases), (c.requires.walk, block_ready p W c.args.depth c.args.gives c.args.at (stmts_view c.args.body.now) c.requires.ready))

pub statements::block-cut-requires : goal.statements::block-cut-requires
statements::block-cut-requires t c =
    record { fits = c.in_ok-execs.ensures.fits }

pub statements::block-returns : goal.statements::block-returns
statements::block-returns t c =
    let p = program_of c.args.walk.now in
    let W = mode_of c.args.walk.now in
    block_does p W c.args.depth c.args.gives c.args.at (stmts_view c.args.body.now) c.len-cells.result c.requires.ready (omega (arith, c.len-cells.ensures, c.args.sym.now.cells.ok.0)) c.in_ok-execs.ensures c.cut.ensures

pub statements::arm-statement-requires : goal.statements::arm-statement-requires
statements::arm-statement-requires t c =
    (omega (arith, c.decreases), (c.requires.walk, c.requires.ready))

pub statements::arm-cut-requires : goal.statements::arm-cut-requires
statements::arm-cut-requires t c =
    record { fits = c.in_ok-statement.ensures.fits }

pub statements::arm-returns : goal.statements::arm-returns
statements::arm-returns t c =
    let p = program_of c.args.walk.now in
    let W = mode_of c.args.walk.now in
    scope_does p W c.args.depth c.args.gives (stmt_view c.args.s.now) c.len-outer.result c.requires.ready (omega (arith, c.len-outer.ensures, c.args.sym.now.cells.ok.0)) c.in_ok-statement.ensures c.cut.ensures

pub statements::otherwise-arm-requires : goal.statements::otherwise-arm-requires
statements::otherwise-arm-requires t c =
    let p = program_of c.args.walk.now in
    let W = mode_of c.args.walk.now in
    let e : else_of c.args.no.now ≡ OrElse (stmt_view c.deref.result.now) = ap else_of c.in-Some.is ∙ ap (λ s. OrElse (stmt_view s)) (sym c.deref.ensures) in
    (omega (arith, c.decreases, ap (λ k. weight_of_else p W c.args.depth c.args.gives k) e), (c.requires.walk, else_ready p W c.args.depth c.args.gives (stmt_view c.deref.result.now) (subst (λ k. ElseReady p W c.args.depth c.args.gives c.args.sym.now k) e c.requires.ready)))

pub statements::otherwise-returns-in_ok-arm-in-Some : goal.statements::otherwise-returns-in_ok-arm-in-Some
statements::otherwise-returns-in_ok-arm-in-Some t c =
    let p = program_of c.args.walk.now in
    let W = mode_of c.args.walk.now in
    subst (λ k. ElseDoes p W c.args.depth c.args.gives k c.args.sym.now c.arm.new.sym) (sym (ap else_of c.in-Some.is ∙ ap (λ s. OrElse (stmt_view s)) (sym c.deref.ensures))) (else_does p W c.args.depth c.args.gives (stmt_view c.deref.result.now) c.in_ok-arm-in-Some.ensures)

pub statements::otherwise-returns-in-None : goal.statements::otherwise-returns-in-None
statements::otherwise-returns-in-None t c =
    let p = program_of c.args.walk.now in
    let W = mode_of c.args.walk.now in
    subst (λ k. ElseDoes p W c.args.depth c.args.gives k c.args.sym.now c.args.sym.now) (sym (ap else_of c.in-None.is)) (no_else p W c.args.depth c.args.gives c.args.sym.now c.requires.ready.fits)

pub statements::choose-decided-requires : goal.statements::choose-decided-requires
statements::choose-decided-requires t c =
    let p = program_of c.args.walk.now in
    let W = mode_of c.args.walk.now in
    (omega (arith, c.decreases), (c.requires.walk, choice_ready p W c.args.depth c.args.gives c.args.at (expr_view c.args.test.now) (stmt_view c.args.yes.now) (else_of c.args.no.now) c.requires.ready))

pub statements::choose-narrow-requires-clause-fits : goal.statements::choose-narrow-requires-clause-fits
statements::choose-narrow-requires-clause-fits t c =
    c.in_ok-bit.ensures.follows.fits

pub statements::choose-narrow-requires-clause-a_in : goal.statements::choose-narrow-requires-clause-a_in
statements::choose-narrow-requires-clause-a_in t c =
    c.in_ok-bit.ensures.follows.fits.live

pub statements::choose-narrow-requires-clause-b_in : goal.statements::choose-narrow-requires-clause-b_in
statements::choose-narrow-requires-clause-b_in t c =
    c.in_ok-bit.ensures.bit_in

pub statements::choose-narrow-requires-clause-room : goal.statements::choose-narrow-requires-clause-room
statements::choose-narrow-requires-clause-room t c =
    let p = program_of c.args.walk.now in
    let W = mode_of c.args.walk.now in
    first_room p W c.args.depth c.args.gives c.args.at (expr_view c.args.test.now) (stmt_view c.args.yes.now) (else_of c.args.no.now) c.requires.ready c.in_ok-bit.ensures

pub statements::choose-arm-requires : goal.statements::choose-arm-requires
statements::choose-arm-requires t c =
    let p = program_of c.args.walk.now in
    let W = mode_of c.args.walk.now in
    (omega (arith, c.decreases), (c.requires.walk, yes_ready p W c.args.depth c.args.gives c.args.at (expr_view c.args.test.now) (stmt_view c.args.yes.now) (else_of c.args.no.now) c.requires.ready c.in_ok-bit.ensures c.in_ok-narrow.ensures))

pub statements::choose-narrow-requires-2-clause-fits : goal.statements::choose-narrow-requires-2-clause-fits
statements::choose-narrow-requires-2-clause-fits t c =
    c.in_ok-arm.ensures.runs.fits

pub statements::choose-narrow-requires-2-clause-a_in : goal.statements::choose-narrow-requires-2-clause-a_in
statements::choose-narrow-requires-2-clause-a_in t c =
    let p = program_of c.args.walk.now in
    let W = mode_of c.args.walk.now in
    still_in p W c.args.depth c.args.gives c.args.at (expr_view c.args.test.now) (stmt_view c.args.yes.now) (else_of c.args.no.now) c.requires.ready c.in_ok-bit.ensures c.in_ok-narrow.ensures c.in_ok-arm.ensures c.decided.new.sym.live c.in_ok-bit.ensures.follows.fits.live

pub statements::choose-narrow-requires-2-clause-b_in : goal.statements::choose-narrow-requires-2-clause-b_in
statements::choose-narrow-requires-2-clause-b_in t c =
    let p = program_of c.args.walk.now in
    let W = mode_of c.args.walk.now in
    subst (λ k. IsIn c.arm.new.sym.net k) (sym c.not-other.ensures) (still_in p W c.args.depth c.args.gives c.args.at (expr_view c.args.test.now) (stmt_view c.args.yes.now) (else_of c.args.no.now) c.requires.ready c.in_ok-bit.ensures c.in_ok-narrow.ensures c.in_ok-arm.ensures (opposite c.in_ok-bit.bit) c.in_ok-bit.ensures.bit_in)

pub statements::choose-narrow-requires-2-clause-room : goal.statements::choose-narrow-requires-2-clause-room
statements::choose-narrow-requires-2-clause-room t c =
    let p = program_of c.args.walk.now in
    let W = mode_of c.args.walk.now in
    second_room p W c.args.depth c.args.gives c.args.at (expr_view c.args.test.now) (stmt_view c.args.yes.now) (else_of c.args.no.now) c.requires.ready c.in_ok-bit.ensures c.in_ok-narrow.ensures c.in_ok-arm.ensures

pub statements::choose-otherwise-requires : goal.statements::choose-otherwise-requires
statements::choose-otherwise-requires t c =
    let p = program_of c.args.walk.now in
    let W = mode_of c.args.walk.now in
    (omega (arith, c.decreases), (c.requires.walk, no_ready p W c.args.depth c.args.gives c.args.at (expr_view c.args.test.now) (stmt_view c.args.yes.now) (else_of c.args.no.now) c.requires.ready c.in_ok-bit.ensures c.in_ok-narrow.ensures c.in_ok-arm.ensures c.in_ok-narrow-2.ensures))

pub statements::choose-join-requires-clause-fits : goal.statements::choose-join-requires-clause-fits
statements::choose-join-requires-clause-fits t c =
    c.in_ok-otherwise.ensures.runs.fits

pub statements::choose-join-requires-clause-other_in : goal.statements::choose-join-requires-clause-other_in
statements::choose-join-requires-clause-other_in t c =
    let p = program_of c.args.walk.now in
    let W = mode_of c.args.walk.now in
    last_in p W c.args.depth c.args.gives c.args.at (expr_view c.args.test.now) (stmt_view c.args.yes.now) (else_of c.args.no.now) c.requires.ready c.in_ok-bit.ensures c.in_ok-narrow.ensures c.in_ok-arm.ensures c.in_ok-narrow-2.ensures c.in_ok-otherwise.ensures c.arm.new.sym.live c.in_ok-arm.ensures.runs.fits.live

pub statements::choose-join-requires-clause-room : goal.statements::choose-join-requires-clause-room
statements::choose-join-requires-clause-room t c =
    let p = program_of c.args.walk.now in
    let W = mode_of c.args.walk.now in
    last_room p W c.args.depth c.args.gives c.args.at (expr_view c.args.test.now) (stmt_view c.args.yes.now) (else_of c.args.no.now) c.requires.ready c.in_ok-bit.ensures c.in_ok-narrow.ensures c.in_ok-arm.ensures c.in_ok-narrow-2.ensures c.in_ok-otherwise.ensures

pub statements::choose-returns : goal.statements::choose-returns
statements::choose-returns t c =
    let p = program_of c.args.walk.now in
    let W = mode_of c.args.walk.now in
    choose_runs p W c.args.depth c.args.gives c.args.at (expr_view c.args.test.now) (stmt_view c.args.yes.now) (else_of c.args.no.now) c.in_ok-bit.bit c.not-other.result c.in_ok-bit.ensures c.not-other.ensures c.in_ok-narrow.ensures c.in_ok-arm.ensures c.in_ok-narrow-2.ensures c.in_ok-otherwise.ensures c.in_ok-join.ensures

pub statements::form-one_loop-requires : goal.statements::form-one_loop-requires
statements::form-one_loop-requires t c = (omega (arith, c.decreases), (c.requires.walk, (ap (λ f. is_loop (form_view f)) c.in-While.is, c.requires.ready)))

pub statements::form-one_loop-requires-in-Do : goal.statements::form-one_loop-requires-in-Do
statements::form-one_loop-requires-in-Do t c = (omega (arith, c.decreases), (c.requires.walk, (ap (λ f. is_loop (form_view f)) c.in-Do.is, c.requires.ready)))

pub statements::form-one_loop-requires-in-For : goal.statements::form-one_loop-requires-in-For
statements::form-one_loop-requires-in-For t c = (omega (arith, c.decreases), (c.requires.walk, (ap (λ f. is_loop (form_view f)) c.in-For.is, c.requires.ready)))

pub control::full-eval-requires : goal.control::full-eval-requires
control::full-eval-requires t c =
    let p = program_of c.args.walk.now in
    let W = mode_of c.args.walk.now in
    let n = c.args.depth in
    (omega (arith, c.decreases), (c.requires.walk, full_ready p W n c.around-place.result c.around-place.ensures.duty c.requires.ready))

pub control::full-returns : goal.control::full-returns
control::full-returns t c =
    let p = program_of c.args.walk.now in
    let W = mode_of c.args.walk.now in
    let n = c.args.depth in
    full_gives p W n c.args.at c.around-place.result (use_of c.args.used) (expr_view c.args.e.now) c.around-place.ensures.place c.in_ok-bits.ensures

pub control::decided-full-requires : goal.control::decided-full-requires
control::decided-full-requires t c =
    let p = program_of c.args.walk.now in
    let W = mode_of c.args.walk.now in
    let n = c.args.depth in
    (omega (arith, c.decreases), (c.requires.walk, control_ready p W n c.requires.ready))

pub control::decided-test-requires-clause-fits : goal.control::decided-test-requires-clause-fits
control::decided-test-requires-clause-fits t c =
    c.in_ok-x.ensures.follows.fits

pub control::decided-test-requires-clause-x_in : goal.control::decided-test-requires-clause-x_in
control::decided-test-requires-clause-x_in t c =
    let p = program_of c.args.walk.now in
    let W = mode_of c.args.walk.now in
    let n = c.args.depth in
    control_bits p W n c.args.at (expr_view c.args.e.now) c.type_of.result c.type_of.ensures c.requires.ready.value c.in_ok-x.ensures

pub control::decided-test-requires-clause-room : goal.control::decided-test-requires-clause-room
control::decided-test-requires-clause-room t c =
    omega (arith, (longer_by c.in_ok-x.ensures.follows.added).1, c.requires.ready.room)

pub control::decided-tell_branch-requires-clause-room : goal.control::decided-tell_branch-requires-clause-room
control::decided-tell_branch-requires-clause-room t c =
    let p = program_of c.args.walk.now in
    let W = mode_of c.args.walk.now in
    let n = c.args.depth in
    let e = expr_view c.args.e.now in
    let cost = subst (λ k. conversion_cost p.model k BoolType ≤ width_of p.model (type_of e)) (sym c.type_of.ensures) (test_costs p.model (type_of e)) in
    control_room p W n c.args.at e c.requires.ready c.in_ok-x.ensures c.in_ok-bit.ensures cost

pub control::decided-returns : goal.control::decided-returns
control::decided-returns t c =
    let p = program_of c.args.walk.now in
    let W = mode_of c.args.walk.now in
    let n = c.args.depth in
    decides p W n c.args.at (expr_view c.args.e.now) c.type_of.result c.in_ok-bit.bit c.type_of.ensures c.requires.ready.value c.in_ok-x.ensures c.in_ok-bit.ensures c.in_ok-tell_branch.ensures

pub control::test_turn-decided-requires : goal.control::test_turn-decided-requires
control::test_turn-decided-requires t c =
    let p = program_of c.args.walk.now in
    let W = mode_of c.args.walk.now in
    let n = c.args.depth in
    (omega (arith, c.decreases), (c.requires.walk, test_ready p W n c.requires.ready))

pub control::test_turn-leave_unless-requires-clause-fits : goal.control::test_turn-leave_unless-requires-clause-fits
control::test_turn-leave_unless-requires-clause-fits t c =
    c.in_ok-bit.ensures.follows.fits

pub control::test_turn-leave_unless-requires-clause-room : goal.control::test_turn-leave_unless-requires-clause-room
control::test_turn-leave_unless-requires-clause-room t c =
    omega (arith, (longer_by c.in_ok-bit.ensures.follows.added).1, c.requires.ready.room)

pub control::test_turn-returns : goal.control::test_turn-returns
control::test_turn-returns t c =
    let p = program_of c.args.walk.now in
    let W = mode_of c.args.walk.now in
    let n = c.args.depth in
    test_does p W n c.args.at (expr_view c.args.e.now) c.in_ok-bit.bit c.in_ok-bit.ensures c.in_ok-leave_unless.ensures

pub control::test_turn_if-test_turn-requires : goal.control::test_turn_if-test_turn-requires
control::test_turn_if-test_turn-requires t c =
    let p = program_of c.args.walk.now in
    let W = mode_of c.args.walk.now in
    let n = c.args.depth in
    let e = ap expr_view_if c.in-Some.is in
    (omega (arith, c.decreases, ap (weight_of_test p W n c.args.at) e), (c.requires.walk, some_test_ready p W n (subst (TestIfReady p W n c.args.at c.args.sym.now) e c.requires.ready)))

pub control::test_turn_if-returns-in_ok-test_turn-in-Some : goal.control::test_turn_if-returns-in_ok-test_turn-in-Some
control::test_turn_if-returns-in_ok-test_turn-in-Some t c =
    let p = program_of c.args.walk.now in
    let W = mode_of c.args.walk.now in
    let n = c.args.depth in
    let e = ap expr_view_if c.in-Some.is in
    subst (λ o. TestIfDoes p W n c.args.at o c.args.sym.now c.test_turn.new.sym) (sym e) c.in_ok-test_turn-in-Some.ensures

pub control::test_turn_if-returns-in-None : goal.control::test_turn_if-returns-in-None
control::test_turn_if-returns-in-None t c =
    let p = program_of c.args.walk.now in
    let W = mode_of c.args.walk.now in
    let n = c.args.depth in
    let e = ap expr_view_if c.in-None.is in
    subst (λ o. TestIfDoes p W n c.args.at o c.args.sym.now c.args.sym.now) (sym e) (no_test p W n c.args.at (subst (TestIfReady p W n c.args.at c.args.sym.now) e c.requires.ready))

pub control::step_on-full-requires : goal.control::step_on-full-requires
control::step_on-full-requires t c =
    let p = program_of c.args.walk.now in
    let W = mode_of c.args.walk.now in
    let n = c.args.depth in
    let e = ap expr_view_if c.in-Some.is in
    (omega (arith, c.decreases, ap (weight_of_step p W n) e), (c.requires.walk, some_step_ready p W n (subst (StepReady p W n c.args.sym.now) e c.requires.ready)))

pub control::step_on-returns-in_ok-_value-in-Some : goal.control::step_on-returns-in_ok-_value-in-Some
control::step_on-returns-in_ok-_value-in-Some t c =
    let p = program_of c.args.walk.now in
    let W = mode_of c.args.walk.now in
    let n = c.args.depth in
    let e = ap expr_view_if c.in-Some.is in
    subst (λ o. StepDoes p W n c.args.at o c.args.sym.now c.full.new.sym) (sym e) (some_step p W n c.args.at (expr_view c.in-Some.step) c.in_ok-_value-in-Some.ensures)

pub control::step_on-returns-in-None : goal.control::step_on-returns-in-None
control::step_on-returns-in-None t c =
    let p = program_of c.args.walk.now in
    let W = mode_of c.args.walk.now in
    let n = c.args.depth in
    let e = ap expr_view_if c.in-None.is in
    subst (λ o. StepDoes p W n c.args.at o c.args.sym.now c.args.sym.now) (sym e) (no_step p W n c.args.at (subst (StepReady p W n c.args.sym.now) e c.requires.ready))

pub loops::loop_body-statement-requires : goal.loops::loop_body-statement-requires
loops::loop_body-statement-requires t c =
    let p = program_of c.args.walk.now in
    let W = mode_of c.args.walk.now in
    let n = c.args.depth in
    let gives = c.args.gives in
    (omega (arith, c.decreases), (c.requires.walk, body_starts p W n gives c.requires.ready c.start_body-kept.ensures.became))

pub loops::loop_body-end_body-requires-clause-fits : goal.loops::loop_body-end_body-requires-clause-fits
loops::loop_body-end_body-requires-clause-fits t c =
    c.in_ok-statement.ensures.fits

pub loops::loop_body-end_body-requires-clause-kept_in : goal.loops::loop_body-end_body-requires-clause-kept_in
loops::loop_body-end_body-requires-clause-kept_in t c =
    let p = program_of c.args.walk.now in
    let W = mode_of c.args.walk.now in
    let n = c.args.depth in
    let gives = c.args.gives in
    stays_in p W n gives c.start_body-kept.result c.args.sym.now.again c.start_body-kept.ensures.kept c.requires.ready.fits.again c.start_body-kept.ensures.became c.in_ok-statement.ensures

pub loops::loop_body-end_body-requires-clause-room : goal.loops::loop_body-end_body-requires-clause-room
loops::loop_body-end_body-requires-clause-room t c =
    let p = program_of c.args.walk.now in
    let W = mode_of c.args.walk.now in
    let n = c.args.depth in
    let gives = c.args.gives in
    omega (arith, body_ends p W n gives c.requires.ready c.start_body-kept.ensures.became c.in_ok-statement.ensures)

pub loops::loop_body-returns : goal.loops::loop_body-returns
loops::loop_body-returns t c =
    let p = program_of c.args.walk.now in
    let W = mode_of c.args.walk.now in
    let n = c.args.depth in
    let gives = c.args.gives in
    let count : vec_len c.args.sym.now.cells ≡ length c.args.sym.now.cells.items = search rules in
    body_does p W n gives c.start_body-kept.result c.len-cells.result c.requires.ready c.start_body-kept.ensures.kept (c.len-cells.ensures ∙ count) c.start_body-kept.ensures.became c.in_ok-statement.ensures c.in_ok-end_body.ensures

pub loops::while_turn-test_turn-requires : goal.loops::while_turn-test_turn-requires
loops::while_turn-test_turn-requires t c =
    let p = program_of c.args.walk.now in
    let W = mode_of c.args.walk.now in
    let n = c.args.depth in
    let gives = c.args.gives in
    (omega (arith, c.decreases), (c.requires.walk, while_tests p W n gives c.requires.ready))

pub loops::while_turn-loop_body-requires : goal.loops::while_turn-loop_body-requires
loops::while_turn-loop_body-requires t c =
    let p = program_of c.args.walk.now in
    let W = mode_of c.args.walk.now in
    let n = c.args.depth in
    let gives = c.args.gives in
    (omega (arith, c.decreases), (c.requires.walk, while_goes_on p W n gives c.args.at c.requires.ready c.in_ok-test_turn.ensures))

pub loops::while_turn-returns : goal.loops::while_turn-returns
loops::while_turn-returns t c =
    let p = program_of c.args.walk.now in
    let W = mode_of c.args.walk.now in
    let n = c.args.depth in
    let gives = c.args.gives in
    while_does p W n gives c.args.at (expr_view c.args.test.now) (stmt_view c.args.body.now) c.in_ok-test_turn.ensures c.in_ok-loop_body.ensures

pub loops::do_turn-loop_body-requires : goal.loops::do_turn-loop_body-requires
loops::do_turn-loop_body-requires t c =
    let p = program_of c.args.walk.now in
    let W = mode_of c.args.walk.now in
    let n = c.args.depth in
    let gives = c.args.gives in
    (omega (arith, c.decreases), (c.requires.walk, do_starts p W n gives c.requires.ready))

pub loops::do_turn-test_turn-requires : goal.loops::do_turn-test_turn-requires
loops::do_turn-test_turn-requires t c =
    let p = program_of c.args.walk.now in
    let W = mode_of c.args.walk.now in
    let n = c.args.depth in
    let gives = c.args.gives in
    (omega (arith, c.decreases), (c.requires.walk, do_tests p W n gives c.requires.ready c.in_ok-loop_body.ensures))

pub loops::do_turn-returns : goal.loops::do_turn-returns
loops::do_turn-returns t c =
    let p = program_of c.args.walk.now in
    let W = mode_of c.args.walk.now in
    let n = c.args.depth in
    let gives = c.args.gives in
    do_does p W n gives c.args.at (expr_view c.args.test.now) (stmt_view c.args.body.now) c.in_ok-loop_body.ensures c.in_ok-test_turn.ensures

pub loops::for_turn-test_turn_if-requires : goal.loops::for_turn-test_turn_if-requires
loops::for_turn-test_turn_if-requires t c =
    let p = program_of c.args.walk.now in
    let W = mode_of c.args.walk.now in
    let n = c.args.depth in
    let gives = c.args.gives in
    (omega (arith, c.decreases), (c.requires.walk, for_tests p W n gives c.requires.ready))

pub loops::for_turn-loop_body-requires : goal.loops::for_turn-loop_body-requires
loops::for_turn-loop_body-requires t c =
    let p = program_of c.args.walk.now in
    let W = mode_of c.args.walk.now in
    let n = c.args.depth in
    let gives = c.args.gives in
    (omega (arith, c.decreases), (c.requires.walk, for_goes_on p W n gives c.args.at c.requires.ready c.in_ok-test_turn_if.ensures))

pub loops::for_turn-step_on-requires : goal.loops::for_turn-step_on-requires
loops::for_turn-step_on-requires t c =
    let p = program_of c.args.walk.now in
    let W = mode_of c.args.walk.now in
    let n = c.args.depth in
    let gives = c.args.gives in
    (omega (arith, c.decreases), (c.requires.walk, for_steps p W n gives c.args.at c.requires.ready c.in_ok-test_turn_if.ensures c.in_ok-loop_body.ensures))

pub loops::for_turn-returns : goal.loops::for_turn-returns
loops::for_turn-returns t c =
    let p = program_of c.args.walk.now in
    let W = mode_of c.args.walk.now in
    let n = c.args.depth in
    let gives = c.args.gives in
    for_turn_does p W n gives c.args.at (expr_view_if c.args.test.now) (expr_view_if c.args.step.now) (stmt_view c.args.body.now) c.in_ok-test_turn_if.ensures c.in_ok-loop_body.ensures c.in_ok-step_on.ensures

pub loops::turn-while_turn-requires : goal.loops::turn-while_turn-requires
loops::turn-while_turn-requires t c =
    let p = program_of c.args.walk.now in
    let W = mode_of c.args.walk.now in
    let n = c.args.depth in
    let gives = c.args.gives in
    let e : loop_of (form_view c.args.f.now) ≡ Some (WhileLoop (expr_view c.in-While.test) (stmt_view c.deref.result.now)) = ap (λ f. loop_of (form_view f)) c.in-While.is ∙ ap (λ s. Some (WhileLoop (expr_view c.in-While.test) (stmt_view s))) (sym c.deref.ensures) in
    (omega (arith, c.decreases, ap (weight_of_turn p W n gives c.args.at) e), (c.requires.walk, subst (TurnReady p W n gives c.args.at c.args.sym.now) e c.requires.ready))

pub loops::turn-returns-in_ok-while_turn-in-While : goal.loops::turn-returns-in_ok-while_turn-in-While
loops::turn-returns-in_ok-while_turn-in-While t c =
    let p = program_of c.args.walk.now in
    let W = mode_of c.args.walk.now in
    let n = c.args.depth in
    let gives = c.args.gives in
    let e : loop_of (form_view c.args.f.now) ≡ Some (WhileLoop (expr_view c.in-While.test) (stmt_view c.deref.result.now)) = ap (λ f. loop_of (form_view f)) c.in-While.is ∙ ap (λ s. Some (WhileLoop (expr_view c.in-While.test) (stmt_view s))) (sym c.deref.ensures) in
    subst (λ l. TurnDoes p W n gives c.args.at l c.args.sym.now c.while_turn.new.sym) (sym e) c.in_ok-while_turn-in-While.ensures

pub loops::turn-do_turn-requires : goal.loops::turn-do_turn-requires
loops::turn-do_turn-requires t c =
    let p = program_of c.args.walk.now in
    let W = mode_of c.args.walk.now in
    let n = c.args.depth in
    let gives = c.args.gives in
    let e : loop_of (form_view c.args.f.now) ≡ Some (DoLoop (stmt_view c.deref-in-Do.result.now) (expr_view c.in-Do.test)) = ap (λ f. loop_of (form_view f)) c.in-Do.is ∙ ap (λ s. Some (DoLoop (stmt_view s) (expr_view c.in-Do.test))) (sym c.deref-in-Do.ensures) in
    (omega (arith, c.decreases, ap (weight_of_turn p W n gives c.args.at) e), (c.requires.walk, subst (TurnReady p W n gives c.args.at c.args.sym.now) e c.requires.ready))

pub loops::turn-returns-in_ok-do_turn-in-Do : goal.loops::turn-returns-in_ok-do_turn-in-Do
loops::turn-returns-in_ok-do_turn-in-Do t c =
    let p = program_of c.args.walk.now in
    let W = mode_of c.args.walk.now in
    let n = c.args.depth in
    let gives = c.args.gives in
    let e : loop_of (form_view c.args.f.now) ≡ Some (DoLoop (stmt_view c.deref-in-Do.result.now) (expr_view c.in-Do.test)) = ap (λ f. loop_of (form_view f)) c.in-Do.is ∙ ap (λ s. Some (DoLoop (stmt_view s) (expr_view c.in-Do.test))) (sym c.deref-in-Do.ensures) in
    subst (λ l. TurnDoes p W n gives c.args.at l c.args.sym.now c.do_turn.new.sym) (sym e) c.in_ok-do_turn-in-Do.ensures

pub loops::turn-for_turn-requires : goal.loops::turn-for_turn-requires
loops::turn-for_turn-requires t c =
    let p = program_of c.args.walk.now in
    let W = mode_of c.args.walk.now in
    let n = c.args.depth in
    let gives = c.args.gives in
    let e : loop_of (form_view c.args.f.now) ≡ Some (ForLoop (expr_view_if c.in-For.test) (expr_view_if c.in-For.step) (stmt_view c.deref-in-For.result.now)) = ap (λ f. loop_of (form_view f)) c.in-For.is ∙ ap (λ s. Some (ForLoop (expr_view_if c.in-For.test) (expr_view_if c.in-For.step) (stmt_view s))) (sym c.deref-in-For.ensures) in
    (omega (arith, c.decreases, ap (weight_of_turn p W n gives c.args.at) e), (c.requires.walk, subst (TurnReady p W n gives c.args.at c.args.sym.now) e c.requires.ready))

pub loops::turn-returns-in_ok-for_turn-in-For : goal.loops::turn-returns-in_ok-for_turn-in-For
loops::turn-returns-in_ok-for_turn-in-For t c =
    let p = program_of c.args.walk.now in
    let W = mode_of c.args.walk.now in
    let n = c.args.depth in
    let gives = c.args.gives in
    let e : loop_of (form_view c.args.f.now) ≡ Some (ForLoop (expr_view_if c.in-For.test) (expr_view_if c.in-For.step) (stmt_view c.deref-in-For.result.now)) = ap (λ f. loop_of (form_view f)) c.in-For.is ∙ ap (λ s. Some (ForLoop (expr_view_if c.in-For.test) (expr_view_if c.in-For.step) (stmt_view s))) (sym c.deref-in-For.ensures) in
    subst (λ l. TurnDoes p W n gives c.args.at l c.args.sym.now c.for_turn.new.sym) (sym e) c.in_ok-for_turn-in-For.ensures

pub loops::turn-returns-in_default : goal.loops::turn-returns-in_default
loops::turn-returns-in_default t c =
    let p = program_of c.args.walk.now in
    let W = mode_of c.args.walk.now in
    let n = c.args.depth in
    let gives = c.args.gives in
    let none : loop_of (form_view c.args.f.now) ≡ None = no_loop c.args.f.now c.in_default.not-While c.in_default.not-Do c.in_default.not-For in
    subst (λ l. TurnDoes p W n gives c.args.at l c.args.sym.now c.args.sym.now) (sym none) (no_turn p W n gives c.args.at (subst (TurnReady p W n gives c.args.at c.args.sym.now) none c.requires.ready))

-- ---- a loop in the mode of obligations
pub loops::one_turn-head-requires-clause-obliged : goal.loops::one_turn-head-requires-clause-obliged
loops::one_turn-head-requires-clause-obliged t c =
    subst (IsJudging c.args.walk.now) c.requires.judging c.requires.walk

pub loops::one_turn-head-requires-clause-fits : goal.loops::one_turn-head-requires-clause-fits
loops::one_turn-head-requires-clause-fits t c =
    c.start_loop-kept.ensures.became.fits

pub loops::one_turn-head-requires-clause-room : goal.loops::one_turn-head-requires-clause-room
loops::one_turn-head-requires-clause-room t c =
    let w = c.args.walk.now in
    let p = program_of w in
    let n = c.args.depth in
    let gives = c.args.gives in
    let l = loop_of (form_view c.args.f.now) in
    let I = placed_view c.args.mode.invariants.now in
    let ready = subst (λ m. LoopReady p (mode_by w m) n gives c.args.at c.args.sym.now l) c.requires.judging c.requires.ready in
    head_room p I n gives c.args.at l ready c.start_loop-kept.ensures.became

pub loops::one_turn-turn-requires : goal.loops::one_turn-turn-requires
loops::one_turn-turn-requires t c =
    let w = c.args.walk.now in
    let p = program_of w in
    let n = c.args.depth in
    let gives = c.args.gives in
    let l = loop_of (form_view c.args.f.now) in
    let I = placed_view c.args.mode.invariants.now in
    let ready = subst (λ m. LoopReady p (mode_by w m) n gives c.args.at c.args.sym.now l) c.requires.judging c.requires.ready in
    let within = subst (λ m. weight_of_turn p (mode_by w m) n gives c.args.at l ≤ weight_of_loop p (mode_by w m) n gives c.args.at l) (sym c.requires.judging) (turn_within p I n gives c.args.at l) in (
      omega (arith, c.decreases, within),
      (c.requires.walk, subst (λ m. TurnReady p (mode_by w m) n gives c.args.at c.head.new.sym l) (sym c.requires.judging) (turn_starts p I n gives c.args.at l ready c.start_loop-kept.ensures.became c.in_ok-head.ensures)),
    )

pub loops::one_turn-test_all-requires-clause-obliged : goal.loops::one_turn-test_all-requires-clause-obliged
loops::one_turn-test_all-requires-clause-obliged t c =
    subst (IsJudging c.args.walk.now) c.requires.judging c.requires.walk

pub loops::one_turn-test_all-requires-clause-fits : goal.loops::one_turn-test_all-requires-clause-fits
loops::one_turn-test_all-requires-clause-fits t c =
    c.in_ok-turn.ensures.fits

pub loops::one_turn-test_all-requires-clause-room : goal.loops::one_turn-test_all-requires-clause-room
loops::one_turn-test_all-requires-clause-room t c =
    let w = c.args.walk.now in
    let p = program_of w in
    let n = c.args.depth in
    let gives = c.args.gives in
    let l = loop_of (form_view c.args.f.now) in
    let I = placed_view c.args.mode.invariants.now in
    let ready = subst (λ m. LoopReady p (mode_by w m) n gives c.args.at c.args.sym.now l) c.requires.judging c.requires.ready in
    let done = subst (λ m. TurnDoes p (mode_by w m) n gives c.args.at l c.head.new.sym c.turn.new.sym) c.requires.judging c.in_ok-turn.ensures in
    omega (arith, head_room_again p I n gives c.args.at l ready c.start_loop-kept.ensures.became c.in_ok-head.ensures done)

pub loops::one_turn-end-requires-clause-fits : goal.loops::one_turn-end-requires-clause-fits
loops::one_turn-end-requires-clause-fits t c =
    c.in_ok-test_all.ensures.fits

pub loops::one_turn-end-requires-clause-room : goal.loops::one_turn-end-requires-clause-room
loops::one_turn-end-requires-clause-room t c =
    let w = c.args.walk.now in
    let p = program_of w in
    let n = c.args.depth in
    let gives = c.args.gives in
    let l = loop_of (form_view c.args.f.now) in
    let I = placed_view c.args.mode.invariants.now in
    let ready = subst (λ m. LoopReady p (mode_by w m) n gives c.args.at c.args.sym.now l) c.requires.judging c.requires.ready in
    let done = subst (λ m. TurnDoes p (mode_by w m) n gives c.args.at l c.head.new.sym c.turn.new.sym) c.requires.judging c.in_ok-turn.ensures in
    omega (arith, head_room_again p I n gives c.args.at l ready c.start_loop-kept.ensures.became c.in_ok-head.ensures done, (longer_by c.in_ok-test_all.ensures.added).1)

pub loops::one_turn-end_loop-requires-clause-fits : goal.loops::one_turn-end_loop-requires-clause-fits
loops::one_turn-end_loop-requires-clause-fits t c =
    (c.in_ok-end.ensures (mode_of c.args.walk.now)).fits

pub loops::one_turn-end_loop-requires-clause-kept_in : goal.loops::one_turn-end_loop-requires-clause-kept_in
loops::one_turn-end_loop-requires-clause-kept_in t c =
    let w = c.args.walk.now in
    let p = program_of w in
    let n = c.args.depth in
    let gives = c.args.gives in
    let l = loop_of (form_view c.args.f.now) in
    let I = placed_view c.args.mode.invariants.now in
    let ready = subst (λ m. LoopReady p (mode_by w m) n gives c.args.at c.args.sym.now l) c.requires.judging c.requires.ready in
    let done = subst (λ m. TurnDoes p (mode_by w m) n gives c.args.at l c.head.new.sym c.turn.new.sym) c.requires.judging c.in_ok-turn.ensures in
    let ended = c.in_ok-end.ensures (mode_by w (Obliges c.args.mode)) in
    outer_kept p I n gives c.args.at l ready c.start_loop-kept.ensures.became c.in_ok-head.ensures done c.in_ok-test_all.ensures ended c.start_loop-kept.result c.start_loop-kept.ensures.kept

pub loops::one_turn-end_loop-requires-clause-room : goal.loops::one_turn-end_loop-requires-clause-room
loops::one_turn-end_loop-requires-clause-room t c =
    let w = c.args.walk.now in
    let p = program_of w in
    let n = c.args.depth in
    let gives = c.args.gives in
    let l = loop_of (form_view c.args.f.now) in
    let I = placed_view c.args.mode.invariants.now in
    let ready = subst (λ m. LoopReady p (mode_by w m) n gives c.args.at c.args.sym.now l) c.requires.judging c.requires.ready in
    let done = subst (λ m. TurnDoes p (mode_by w m) n gives c.args.at l c.head.new.sym c.turn.new.sym) c.requires.judging c.in_ok-turn.ensures in
    let ended = c.in_ok-end.ensures (mode_by w (Obliges c.args.mode)) in
    omega (arith, head_room_again p I n gives c.args.at l ready c.start_loop-kept.ensures.became c.in_ok-head.ensures done, (longer_by c.in_ok-test_all.ensures.added).1, (longer_by ended.added).1)

pub loops::one_turn-returns : goal.loops::one_turn-returns
loops::one_turn-returns t c =
    let w = c.args.walk.now in
    let p = program_of w in
    let n = c.args.depth in
    let gives = c.args.gives in
    let l = loop_of (form_view c.args.f.now) in
    let I = placed_view c.args.mode.invariants.now in
    let ready = subst (λ m. LoopReady p (mode_by w m) n gives c.args.at c.args.sym.now l) c.requires.judging c.requires.ready in
    let done = subst (λ m. TurnDoes p (mode_by w m) n gives c.args.at l c.head.new.sym c.turn.new.sym) c.requires.judging c.in_ok-turn.ensures in
    let ended = c.in_ok-end.ensures (mode_by w (Obliges c.args.mode)) in
    let count : vec_len c.args.sym.now.cells ≡ length c.args.sym.now.cells.items = search rules in
    let last = loop_ends p I n gives c.args.at l ready c.start_loop-kept.ensures.became c.in_ok-head.ensures done c.in_ok-test_all.ensures ended c.start_loop-kept.result c.start_loop-kept.ensures.kept
    c.len-cells.result (c.len-cells.ensures ∙ count) c.in_ok-end_loop.ensures in
    subst (λ m. LoopDoes p (mode_by w m) n gives c.args.at l c.args.sym.now c.end_loop.new.sym) (sym c.requires.judging) (loop_does p I n gives c.args.at l ready c.start_loop-kept.ensures.became c.in_ok-head.ensures done c.in_ok-test_all.ensures ended last)

-- ---- a loop in the mode of runs that seek
-- open: the names of goals past the early return of `turns`
pub loops::last_test-test_turn-requires : goal.loops::last_test-test_turn-requires
loops::last_test-test_turn-requires t c =
    let w = c.args.walk.now in
    let p = program_of w in
    let W = mode_of w in
    let n = c.args.depth in
    let gives = c.args.gives in
    let e = ap (λ f. loop_of (form_view f)) c.in-While.is in
    (omega (arith, c.decreases, ap (weight_of_turns p W n gives 0 c.args.at) e), (c.requires.walk, while_last p W n gives c.args.at (subst (TurnsReady p W n gives 0 c.args.at c.args.sym.now) e c.requires.ready)))

pub loops::last_test-returns-in_ok-test_turn-in-While : goal.loops::last_test-returns-in_ok-test_turn-in-While
loops::last_test-returns-in_ok-test_turn-in-While t c =
    let w = c.args.walk.now in
    let p = program_of w in
    let W = mode_of w in
    let n = c.args.depth in
    let gives = c.args.gives in
    let e = ap (λ f. loop_of (form_view f)) c.in-While.is in
    subst (λ l. LastDoes p W n gives c.args.at l c.args.sym.now c.test_turn.new.sym) (sym e) (c.in_ok-test_turn-in-While.ensures gives)

pub loops::last_test-test_turn_if-requires : goal.loops::last_test-test_turn_if-requires
loops::last_test-test_turn_if-requires t c =
    let w = c.args.walk.now in
    let p = program_of w in
    let W = mode_of w in
    let n = c.args.depth in
    let gives = c.args.gives in
    let e = ap (λ f. loop_of (form_view f)) c.in-For.is in
    (omega (arith, c.decreases, ap (weight_of_turns p W n gives 0 c.args.at) e), (c.requires.walk, for_last p W n gives c.args.at (subst (TurnsReady p W n gives 0 c.args.at c.args.sym.now) e c.requires.ready)))

pub loops::last_test-returns-in_ok-test_turn_if-in-For : goal.loops::last_test-returns-in_ok-test_turn_if-in-For
loops::last_test-returns-in_ok-test_turn_if-in-For t c =
    let w = c.args.walk.now in
    let p = program_of w in
    let W = mode_of w in
    let n = c.args.depth in
    let gives = c.args.gives in
    let e = ap (λ f. loop_of (form_view f)) c.in-For.is in
    subst (λ l. LastDoes p W n gives c.args.at l c.args.sym.now c.test_turn_if.new.sym) (sym e) (c.in_ok-test_turn_if-in-For.ensures gives)

pub loops::last_test-returns-in-Do : goal.loops::last_test-returns-in-Do
loops::last_test-returns-in-Do t c =
    let w = c.args.walk.now in
    let p = program_of w in
    let W = mode_of w in
    let n = c.args.depth in
    let gives = c.args.gives in
    let e = ap (λ f. loop_of (form_view f)) c.in-Do.is in
    do_last p W n gives c.args.at e c.requires.ready.fits

pub loops::last_test-returns-in_default : goal.loops::last_test-returns-in_default
loops::last_test-returns-in_default t c =
    let w = c.args.walk.now in
    let p = program_of w in
    let W = mode_of w in
    let n = c.args.depth in
    let gives = c.args.gives in
    let none : loop_of (form_view c.args.f.now) ≡ None = no_loop c.args.f.now c.in_default.not-While c.in_default.not-Do c.in_default.not-For in
    subst (λ l. LastDoes p W n gives c.args.at l c.args.sym.now c.args.sym.now) (sym none) (none_last p W n gives c.args.at c.requires.ready.fits)

pub loops::turns-last_test-requires : goal.loops::turns-last_test-requires
loops::turns-last_test-requires t c =
    let w = c.args.walk.now in
    let p = program_of w in
    let W = mode_of w in
    let n = c.args.depth in
    let gives = c.args.gives in
    let l = loop_of (form_view c.args.f.now) in
    let none : c.args.left ≡ 0 = search rules in
    (omega (arith, c.decreases, ap (λ r. weight_of_turns p W n gives r c.args.at l) none), (c.requires.walk, subst (λ r. TurnsReady p W n gives r c.args.at c.args.sym.now l) none c.requires.ready))

pub loops::turns-end-requires-clause-fits : goal.loops::turns-end-requires-clause-fits
loops::turns-end-requires-clause-fits t c =
    c.in_ok-last_test.ensures.fits

pub loops::turns-end-requires-clause-room : goal.loops::turns-end-requires-clause-room
loops::turns-end-requires-clause-room t c =
    let w = c.args.walk.now in
    let p = program_of w in
    let W = mode_of w in
    let n = c.args.depth in
    let gives = c.args.gives in
    let l = loop_of (form_view c.args.f.now) in
    let none : c.args.left ≡ 0 = search rules in
    last_test_room p W n gives c.args.at (subst (λ r. TurnsReady p W n gives r c.args.at c.args.sym.now l) none c.requires.ready) c.in_ok-last_test.ensures

pub loops::turns-returns-then-left-eq0 : goal.loops::turns-returns-then-left-eq0
loops::turns-returns-then-left-eq0 t c =
    let w = c.args.walk.now in
    let p = program_of w in
    let W = mode_of w in
    let n = c.args.depth in
    let gives = c.args.gives in
    let l = loop_of (form_view c.args.f.now) in
    let none : c.args.left ≡ 0 = search rules in
    subst (λ r. TurnsDo p W n gives r c.args.at l c.args.sym.now c.end.new.sym) (sym none)
    (turns_end p W n gives c.args.at l (subst (λ r. TurnsReady p W n gives r c.args.at c.args.sym.now l) none c.requires.ready) c.in_ok-last_test.ensures (c.in_ok-end.ensures W))

pub loops::turns-turn-requires : goal.loops::turns-turn-requires
loops::turns-turn-requires t c =
    let w = c.args.walk.now in
    let p = program_of w in
    let W = mode_of w in
    let n = c.args.depth in
    let gives = c.args.gives in
    let l = loop_of (form_view c.args.f.now) in
    let more : c.args.left ≡ suc (c.args.left - 1) = omega (arith, c.if-left-eq0.false) in
    (omega (arith, c.decreases, ap (λ r. weight_of_turns p W n gives r c.args.at l) more), (c.requires.walk, turn_first p W n gives c.args.at (subst (λ r. TurnsReady p W n gives r c.args.at c.args.sym.now l) more c.requires.ready)))

pub loops::turns-turns-requires : goal.loops::turns-turns-requires
loops::turns-turns-requires t c =
    let w = c.args.walk.now in
    let p = program_of w in
    let W = mode_of w in
    let n = c.args.depth in
    let gives = c.args.gives in
    let l = loop_of (form_view c.args.f.now) in
    let more : c.args.left ≡ suc (c.args.left - 1) = omega (arith, c.if-left-eq0.false) in
    (omega (arith, c.decreases, more, ap (λ r. weight_of_turns p W n gives r c.args.at l) more), (c.requires.walk, turns_next p W n gives c.args.at (subst (λ r. TurnsReady p W n gives r c.args.at c.args.sym.now l) more c.requires.ready) c.in_ok-turn.ensures))

pub loops::turns-returns : goal.loops::turns-returns
loops::turns-returns t c =
    let w = c.args.walk.now in
    let p = program_of w in
    let W = mode_of w in
    let n = c.args.depth in
    let gives = c.args.gives in
    let l = loop_of (form_view c.args.f.now) in
    let more : c.args.left ≡ suc (c.args.left - 1) = omega (arith, c.if-left-eq0.false) in
    subst (λ r. TurnsDo p W n gives r c.args.at l c.args.sym.now c.turns.new.sym) (sym more) (turns_more p W n gives c.args.at (c.args.left - 1) l c.in_ok-turn.ensures c.in_ok-turns.ensures)

pub loops::all_turns-turns-requires : goal.loops::all_turns-turns-requires
loops::all_turns-turns-requires t c =
    let w = c.args.walk.now in
    let p = program_of w in
    let n = c.args.depth in
    let gives = c.args.gives in
    let l = loop_of (form_view c.args.f.now) in
    let ss = segments_of c.args.mode in
    let k = c.args.mode.turns in
    let ready = subst (λ m. LoopReady p (mode_by w m) n gives c.args.at c.args.sym.now l) c.requires.judging c.requires.ready in
    let within = subst (λ m. turn_glue * k + weight_of_turns p (mode_by w m) n gives k c.args.at l ≤ weight_of_loop p (mode_by w m) n gives c.args.at l) (sym c.requires.judging) (turns_within p ss k n gives c.args.at l) in (
      omega (arith, c.decreases, within),
      (c.requires.walk, subst (λ m. TurnsReady p (mode_by w m) n gives k c.args.at c.start_loop-outer.new.sym l) (sym c.requires.judging) (all_ready p ss k n gives c.args.at l ready c.start_loop-outer.ensures.became)),
    )

pub loops::all_turns-end_loop-requires-clause-fits : goal.loops::all_turns-end_loop-requires-clause-fits
loops::all_turns-end_loop-requires-clause-fits t c =
    c.in_ok-turns.ensures.fits

pub loops::all_turns-end_loop-requires-clause-kept_in : goal.loops::all_turns-end_loop-requires-clause-kept_in
loops::all_turns-end_loop-requires-clause-kept_in t c =
    let w = c.args.walk.now in
    let p = program_of w in
    let n = c.args.depth in
    let gives = c.args.gives in
    let l = loop_of (form_view c.args.f.now) in
    let ss = segments_of c.args.mode in
    let k = c.args.mode.turns in
    let ready = subst (λ m. LoopReady p (mode_by w m) n gives c.args.at c.args.sym.now l) c.requires.judging c.requires.ready in
    stays_in p (mode_of w) n gives c.start_loop-outer.result c.args.sym.now.broken c.start_loop-outer.ensures.kept ready.fits.broken c.start_loop-outer.ensures.became c.in_ok-turns.ensures

pub loops::all_turns-end_loop-requires-clause-room : goal.loops::all_turns-end_loop-requires-clause-room
loops::all_turns-end_loop-requires-clause-room t c =
    let w = c.args.walk.now in
    let p = program_of w in
    let n = c.args.depth in
    let gives = c.args.gives in
    let l = loop_of (form_view c.args.f.now) in
    let ss = segments_of c.args.mode in
    let k = c.args.mode.turns in
    let ready = subst (λ m. LoopReady p (mode_by w m) n gives c.args.at c.args.sym.now l) c.requires.judging c.requires.ready in
    let done = subst (λ m. TurnsDo p (mode_by w m) n gives k c.args.at l c.start_loop-outer.new.sym c.turns.new.sym) c.requires.judging c.in_ok-turns.ensures in
    let room = all_room p ss k n gives c.args.at l ready c.start_loop-outer.ensures.became done in
    omega (arith, room)

pub loops::all_turns-returns : goal.loops::all_turns-returns
loops::all_turns-returns t c =
    let w = c.args.walk.now in
    let p = program_of w in
    let n = c.args.depth in
    let gives = c.args.gives in
    let l = loop_of (form_view c.args.f.now) in
    let ss = segments_of c.args.mode in
    let k = c.args.mode.turns in
    let ready = subst (λ m. LoopReady p (mode_by w m) n gives c.args.at c.args.sym.now l) c.requires.judging c.requires.ready in
    let count : vec_len c.args.sym.now.cells ≡ length c.args.sym.now.cells.items = search rules in
    let done = subst (λ m. TurnsDo p (mode_by w m) n gives k c.args.at l c.start_loop-outer.new.sym c.turns.new.sym) c.requires.judging c.in_ok-turns.ensures in
    subst (λ m. LoopDoes p (mode_by w m) n gives c.args.at l c.args.sym.now c.end_loop.new.sym) (sym c.requires.judging)
    (all_done p ss k n gives c.args.at l c.start_loop-outer.result c.len-cells.result ready c.start_loop-outer.ensures.kept (c.len-cells.ensures ∙ count) c.start_loop-outer.ensures.became done c.in_ok-end_loop.ensures)

-- ---- a loop, as its mode does it
pub loops::loop_scope-one_turn-requires : goal.loops::loop_scope-one_turn-requires
loops::loop_scope-one_turn-requires t c =
    (omega (arith, c.decreases), (c.requires.walk, (c.in-Obliges.is, c.requires.ready)))

pub loops::loop_scope-all_turns-requires : goal.loops::loop_scope-all_turns-requires
loops::loop_scope-all_turns-requires t c =
    (omega (arith, c.decreases), (c.requires.walk, (c.in-Seeks.is, c.requires.ready)))

pub loops::for_scope-first-requires : goal.loops::for_scope-first-requires
loops::for_scope-first-requires t c =
    let p = program_of c.args.walk.now in
    let W = mode_of c.args.walk.now in
    let n = c.args.depth in
    let gives = c.args.gives in
    let l = loop_of (form_view c.args.f.now) in
    let i = first_view c.args.start.now in
    (omega (arith, c.decreases), (c.requires.walk, for_starts p W n gives c.args.at i l c.requires.ready))

pub loops::for_scope-loop_scope-requires : goal.loops::for_scope-loop_scope-requires
loops::for_scope-loop_scope-requires t c =
    let p = program_of c.args.walk.now in
    let W = mode_of c.args.walk.now in
    let n = c.args.depth in
    let gives = c.args.gives in
    let l = loop_of (form_view c.args.f.now) in
    let i = first_view c.args.start.now in
    (omega (arith, c.decreases), (c.requires.walk, for_arrives p W n gives c.args.at i l c.requires.ready c.in_ok-first.ensures))

pub loops::for_scope-cut-requires : goal.loops::for_scope-cut-requires
loops::for_scope-cut-requires t c =
    record { fits = c.in_ok-loop_scope.ensures.fits }

pub loops::for_scope-returns : goal.loops::for_scope-returns
loops::for_scope-returns t c =
    let p = program_of c.args.walk.now in
    let W = mode_of c.args.walk.now in
    let n = c.args.depth in
    let gives = c.args.gives in
    let l = loop_of (form_view c.args.f.now) in
    let i = first_view c.args.start.now in
    let count : vec_len c.args.sym.now.cells ≡ length c.args.sym.now.cells.items = search rules in
    for_does p W n gives c.args.at i l c.len-cells.result c.requires.ready c.in_ok-first.ensures c.in_ok-loop_scope.ensures (c.len-cells.ensures ∙ count) c.cut.ensures

pub loops::one_loop-loop_scope-requires : goal.loops::one_loop-loop_scope-requires
loops::one_loop-loop_scope-requires t c =
    let p = program_of c.args.walk.now in
    let W = mode_of c.args.walk.now in
    let n = c.args.depth in
    let gives = c.args.gives in
    (omega (arith, c.decreases, loop_within p W n gives c.args.at (form_view c.args.f.now) c.requires.looping), (c.requires.walk, loop_ready p W n gives c.args.at (form_view c.args.f.now) c.requires.looping c.requires.ready))

pub loops::one_loop-loop_scope-requires-in-Do : goal.loops::one_loop-loop_scope-requires-in-Do
loops::one_loop-loop_scope-requires-in-Do t c =
    let p = program_of c.args.walk.now in
    let W = mode_of c.args.walk.now in
    let n = c.args.depth in
    let gives = c.args.gives in
    (omega (arith, c.decreases, loop_within p W n gives c.args.at (form_view c.args.f.now) c.requires.looping), (c.requires.walk, loop_ready p W n gives c.args.at (form_view c.args.f.now) c.requires.looping c.requires.ready))

pub loops::one_loop-returns-in_ok-loop_scope-in-While : goal.loops::one_loop-returns-in_ok-loop_scope-in-While
loops::one_loop-returns-in_ok-loop_scope-in-While t c =
    let p = program_of c.args.walk.now in
    let W = mode_of c.args.walk.now in
    let n = c.args.depth in
    let gives = c.args.gives in
    let e : form_view c.args.f.now ≡ While (expr_view c.in-While.test) (stmt_view c.in-While.body.value) = ap form_view c.in-While.is in
    subst (λ f. LoopDoes p W n gives c.args.at (loop_of f) c.args.sym.now c.loop_scope.new.sym → FormDoes p W n gives c.args.at f c.args.sym.now c.loop_scope.new.sym) (sym e) (while_form p W n gives c.args.at (expr_view c.in-While.test) (stmt_view c.in-While.body.value)) c.in_ok-loop_scope-in-While.ensures

pub loops::one_loop-returns-in_ok-loop_scope-in-Do : goal.loops::one_loop-returns-in_ok-loop_scope-in-Do
loops::one_loop-returns-in_ok-loop_scope-in-Do t c =
    let p = program_of c.args.walk.now in
    let W = mode_of c.args.walk.now in
    let n = c.args.depth in
    let gives = c.args.gives in
    let e : form_view c.args.f.now ≡ DoWhile (stmt_view c.in-Do.body.value) (expr_view c.in-Do.test) = ap form_view c.in-Do.is in
    subst (λ f. LoopDoes p W n gives c.args.at (loop_of f) c.args.sym.now c.loop_scope-in-Do.new.sym → FormDoes p W n gives c.args.at f c.args.sym.now c.loop_scope-in-Do.new.sym) (sym e) (do_form p W n gives c.args.at (expr_view c.in-Do.test) (stmt_view c.in-Do.body.value)) c.in_ok-loop_scope-in-Do.ensures

pub loops::one_loop-for_scope-requires : goal.loops::one_loop-for_scope-requires
loops::one_loop-for_scope-requires t c =
    let p = program_of c.args.walk.now in
    let W = mode_of c.args.walk.now in
    let n = c.args.depth in
    let gives = c.args.gives in
    let e : form_view c.args.f.now ≡ For (first_view c.in-For.first) (expr_view_if c.in-For.test) (expr_view_if c.in-For.step) (stmt_view c.in-For.body.value) = ap form_view c.in-For.is in
    (omega (arith, c.decreases, for_within p W n gives c.args.at (first_view c.in-For.first) (expr_view_if c.in-For.test) (expr_view_if c.in-For.step) (stmt_view c.in-For.body.value) (form_view c.args.f.now) e), (c.requires.walk, subst (λ f. ForReady p W n gives c.args.at c.args.sym.now (first_view c.in-For.first) (loop_of f)) (sym e) (for_ready p W n gives c.args.at (first_view c.in-For.first) (expr_view_if c.in-For.test) (expr_view_if c.in-For.step) (stmt_view c.in-For.body.value) (subst (FormReady p W n gives c.args.at c.args.sym.now) e c.requires.ready))))

pub loops::one_loop-returns-in_ok-for_scope-in-For : goal.loops::one_loop-returns-in_ok-for_scope-in-For
loops::one_loop-returns-in_ok-for_scope-in-For t c =
    let p = program_of c.args.walk.now in
    let W = mode_of c.args.walk.now in
    let n = c.args.depth in
    let gives = c.args.gives in
    let e : form_view c.args.f.now ≡ For (first_view c.in-For.first) (expr_view_if c.in-For.test) (expr_view_if c.in-For.step) (stmt_view c.in-For.body.value) = ap form_view c.in-For.is in
    subst (λ f. ForDoes p W n gives c.args.at (first_view c.in-For.first) (loop_of f) c.args.sym.now c.for_scope.new.sym → FormDoes p W n gives c.args.at f c.args.sym.now c.for_scope.new.sym) (sym e) (for_form p W n gives c.args.at (first_view c.in-For.first) (expr_view_if c.in-For.test) (expr_view_if c.in-For.step) (stmt_view c.in-For.body.value)) c.in_ok-for_scope-in-For.ensures

pub calls::evals-loop-e-init : goal.calls::evals-loop-e-init
calls::evals-loop-e-init t c =
    let w = c.args.walk.now in
    subst (λ z. AllValues (program_of w) (mode_of w) c.args.depth c.args.at NoExp c.args.sym.now c.args.sym.now z) (sym c.new-arguments.ensures.items) (first_values (program_of w) (mode_of w) c.args.depth c.args.at c.args.sym.now c.requires.ready.fits)

pub calls::evals-eval-requires : goal.calls::evals-eval-requires
calls::evals-eval-requires t c =
    let w = c.args.walk.now in (
      omega (arith, c.decreases, argument_weight (program_of w) (mode_of w) c.args.depth c.args.at c.args.args.now c.loop-e.e-index c.e-item.result c.loop-e-test.true c.e-item.is),
      (c.requires.walk, argument_ready (program_of w) (mode_of w) c.args.depth c.args.at c.args.args.now c.loop-e.e-index c.e-item.result c.loop-e-test.true c.e-item.is c.requires.ready c.loop-e.invariant),
    )

pub calls::evals-loop-e-preserved : goal.calls::evals-loop-e-preserved
calls::evals-loop-e-preserved t c =
    let w = c.args.walk.now in
    subst (λ z. AllValues (program_of w) (mode_of w) c.args.depth c.args.at (exprs_view (take (c.loop-e.e-index + 1) c.args.args.now)) c.args.sym.now c.eval.new.sym z) (sym c.in_ok-push.ensures.items)
    (next_values (program_of w) (mode_of w) c.args.depth c.args.at c.args.args.now c.loop-e.e-index (c.loop-e.e-index + 1) c.e-item.result c.type_of-ty.result c.loop-e.arguments.items c.loop-e-test.true (omega arith) c.e-item.is c.type_of-ty.ensures c.requires.ready c.loop-e.invariant c.in_ok-bits.ensures)

pub calls::evals-returns : goal.calls::evals-returns
calls::evals-returns t c =
    let w = c.args.walk.now in
    subst (λ z. AllValues (program_of w) (mode_of w) c.args.depth c.args.at (exprs_view z) c.args.sym.now c.loop-e.sym c.loop-e.arguments.items) (take_all c.loop-e.e-index c.args.args.now c.loop-e-test.false) c.loop-e.invariant

pub calls::run_function-set_parameters-requires-clause-arguments_in : goal.calls::run_function-set_parameters-requires-clause-arguments_in
calls::run_function-set_parameters-requires-clause-arguments_in t c =
    let w = c.args.walk.now in
    let f = c.args.function.now in
    entered_arguments (program_of w) (mode_of w) c.args.depth c.args.close c.args.needed f.result f.params f.body.spot (form_view f.body.form) c.args.arguments.now c.type_or_int-ty.result c.requires.ready c.in_ok-caller.ensures.enters

pub calls::run_function-set_parameters-requires-clause-room : goal.calls::run_function-set_parameters-requires-clause-room
calls::run_function-set_parameters-requires-clause-room t c =
    let w = c.args.walk.now in
    let f = c.args.function.now in
    subst (λ z. length c.enter.new.sym.net + set_cost (program_of w) z c.args.arguments.now < 2 ^ 28) (sym c.as_slice.ensures)
    (entered_room (program_of w) (mode_of w) c.args.depth c.args.close c.args.needed f.result f.params f.body.spot (form_view f.body.form) c.args.arguments.now c.type_or_int-ty.result c.requires.ready c.in_ok-caller.ensures.enters)

pub calls::run_function-form-requires : goal.calls::run_function-form-requires
calls::run_function-form-requires t c =
    let w = c.args.walk.now in
    let f = c.args.function.now in
    let y : Sets (program_of w) f.params c.args.arguments.now c.enter.new.sym c.set_parameters.new.sym =
    subst (λ z. Sets (program_of w) z c.args.arguments.now c.enter.new.sym c.set_parameters.new.sym) c.as_slice.ensures c.in_ok-set_parameters.ensures in (
      omega (arith, c.decreases),
      (c.requires.walk, body_ready (program_of w) (mode_of w) c.args.depth c.args.close c.args.needed f.result f.params f.body.spot (form_view f.body.form) c.args.arguments.now c.type_or_int-ty.result c.requires.ready c.in_ok-caller.ensures.enters c.type_or_int-ty.ensures y),
    )

pub calls::run_function-come_back-requires-clause-caller_in : goal.calls::run_function-come_back-requires-clause-caller_in
calls::run_function-come_back-requires-clause-caller_in t c =
    let w = c.args.walk.now in
    let f = c.args.function.now in
    let y : Sets (program_of w) f.params c.args.arguments.now c.enter.new.sym c.set_parameters.new.sym =
    subst (λ z. Sets (program_of w) z c.args.arguments.now c.enter.new.sym c.set_parameters.new.sym) c.as_slice.ensures c.in_ok-set_parameters.ensures in
    back_around (program_of w) (mode_of w) c.args.depth c.args.close c.args.needed f.result f.params f.body.spot (form_view f.body.form) c.args.arguments.now c.type_or_int-ty.result c.requires.ready c.in_ok-caller.ensures.enters c.type_or_int-ty.ensures y c.in_ok-form.ensures c.in_ok-caller.caller c.in_ok-caller.ensures.around

pub calls::run_function-come_back-requires-clause-room : goal.calls::run_function-come_back-requires-clause-room
calls::run_function-come_back-requires-clause-room t c =
    let w = c.args.walk.now in
    let f = c.args.function.now in
    let y : Sets (program_of w) f.params c.args.arguments.now c.enter.new.sym c.set_parameters.new.sym =
    subst (λ z. Sets (program_of w) z c.args.arguments.now c.enter.new.sym c.set_parameters.new.sym) c.as_slice.ensures c.in_ok-set_parameters.ensures in
    back_room (program_of w) (mode_of w) c.args.depth c.args.close c.args.needed f.result f.params f.body.spot (form_view f.body.form) c.args.arguments.now c.type_or_int-ty.result c.requires.ready c.in_ok-caller.ensures.enters c.type_or_int-ty.ensures y c.in_ok-form.ensures

pub calls::run_function-tell_return-requires-clause-fits : goal.calls::run_function-tell_return-requires-clause-fits
calls::run_function-tell_return-requires-clause-fits t c =
    c.in_ok-back.ensures.fits

pub calls::run_function-tell_return-requires-clause-bits_in : goal.calls::run_function-tell_return-requires-clause-bits_in
calls::run_function-tell_return-requires-clause-bits_in t c =
    let w = c.args.walk.now in
    let f = c.args.function.now in
    let y : Sets (program_of w) f.params c.args.arguments.now c.enter.new.sym c.set_parameters.new.sym =
    subst (λ z. Sets (program_of w) z c.args.arguments.now c.enter.new.sym c.set_parameters.new.sym) c.as_slice.ensures c.in_ok-set_parameters.ensures in
    told_in (program_of w) (mode_of w) c.args.depth c.args.close c.args.needed f.result f.params f.body.spot (form_view f.body.form) c.args.arguments.now c.type_or_int-ty.result c.requires.ready c.in_ok-caller.ensures.enters c.type_or_int-ty.ensures y c.in_ok-form.ensures c.in_ok-back.ensures

pub calls::run_function-tell_return-requires-clause-gave_in : goal.calls::run_function-tell_return-requires-clause-gave_in
calls::run_function-tell_return-requires-clause-gave_in t c =
    c.in_ok-back.ensures.gave_in

pub calls::run_function-tell_return-requires-clause-room : goal.calls::run_function-tell_return-requires-clause-room
calls::run_function-tell_return-requires-clause-room t c =
    let w = c.args.walk.now in
    let f = c.args.function.now in
    let y : Sets (program_of w) f.params c.args.arguments.now c.enter.new.sym c.set_parameters.new.sym =
    subst (λ z. Sets (program_of w) z c.args.arguments.now c.enter.new.sym c.set_parameters.new.sym) c.as_slice.ensures c.in_ok-set_parameters.ensures in
    told_room (program_of w) (mode_of w) c.args.depth c.args.close c.args.needed f.result f.params f.body.spot (form_view f.body.form) c.args.arguments.now c.type_or_int-ty.result c.requires.ready c.in_ok-caller.ensures.enters c.type_or_int-ty.ensures y c.in_ok-form.ensures c.in_ok-back.ensures

pub calls::run_function-need-requires-clause-fits : goal.calls::run_function-need-requires-clause-fits
calls::run_function-need-requires-clause-fits t c =
    c.in_ok-tell_return.ensures.fits

pub calls::run_function-need-requires-clause-gave_in : goal.calls::run_function-need-requires-clause-gave_in
calls::run_function-need-requires-clause-gave_in t c =
    let w = c.args.walk.now in
    let f = c.args.function.now in
    let y : Sets (program_of w) f.params c.args.arguments.now c.enter.new.sym c.set_parameters.new.sym =
    subst (λ z. Sets (program_of w) z c.args.arguments.now c.enter.new.sym c.set_parameters.new.sym) c.as_slice.ensures c.in_ok-set_parameters.ensures in
    need_in (program_of w) (mode_of w) c.args.depth c.args.close c.args.needed f.result f.params f.body.spot (form_view f.body.form) c.args.arguments.now c.type_or_int-ty.result c.requires.ready c.in_ok-caller.ensures.enters c.type_or_int-ty.ensures y c.in_ok-form.ensures c.in_ok-caller.caller c.len-cells.result c.in_ok-back.ensures c.in_ok-tell_return.ensures

pub calls::run_function-need-requires-clause-room : goal.calls::run_function-need-requires-clause-room
calls::run_function-need-requires-clause-room t c =
    let w = c.args.walk.now in
    let f = c.args.function.now in
    let y : Sets (program_of w) f.params c.args.arguments.now c.enter.new.sym c.set_parameters.new.sym =
    subst (λ z. Sets (program_of w) z c.args.arguments.now c.enter.new.sym c.set_parameters.new.sym) c.as_slice.ensures c.in_ok-set_parameters.ensures in
    need_room (program_of w) (mode_of w) c.args.depth c.args.close c.args.needed f.result f.params f.body.spot (form_view f.body.form) c.args.arguments.now c.type_or_int-ty.result c.requires.ready c.in_ok-caller.ensures.enters c.type_or_int-ty.ensures y c.in_ok-form.ensures c.in_ok-caller.caller c.len-cells.result c.in_ok-back.ensures c.in_ok-tell_return.ensures

pub calls::run_function-returns : goal.calls::run_function-returns
calls::run_function-returns t c =
    let w = c.args.walk.now in
    let f = c.args.function.now in
    let y : Sets (program_of w) f.params c.args.arguments.now c.enter.new.sym c.set_parameters.new.sym =
    subst (λ z. Sets (program_of w) z c.args.arguments.now c.enter.new.sym c.set_parameters.new.sym) c.as_slice.ensures c.in_ok-set_parameters.ensures in
    function_run (program_of w) (mode_of w) c.args.depth c.args.close c.args.needed f.result f.params f.body.spot (form_view f.body.form) c.args.arguments.now c.type_or_int-ty.result c.requires.ready c.in_ok-caller.ensures.enters c.type_or_int-ty.ensures y c.in_ok-form.ensures c.in_ok-caller.caller c.len-cells.result c.in_ok-back.ensures c.in_ok-tell_return.ensures c.in_ok-caller.ensures.around (omega (arith, c.len-cells.ensures, c.args.sym.now.cells.ok.0)) c.in_ok-need.ensures

pub calls::call_found-run_function-requires : goal.calls::call_found-run_function-requires
calls::call_found-run_function-requires t c =
    let w = c.args.walk.now in (
      omega (arith, c.decreases, found_nodes (program_of w) (mode_of w) c.args.depth (c.args.depth - 1) c.args.function c.args.close c.args.needed c.args.ty (function_view c.in-Some.found.now) c.args.sym.now c.args.arguments.now (omega (arith, c.in-Some.ensures.0)) c.in-Some.ensures.1 c.requires.ready),
      (
        c.requires.walk,
        found_ready (program_of w) (mode_of w) c.args.depth (c.args.depth - 1) c.args.function c.args.close c.args.needed c.args.ty (function_view c.in-Some.found.now) c.args.sym.now c.args.arguments.now (omega (arith, c.in-Some.ensures.0)) c.in-Some.ensures.1 c.requires.ready
            w.program.now.checked.types,
      ),
    )

pub calls::call_found-returns-in_ok-bits-in-Some : goal.calls::call_found-returns-in_ok-bits-in-Some
calls::call_found-returns-in_ok-bits-in-Some t c =
    let w = c.args.walk.now in
    found_called (program_of w) (mode_of w) c.args.depth (c.args.depth - 1) c.args.function c.args.close c.args.needed c.args.ty (function_view c.in-Some.found.now) c.args.sym.now c.args.arguments.now (omega (arith, c.in-Some.ensures.0)) c.in-Some.ensures.1 c.requires.ready
    c.in_ok-bits-in-Some.ensures

pub calls::call_found-end_call-requires-clause-fits : goal.calls::call_found-end_call-requires-clause-fits
calls::call_found-end_call-requires-clause-fits t c = c.requires.ready.fits

pub calls::call_found-end_call-requires-clause-room : goal.calls::call_found-end_call-requires-clause-room
calls::call_found-end_call-requires-clause-room t c = omega (arith, c.requires.ready.room)

pub calls::call_found-returns-in_ok-bits-in-None : goal.calls::call_found-returns-in_ok-bits-in-None
calls::call_found-returns-in_ok-bits-in-None t c =
    let w = c.args.walk.now in
    ended_called (program_of w) (mode_of w) c.args.close c.args.depth c.args.function c.args.needed c.args.ty c.args.arguments.now c.in_ok-bits-in-None.ensures c.in-None.ensures

pub calls::call_defined-evals-requires : goal.calls::call_defined-evals-requires
calls::call_defined-evals-requires t c =
    let w = c.args.walk.now in (
      omega (arith, c.decreases),
      (c.requires.walk, arguments_ready (program_of w) (mode_of w) c.args.depth c.args.at (use_of c.args.used) c.args.spot c.args.close c.args.ty c.args.function (exprs_view c.args.args.now) c.requires.ready),
    )

pub calls::call_defined-tell_enter-requires-clause-room : goal.calls::call_defined-tell_enter-requires-clause-room
calls::call_defined-tell_enter-requires-clause-room t c =
    omega (arith, (longer_by c.in_ok-arguments.ensures.follows.added).1, c.requires.ready.room)

pub calls::call_defined-call_found-requires : goal.calls::call_defined-call_found-requires
calls::call_defined-call_found-requires t c =
    let w = c.args.walk.now in (
      omega (arith, c.decreases, call_within (program_of w) (mode_of w) c.args.depth c.args.at (use_of c.args.used) c.args.spot c.args.close c.args.ty c.args.function (exprs_view c.args.args.now) c.requires.ready c.is_needed-needed.result c.is_needed-needed.ensures c.in_ok-arguments.ensures, ap (λ xs. nodes_in (program_of w) (mode_of w).scale c.args.depth (set_cost (program_of w) (params_of (slice_get (program_of w).functions c.args.function)) xs) c.args.function) c.as_slice.ensures.value),
      (
        c.requires.walk,
        subst (λ z. CallReady (program_of w) (mode_of w) c.args.depth c.args.close c.args.function c.is_needed-needed.result c.args.ty c.tell_enter.new.sym z) (sym c.as_slice.ensures.value)
            (call_ready (program_of w) (mode_of w) c.args.depth c.args.at (use_of c.args.used) c.args.spot c.args.close c.args.ty c.args.function (exprs_view c.args.args.now) c.requires.ready c.is_needed-needed.result c.is_needed-needed.ensures c.in_ok-arguments.ensures c.in_ok-tell_enter.ensures),
      ),
    )

pub calls::call_defined-returns : goal.calls::call_defined-returns
calls::call_defined-returns t c =
    let w = c.args.walk.now in
    call_values (program_of w) (mode_of w) c.args.depth c.args.at (use_of c.args.used) c.args.spot c.args.close c.args.ty c.args.function (exprs_view c.args.args.now) c.requires.ready c.is_needed-needed.result c.is_needed-needed.ensures c.in_ok-arguments.ensures
    c.in_ok-tell_enter.ensures
    (subst (λ z. Called (program_of w) (mode_of w) c.args.depth c.args.close c.args.function c.is_needed-needed.result c.args.ty z c.tell_enter.new.sym c.call_found.new.sym c.in_ok-bits.bits.bits) c.as_slice.ensures.value c.in_ok-bits.ensures)

-- ---- `switch`
pub switches::chosen-full-requires : goal.switches::chosen-full-requires
switches::chosen-full-requires t c =
    (omega (arith, c.decreases), (c.requires.walk, chosen_by_ready (program_of c.args.walk.now) (mode_of c.args.walk.now) c.args.depth c.args.at (expr_view c.args.test.now) (labels_in (switch_view c.args.arms.now)) c.requires.ready))

pub switches::chosen-convert-requires-clause-fits : goal.switches::chosen-convert-requires-clause-fits
switches::chosen-convert-requires-clause-fits t c = c.in_ok-x.ensures.follows.fits

pub switches::chosen-convert-requires-clause-x_in : goal.switches::chosen-convert-requires-clause-x_in
switches::chosen-convert-requires-clause-x_in t c =
    chosen_by_in (program_of c.args.walk.now) (mode_of c.args.walk.now) c.args.depth c.args.at (expr_view c.args.test.now) (labels_in (switch_view c.args.arms.now)) c.requires.ready c.in_ok-x.ensures c.type_of-from.result c.type_of-from.ensures

pub switches::chosen-convert-requires-clause-room : goal.switches::chosen-convert-requires-clause-room
switches::chosen-convert-requires-clause-room t c =
    chosen_by_room (program_of c.args.walk.now) (mode_of c.args.walk.now) c.args.depth c.args.at (expr_view c.args.test.now) (labels_in (switch_view c.args.arms.now)) c.requires.ready c.in_ok-x.ensures

pub switches::chosen-case_bits-requires-clause-fits : goal.switches::chosen-case_bits-requires-clause-fits
switches::chosen-case_bits-requires-clause-fits t c = c.in_ok-y.ensures.turned.fits

pub switches::chosen-case_bits-requires-clause-promoted : goal.switches::chosen-case_bits-requires-clause-promoted
switches::chosen-case_bits-requires-clause-promoted t c = rw c.promote-ty.ensures (IsPromoted-promote_of c.type_of-from.result)

pub switches::chosen-case_bits-requires-clause-x_in : goal.switches::chosen-case_bits-requires-clause-x_in
switches::chosen-case_bits-requires-clause-x_in t c = c.in_ok-y.ensures.bits_in

pub switches::chosen-case_bits-requires-clause-labels_in : goal.switches::chosen-case_bits-requires-clause-labels_in
switches::chosen-case_bits-requires-clause-labels_in t c =
    subst (λ k. IsTrue (list_all (label_fits (program_of c.args.walk.now).model k) (labels_in (switch_view c.args.arms.now)))) (sym (c.promote-ty.ensures ∙ ap promote_of c.type_of-from.ensures)) c.requires.ready.labels

pub switches::chosen-case_bits-requires-clause-room : goal.switches::chosen-case_bits-requires-clause-room
switches::chosen-case_bits-requires-clause-room t c =
    let p = program_of c.args.walk.now in
    let W = mode_of c.args.walk.now in
    let e = expr_view c.args.test.now in
    let ls = labels_in (switch_view c.args.arms.now) in
    let y = promoted_as p W c.args.depth c.args.at e ls c.requires.ready c.in_ok-x.ensures c.type_of-from.result c.promote-ty.result c.type_of-from.ensures c.promote-ty.ensures c.in_ok-y.ensures in
    subst (λ k. length c.convert.new.sym.net + cases_cost p.model k ls < 2 ^ 28) (sym (c.promote-ty.ensures ∙ ap promote_of c.type_of-from.ensures))
    (cases_room p W c.args.depth c.args.at e ls c.requires.ready c.in_ok-x.ensures y)

pub switches::chosen-tell_choice-requires-clause-fits : goal.switches::chosen-tell_choice-requires-clause-fits
switches::chosen-tell_choice-requires-clause-fits t c =
    c.in_ok-cases.ensures.turned.fits

pub switches::chosen-tell_choice-requires-clause-value_in : goal.switches::chosen-tell_choice-requires-clause-value_in
switches::chosen-tell_choice-requires-clause-value_in t c =
    are_typed_added c.in_ok-cases.ensures.turned.added c.in_ok-y.ensures.bits_in

pub switches::chosen-tell_choice-requires-clause-cases_in : goal.switches::chosen-tell_choice-requires-clause-cases_in
switches::chosen-tell_choice-requires-clause-cases_in t c =
    subst (λ cs. AreIn c.case_bits.new.sym.net cs) (sym c.deref.ensures.value) c.in_ok-cases.ensures.inside

pub switches::chosen-tell_choice-requires-clause-are_cases : goal.switches::chosen-tell_choice-requires-clause-are_cases
switches::chosen-tell_choice-requires-clause-are_cases t c =
    let p = program_of c.args.walk.now in
    let ls = labels_in (switch_view c.args.arms.now) in
    λ v. ap (map (holds v c.case_bits.new.sym.net)) c.deref.ensures.value ∙ c.in_ok-cases.ensures.are v
    ∙ ap (λ z. map (is_case z) ls) (sym (typed_added c.in_ok-cases.ensures.turned.added p.model c.promote-ty.result v c.in_ok-y.y.bits c.in_ok-y.ensures.bits_in))

pub switches::chosen-tell_choice-requires-clause-room : goal.switches::chosen-tell_choice-requires-clause-room
switches::chosen-tell_choice-requires-clause-room t c =
    let p = program_of c.args.walk.now in
    let W = mode_of c.args.walk.now in
    let e = expr_view c.args.test.now in
    let ls = labels_in (switch_view c.args.arms.now) in
    let kind = c.promote-ty.ensures ∙ ap promote_of c.type_of-from.ensures in
    let y = promoted_as p W c.args.depth c.args.at e ls c.requires.ready c.in_ok-x.ensures c.type_of-from.result c.promote-ty.result c.type_of-from.ensures c.promote-ty.ensures c.in_ok-y.ensures in
    let z = subst (λ k. AreCases p k c.in_ok-y.y.bits ls c.convert.new.sym c.case_bits.new.sym c.in_ok-cases.cases.items) kind c.in_ok-cases.ensures in
    let many = ap length c.deref.ensures.value ∙ cases_many p W c.args.depth c.args.at e ls c.requires.ready c.in_ok-x.ensures y z in
    choice_told_room p W c.args.depth c.args.at e ls c.requires.ready c.in_ok-x.ensures y z (length c.deref.result.now) many

pub switches::chosen-enter_arms-requires-clause-fits : goal.switches::chosen-enter_arms-requires-clause-fits
switches::chosen-enter_arms-requires-clause-fits t c =
    c.in_ok-tell_choice.ensures.fits

pub switches::chosen-enter_arms-requires-clause-many : goal.switches::chosen-enter_arms-requires-clause-many
switches::chosen-enter_arms-requires-clause-many t c =
    let p = program_of c.args.walk.now in
    let W = mode_of c.args.walk.now in
    let e = expr_view c.args.test.now in
    let ls = labels_in (switch_view c.args.arms.now) in
    let kind = c.promote-ty.ensures ∙ ap promote_of c.type_of-from.ensures in
    let y = promoted_as p W c.args.depth c.args.at e ls c.requires.ready c.in_ok-x.ensures c.type_of-from.result c.promote-ty.result c.type_of-from.ensures c.promote-ty.ensures c.in_ok-y.ensures in
    let z = subst (λ k. AreCases p k c.in_ok-y.y.bits ls c.convert.new.sym c.case_bits.new.sym c.in_ok-cases.cases.items) kind c.in_ok-cases.ensures in
    ap length c.deref-2.ensures.value ∙ cases_many p W c.args.depth c.args.at e ls c.requires.ready c.in_ok-x.ensures y z ∙ labels_many c.args.arms.now

pub switches::chosen-enter_arms-requires-clause-cases_in : goal.switches::chosen-enter_arms-requires-clause-cases_in
switches::chosen-enter_arms-requires-clause-cases_in t c =
    let p = program_of c.args.walk.now in
    let W = mode_of c.args.walk.now in
    let e = expr_view c.args.test.now in
    let ls = labels_in (switch_view c.args.arms.now) in
    let kind = c.promote-ty.ensures ∙ ap promote_of c.type_of-from.ensures in
    let y = promoted_as p W c.args.depth c.args.at e ls c.requires.ready c.in_ok-x.ensures c.type_of-from.result c.promote-ty.result c.type_of-from.ensures c.promote-ty.ensures c.in_ok-y.ensures in
    let z = subst (λ k. AreCases p k c.in_ok-y.y.bits ls c.convert.new.sym c.case_bits.new.sym c.in_ok-cases.cases.items) kind c.in_ok-cases.ensures in
    let many = ap length c.deref.ensures.value ∙ cases_many p W c.args.depth c.args.at e ls c.requires.ready c.in_ok-x.ensures y z in
    let ev = subst (λ k. Turned p (length c.deref.result.now + W.scale.test c.args.at) 0 c.case_bits.new.sym c.tell_choice.new.sym (λ v. telling W (Branch c.args.at (way_for (typed p.model k v c.case_bits.new.sym.net c.in_ok-y.y.bits) ls)))) kind c.in_ok-tell_choice.ensures in
    subst (λ cs. AreIn c.tell_choice.new.sym.net cs) (sym c.deref-2.ensures.value) (cases_then p W c.args.depth c.args.at e ls c.requires.ready c.in_ok-x.ensures y z (length c.deref.result.now) many ev)

pub switches::chosen-enter_arms-requires-clause-room : goal.switches::chosen-enter_arms-requires-clause-room
switches::chosen-enter_arms-requires-clause-room t c =
    let p = program_of c.args.walk.now in
    let W = mode_of c.args.walk.now in
    let e = expr_view c.args.test.now in
    let ls = labels_in (switch_view c.args.arms.now) in
    let kind = c.promote-ty.ensures ∙ ap promote_of c.type_of-from.ensures in
    let y = promoted_as p W c.args.depth c.args.at e ls c.requires.ready c.in_ok-x.ensures c.type_of-from.result c.promote-ty.result c.type_of-from.ensures c.promote-ty.ensures c.in_ok-y.ensures in
    let z = subst (λ k. AreCases p k c.in_ok-y.y.bits ls c.convert.new.sym c.case_bits.new.sym c.in_ok-cases.cases.items) kind c.in_ok-cases.ensures in
    let many = ap length c.deref.ensures.value ∙ cases_many p W c.args.depth c.args.at e ls c.requires.ready c.in_ok-x.ensures y z in
    let ev = subst (λ k. Turned p (length c.deref.result.now + W.scale.test c.args.at) 0 c.case_bits.new.sym c.tell_choice.new.sym (λ v. telling W (Branch c.args.at (way_for (typed p.model k v c.case_bits.new.sym.net c.in_ok-y.y.bits) ls)))) kind c.in_ok-tell_choice.ensures in
    entries_room p W c.args.depth c.args.at e ls c.requires.ready c.in_ok-x.ensures y z (length c.deref.result.now) many ev (length c.args.arms.now) (sym (labels_many c.args.arms.now))

pub switches::chosen-returns : goal.switches::chosen-returns
switches::chosen-returns t c =
    let p = program_of c.args.walk.now in
    let W = mode_of c.args.walk.now in
    let e = expr_view c.args.test.now in
    let ls = labels_in (switch_view c.args.arms.now) in
    let kind = c.promote-ty.ensures ∙ ap promote_of c.type_of-from.ensures in
    let y = promoted_as p W c.args.depth c.args.at e ls c.requires.ready c.in_ok-x.ensures c.type_of-from.result c.promote-ty.result c.type_of-from.ensures c.promote-ty.ensures c.in_ok-y.ensures in
    let z = subst (λ k. AreCases p k c.in_ok-y.y.bits ls c.convert.new.sym c.case_bits.new.sym c.in_ok-cases.cases.items) kind c.in_ok-cases.ensures in
    let many = ap length c.deref.ensures.value ∙ cases_many p W c.args.depth c.args.at e ls c.requires.ready c.in_ok-x.ensures y z in
    let ev = subst (λ k. Turned p (length c.deref.result.now + W.scale.test c.args.at) 0 c.case_bits.new.sym c.tell_choice.new.sym (λ v. telling W (Branch c.args.at (way_for (typed p.model k v c.case_bits.new.sym.net c.in_ok-y.y.bits) ls)))) kind c.in_ok-tell_choice.ensures in
    chosen_chooses p W c.args.depth c.args.at e ls c.requires.ready c.in_ok-x.ensures y z (length c.deref.result.now) many ev (length c.args.arms.now) (sym (labels_many c.args.arms.now))
    (c.in_ok-bits.ensures (λ v. typed p.model (promote_of (type_of e)) v c.convert.new.sym.net c.in_ok-y.y.bits) (λ v. ap (map (holds v c.tell_choice.new.sym.net)) c.deref-2.ensures.value ∙ cases_still p W c.args.depth c.args.at e ls c.requires.ready c.in_ok-x.ensures y z (length c.deref.result.now) many ev v))

pub switches::one_arm-narrow-requires-clause-fits : goal.switches::one_arm-narrow-requires-clause-fits
switches::one_arm-narrow-requires-clause-fits t c = c.requires.ready.fits

pub switches::one_arm-narrow-requires-clause-a_in : goal.switches::one_arm-narrow-requires-clause-a_in
switches::one_arm-narrow-requires-clause-a_in t c = c.requires.ready.fits.live

pub switches::one_arm-narrow-requires-clause-b_in : goal.switches::one_arm-narrow-requires-clause-b_in
switches::one_arm-narrow-requires-clause-b_in t c = c.requires.ready.bit_in

pub switches::one_arm-narrow-requires-clause-room : goal.switches::one_arm-narrow-requires-clause-room
switches::one_arm-narrow-requires-clause-room t c =
    arm_room (program_of c.args.walk.now) (mode_of c.args.walk.now) c.args.depth c.args.gives c.args.bit (stmts_view c.args.body.now) c.requires.ready

pub switches::one_arm-execs-requires : goal.switches::one_arm-execs-requires
switches::one_arm-execs-requires t c =
    (omega (arith, c.decreases), (c.requires.walk, arm_starts (program_of c.args.walk.now) (mode_of c.args.walk.now) c.args.depth c.args.gives c.args.bit (stmts_view c.args.body.now) c.requires.ready c.in_ok-narrow.ensures))

pub switches::one_arm-narrow-requires-2-clause-fits : goal.switches::one_arm-narrow-requires-2-clause-fits
switches::one_arm-narrow-requires-2-clause-fits t c = c.in_ok-execs.ensures.fits

pub switches::one_arm-narrow-requires-2-clause-a_in : goal.switches::one_arm-narrow-requires-2-clause-a_in
switches::one_arm-narrow-requires-2-clause-a_in t c =
    arm_still (program_of c.args.walk.now) (mode_of c.args.walk.now) c.args.depth c.args.gives c.args.bit (stmts_view c.args.body.now) c.requires.ready c.in_ok-narrow.ensures c.in_ok-execs.ensures c.args.sym.now.live c.requires.ready.fits.live

pub switches::one_arm-narrow-requires-2-clause-b_in : goal.switches::one_arm-narrow-requires-2-clause-b_in
switches::one_arm-narrow-requires-2-clause-b_in t c =
    subst (λ k. IsIn c.execs.new.sym.net k) (sym c.not-other.ensures)
    (arm_still (program_of c.args.walk.now) (mode_of c.args.walk.now) c.args.depth c.args.gives c.args.bit (stmts_view c.args.body.now) c.requires.ready c.in_ok-narrow.ensures c.in_ok-execs.ensures (opposite c.args.bit) c.requires.ready.bit_in)

pub switches::one_arm-narrow-requires-2-clause-room : goal.switches::one_arm-narrow-requires-2-clause-room
switches::one_arm-narrow-requires-2-clause-room t c =
    arm_room_again (program_of c.args.walk.now) (mode_of c.args.walk.now) c.args.depth c.args.gives c.args.bit (stmts_view c.args.body.now) c.requires.ready c.in_ok-narrow.ensures c.in_ok-execs.ensures

pub switches::one_arm-join-requires-clause-fits : goal.switches::one_arm-join-requires-clause-fits
switches::one_arm-join-requires-clause-fits t c = c.in_ok-narrow-2.ensures.fits

pub switches::one_arm-join-requires-clause-other_in : goal.switches::one_arm-join-requires-clause-other_in
switches::one_arm-join-requires-clause-other_in t c =
    arm_last_in (program_of c.args.walk.now) (mode_of c.args.walk.now) c.args.depth c.args.gives c.args.bit (stmts_view c.args.body.now) c.requires.ready c.in_ok-narrow.ensures c.in_ok-execs.ensures c.in_ok-narrow-2.ensures

pub switches::one_arm-join-requires-clause-room : goal.switches::one_arm-join-requires-clause-room
switches::one_arm-join-requires-clause-room t c =
    arm_last_room (program_of c.args.walk.now) (mode_of c.args.walk.now) c.args.depth c.args.gives c.args.bit (stmts_view c.args.body.now) c.requires.ready c.in_ok-narrow.ensures c.in_ok-execs.ensures c.in_ok-narrow-2.ensures

pub switches::one_arm-returns : goal.switches::one_arm-returns
switches::one_arm-returns t c =
    arm_does (program_of c.args.walk.now) (mode_of c.args.walk.now) c.args.depth c.args.gives c.args.bit c.not-other.result (stmts_view c.args.body.now) c.requires.ready c.not-other.ensures c.in_ok-narrow.ensures c.in_ok-execs.ensures
    (omega (arith, c.len-cells.ensures, c.args.sym.now.cells.ok.0)) c.in_ok-narrow-2.ensures c.in_ok-join.ensures

pub switches::walk_arms-loop-index-init : goal.switches::walk_arms-loop-index-init
switches::walk_arms-loop-index-init t c = arms_none (program_of c.args.walk.now) (mode_of c.args.walk.now) c.args.depth c.args.gives c.args.sym.now c.requires.ready.fits

pub switches::walk_arms-one_arm-requires : goal.switches::walk_arms-one_arm-requires
switches::walk_arms-one_arm-requires t c =
    let p = program_of c.args.walk.now in
    let W = mode_of c.args.walk.now in
    (omega (arith, c.decreases, arms_part p W c.args.depth c.args.gives c.args.bits.now c.args.arms.now c.loop-index.index (record { node = 0; negated = false }) _ c.index-arms-index.result c.loop-index-test.true c.index-arms-index.is (omega (arith, c.loop-index-test.true, c.requires.ready.many)) refl, ap (λ b. weight_of_block p W c.args.depth c.args.gives (stmts_view b)) c.as_slice.ensures), (c.requires.walk, subst (λ b. ArmReady p W c.args.depth c.args.gives c.loop-index.sym (get_or c.args.bits.now c.loop-index.index (record { node = 0; negated = false })) (stmts_view b)) (sym c.as_slice.ensures) (arms_next p W c.args.depth c.args.gives c.args.bits.now c.args.arms.now c.loop-index.index (record { node = 0; negated = false }) _ c.index-arms-index.result c.loop-index-test.true c.index-arms-index.is (omega (arith, c.loop-index-test.true, c.requires.ready.many)) refl c.requires.ready c.loop-index.invariant)))

pub switches::walk_arms-loop-index-preserved : goal.switches::walk_arms-loop-index-preserved
switches::walk_arms-loop-index-preserved t c =
    let p = program_of c.args.walk.now in
    let W = mode_of c.args.walk.now in
    arms_on p W c.args.depth c.args.gives c.args.bits.now c.args.arms.now c.loop-index.index (record { node = 0; negated = false }) _ c.index-arms-index.result c.loop-index-test.true c.index-arms-index.is (omega (arith, c.loop-index-test.true, c.requires.ready.many)) refl c.requires.ready.inside c.loop-index.invariant
    (subst (λ b. ArmDoes p W c.args.depth c.args.gives (get_or c.args.bits.now c.loop-index.index (record { node = 0; negated = false })) (stmts_view b) c.loop-index.sym c.one_arm.new.sym) c.as_slice.ensures c.in_ok-one_arm.ensures)

pub switches::walk_arms-returns : goal.switches::walk_arms-returns
switches::walk_arms-returns t c =
    let p = program_of c.args.walk.now in
    let W = mode_of c.args.walk.now in
    let none = c.loop-index-test.false in
    subst (λ arms. ArmsDo p W c.args.depth c.args.gives c.args.bits.now arms c.args.sym.now c.loop-index.sym) (take_all c.loop-index.index c.args.arms.now (omega (arith, none)))
    (subst (λ bits. ArmsDo p W c.args.depth c.args.gives bits (take c.loop-index.index c.args.arms.now) c.args.sym.now c.loop-index.sym) (take_all c.loop-index.index c.args.bits.now (omega (arith, none, c.requires.ready.many))) c.loop-index.invariant)

pub switches::switch-chosen-requires : goal.switches::switch-chosen-requires
switches::switch-chosen-requires t c =
    (omega (arith, c.decreases), (c.requires.walk, switch_chooses (program_of c.args.walk.now) (mode_of c.args.walk.now) c.args.depth c.args.gives c.args.at (expr_view c.args.test.now) c.args.arms.now c.requires.ready))

pub switches::switch-walk_arms-requires : goal.switches::switch-walk_arms-requires
switches::switch-walk_arms-requires t c =
    (omega (arith, c.decreases), (c.requires.walk, subst (λ bs. ArmsReady (program_of c.args.walk.now) (mode_of c.args.walk.now) c.args.depth c.args.gives c.start_loop-kept.new.sym bs c.args.arms.now) (sym c.deref.ensures.value) (arms_start (program_of c.args.walk.now) (mode_of c.args.walk.now) c.args.depth c.args.gives c.args.at (expr_view c.args.test.now) c.args.arms.now c.requires.ready c.in_ok-bits.ensures c.start_loop-kept.ensures.became)))

pub switches::switch-end_loop-requires-clause-fits : goal.switches::switch-end_loop-requires-clause-fits
switches::switch-end_loop-requires-clause-fits t c = c.in_ok-walk_arms.ensures.runs.fits

pub switches::switch-end_loop-requires-clause-kept_in : goal.switches::switch-end_loop-requires-clause-kept_in
switches::switch-end_loop-requires-clause-kept_in t c =
    switch_kept_in (program_of c.args.walk.now) (mode_of c.args.walk.now) c.args.depth c.args.gives c.args.at (expr_view c.args.test.now) c.args.arms.now c.requires.ready c.in_ok-bits.ensures c.start_loop-kept.ensures.became
    (subst (λ bs. ArmsDo (program_of c.args.walk.now) (mode_of c.args.walk.now) c.args.depth c.args.gives bs c.args.arms.now c.start_loop-kept.new.sym c.walk_arms.new.sym) c.deref.ensures.value c.in_ok-walk_arms.ensures)
    c.start_loop-kept.result c.start_loop-kept.ensures.kept

pub switches::switch-end_loop-requires-clause-room : goal.switches::switch-end_loop-requires-clause-room
switches::switch-end_loop-requires-clause-room t c =
    switch_room (program_of c.args.walk.now) (mode_of c.args.walk.now) c.args.depth c.args.gives c.args.at (expr_view c.args.test.now) c.args.arms.now c.requires.ready c.in_ok-bits.ensures c.start_loop-kept.ensures.became
    (subst (λ bs. ArmsDo (program_of c.args.walk.now) (mode_of c.args.walk.now) c.args.depth c.args.gives bs c.args.arms.now c.start_loop-kept.new.sym c.walk_arms.new.sym) c.deref.ensures.value c.in_ok-walk_arms.ensures)

pub switches::switch-returns : goal.switches::switch-returns
switches::switch-returns t c =
    switch_does (program_of c.args.walk.now) (mode_of c.args.walk.now) c.args.depth c.args.gives c.args.at (expr_view c.args.test.now) c.args.arms.now c.requires.ready c.in_ok-bits.ensures c.start_loop-kept.ensures.became
    (subst (λ bs. ArmsDo (program_of c.args.walk.now) (mode_of c.args.walk.now) c.args.depth c.args.gives bs c.args.arms.now c.start_loop-kept.new.sym c.walk_arms.new.sym) c.deref.ensures.value c.in_ok-walk_arms.ensures)
    c.start_loop-kept.result c.len-cells.result c.start_loop-kept.ensures.kept (omega (arith, c.len-cells.ensures, c.chosen.new.sym.cells.ok.0)) c.in_ok-end_loop.ensures

pub statements::form-switch-requires : goal.statements::form-switch-requires
statements::form-switch-requires t c =
    let p = program_of c.args.walk.now in
    let W = mode_of c.args.walk.now in
    let e : form_view c.args.f.now ≡ Switch (expr_view c.in-Switch.test) (switch_view c.as_slice-in-Switch.result.now) =
    ap form_view c.in-Switch.is ∙ view_of_switch c.in-Switch.test c.in-Switch.arms ∙ ap (λ arms. Switch (expr_view c.in-Switch.test) (switch_view arms)) (sym c.as_slice-in-Switch.ensures) in
    (omega (arith, c.decreases, ap (λ k. weight_of_form p W c.args.depth c.args.gives c.args.at k) e), (c.requires.walk, subst (λ k. FormReady p W c.args.depth c.args.gives c.args.at c.args.sym.now k) e c.requires.ready))

pub statements::form-returns-in_ok-switch-in-Switch : goal.statements::form-returns-in_ok-switch-in-Switch
statements::form-returns-in_ok-switch-in-Switch t c =
    let p = program_of c.args.walk.now in
    let W = mode_of c.args.walk.now in
    let e : form_view c.args.f.now ≡ Switch (expr_view c.in-Switch.test) (switch_view c.as_slice-in-Switch.result.now) =
    ap form_view c.in-Switch.is ∙ view_of_switch c.in-Switch.test c.in-Switch.arms ∙ ap (λ arms. Switch (expr_view c.in-Switch.test) (switch_view arms)) (sym c.as_slice-in-Switch.ensures) in
    subst (λ k. FormDoes p W c.args.depth c.args.gives c.args.at k c.args.sym.now c.switch.new.sym) (sym e) c.in_ok-switch-in-Switch.ensures
