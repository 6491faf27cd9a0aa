use Rattle.std.proofs.Common.{◌≡◌, ◌+◌, ◌++◌, ◌∷◌, [], length, refl, sym, ap, ap₂, ◌∙◌, arith}
use Rattle.std.proofs.lemmas.List.{drop_all}
use Rattle.std.proofs.lemmas.Result.{on_ok_weaker}
use Rattle.c_core.specs.Tree.{Do, Declare, Block, If, While, DoWhile, For, Break, Continue, Label, Switch, OrElse}
use Rattle.c_core.specs.View.{program_view, expr_view, expr_view_if, names_view, first_view, form_view, stmt_view, stmts_view, switch_view}
use Rattle.c_core.specs.declared.tree.Arm.{out-Arm}
use Rattle.c_core.proofs.View.{view_of_block, view_of_switch}
use Rattle.c_meaning.specs.Meaning.{Unused}
use Rattle.run_state.specs.Interpreting.{else_part}
use Rattle.flow_code.specs.declared.code.Action.TheVariants.{Arrive}
use Rattle.flow_code.specs.declared.code.Then.TheVariants.{Drop}
use Rattle.flow_code.specs.Preparing.{op}
use Rattle.flow_code.specs.Expressions.{code}
use Rattle.flow_code.specs.Sizes.{size_of_arm}
use Rattle.flow_code.specs.Statements.{form_code, statement_code, block_code}
use Rattle.flow_code.proofs.Weights.{weight_of_form, weight_of_else, weight_of_block, statement_part, arm_part}
use Rattle.flow_code.proofs.Arms.{code_from}
use Rattle.flow_code.proofs.Gluing.{nothing_more, glued, next_item, walk_on, walk_done}
use Rattle.flow_code.proofs.Blocks.{view_of_if, as_statement, block_is, arm_is, choice_is, second_is, while_is, do_is, turns_are, for_is, arms_are, switch_is}
use Rattle.flow_code.proofs.+statement.Goals as goal

pub statements::statement-returns : goal.statements::statement-returns
statements::statement-returns t c =
    let p = program_view c.args.program.now in
    let s = c.args.s.now in
    glued c.args.ops.now (op 1 (Arrive s.spot) ∷ []) c.emit.new.ops c.form.new.ops (λ j. form_code p j c.args.inside s.spot (form_view s.form)) c.in_ok-emit.ensures c.in_ok-form.ensures

pub statements::form-returns-in-Empty : goal.statements::form-returns-in-Empty
statements::form-returns-in-Empty t c =
    rw c.in-Empty.is (nothing_more c.args.ops.now)

pub statements::form-returns-in-Expr : goal.statements::form-returns-in-Expr
statements::form-returns-in-Expr t c =
    let e : form_view c.args.f.now ≡ Do (expr_view c.in-Expr.e) = rw c.in-Expr.is refl in
    as_statement (program_view c.args.program.now) (length c.args.ops.now) c.args.inside c.args.at (form_view c.args.f.now) (Do (expr_view c.in-Expr.e)) c.args.ops.now c.expression.new.ops c.expression.result e (on_ok_weaker c.expression.result (λ h. h ∙ ap (λ a. c.args.ops.now ++ code (program_view c.args.program.now) a (length c.args.ops.now) 0 Unused (expr_view c.in-Expr.e) Drop) c.full_of.ensures) c.expression.ensures)

pub statements::form-returns-in-Declare : goal.statements::form-returns-in-Declare
statements::form-returns-in-Declare t c =
    let e : form_view c.args.f.now ≡ Declare (names_view c.as_slice.result.now) = rw (c.in-Declare.is, c.as_slice.ensures) refl in
    as_statement (program_view c.args.program.now) (length c.args.ops.now) c.args.inside c.args.at (form_view c.args.f.now) (Declare (names_view c.as_slice.result.now)) c.args.ops.now c.declare.new.ops c.declare.result e c.declare.ensures

pub statements::form-block-requires : goal.statements::form-block-requires
statements::form-block-requires t c =
    let e : form_view c.args.f.now ≡ Block (stmts_view c.as_slice-in-Block.result.now) = ap form_view c.in-Block.is ∙ view_of_block c.in-Block.body ∙ ap (λ b. Block (stmts_view b)) (sym c.as_slice-in-Block.ensures) in
    (omega (arith, c.decreases, ap weight_of_form e), tt)

pub statements::form-returns-in-Block : goal.statements::form-returns-in-Block
statements::form-returns-in-Block t c =
    let e : form_view c.args.f.now ≡ Block (stmts_view c.as_slice-in-Block.result.now) = ap form_view c.in-Block.is ∙ view_of_block c.in-Block.body ∙ ap (λ b. Block (stmts_view b)) (sym c.as_slice-in-Block.ensures) in
    as_statement (program_view c.args.program.now) (length c.args.ops.now) c.args.inside c.args.at (form_view c.args.f.now) (Block (stmts_view c.as_slice-in-Block.result.now)) c.args.ops.now c.block.new.ops c.block.result e c.block.ensures

pub statements::form-choose-requires : goal.statements::form-choose-requires
statements::form-choose-requires t c =
    let e : form_view c.args.f.now ≡ If (expr_view c.in-If.test) (stmt_view c.deref.result.now) (else_part c.in-If.no) = ap form_view c.in-If.is ∙ view_of_if c.in-If.test c.in-If.yes c.in-If.no ∙ ap (λ s. If (expr_view c.in-If.test) (stmt_view s) (else_part c.in-If.no)) (sym c.deref.ensures) in
    (omega (arith, c.decreases, ap weight_of_form e), tt)

pub statements::form-returns-in-If : goal.statements::form-returns-in-If
statements::form-returns-in-If t c =
    let e : form_view c.args.f.now ≡ If (expr_view c.in-If.test) (stmt_view c.deref.result.now) (else_part c.in-If.no) = ap form_view c.in-If.is ∙ view_of_if c.in-If.test c.in-If.yes c.in-If.no ∙ ap (λ s. If (expr_view c.in-If.test) (stmt_view s) (else_part c.in-If.no)) (sym c.deref.ensures) in
    as_statement (program_view c.args.program.now) (length c.args.ops.now) c.args.inside c.args.at (form_view c.args.f.now) (If (expr_view c.in-If.test) (stmt_view c.deref.result.now) (else_part c.in-If.no)) c.args.ops.now c.choose.new.ops c.choose.result e c.choose.ensures

pub statements::form-while_loop-requires : goal.statements::form-while_loop-requires
statements::form-while_loop-requires t c =
    let e : form_view c.args.f.now ≡ While (expr_view c.in-While.test) (stmt_view c.deref-in-While.result.now) = rw (c.in-While.is, c.deref-in-While.ensures) refl in
    (omega (arith, c.decreases, ap weight_of_form e), tt)

pub statements::form-returns-in-While : goal.statements::form-returns-in-While
statements::form-returns-in-While t c =
    let e : form_view c.args.f.now ≡ While (expr_view c.in-While.test) (stmt_view c.deref-in-While.result.now) = rw (c.in-While.is, c.deref-in-While.ensures) refl in
    as_statement (program_view c.args.program.now) (length c.args.ops.now) c.args.inside c.args.at (form_view c.args.f.now) (While (expr_view c.in-While.test) (stmt_view c.deref-in-While.result.now)) c.args.ops.now c.while_loop.new.ops c.while_loop.result e c.while_loop.ensures

pub statements::form-do_loop-requires : goal.statements::form-do_loop-requires
statements::form-do_loop-requires t c =
    let e : form_view c.args.f.now ≡ DoWhile (stmt_view c.deref-in-Do.result.now) (expr_view c.in-Do.test) = rw (c.in-Do.is, c.deref-in-Do.ensures) refl in
    (omega (arith, c.decreases, ap weight_of_form e), tt)

pub statements::form-returns-in-Do : goal.statements::form-returns-in-Do
statements::form-returns-in-Do t c =
    let e : form_view c.args.f.now ≡ DoWhile (stmt_view c.deref-in-Do.result.now) (expr_view c.in-Do.test) = rw (c.in-Do.is, c.deref-in-Do.ensures) refl in
    as_statement (program_view c.args.program.now) (length c.args.ops.now) c.args.inside c.args.at (form_view c.args.f.now) (DoWhile (stmt_view c.deref-in-Do.result.now) (expr_view c.in-Do.test)) c.args.ops.now c.do_loop.new.ops c.do_loop.result e c.do_loop.ensures

pub statements::form-for_loop-requires : goal.statements::form-for_loop-requires
statements::form-for_loop-requires t c =
    let e : form_view c.args.f.now ≡ For (first_view c.in-For.first) (expr_view_if c.in-For.test) (expr_view_if c.in-For.step) (stmt_view c.deref-in-For.result.now) = rw (c.in-For.is, c.deref-in-For.ensures) refl in
    (omega (arith, c.decreases, ap weight_of_form e), tt)

pub statements::form-returns-in-For : goal.statements::form-returns-in-For
statements::form-returns-in-For t c =
    let e : form_view c.args.f.now ≡ For (first_view c.in-For.first) (expr_view_if c.in-For.test) (expr_view_if c.in-For.step) (stmt_view c.deref-in-For.result.now) = rw (c.in-For.is, c.deref-in-For.ensures) refl in
    as_statement (program_view c.args.program.now) (length c.args.ops.now) c.args.inside c.args.at (form_view c.args.f.now) (For (first_view c.in-For.first) (expr_view_if c.in-For.test) (expr_view_if c.in-For.step) (stmt_view c.deref-in-For.result.now)) c.args.ops.now c.for_loop.new.ops c.for_loop.result e c.for_loop.ensures

pub statements::form-returns-in-Break : goal.statements::form-returns-in-Break
statements::form-returns-in-Break t c =
    let e : form_view c.args.f.now ≡ Break = rw c.in-Break.is refl in
    as_statement (program_view c.args.program.now) (length c.args.ops.now) c.args.inside c.args.at (form_view c.args.f.now) (Break) c.args.ops.now c.jump_out.new.ops c.jump_out.result e c.jump_out.ensures

pub statements::form-returns-in-Continue : goal.statements::form-returns-in-Continue
statements::form-returns-in-Continue t c =
    let e : form_view c.args.f.now ≡ Continue = rw c.in-Continue.is refl in
    as_statement (program_view c.args.program.now) (length c.args.ops.now) c.args.inside c.args.at (form_view c.args.f.now) (Continue) c.args.ops.now c.jump_out-in-Continue.new.ops c.jump_out-in-Continue.result e c.jump_out-in-Continue.ensures

pub statements::form-statement-requires : goal.statements::form-statement-requires
statements::form-statement-requires t c =
    let e : form_view c.args.f.now ≡ Label (stmt_view c.deref-in-Label.result.now) = rw (c.in-Label.is, c.deref-in-Label.ensures) refl in
    (omega (arith, c.decreases, ap weight_of_form e), tt)

pub statements::form-returns-in-Label : goal.statements::form-returns-in-Label
statements::form-returns-in-Label t c =
    let e : form_view c.args.f.now ≡ Label (stmt_view c.deref-in-Label.result.now) = rw (c.in-Label.is, c.deref-in-Label.ensures) refl in
    as_statement (program_view c.args.program.now) (length c.args.ops.now) c.args.inside c.args.at (form_view c.args.f.now) (Label (stmt_view c.deref-in-Label.result.now)) c.args.ops.now c.statement.new.ops c.statement.result e c.statement.ensures

pub statements::block-returns : goal.statements::block-returns
statements::block-returns t c =
    block_is (program_view c.args.program.now) (stmts_view c.args.body.now) c.any_leaks-there.result c.args.inside c.in_ok-within.within c.args.ops.now c.open_scope.new.ops c.sequence.new.ops c.close_scope.new.ops
    c.any_leaks-there.ensures c.in_ok-within.ensures c.in_ok-open_scope.ensures c.in_ok-sequence.ensures c.in_ok-close_scope.ensures

pub statements::arm-returns : goal.statements::arm-returns
statements::arm-returns t c =
    arm_is (program_view c.args.program.now) (stmt_view c.args.s.now) c.leaks-there.result c.args.inside c.in_ok-within.within c.args.ops.now c.open_scope.new.ops c.statement.new.ops c.close_scope.new.ops
    c.leaks-there.ensures c.in_ok-within.ensures c.in_ok-open_scope.ensures c.in_ok-statement.ensures c.in_ok-close_scope.ensures

pub statements::sequence-statement-requires : goal.statements::sequence-statement-requires
statements::sequence-statement-requires t c =
    (omega (arith, c.decreases, statement_part c.args.body.now c.loop-s.s-index c.s-item.result c.loop-s-test.true c.s-item.is), tt)

pub statements::sequence-loop-s-preserved : goal.statements::sequence-loop-s-preserved
statements::sequence-loop-s-preserved t c =
    let p = program_view c.args.program.now in
    let ss = c.args.body.now in
    let i = c.loop-s.s-index in
    let x = c.s-item.result in
    walk_on ss i x c.loop-s.ops c.statement.new.ops _ (λ j xs. block_code p j c.args.inside (stmts_view xs)) (λ j xs. block_code p j c.args.inside (stmts_view xs))
    (λ j. statement_code p j c.args.inside (stmt_view x)) (next_item ss i x c.loop-s-test.true c.s-item.is) (λ j. refl) c.loop-s.invariant c.in_ok-statement.ensures

pub statements::sequence-returns : goal.statements::sequence-returns
statements::sequence-returns t c =
    let p = program_view c.args.program.now in
    walk_done c.args.body.now c.loop-s.s-index c.loop-s.ops _ (λ j xs. block_code p j c.args.inside (stmts_view xs)) (drop_all c.loop-s.s-index c.args.body.now c.loop-s-test.false) refl c.loop-s.invariant

pub statements::choose-returns : goal.statements::choose-returns
statements::choose-returns t c =
    let p = program_view c.args.program.now in
    let e = expr_view c.args.test.now in
    let first = c.in_ok-first.ensures ∙ ap₂ ◌+◌ (c.in_ok-both.ensures ∙ ap₂ ◌+◌ c.in_ok-tested.ensures c.in_ok-taken.ensures) c.else_jump-jump.ensures in
    choice_is p c.args.inside c.args.at e (stmt_view c.args.yes.now) (else_part c.args.no.now) c.in_ok-to.to c.full_of-around.result c.args.ops.now c.expression.new.ops c.arm.new.ops c.otherwise.new.ops
    (c.in_ok-to.ensures ∙ ap (λ n. length c.args.ops.now + n) first) c.full_of-around.ensures c.in_ok-expression.ensures c.in_ok-arm.ensures c.in_ok-otherwise.ensures

pub statements::otherwise-second_arm-requires : goal.statements::otherwise-second_arm-requires
statements::otherwise-second_arm-requires t c =
    (omega (arith, c.decreases, ap (λ o. weight_of_else (else_part o)) c.in-Some.is, ap (λ s. weight_of_else (OrElse (stmt_view s))) c.deref.ensures), tt)

pub statements::otherwise-returns-in-None : goal.statements::otherwise-returns-in-None
statements::otherwise-returns-in-None t c =
    rw c.in-None.is (nothing_more c.args.ops.now)

pub statements::otherwise-returns-in-Some : goal.statements::otherwise-returns-in-Some
statements::otherwise-returns-in-Some t c =
    rw (c.in-Some.is, ← c.deref.ensures) c.second_arm.ensures

pub statements::second_arm-returns : goal.statements::second_arm-returns
statements::second_arm-returns t c =
    second_is (program_view c.args.program.now) c.args.inside (stmt_view c.args.s.now) c.args.to c.in_ok-end.end c.args.ops.now c.emit.new.ops c.arm.new.ops
    (c.in_ok-end.ensures ∙ ap (λ n. c.args.to + n) c.in_ok-taken.ensures) c.in_ok-emit.ensures c.in_ok-arm.ensures

pub loops::while_loop-returns : goal.loops::while_loop-returns
loops::while_loop-returns t c =
    while_is (program_view c.args.program.now) c.args.inside c.in_loop-within.result c.args.at (expr_view c.args.test.now) (stmt_view c.args.body.now) c.in_ok-start.start c.in_ok-again.again c.in_ok-broken.broken c.args.ops.now c.emit.new.ops c.arm.new.ops c.test_at.new.ops
    c.in_ok-start.ensures (c.in_ok-again.ensures ∙ ap (λ n. c.in_ok-start.start + n) (c.in_ok-turn.ensures ∙ ap (λ d. size_of_arm d (stmt_view c.args.body.now)) c.in_turn.ensures)) (c.in_ok-broken.ensures ∙ ap (λ n. c.in_ok-again.again + n) c.in_ok-tested.ensures)
    c.in_loop-within.ensures c.in_ok-emit.ensures c.in_ok-arm.ensures c.in_ok-test_at.ensures

pub loops::do_loop-returns : goal.loops::do_loop-returns
loops::do_loop-returns t c =
    do_is (program_view c.args.program.now) c.args.inside c.in_loop-within.result c.args.at (stmt_view c.args.body.now) (expr_view c.args.test.now) c.in_ok-start.start c.in_ok-again.again c.in_ok-broken.broken c.args.ops.now c.arm.new.ops c.test_at.new.ops
    c.in_ok-start.ensures (c.in_ok-again.ensures ∙ ap (λ n. c.in_ok-start.start + n) (c.in_ok-turn.ensures ∙ ap (λ d. size_of_arm d (stmt_view c.args.body.now)) c.in_turn.ensures)) (c.in_ok-broken.ensures ∙ ap (λ n. c.in_ok-again.again + n) c.in_ok-tested.ensures)
    c.in_loop-within.ensures c.in_ok-arm.ensures c.in_ok-test_at.ensures

pub loops::for_loop-returns : goal.loops::for_loop-returns
loops::for_loop-returns t c =
    for_is (program_view c.args.program.now) c.args.inside c.in_ok-within.within c.args.at (first_view c.args.first.now) (expr_view_if c.args.test.now) (expr_view_if c.args.step.now) (stmt_view c.args.body.now) c.first_leaks-there.result
    c.args.ops.now c.open_scope.new.ops c.begin.new.ops c.turns.new.ops c.close_scope.new.ops c.first_leaks-there.ensures c.in_ok-within.ensures c.in_ok-open_scope.ensures c.in_ok-begin.ensures c.in_ok-turns.ensures c.in_ok-close_scope.ensures

pub loops::turns-returns : goal.loops::turns-returns
loops::turns-returns t c =
    turns_are (program_view c.args.program.now) c.args.inside c.in_loop-within.result c.args.at (expr_view_if c.args.test.now) (expr_view_if c.args.step.now) (stmt_view c.args.body.now) c.in_ok-start.start c.in_ok-again.again c.in_ok-head.head c.in_ok-broken.broken
    c.args.ops.now c.emit.new.ops c.arm.new.ops c.evaluate_if.new.ops c.test_if.new.ops c.in_ok-start.ensures (c.in_ok-again.ensures ∙ ap (λ n. c.in_ok-start.start + n) (c.in_ok-turn.ensures ∙ ap (λ d. size_of_arm d (stmt_view c.args.body.now)) c.in_turn.ensures))
    (c.in_ok-head.ensures ∙ ap (λ n. c.in_ok-again.again + n) c.in_ok-last.ensures) (c.in_ok-broken.ensures ∙ ap (λ n. c.in_ok-head.head + n) c.in_ok-tested.ensures)
    c.in_loop-within.ensures c.in_ok-emit.ensures c.in_ok-arm.ensures c.in_ok-evaluate_if.ensures c.in_ok-test_if.ensures

pub statements::form-switch-requires : goal.statements::form-switch-requires
statements::form-switch-requires t c =
    let e : form_view c.args.f.now ≡ Switch (expr_view c.in-Switch.test) (switch_view c.as_slice-in-Switch.result.now) = ap form_view c.in-Switch.is ∙ view_of_switch c.in-Switch.test c.in-Switch.arms ∙ ap (λ b. Switch (expr_view c.in-Switch.test) (switch_view b)) (sym c.as_slice-in-Switch.ensures) in
    (omega (arith, c.decreases, ap weight_of_form e), tt)

pub statements::form-returns-in-Switch : goal.statements::form-returns-in-Switch
statements::form-returns-in-Switch t c =
    let e : form_view c.args.f.now ≡ Switch (expr_view c.in-Switch.test) (switch_view c.as_slice-in-Switch.result.now) = ap form_view c.in-Switch.is ∙ view_of_switch c.in-Switch.test c.in-Switch.arms ∙ ap (λ b. Switch (expr_view c.in-Switch.test) (switch_view b)) (sym c.as_slice-in-Switch.ensures) in
    as_statement (program_view c.args.program.now) (length c.args.ops.now) c.args.inside c.args.at (form_view c.args.f.now) (Switch (expr_view c.in-Switch.test) (switch_view c.as_slice-in-Switch.result.now)) c.args.ops.now c.switch.new.ops c.switch.result e c.switch.ensures

pub switches::switch-returns : goal.switches::switch-returns
switches::switch-returns t c =
    switch_is (program_view c.args.program.now) c.args.inside c.in_switch.result c.in_ok-within.within c.args.at (expr_view c.args.test.now) (switch_view c.args.arms.now) c.any_arm_leaks-there.result c.in_ok-broken.broken
    c.args.ops.now c.switch_test.new.ops c.open_scope.new.ops c.selected_arms.new.ops c.close_scope.new.ops c.in_ok-switch_test.ensures c.any_arm_leaks-there.ensures
    (c.in_ok-broken.ensures ∙ ap (λ n. length c.switch_test.new.ops + n) c.in_ok-size.ensures) c.in_switch.ensures c.in_ok-within.ensures
    c.in_ok-open_scope.ensures c.in_ok-selected_arms.ensures c.in_ok-close_scope.ensures

pub switches::selected_arms-returns : goal.switches::selected_arms-returns
switches::selected_arms-returns t c =
    arms_are (program_view c.args.program.now) c.args.inside c.args.at (switch_view c.args.arms.now) c.in_ok-start.start c.args.ops.now c.select.new.ops c.bodies.new.ops
    c.in_ok-start.ensures c.in_ok-select.ensures c.in_ok-bodies.ensures

pub switches::bodies-sequence-requires : goal.switches::bodies-sequence-requires
switches::bodies-sequence-requires t c =
    (omega (arith, c.decreases, ap (λ b. weight_of_block (stmts_view b)) c.as_slice.ensures, arm_part c.args.arms.now c.loop-arm.arm-index c.arm-item.result c.loop-arm-test.true c.arm-item.is), tt)

pub switches::bodies-loop-arm-preserved : goal.switches::bodies-loop-arm-preserved
switches::bodies-loop-arm-preserved t c =
    let p = program_view c.args.program.now in
    let w = c.args.inside in
    let arms = c.args.arms.now in
    let i = c.loop-arm.arm-index in
    let x = c.arm-item.result in
    let d = next_item arms i x c.loop-arm-test.true c.arm-item.is in
    let body = stmts_view (out-Arm x).body in
    let old = c.loop-arm.ops in
    walk_on arms i x old c.sequence.new.ops _ (λ j xs. block_code p j w (switch_view xs)) (λ j xs. block_code p j w (switch_view xs)) (λ j. block_code p j w body) d
    (λ j. ap (λ xs. block_code p j w (switch_view xs)) (sym d) ∙ code_from p w arms i x c.loop-arm-test.true c.arm-item.is j) c.loop-arm.invariant
    (c.in_ok-sequence.ensures ∙ ap (λ b. old ++ block_code p (length old) w (stmts_view b)) c.as_slice.ensures)

pub switches::bodies-returns : goal.switches::bodies-returns
switches::bodies-returns t c =
    let p = program_view c.args.program.now in
    walk_done c.args.arms.now c.loop-arm.arm-index c.loop-arm.ops _ (λ j xs. block_code p j c.args.inside (switch_view xs)) (drop_all c.loop-arm.arm-index c.args.arms.now c.loop-arm-test.false) refl c.loop-arm.invariant
