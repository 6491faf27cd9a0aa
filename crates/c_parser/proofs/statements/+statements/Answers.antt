use Rattle.std.proofs.Common.{◌≡◌, ◌-◌, ◌∙◌, ◌++◌, ◌&&◌, suc, sym, ap, map, [], ◌∷◌, List, Some, Err, drop, true, false, rules, arith}
use Rattle.c_core.specs.declared.number.Spot.{Spot}
use Rattle.c_tokens.specs.declared.token.Token.{Token}
use Rattle.c_tokens.specs.declared.token.Punct.TheVariants as sign
use Rattle.c_parser.specs.Tree.{Stm, Stmt, Form, Declare, Block, Arm, stms}
use Rattle.c_parser.specs.Signs.{place, is_sign}
use Rattle.c_parser.specs.View.{expr_view}
use Rattle.c_parser.specs.SourceView.{declared_view, form_view, stmt_view}
use Rattle.c_parser.specs.declared.tree.RawForm.TheViews as W
use Rattle.c_parser.specs.Gives.{Reads}
use Rattle.c_parser.specs.Declarations.{begins_declaration}
use Rattle.c_parser.specs.ReadStatements.{start, declares, elements, until, ends_arm, statement_level, braced_within, armed_within}
use Rattle.c_parser.specs.StatementParts.{statement_of, expression_in_parens, statement_in, arm_in, raw_arm_view}
use Rattle.c_parser.proofs.PassingLaws.{stopped_by}
use Rattle.c_parser.proofs.ListLaws.{following, map_push, until_more}
use Rattle.c_parser.proofs.SourceViews.{view_of_block, view_of_switch}
use Rattle.c_parser.proofs.StatementSteps.{level_declared, level_undeclared, level_other, block_read, switch_read}
use Rattle.c_parser.proofs.statements.+statements.Goals as goal

pub block_at-returns : goal.block_at-returns
block_at-returns t c =
    let b = c.args.brackets in
    let h = c.args.height in
    let ts = c.args.tokens.now in
    let some : braced_within b h (drop 1 ts) ≡ Some (map stmt_view c.in_ok-stmts.stmts, c.in_ok-stmts.rest.now) = ap (braced_within b h) (sym c.behind.ensures) ∙ c.in_ok-stmts.ensures in
    let last = c.in_ok-rest.ensures in
    block_read b h ts c.in_ok-stmts.rest.now (map stmt_view c.in_ok-stmts.stmts) some last.0
    ∙ ap (λ (rest : List Token). Some (Stmt (place ts) (Block (stms (map stmt_view c.in_ok-stmts.stmts))), rest)) (sym last.1)
    ∙ ap (λ (f : Form). Some (Stmt (place ts) f, c.in_ok-rest.rest.now)) (sym (view_of_block c.in_ok-stmts.stmts))
    ∙ ap (λ (p : Spot). Some (Stmt p (form_view (W.Block c.in_ok-stmts.stmts)), c.in_ok-rest.rest.now)) (sym c.place_at-spot.ensures)

pub braced_at-loop-more-preserved : goal.braced_at-loop-more-preserved
braced_at-loop-more-preserved t c =
    let b = c.args.brackets - 1 in
    let one : c.loop-more.more ≡ suc (c.loop-more.more - 1) = omega (arith, c.loop-more-test.true) in
    let pushed : map stmt_view c.push.new.self ≡ map stmt_view c.loop-more.stmts ++ stmt_view c.in_ok-stmt.stmt ∷ [] = ap (map stmt_view) c.in_ok-push.ensures.ok ∙ map_push stmt_view c.loop-more.stmts c.in_ok-stmt.stmt in
    ap (λ (xs : List Stm). following xs (elements (statement_level b (braced_within b) (armed_within b) c.args.height true) (c.loop-more.more - 1) c.in_ok-stmt.end.now)) pushed
    ∙ sym (until_more Stm (is_sign sign.BraceClose) (statement_level b (braced_within b) (armed_within b) c.args.height true) c.loop-more.more (c.loop-more.more - 1) c.loop-more.rest.now one (map stmt_view c.loop-more.stmts) (stmt_view c.in_ok-stmt.stmt) c.in_ok-stmt.end.now
    (sym c.is_sign.ensures ∙ c.if-is_sign.false) c.in_ok-stmt.ensures)
    ∙ c.loop-more.invariant

pub statement_at-returns-in_err-names : goal.statement_at-returns-in_err-names
statement_at-returns-in_err-names t c =
    let b = c.args.brackets in
    let h = c.args.height in
    let ts = c.args.tokens.now in
    let one : h ≡ suc (h - 1) = omega (arith, c.if-height-eq0.false) in
    let here : (c.args.declared && begins_declaration ts) ≡ true = sym c.may_declare.ensures ∙ c.if-may_declare.true in
    let fell : c.from_residual.result ≡ Err c.in_err-names.field-0.0 = search rules in
    stopped_by (Reads stmt_view) (λ e w h. h) c.from_residual.result c.in_err-names.field-0.0 (declares b (h - 1) false ts) (statement_level b (braced_within b) (armed_within b) h c.args.declared ts) fell c.in_err-names.ensures
    (λ e. level_undeclared b h (h - 1) c.args.declared ts one here e)

pub statement_at-returns-then-may_declare : goal.statement_at-returns-then-may_declare
statement_at-returns-then-may_declare t c =
    let b = c.args.brackets in
    let h = c.args.height in
    let ts = c.args.tokens.now in
    let one : h ≡ suc (h - 1) = omega (arith, c.if-height-eq0.false) in
    let here : (c.args.declared && begins_declaration ts) ≡ true = sym c.may_declare.ensures ∙ c.if-may_declare.true in
    level_declared b h (h - 1) c.args.declared ts one (map declared_view c.in_ok-names.names) c.in_ok-names.rest.now here c.in_ok-names.ensures
    ∙ ap (λ (p : Spot). Some (Stmt p (Declare (map declared_view c.in_ok-names.names)), c.in_ok-names.rest.now)) (sym c.place_at-spot.ensures)

pub statement_at-returns-in_err-stmt : goal.statement_at-returns-in_err-stmt
statement_at-returns-in_err-stmt t c =
    let b = c.args.brackets in
    let h = c.args.height in
    let ts = c.args.tokens.now in
    let one : h ≡ suc (h - 1) = omega (arith, c.if-height-eq0.false) in
    let here : (c.args.declared && begins_declaration ts) ≡ false = sym c.may_declare.ensures ∙ c.if-may_declare.false in
    let fell : c.from_residual-in_err-stmt.result ≡ Err c.in_err-stmt.field-0.0 = search rules in
    stopped_by (Reads stmt_view) (λ e w h. h) c.from_residual-in_err-stmt.result c.in_err-stmt.field-0.0 (statement_of b (h - 1) (start ts) ts) (statement_level b (braced_within b) (armed_within b) h c.args.declared ts) fell c.in_err-stmt.ensures
    (λ e. level_other b h (h - 1) c.args.declared ts one here ∙ e)

pub statement_at-returns : goal.statement_at-returns
statement_at-returns t c =
    let b = c.args.brackets in
    let h = c.args.height in
    let ts = c.args.tokens.now in
    let one : h ≡ suc (h - 1) = omega (arith, c.if-height-eq0.false) in
    let here : (c.args.declared && begins_declaration ts) ≡ false = sym c.may_declare.ensures ∙ c.if-may_declare.false in
    level_other b h (h - 1) c.args.declared ts one here ∙ c.in_ok-stmt.ensures

pub armed_at-loop-more-preserved : goal.armed_at-loop-more-preserved
armed_at-loop-more-preserved t c =
    let b = c.args.brackets - 1 in
    let one : c.loop-more.more ≡ suc (c.loop-more.more - 1) = omega (arith, c.loop-more-test.true) in
    let pushed : map raw_arm_view c.push.new.self ≡ map raw_arm_view c.loop-more.arms ++ raw_arm_view c.in_ok-arm.arm ∷ [] = ap (map raw_arm_view) c.in_ok-push.ensures.ok ∙ map_push raw_arm_view c.loop-more.arms c.in_ok-arm.arm in
    ap (λ (xs : List Arm). following xs (elements (arm_in b c.args.height) (c.loop-more.more - 1) c.in_ok-arm.end.now)) pushed
    ∙ sym (until_more Arm (is_sign sign.BraceClose) (arm_in b c.args.height) c.loop-more.more (c.loop-more.more - 1) c.loop-more.rest.now one (map raw_arm_view c.loop-more.arms) (raw_arm_view c.in_ok-arm.arm) c.in_ok-arm.end.now
    (sym c.is_sign.ensures ∙ c.if-is_sign.false) c.in_ok-arm.ensures)
    ∙ c.loop-more.invariant

pub body_of_arm-loop-more-preserved : goal.body_of_arm-loop-more-preserved
body_of_arm-loop-more-preserved t c =
    let b = c.args.brackets in
    let one : c.loop-more.more ≡ suc (c.loop-more.more - 1) = omega (arith, c.loop-more-test.true) in
    let pushed : map stmt_view c.push.new.self ≡ map stmt_view c.loop-more.stmts ++ stmt_view c.in_ok-stmt.stmt ∷ [] = ap (map stmt_view) c.in_ok-push.ensures.ok ∙ map_push stmt_view c.loop-more.stmts c.in_ok-stmt.stmt in
    ap (λ (xs : List Stm). following xs (until ends_arm (statement_in b c.args.height) (c.loop-more.more - 1) c.in_ok-stmt.end.now)) pushed
    ∙ sym (until_more Stm ends_arm (statement_in b c.args.height) c.loop-more.more (c.loop-more.more - 1) c.loop-more.rest.now one (map stmt_view c.loop-more.stmts) (stmt_view c.in_ok-stmt.stmt) c.in_ok-stmt.end.now
    (sym c.ends_arm.ensures ∙ c.if-ends_arm.false) c.in_ok-stmt.ensures)
    ∙ c.loop-more.invariant

pub switch_at-returns : goal.switch_at-returns
switch_at-returns t c =
    let b = c.args.brackets in
    let h = c.args.height in
    let ts = c.args.tokens.now in
    let test : expression_in_parens b h (drop 1 ts) ≡ Some (expr_view c.in_ok-test.test, c.in_ok-test.rest.now) = ap (expression_in_parens b h) (sym c.behind.ensures) ∙ c.in_ok-test.ensures in
    switch_read b h ts c.in_ok-test.rest.now c.in_ok-arms.rest.now (expr_view c.in_ok-test.test) (map raw_arm_view c.in_ok-arms.arms) test c.in_ok-arms.ensures
    ∙ ap (λ (f : Form). Some (Stmt (place ts) f, c.in_ok-arms.rest.now)) (sym (view_of_switch c.in_ok-test.test c.in_ok-arms.arms))
    ∙ ap (λ (p : Spot). Some (Stmt p (form_view (W.Switch c.in_ok-test.test c.in_ok-arms.arms)), c.in_ok-arms.rest.now)) (sym c.place_at-spot.ensures)
