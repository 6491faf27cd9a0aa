use Rattle.std.proofs.Common.{rules, ◌≡◌, ◌++◌, ◌+◌, ◌∷◌, [], true, List, Option, map, drop, refl, sym, ap, subst, IfOk, OnOk, ◌∙◌}
use Rattle.std.specs.declared.boxed.Box.{Box}
use Rattle.std.specs.declared.alloc.Global.{Global}
use Rattle.std.proofs.lemmas.List.{drop_all}
use Rattle.std.specs.Option.{option_map}
use Rattle.c_core.specs.Tree as typ
use Rattle.c_core.specs.Parts.{type_of}
use Rattle.c_core.specs.View.{arm_view, form_view as typed_form_view}
use Rattle.c_core.specs.declared.number.IntType.{IntType}
use Rattle.c_core.specs.declared.tree.Arm.{Arm}
use Rattle.c_core.specs.declared.tree.Form.{Form}
use Rattle.c_core.specs.declared.tree.Label.{Label as ArmLabel}
use Rattle.c_core.specs.declared.tree.Stmt.{Stmt}
use Rattle.c_parser.specs.Tree as raw
use Rattle.c_parser.specs.Tree.{stms, arms}
use Rattle.c_parser.specs.StatementParts.{raw_arm_view}
use Rattle.c_parser.specs.SourceView.{declared_view, first_view, form_view, label_view, stmt_view, else_if}
use Rattle.c_parser.specs.View.{expr_view}
use Rattle.c_parser.specs.declared.tree.RawDeclared.{RawDeclared}
use Rattle.c_parser.specs.declared.tree.RawArm.{RawArm, out-RawArm}
use Rattle.c_parser.specs.declared.tree.RawStmt.{RawStmt}
use Rattle.c_parser.proofs.SourceViews.{view_of_block, view_of_switch}
use Rattle.check_rules.specs.Checked.{typed_if, typed_first, typed_statement, typed_form, typed_else, typed_block, typed_arms}
use Rattle.check_rules.specs.Parts.{Part, Value, Effect, Leaving, parts, parts_if, parts_of_first, parts_of_statement, parts_of_form, parts_of_else, parts_of_block, parts_of_arms, in_loop, in_switch}
use Rattle.check_rules.specs.Scopes.{Scope, seen, opened, closed, after_first, after_statement, after_form, after_else, after_block, after_arms}
use Rattle.check_rules.specs.Typed.{typed}
use Rattle.check_rules.specs.Arms.{switch_type, label_of}
use Rattle.check_elaborate.specs.InArms.{behind, after_in_arm, typed_in_arm, parts_in_arm}
use Rattle.check_elaborate.specs.Items.{kept_views}
use Rattle.check_elaborate.specs.Walks.{scope_at, items_in, bodies_in, found_at, with_parts, labelling, IsNoted}
use Rattle.check_elaborate.proofs.ArmLaws.{next_arm, after_joined, arms_before, arms_before-none, arms_before-one_more, arm_typed-next, arm_parts}
use Rattle.check_elaborate.proofs.BlockLaws.{next_in_list, next_statement, statements_before, statements_before-none, statements_before-one_more, raw_view_of_if, same_if, same_while, same_do, same_for, same_switch}
use Rattle.check_elaborate.proofs.FoundLaws.{found_then, found_within, found_on, with_none, quiet}
use Rattle.check_elaborate.proofs.ScopeLaws.{kept_by_first, kept_by_statement, kept_by_block, closes, stands_outside}
use Rattle.check_elaborate.proofs.statements.+statement.Goals as goal

-- ---- scopes of their own

pub arm-close-requires : goal.arm-close-requires
arm-close-requires t c =
    let m = c.args.context.now.model in
    let bodies = bodies_in c.args.context.now in
    let s = scope_at c.args.walk.now in
    let x = stmt_view c.args.s.now in
    stands_outside s (after_statement m bodies (opened s) x) (scope_at c.statement.new.walk) c.open-outside.result c.open-outside.ensures.outside
    (c.in_ok-s.ensures.scope ∙ ap (λ (y : Scope). after_statement m bodies y x) c.open-outside.ensures.scope) (kept_by_statement m bodies (opened s) x)

pub arm-returns : goal.arm-returns
arm-returns t c =
    let m = c.args.context.now.model in
    let bodies = bodies_in c.args.context.now in
    let s = scope_at c.args.walk.now in
    let x = stmt_view c.args.s.now in
    record {
      typed = c.in_ok-s.ensures.typed ∙ ap (λ (y : Scope). typed_statement c.args.context.now.model (bodies_in c.args.context.now) y (stmt_view c.args.s.now)) c.open-outside.ensures.scope;
      scope = closes s (after_statement m bodies (opened s) x) (scope_at c.statement.new.walk) (scope_at c.close.new.self) c.open-outside.result c.open-outside.ensures.outside
          (c.in_ok-s.ensures.scope ∙ ap (λ (y : Scope). after_statement m bodies y x) c.open-outside.ensures.scope) (kept_by_statement m bodies (opened s) x) c.close.ensures.scope;
      noted = found_within m (items_in c.args.context.now) (found_at c.args.walk.now) (found_at c.open-outside.new.self) (found_at c.statement.new.walk) (found_at c.close.new.self)
          (λ (y : Scope). parts_of_statement m bodies c.args.gives c.args.within y (stmt_view c.args.s.now)) (opened (scope_at c.args.walk.now)) (scope_at c.open-outside.new.self)
          c.open-outside.ensures.found c.open-outside.ensures.scope c.in_ok-s.ensures.noted c.close.ensures.found;
    }

pub block-close-requires : goal.block-close-requires
block-close-requires t c =
    let m = c.args.context.now.model in
    let bodies = bodies_in c.args.context.now in
    let s = scope_at c.args.walk.now in
    let x = stms (map stmt_view c.args.ss.now) in
    stands_outside s (after_block m bodies (opened s) x) (scope_at c.statements.new.walk) c.open-outside.result c.open-outside.ensures.outside
    (c.in_ok-ss.ensures.scope ∙ ap (λ (y : Scope). after_block m bodies y x) c.open-outside.ensures.scope) (kept_by_block m bodies (opened s) x)

pub block-returns : goal.block-returns
block-returns t c =
    let m = c.args.context.now.model in
    let bodies = bodies_in c.args.context.now in
    let s = scope_at c.args.walk.now in
    let x = stms (map stmt_view c.args.ss.now) in
    record {
      typed = c.in_ok-ss.ensures.typed ∙ ap (λ (y : Scope). typed_block c.args.context.now.model (bodies_in c.args.context.now) y (stms (map stmt_view c.args.ss.now))) c.open-outside.ensures.scope;
      scope = closes s (after_block m bodies (opened s) x) (scope_at c.statements.new.walk) (scope_at c.close.new.self) c.open-outside.result c.open-outside.ensures.outside
          (c.in_ok-ss.ensures.scope ∙ ap (λ (y : Scope). after_block m bodies y x) c.open-outside.ensures.scope) (kept_by_block m bodies (opened s) x) c.close.ensures.scope;
      noted = found_within m (items_in c.args.context.now) (found_at c.args.walk.now) (found_at c.open-outside.new.self) (found_at c.statements.new.walk) (found_at c.close.new.self)
          (λ (y : Scope). parts_of_block m bodies c.args.gives c.args.within y (stms (map stmt_view c.args.ss.now))) (opened (scope_at c.args.walk.now)) (scope_at c.open-outside.new.self)
          c.open-outside.ensures.found c.open-outside.ensures.scope c.in_ok-ss.ensures.noted c.close.ensures.found;
    }

-- ---- one statement after another

pub statements-loop-s-preserved : goal.statements-loop-s-preserved
statements-loop-s-preserved t c =
    let m = c.args.context.now.model in
    let items = items_in c.args.context.now in
    let bodies = bodies_in c.args.context.now in
    let s = scope_at c.loop-s.walk in
    let u = scope_at c.statement.new.walk in
    let x = stmt_view c.s-item.result in
    let rest = stms (map stmt_view (drop (c.loop-s.s-index + 1) c.args.ss.now)) in
    let next = next_statement c.args.ss.now c.loop-s.s-index c.s-item.result c.loop-s-test.true c.s-item.is in
    let pushed : c.push.new.self ≡ c.loop-s.all ++ c.in_ok-typed.typed ∷ [] = search rules in
    record {
      typed = ap (λ (xs : List Stmt). statements_before xs (typed_block m bodies u rest)) pushed
          ∙ statements_before-one_more c.loop-s.all c.in_ok-typed.typed (typed_block m bodies u rest)
          ∙ ap (λ (y : typ.Stm). statements_before c.loop-s.all (typ.MoreStm y (typed_block m bodies u rest))) c.in_ok-typed.ensures.typed
          ∙ ap (λ (y : Scope). statements_before c.loop-s.all (typ.MoreStm (typed_statement m bodies s x) (typed_block m bodies y rest))) c.in_ok-typed.ensures.scope
          ∙ sym (ap (λ (xs : raw.Stms). statements_before c.loop-s.all (typed_block m bodies s xs)) next)
          ∙ c.loop-s.invariant.typed;
      scope = ap (λ (y : Scope). after_block m bodies y rest) c.in_ok-typed.ensures.scope
          ∙ sym (ap (after_block m bodies s) next)
          ∙ c.loop-s.invariant.scope;
      noted = found_on m items (found_at c.loop-s.walk) (found_at c.statement.new.walk) _ (parts_of_statement m bodies c.args.gives c.args.within s x)
          (λ (y : Scope). parts_of_block m bodies c.args.gives c.args.within y rest) (after_statement m bodies s x) u
          c.in_ok-typed.ensures.noted c.in_ok-typed.ensures.scope
          (sym (ap (λ (xs : raw.Stms). with_parts m items (found_at c.loop-s.walk) (parts_of_block m bodies c.args.gives c.args.within s xs)) next) ∙ c.loop-s.invariant.noted);
    }

pub statements-returns : goal.statements-returns
statements-returns t c =
    let m = c.args.context.now.model in
    let bodies = bodies_in c.args.context.now in
    record {
      typed = sym (statements_before-none c.loop-s.all)
          ∙ ap (λ (xs : List RawStmt). statements_before c.loop-s.all (typed_block m bodies (scope_at c.loop-s.walk) (stms (map stmt_view xs)))) (sym (drop_all c.loop-s.s-index c.args.ss.now c.loop-s-test.false))
          ∙ c.loop-s.invariant.typed;
      scope = ap (λ (xs : List RawStmt). after_block c.args.context.now.model (bodies_in c.args.context.now) (scope_at c.loop-s.walk) (stms (map stmt_view xs))) (sym (drop_all c.loop-s.s-index c.args.ss.now c.loop-s-test.false))
          ∙ c.loop-s.invariant.scope;
      noted = with_none m (items_in c.args.context.now) (found_at c.loop-s.walk)
          ∙ ap (λ (xs : List RawStmt). with_parts m (items_in c.args.context.now) (found_at c.loop-s.walk) (parts_of_block m bodies c.args.gives c.args.within (scope_at c.loop-s.walk) (stms (map stmt_view xs)))) (sym (drop_all c.loop-s.s-index c.args.ss.now c.loop-s-test.false))
          ∙ c.loop-s.invariant.noted;
    }

-- ---- forms, one after another

pub form-returns-in-Empty-clause-noted : goal.form-returns-in-Empty-clause-noted
form-returns-in-Empty-clause-noted t c =
    let m = c.args.context.now.model in
    let bodies = bodies_in c.args.context.now in
    let s = scope_at c.args.walk.now in
    let items = items_in c.args.context.now in
    let view : form_view c.args.f.now ≡ raw.Empty =
    ap form_view c.in-Empty.is in
    with_none m items (found_at c.args.walk.now)
    ∙ ap (λ (x : raw.Form). with_parts m items (found_at c.args.walk.now) (parts_of_form m bodies c.args.gives c.args.within s c.args.spot x)) (sym view)

pub form-returns-in_ok-e-in-Expr : goal.form-returns-in_ok-e-in-Expr
form-returns-in_ok-e-in-Expr t c =
    let m = c.args.context.now.model in
    let bodies = bodies_in c.args.context.now in
    let s = scope_at c.args.walk.now in
    let view : form_view c.args.f.now ≡ raw.Do (expr_view c.in-Expr.e) =
    ap form_view c.in-Expr.is in
    let items = items_in c.args.context.now in
    record {
      typed = ap typ.Do c.in_ok-e-in-Expr.ensures.typed ∙ sym (ap (typed_form m bodies s) view);
      scope = c.in_ok-e-in-Expr.ensures.scope ∙ sym (ap (after_form m bodies s) view);
      noted = c.in_ok-e-in-Expr.ensures.noted
          ∙ ap (λ (x : raw.Form). with_parts m items (found_at c.args.walk.now) (parts_of_form m bodies c.args.gives c.args.within s c.args.spot x)) (sym view);
    }

pub form-returns-in_ok-names-in-Declare : goal.form-returns-in_ok-names-in-Declare
form-returns-in_ok-names-in-Declare t c =
    let m = c.args.context.now.model in
    let bodies = bodies_in c.args.context.now in
    let s = scope_at c.args.walk.now in
    let view : form_view c.args.f.now ≡ raw.Declare (map declared_view c.as_slice.result.now) =
    ap form_view c.in-Declare.is ∙ ap (λ (x : List RawDeclared). raw.Declare (map declared_view x)) (sym c.as_slice.ensures) in
    let items = items_in c.args.context.now in
    record {
      typed = ap typ.Declare c.in_ok-names-in-Declare.ensures.typed ∙ sym (ap (typed_form m bodies s) view);
      scope = c.in_ok-names-in-Declare.ensures.scope ∙ sym (ap (after_form m bodies s) view);
      noted = c.in_ok-names-in-Declare.ensures.noted
          ∙ ap (λ (x : raw.Form). with_parts m items (found_at c.args.walk.now) (parts_of_form m bodies c.args.gives c.args.within s c.args.spot x)) (sym view);
    }

pub form-returns-in_ok-ss-in-Block : goal.form-returns-in_ok-ss-in-Block
form-returns-in_ok-ss-in-Block t c =
    let m = c.args.context.now.model in
    let bodies = bodies_in c.args.context.now in
    let s = scope_at c.args.walk.now in
    let view : form_view c.args.f.now ≡ raw.Block (stms (map stmt_view c.as_slice-in-Block.result.now)) =
    ap form_view c.in-Block.is ∙ view_of_block c.in-Block.ss ∙ ap (λ (x : List RawStmt). raw.Block (stms (map stmt_view x))) (sym c.as_slice-in-Block.ensures) in
    let items = items_in c.args.context.now in
    record {
      typed = c.block_of.ensures ∙ ap typ.Block c.in_ok-ss-in-Block.ensures.typed ∙ sym (ap (typed_form m bodies s) view);
      scope = c.in_ok-ss-in-Block.ensures.scope ∙ sym (ap (after_form m bodies s) view);
      noted = c.in_ok-ss-in-Block.ensures.noted
          ∙ ap (λ (x : raw.Form). with_parts m items (found_at c.args.walk.now) (parts_of_form m bodies c.args.gives c.args.within s c.args.spot x)) (sym view);
    }

pub form-returns-in_ok-choice-in-If : goal.form-returns-in_ok-choice-in-If
form-returns-in_ok-choice-in-If t c =
    let m = c.args.context.now.model in
    let bodies = bodies_in c.args.context.now in
    let s = scope_at c.args.walk.now in
    let e = expr_view c.in-If.test in
    let a = stmt_view c.deref.result.now in
    let b = else_if c.in-If.no in
    let view : form_view c.args.f.now ≡ raw.If e a b =
    ap form_view c.in-If.is ∙ raw_view_of_if c.in-If.test c.in-If.yes c.in-If.no ∙ ap (λ (x : RawStmt). raw.If e (stmt_view x) b) (sym c.deref.ensures) in
    let behind : Scope → Scope = λ y. closed y (after_statement m bodies (opened y) a) in
    let f = c.in_ok-test-in-If.ensures.scope in
    let items = items_in c.args.context.now in
    let first = parts (seen s) Value e in
    let yes : Scope → List Part = λ y. parts_of_statement m bodies c.args.gives c.args.within (opened y) a in
    let no : Scope → List Part = λ y. parts_of_else m bodies c.args.gives c.args.within y b in
    record {
      typed = c.in_ok-choice-in-If.ensures
          ∙ same_if _ _ _ _ _ _ c.in_ok-test-in-If.ensures.typed (c.in_ok-yes-in-If.ensures.typed ∙ ap (λ (y : Scope). typed_statement m bodies (opened y) a) f)
          (c.in_ok-no-in-If.ensures.typed ∙ ap (λ (y : Scope). typed_else m bodies y b) (c.in_ok-yes-in-If.ensures.scope ∙ ap behind f))
          ∙ sym (ap (typed_form m bodies s) view);
      scope = c.in_ok-no-in-If.ensures.scope ∙ ap (λ (y : Scope). after_else m bodies y b) (c.in_ok-yes-in-If.ensures.scope ∙ ap behind c.in_ok-test-in-If.ensures.scope)
          ∙ sym (ap (after_form m bodies s) view);
      noted = found_then m items (found_at c.args.walk.now) _ _ (first ++ yes s) no (behind s) _
          (found_then m items (found_at c.args.walk.now) _ _ first yes s _ c.in_ok-test-in-If.ensures.noted c.in_ok-test-in-If.ensures.scope c.in_ok-yes-in-If.ensures.noted)
          (c.in_ok-yes-in-If.ensures.scope ∙ ap behind c.in_ok-test-in-If.ensures.scope) c.in_ok-no-in-If.ensures.noted
          ∙ ap (λ (x : raw.Form). with_parts m items (found_at c.args.walk.now) (parts_of_form m bodies c.args.gives c.args.within s c.args.spot x)) (sym view);
    }

pub form-returns-in-While : goal.form-returns-in-While
form-returns-in-While t c =
    let m = c.args.context.now.model in
    let bodies = bodies_in c.args.context.now in
    let s = scope_at c.args.walk.now in
    let view : form_view c.args.f.now ≡ raw.While (expr_view c.in-While.test) (stmt_view c.deref-in-While.result.now) =
    ap form_view c.in-While.is ∙ ap (λ (x : RawStmt). raw.While (expr_view c.in-While.test) (stmt_view x)) (sym c.deref-in-While.ensures) in
    record {
      typed = subst (λ (x : raw.Form). IfOk c.while_loop.result (λ (r : Form). typed_form_view r ≡ typed_form m bodies s x)) (sym view) c.while_loop.ensures.typed;
      scope = subst (λ (x : raw.Form). OnOk c.while_loop.result (scope_at c.while_loop.new.walk ≡ after_form m bodies s x)) (sym view) c.while_loop.ensures.scope;
      noted = subst (λ (x : raw.Form). OnOk c.while_loop.result (IsNoted c.args.context.now c.args.walk.now c.while_loop.new.walk (parts_of_form m bodies c.args.gives c.args.within s c.args.spot x))) (sym view) c.while_loop.ensures.noted;
    }

pub form-returns-in-Do : goal.form-returns-in-Do
form-returns-in-Do t c =
    let m = c.args.context.now.model in
    let bodies = bodies_in c.args.context.now in
    let s = scope_at c.args.walk.now in
    let view : form_view c.args.f.now ≡ raw.DoWhile (stmt_view c.deref-in-Do.result.now) (expr_view c.in-Do.test) =
    ap form_view c.in-Do.is ∙ ap (λ (x : RawStmt). raw.DoWhile (stmt_view x) (expr_view c.in-Do.test)) (sym c.deref-in-Do.ensures) in
    record {
      typed = subst (λ (x : raw.Form). IfOk c.do_loop.result (λ (r : Form). typed_form_view r ≡ typed_form m bodies s x)) (sym view) c.do_loop.ensures.typed;
      scope = subst (λ (x : raw.Form). OnOk c.do_loop.result (scope_at c.do_loop.new.walk ≡ after_form m bodies s x)) (sym view) c.do_loop.ensures.scope;
      noted = subst (λ (x : raw.Form). OnOk c.do_loop.result (IsNoted c.args.context.now c.args.walk.now c.do_loop.new.walk (parts_of_form m bodies c.args.gives c.args.within s c.args.spot x))) (sym view) c.do_loop.ensures.noted;
    }

pub form-returns-in-For : goal.form-returns-in-For
form-returns-in-For t c =
    let m = c.args.context.now.model in
    let bodies = bodies_in c.args.context.now in
    let s = scope_at c.args.walk.now in
    let view : form_view c.args.f.now ≡ raw.For (first_view c.in-For.first) (option_map expr_view c.in-For.test) (option_map expr_view c.in-For.step) (stmt_view c.deref-in-For.result.now) =
    ap form_view c.in-For.is ∙ ap (λ (x : RawStmt). raw.For (first_view c.in-For.first) (option_map expr_view c.in-For.test) (option_map expr_view c.in-For.step) (stmt_view x)) (sym c.deref-in-For.ensures) in
    record {
      typed = subst (λ (x : raw.Form). IfOk c.for_loop.result (λ (r : Form). typed_form_view r ≡ typed_form m bodies s x)) (sym view) c.for_loop.ensures.typed;
      scope = subst (λ (x : raw.Form). OnOk c.for_loop.result (scope_at c.for_loop.new.walk ≡ after_form m bodies s x)) (sym view) c.for_loop.ensures.scope;
      noted = subst (λ (x : raw.Form). OnOk c.for_loop.result (IsNoted c.args.context.now c.args.walk.now c.for_loop.new.walk (parts_of_form m bodies c.args.gives c.args.within s c.args.spot x))) (sym view) c.for_loop.ensures.noted;
    }

pub form-returns-in-Break-clause-noted : goal.form-returns-in-Break-clause-noted
form-returns-in-Break-clause-noted t c =
    let m = c.args.context.now.model in
    let bodies = bodies_in c.args.context.now in
    let s = scope_at c.args.walk.now in
    let items = items_in c.args.context.now in
    let view : form_view c.args.f.now ≡ raw.Break =
    ap form_view c.in-Break.is in
    quiet m items (found_at c.args.walk.now) (found_at c.leave.new.walk) (Leaving c.args.within.breaks c.args.spot ∷ []) c.leave.ensures.noted (ap kept_views c.leave.ensures.kept) refl
    ∙ ap (λ (x : raw.Form). with_parts m items (found_at c.args.walk.now) (parts_of_form m bodies c.args.gives c.args.within s c.args.spot x)) (sym view)

pub form-returns-in-Continue-clause-noted : goal.form-returns-in-Continue-clause-noted
form-returns-in-Continue-clause-noted t c =
    let m = c.args.context.now.model in
    let bodies = bodies_in c.args.context.now in
    let s = scope_at c.args.walk.now in
    let items = items_in c.args.context.now in
    let view : form_view c.args.f.now ≡ raw.Continue =
    ap form_view c.in-Continue.is in
    quiet m items (found_at c.args.walk.now) (found_at c.leave-in-Continue.new.walk) (Leaving c.args.within.continues c.args.spot ∷ []) c.leave-in-Continue.ensures.noted (ap kept_views c.leave-in-Continue.ensures.kept) refl
    ∙ ap (λ (x : raw.Form). with_parts m items (found_at c.args.walk.now) (parts_of_form m bodies c.args.gives c.args.within s c.args.spot x)) (sym view)

pub form-returns-in-Return : goal.form-returns-in-Return
form-returns-in-Return t c =
    let m = c.args.context.now.model in
    let bodies = bodies_in c.args.context.now in
    let s = scope_at c.args.walk.now in
    let view : form_view c.args.f.now ≡ raw.Return (option_map expr_view c.in-Return.e) =
    ap form_view c.in-Return.is in
    record {
      typed = subst (λ (x : raw.Form). IfOk c.give.result (λ (r : Form). typed_form_view r ≡ typed_form m bodies s x)) (sym view) c.give.ensures.typed;
      scope = subst (λ (x : raw.Form). OnOk c.give.result (scope_at c.give.new.walk ≡ after_form m bodies s x)) (sym view) c.give.ensures.scope;
      noted = subst (λ (x : raw.Form). OnOk c.give.result (IsNoted c.args.context.now c.args.walk.now c.give.new.walk (parts_of_form m bodies c.args.gives c.args.within s c.args.spot x))) (sym view) c.give.ensures.noted;
    }

pub form-returns-in-Switch : goal.form-returns-in-Switch
form-returns-in-Switch t c =
    let m = c.args.context.now.model in
    let bodies = bodies_in c.args.context.now in
    let s = scope_at c.args.walk.now in
    let view : form_view c.args.f.now ≡ raw.Switch (expr_view c.in-Switch.test) (arms (map raw_arm_view c.as_slice-in-Switch.result.now)) =
    ap form_view c.in-Switch.is ∙ view_of_switch c.in-Switch.test c.in-Switch.arms ∙ ap (λ (x : List RawArm). raw.Switch (expr_view c.in-Switch.test) (arms (map raw_arm_view x))) (sym c.as_slice-in-Switch.ensures) in
    record {
      typed = subst (λ (x : raw.Form). IfOk c.switch.result (λ (r : Form). typed_form_view r ≡ typed_form m bodies s x)) (sym view) c.switch.ensures.typed;
      scope = subst (λ (x : raw.Form). OnOk c.switch.result (scope_at c.switch.new.walk ≡ after_form m bodies s x)) (sym view) c.switch.ensures.scope;
      noted = subst (λ (x : raw.Form). OnOk c.switch.result (IsNoted c.args.context.now c.args.walk.now c.switch.new.walk (parts_of_form m bodies c.args.gives c.args.within s c.args.spot x))) (sym view) c.switch.ensures.noted;
    }

-- ---- the arms of a `switch`

pub in_arm-loop-s-preserved : goal.in_arm-loop-s-preserved
in_arm-loop-s-preserved t c =
    let m = c.args.context.now.model in
    let items = items_in c.args.context.now in
    let bodies = bodies_in c.args.context.now in
    let s = scope_at c.loop-s.walk in
    let u = scope_at c.arm.new.walk in
    let x = stmt_view c.s-item.result in
    let rest = map stmt_view (drop (c.loop-s.s-index + 1) c.args.ss.now) in
    let next = next_in_list c.args.ss.now c.loop-s.s-index c.s-item.result c.loop-s-test.true c.s-item.is in
    let pushed : c.push.new.self ≡ c.loop-s.all ++ c.in_ok-typed.typed ∷ [] = search rules in
    record {
      typed = ap (λ (xs : List Stmt). statements_before xs (typed_in_arm m bodies u rest)) pushed
          ∙ statements_before-one_more c.loop-s.all c.in_ok-typed.typed (typed_in_arm m bodies u rest)
          ∙ ap (λ (y : typ.Stm). statements_before c.loop-s.all (typ.MoreStm y (typed_in_arm m bodies u rest))) c.in_ok-typed.ensures.typed
          ∙ ap (λ (y : Scope). statements_before c.loop-s.all (typ.MoreStm (typed_statement m bodies (opened s) x) (typed_in_arm m bodies y rest))) c.in_ok-typed.ensures.scope
          ∙ sym (ap (λ (xs : List raw.Stm). statements_before c.loop-s.all (typed_in_arm m bodies s xs)) next)
          ∙ c.loop-s.invariant.typed;
      scope = ap (λ (y : Scope). after_in_arm m bodies y rest) c.in_ok-typed.ensures.scope
          ∙ sym (ap (after_in_arm m bodies s) next)
          ∙ c.loop-s.invariant.scope;
      noted = found_on m items (found_at c.loop-s.walk) (found_at c.arm.new.walk) _ (parts_of_statement m bodies c.args.gives c.args.within (opened s) x)
          (λ (y : Scope). parts_in_arm m bodies c.args.gives c.args.within y rest) (behind m bodies s x) u
          c.in_ok-typed.ensures.noted c.in_ok-typed.ensures.scope
          (sym (ap (λ (xs : List raw.Stm). with_parts m items (found_at c.loop-s.walk) (parts_in_arm m bodies c.args.gives c.args.within s xs)) next) ∙ c.loop-s.invariant.noted);
    }

pub in_arm-returns : goal.in_arm-returns
in_arm-returns t c =
    let m = c.args.context.now.model in
    let bodies = bodies_in c.args.context.now in
    record {
      typed = sym (statements_before-none c.loop-s.all)
          ∙ ap (λ (xs : List RawStmt). statements_before c.loop-s.all (typed_in_arm m bodies (scope_at c.loop-s.walk) (map stmt_view xs))) (sym (drop_all c.loop-s.s-index c.args.ss.now c.loop-s-test.false))
          ∙ c.loop-s.invariant.typed;
      scope = ap (λ (xs : List RawStmt). after_in_arm m bodies (scope_at c.loop-s.walk) (map stmt_view xs)) (sym (drop_all c.loop-s.s-index c.args.ss.now c.loop-s-test.false))
          ∙ c.loop-s.invariant.scope;
      noted = with_none m (items_in c.args.context.now) (found_at c.loop-s.walk)
          ∙ ap (λ (xs : List RawStmt). with_parts m (items_in c.args.context.now) (found_at c.loop-s.walk) (parts_in_arm m bodies c.args.gives c.args.within (scope_at c.loop-s.walk) (map stmt_view xs))) (sym (drop_all c.loop-s.s-index c.args.ss.now c.loop-s-test.false))
          ∙ c.loop-s.invariant.noted;
    }

pub arms-loop-arm-preserved : goal.arms-loop-arm-preserved
arms-loop-arm-preserved t c =
    let m = c.args.context.now.model in
    let items = items_in c.args.context.now in
    let bodies = bodies_in c.args.context.now in
    let s = scope_at c.loop-arm.walk in
    let v = scope_at c.label.new.walk in
    let u = scope_at c.in_arm.new.walk in
    let ty = c.args.ty in
    let spot = (out-RawArm c.arm-item.result).spot in
    let l = label_view (out-RawArm c.arm-item.result).label in
    let xs = map stmt_view (out-RawArm c.arm-item.result).body in
    let rest = arms (map raw_arm_view (drop (c.loop-arm.arm-index + 1) c.args.arms.now)) in
    let next = next_arm c.args.arms.now c.loop-arm.arm-index c.arm-item.result c.loop-arm-test.true c.arm-item.is in
    let pushed : c.push.new.self ≡ c.loop-arm.all ++ c.arm_of.result ∷ [] = search rules in
    let own = label_of m bodies (seen s) ty l in
    let body_scope = c.in_ok-body.ensures.scope ∙ ap (λ (ys : List RawStmt). after_in_arm m bodies v (map stmt_view ys)) c.as_slice.ensures in
    let body_typed = c.in_ok-body.ensures.typed ∙ ap (λ (ys : List RawStmt). typed_in_arm m bodies v (map stmt_view ys)) c.as_slice.ensures in
    let body_noted = c.in_ok-body.ensures.noted ∙ ap (λ (ys : List RawStmt). with_parts m items (found_at c.label.new.walk) (parts_in_arm m bodies c.args.gives c.args.within v (map stmt_view ys))) c.as_slice.ensures in
    let at = c.in_ok-label.ensures.scope in
    let u_is = body_scope ∙ ap (λ (y : Scope). after_in_arm m bodies y xs) at in
    let behind_it = after_in_arm m bodies s xs in
    record {
      found = c.in_ok-label.ensures.found;
      typed = ap (λ (ys : List Arm). arms_before ys (typed_arms m bodies ty u rest)) pushed
          ∙ arms_before-one_more c.loop-arm.all c.arm_of.result (typed_arms m bodies ty u rest)
          ∙ ap (arms_before c.loop-arm.all) (arm_typed-next m bodies ty s u spot c.in_ok-label.label l c.in_ok-body.body xs rest
          (arm_view c.arm_of.result (typed_arms m bodies ty u rest)) (c.arm_of.ensures (typed_arms m bodies ty u rest)) c.in_ok-label.ensures.typed
          (body_typed ∙ ap (λ (y : Scope). typed_in_arm m bodies y xs) at) u_is)
          ∙ sym (ap (λ (ys : raw.Stms). arms_before c.loop-arm.all (typed_arms m bodies ty s ys)) next)
          ∙ c.loop-arm.invariant.typed;
      scope = ap (λ (y : Scope). after_arms m bodies y rest) u_is ∙ sym (after_joined m bodies s xs rest)
          ∙ sym (ap (after_arms m bodies s) next)
          ∙ c.loop-arm.invariant.scope;
      noted = ap (λ (ls : List (Option ArmLabel)). with_parts m items (found_at c.in_arm.new.walk) (parts_of_arms m bodies c.args.gives c.args.within ty ls u rest)) c.in_ok-label.ensures.before
          ∙ found_on m items (found_at c.loop-arm.walk) (found_at c.in_arm.new.walk) _ (labelling c.loop-arm.before.all own spot (seen s) l ++ parts_in_arm m bodies c.args.gives c.args.within s xs)
          (λ (y : Scope). parts_of_arms m bodies c.args.gives c.args.within ty (c.loop-arm.before.all ++ own ∷ []) y rest) behind_it u
          (found_then m items (found_at c.loop-arm.walk) (found_at c.label.new.walk) (found_at c.in_arm.new.walk) (labelling c.loop-arm.before.all own spot (seen s) l)
          (λ (y : Scope). parts_in_arm m bodies c.args.gives c.args.within y xs) s v c.in_ok-label.ensures.noted at body_noted)
          u_is
          (ap (with_parts m items (found_at c.loop-arm.walk)) (arm_parts m bodies c.args.gives c.args.within ty c.loop-arm.before.all s spot l xs rest)
          ∙ sym (ap (λ (ys : raw.Stms). with_parts m items (found_at c.loop-arm.walk) (parts_of_arms m bodies c.args.gives c.args.within ty c.loop-arm.before.all s ys)) next)
          ∙ c.loop-arm.invariant.noted);
    }

pub arms-returns : goal.arms-returns
arms-returns t c =
    let m = c.args.context.now.model in
    let bodies = bodies_in c.args.context.now in
    record {
      typed = sym (arms_before-none c.loop-arm.all)
          ∙ ap (λ (xs : List RawArm). arms_before c.loop-arm.all (typed_arms m bodies c.args.ty (scope_at c.loop-arm.walk) (arms (map raw_arm_view xs)))) (sym (drop_all c.loop-arm.arm-index c.args.arms.now c.loop-arm-test.false))
          ∙ c.loop-arm.invariant.typed;
      scope = ap (λ (xs : List RawArm). after_arms m bodies (scope_at c.loop-arm.walk) (arms (map raw_arm_view xs))) (sym (drop_all c.loop-arm.arm-index c.args.arms.now c.loop-arm-test.false))
          ∙ c.loop-arm.invariant.scope;
      noted = with_none m (items_in c.args.context.now) (found_at c.loop-arm.walk)
          ∙ ap (λ (xs : List RawArm). with_parts m (items_in c.args.context.now) (found_at c.loop-arm.walk) (parts_of_arms m bodies c.args.gives c.args.within c.args.ty c.loop-arm.before.all (scope_at c.loop-arm.walk) (arms (map raw_arm_view xs)))) (sym (drop_all c.loop-arm.arm-index c.args.arms.now c.loop-arm-test.false))
          ∙ c.loop-arm.invariant.noted;
    }

pub switch-returns : goal.switch-returns
switch-returns t c =
    let m = c.args.context.now.model in
    let bodies = bodies_in c.args.context.now in
    let s = scope_at c.args.walk.now in
    let e = expr_view c.args.test.now in
    let all = arms (map raw_arm_view c.args.all.now) in
    let within = in_switch c.args.within in
    let ty = c.switch_type-ty.result in
    let at = c.in_ok-test.ensures.scope in
    let tree = typed m bodies (seen s) e in
    let ty_is : ty ≡ switch_type (type_of tree) = c.switch_type-ty.ensures ∙ ap (λ (x : typ.Exp). switch_type (type_of x)) c.in_ok-test.ensures.typed in
    record {
      typed = c.switch_of.ensures ∙ same_switch _ _ _ _ c.in_ok-test.ensures.typed
          (c.in_ok-arms.ensures.typed ∙ ap (λ (y : Scope). typed_arms m bodies ty y all) at ∙ ap (λ (y : IntType). typed_arms m bodies y s all) ty_is);
      scope = c.in_ok-arms.ensures.scope ∙ ap (λ (y : Scope). after_arms m bodies y all) at;
      noted = found_then m (items_in c.args.context.now) (found_at c.args.walk.now) (found_at c.full.new.walk) _ (parts (seen s) Value e)
          (λ (y : Scope). parts_of_arms m bodies c.args.gives within ty [] y all) s (scope_at c.full.new.walk)
          c.in_ok-test.ensures.noted at c.in_ok-arms.ensures.noted
          ∙ ap (λ (y : IntType). with_parts m (items_in c.args.context.now) (found_at c.args.walk.now) (parts (seen s) Value e ++ parts_of_arms m bodies c.args.gives within y [] s all)) ty_is;
    }

-- ---- loops

pub while_loop-returns : goal.while_loop-returns
while_loop-returns t c =
    let m = c.args.context.now.model in
    let s = scope_at c.args.walk.now in
    record {
      typed = c.in_ok-form.ensures
          ∙ same_while _ _ _ _ c.in_ok-test.ensures.typed
          (c.in_ok-body.ensures.typed ∙ ap (λ (y : Scope). typed_statement c.args.context.now.model (bodies_in c.args.context.now) (opened y) (stmt_view c.args.body.now)) c.in_ok-test.ensures.scope);
      scope = c.in_ok-body.ensures.scope
          ∙ ap (λ (y : Scope). closed y (after_statement c.args.context.now.model (bodies_in c.args.context.now) (opened y) (stmt_view c.args.body.now))) c.in_ok-test.ensures.scope;
      noted = found_then m (items_in c.args.context.now) (found_at c.args.walk.now) (found_at c.full.new.walk) _ (parts (seen s) Value (expr_view c.args.test.now))
          (λ (y : Scope). parts_of_statement m (bodies_in c.args.context.now) c.args.gives in_loop (opened y) (stmt_view c.args.body.now)) s (scope_at c.full.new.walk)
          c.in_ok-test.ensures.noted c.in_ok-test.ensures.scope c.in_ok-body.ensures.noted;
    }

pub do_loop-returns-clause-typed : goal.do_loop-returns-clause-typed
do_loop-returns-clause-typed t c =
    c.in_ok-form.ensures
    ∙ same_do _ _ _ _ (c.in_ok-test.ensures.typed ∙ ap (λ (y : Scope). typed c.args.context.now.model (bodies_in c.args.context.now) (seen y) (expr_view c.args.test.now)) c.in_ok-body.ensures.scope)
    c.in_ok-body.ensures.typed

pub do_loop-returns-clause-scope : goal.do_loop-returns-clause-scope
do_loop-returns-clause-scope t c = c.in_ok-test.ensures.scope ∙ c.in_ok-body.ensures.scope

pub do_loop-returns-clause-noted : goal.do_loop-returns-clause-noted
do_loop-returns-clause-noted t c =
    let m = c.args.context.now.model in
    let bodies = bodies_in c.args.context.now in
    let s = scope_at c.args.walk.now in
    let a = stmt_view c.args.body.now in
    found_then m (items_in c.args.context.now) (found_at c.args.walk.now) (found_at c.arm.new.walk) _ (parts_of_statement m bodies c.args.gives in_loop (opened s) a)
    (λ (y : Scope). parts (seen y) Value (expr_view c.args.test.now)) (closed s (after_statement m bodies (opened s) a)) (scope_at c.arm.new.walk)
    c.in_ok-body.ensures.noted c.in_ok-body.ensures.scope c.in_ok-test.ensures.noted

pub for_loop-close-requires : goal.for_loop-close-requires
for_loop-close-requires t c =
    let m = c.args.context.now.model in
    let bodies = bodies_in c.args.context.now in
    let s = scope_at c.args.walk.now in
    let a = stmt_view c.args.body.now in
    let first = first_view c.args.first.now in
    let behind = after_first m bodies (opened s) first in
    let i = c.in_ok-first.ensures.scope ∙ ap (λ (y : Scope). after_first m bodies y first) c.open-outside.ensures.scope in
    let u = c.in_ok-step.ensures.scope ∙ c.in_ok-test.ensures.scope ∙ i in
    stands_outside s (closed behind (after_statement m bodies (opened behind) a)) (scope_at c.arm.new.walk) c.open-outside.result c.open-outside.ensures.outside
    (c.in_ok-body.ensures.scope ∙ ap (λ (y : Scope). closed y (after_statement m bodies (opened y) a)) u) (kept_by_first m bodies (opened s) first)

pub for_loop-returns : goal.for_loop-returns
for_loop-returns t c =
    let m = c.args.context.now.model in
    let items = items_in c.args.context.now in
    let bodies = bodies_in c.args.context.now in
    let s = scope_at c.args.walk.now in
    let o = scope_at c.open-outside.new.self in
    let n1 = scope_at c.begin.new.walk in
    let n2 = scope_at c.full_if.new.walk in
    let n3 = scope_at c.full_if-2.new.walk in
    let a = stmt_view c.args.body.now in
    let first = first_view c.args.first.now in
    let behind : Scope → Scope = λ y. after_first m bodies y first in
    let p1 : Scope → List Part = λ y. parts_of_first m bodies y first in
    let p2 : Scope → List Part = λ y. parts_if (seen y) Value (option_map expr_view c.args.test.now) in
    let p3 : Scope → List Part = λ y. parts_if (seen y) Effect (option_map expr_view c.args.step.now) in
    let p4 : Scope → List Part = λ y. parts_of_statement m bodies c.args.gives in_loop (opened y) a in
    let opened_at = found_at c.open-outside.new.self in
    let i = c.in_ok-first.ensures.scope in
    let e = c.in_ok-test.ensures.scope ∙ i in
    let u = c.in_ok-step.ensures.scope ∙ e in
    let o_is = ap behind c.open-outside.ensures.scope in
    let two = found_then m items opened_at (found_at c.begin.new.walk) (found_at c.full_if.new.walk) (p1 o) p2 (behind o) n1 c.in_ok-first.ensures.noted i c.in_ok-test.ensures.noted in
    let three = found_then m items opened_at (found_at c.full_if.new.walk) (found_at c.full_if-2.new.walk) (p1 o ++ p2 (behind o)) p3 (behind o) n2 two e c.in_ok-step.ensures.noted in
    record {
      typed = c.in_ok-form.ensures
          ∙ same_for _ _ _ _ _ _ _ _ (c.in_ok-first.ensures.typed ∙ ap (λ (y : Scope). typed_first m bodies y first) c.open-outside.ensures.scope)
          (c.in_ok-test.ensures.typed ∙ ap (λ (y : Scope). typed_if m bodies (seen y) (option_map expr_view c.args.test.now)) (i ∙ o_is))
          (c.in_ok-step.ensures.typed ∙ ap (λ (y : Scope). typed_if m bodies (seen y) (option_map expr_view c.args.step.now)) (e ∙ o_is))
          (c.in_ok-body.ensures.typed ∙ ap (λ (y : Scope). typed_statement m bodies (opened y) a) (u ∙ o_is));
      scope = closes s (closed (behind (opened s)) (after_statement m bodies (opened (behind (opened s))) a)) (scope_at c.arm.new.walk) (scope_at c.close.new.self) c.open-outside.result c.open-outside.ensures.outside
          (c.in_ok-body.ensures.scope ∙ ap (λ (y : Scope). closed y (after_statement m bodies (opened y) a)) (u ∙ o_is)) (kept_by_first m bodies (opened s) first) c.close.ensures.scope;
      noted = found_within m items (found_at c.args.walk.now) opened_at (found_at c.arm.new.walk) (found_at c.close.new.self)
          (λ (y : Scope). p1 y ++ p2 (behind y) ++ p3 (behind y) ++ p4 (behind y)) (opened s) o
          c.open-outside.ensures.found c.open-outside.ensures.scope
          (found_then m items opened_at (found_at c.full_if-2.new.walk) (found_at c.arm.new.walk) (p1 o ++ p2 (behind o) ++ p3 (behind o)) p4 (behind o) n3 three u c.in_ok-body.ensures.noted)
          c.close.ensures.found;
    }

-- ---- no second arm

pub other_arm-returns-in-None-clause-noted : goal.other_arm-returns-in-None-clause-noted
other_arm-returns-in-None-clause-noted t c =
    let m = c.args.context.now.model in
    let items = items_in c.args.context.now in
    let f = found_at c.args.walk.now in
    with_none m items f
    ∙ ap (λ (x : Option (Box RawStmt Global)). with_parts m items f (parts_of_else m (bodies_in c.args.context.now) c.args.gives c.args.within (scope_at c.args.walk.now) (else_if x))) (sym c.in-None.is)
