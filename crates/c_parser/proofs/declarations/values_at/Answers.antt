use Rattle.std.proofs.Common.{◌≡◌, ◌-◌, ◌∙◌, ◌++◌, suc, sym, ap, [], ◌∷◌, List, Some, drop, arith}
use Rattle.c_tokens.specs.declared.token.Token.{Token}
use Rattle.c_tokens.specs.declared.token.Punct.TheVariants as sign
use Rattle.c_parser.specs.Signs.{is_sign, assignment}
use Rattle.c_parser.specs.Tree.{Exp}
use Rattle.c_parser.specs.View.{expr_view, exprs_view}
use Rattle.c_parser.specs.ReadExpressions.{within}
use Rattle.c_parser.specs.Declarations.{read_values}
use Rattle.c_parser.proofs.ListLaws.{following, exprs_push, brace_last, brace_close, brace_more}
use Rattle.c_parser.proofs.declarations.values_at.Goals as goal

pub returns-then-not-is_sign : goal.returns-then-not-is_sign
returns-then-not-is_sign c =
    let b = c.args.brackets in
    let h = c.args.height in
    let one : c.loop-more.more ≡ suc (c.loop-more.more - 1) = omega (arith, c.loop-more-test.true) in
    let pushed : exprs_view c.push.new.self ≡ exprs_view c.loop-more.values ++ expr_view c.in_ok-value.value.expr ∷ [] = ap exprs_view c.in_ok-push.ensures.ok ∙ exprs_push c.loop-more.values c.in_ok-value.value.expr in
    sym c.loop-more.invariant
    ∙ brace_last Exp (within b h assignment) c.loop-more.more (c.loop-more.more - 1) c.loop-more.rest.now one (exprs_view c.loop-more.values) (expr_view c.in_ok-value.value.expr) c.in_ok-value.end.now (c.in_ok-value.ensures).0 (sym c.is_sign.ensures ∙ c.if-not-is_sign.true)
    ∙ ap (λ (xs : List Exp). Some (xs, c.in_ok-value.end.now)) (sym pushed)

pub returns-then-is_sign : goal.returns-then-is_sign
returns-then-is_sign c =
    let b = c.args.brackets in
    let h = c.args.height in
    let one : c.loop-more.more ≡ suc (c.loop-more.more - 1) = omega (arith, c.loop-more-test.true) in
    let pushed : exprs_view c.push.new.self ≡ exprs_view c.loop-more.values ++ expr_view c.in_ok-value.value.expr ∷ [] = ap exprs_view c.in_ok-push.ensures.ok ∙ exprs_push c.loop-more.values c.in_ok-value.value.expr in
    sym c.loop-more.invariant
    ∙ brace_close Exp (within b h assignment) c.loop-more.more (c.loop-more.more - 1) c.loop-more.rest.now one (exprs_view c.loop-more.values) (expr_view c.in_ok-value.value.expr) c.in_ok-value.end.now (c.in_ok-value.ensures).0 (sym c.is_sign.ensures ∙ c.if-not-is_sign.false)
    (ap (is_sign sign.BraceClose) (sym c.behind-rest.ensures) ∙ sym c.is_sign-in-loop-more.ensures ∙ c.if-is_sign.true)
    ∙ ap (λ (ts : List Token). Some (exprs_view c.loop-more.values ++ expr_view c.in_ok-value.value.expr ∷ [], ts)) (sym c.behind-rest.ensures)
    ∙ ap (λ (xs : List Exp). Some (xs, c.behind-rest.result.now)) (sym pushed)

pub loop-more-preserved : goal.loop-more-preserved
loop-more-preserved c =
    let b = c.args.brackets in
    let h = c.args.height in
    let one : c.loop-more.more ≡ suc (c.loop-more.more - 1) = omega (arith, c.loop-more-test.true) in
    let pushed : exprs_view c.push.new.self ≡ exprs_view c.loop-more.values ++ expr_view c.in_ok-value.value.expr ∷ [] = ap exprs_view c.in_ok-push.ensures.ok ∙ exprs_push c.loop-more.values c.in_ok-value.value.expr in
    ap (λ (ts : List Token). following (exprs_view c.push.new.self) (read_values (within b h) (c.loop-more.more - 1) ts)) c.behind-rest.ensures
    ∙ ap (λ (xs : List Exp). following xs (read_values (within b h) (c.loop-more.more - 1) (drop 1 c.in_ok-value.end.now))) pushed
    ∙ sym (brace_more Exp (within b h assignment) c.loop-more.more (c.loop-more.more - 1) c.loop-more.rest.now one (exprs_view c.loop-more.values) (expr_view c.in_ok-value.value.expr) c.in_ok-value.end.now (c.in_ok-value.ensures).0 (sym c.is_sign.ensures ∙ c.if-not-is_sign.false)
    (ap (is_sign sign.BraceClose) (sym c.behind-rest.ensures) ∙ sym c.is_sign-in-loop-more.ensures ∙ c.if-is_sign.false))
    ∙ c.loop-more.invariant
