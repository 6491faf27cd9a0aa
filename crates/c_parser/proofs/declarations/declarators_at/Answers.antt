use Rattle.std.proofs.Common.{◌≡◌, ◌-◌, ◌∙◌, ◌++◌, suc, sym, ap, map, [], ◌∷◌, List, Some, Err, drop, rules, arith}
use Rattle.c_tokens.specs.declared.token.Token.{Token}
use Rattle.c_tokens.specs.declared.token.Punct.TheVariants as sign
use Rattle.c_parser.specs.Tree.{Declared}
use Rattle.c_parser.specs.SourceView.{declared_view}
use Rattle.c_parser.specs.Gives.{Reads}
use Rattle.c_parser.specs.ReadExpressions.{read, within}
use Rattle.c_parser.specs.Declarations.{read_declarator, read_declarators}
use Rattle.c_parser.specs.ReadStatements.{rows_within}
use Rattle.c_parser.proofs.PassingLaws.{stopped_by, stopped_open}
use Rattle.c_parser.proofs.ListLaws.{following, map_push, declarators_last, declarators_open, declarators_more, declarators_none}
use Rattle.c_parser.proofs.declarations.declarators_at.Goals as goal

pub returns-in_err-declarator : goal.returns-in_err-declarator
returns-in_err-declarator c =
    let b = c.args.brackets in
    let h = c.args.height in
    let one : c.loop-more.more ≡ suc (c.loop-more.more - 1) = omega (arith, c.loop-more-test.true) in
    let fell : c.from_residual.result ≡ Err c.in_err-declarator.field-0.0 = search rules in
    stopped_by (Reads (map declared_view)) (λ e w h. h) c.from_residual.result c.in_err-declarator.field-0.0 (read_declarator b (read b h) (within b h) (rows_within b h) c.args.ty c.loop-more.rest.now)
    (read_declarators b (read b h) (within b h) (rows_within b h) c.args.most c.args.ty c.args.tokens.now) fell c.in_err-declarator.ensures
    (λ e. sym c.loop-more.invariant ∙ declarators_none b (read b h) (within b h) (rows_within b h) c.loop-more.more (c.loop-more.more - 1) c.loop-more.rest.now one c.args.ty (map declared_view c.loop-more.declarators) e)

pub returns-in_err-rest : goal.returns-in_err-rest
returns-in_err-rest c =
    let b = c.args.brackets in
    let h = c.args.height in
    let one : c.loop-more.more ≡ suc (c.loop-more.more - 1) = omega (arith, c.loop-more-test.true) in
    let fell : c.from_residual-in_err-rest.result ≡ Err c.in_err-rest.field-0.0 = search rules in
    stopped_open (Reads (map declared_view)) (λ e w h. h) c.from_residual-in_err-rest.result c.in_err-rest.field-0.0 sign.Semicolon c.in_ok-declarator.end.now
    (read_declarators b (read b h) (within b h) (rows_within b h) c.args.most c.args.ty c.args.tokens.now) fell c.in_err-rest.ensures
    (λ e. sym c.loop-more.invariant ∙ declarators_open b (read b h) (within b h) (rows_within b h) c.loop-more.more (c.loop-more.more - 1) c.loop-more.rest.now one c.args.ty (map declared_view c.loop-more.declarators)
    (declared_view c.in_ok-declarator.declarator) c.in_ok-declarator.end.now c.in_ok-declarator.ensures (sym c.is_sign.ensures ∙ c.if-not-is_sign.true) e)

pub returns-then-not-is_sign : goal.returns-then-not-is_sign
returns-then-not-is_sign c =
    let b = c.args.brackets in
    let h = c.args.height in
    let one : c.loop-more.more ≡ suc (c.loop-more.more - 1) = omega (arith, c.loop-more-test.true) in
    let pushed : map declared_view c.push.new.self ≡ map declared_view c.loop-more.declarators ++ declared_view c.in_ok-declarator.declarator ∷ [] =
    ap (map declared_view) c.in_ok-push.ensures.ok ∙ map_push declared_view c.loop-more.declarators c.in_ok-declarator.declarator in
    let last = c.in_ok-rest.ensures in
    sym c.loop-more.invariant
    ∙ declarators_last b (read b h) (within b h) (rows_within b h) c.loop-more.more (c.loop-more.more - 1) c.loop-more.rest.now one c.args.ty (map declared_view c.loop-more.declarators)
    (declared_view c.in_ok-declarator.declarator) c.in_ok-declarator.end.now c.in_ok-declarator.ensures (sym c.is_sign.ensures ∙ c.if-not-is_sign.true) last.0
    ∙ ap (λ (ts : List Token). Some (map declared_view c.loop-more.declarators ++ declared_view c.in_ok-declarator.declarator ∷ [], ts)) (sym last.1)
    ∙ ap (λ (xs : List Declared). Some (xs, c.in_ok-rest.rest.now)) (sym pushed)

pub loop-more-preserved : goal.loop-more-preserved
loop-more-preserved c =
    let b = c.args.brackets in
    let h = c.args.height in
    let one : c.loop-more.more ≡ suc (c.loop-more.more - 1) = omega (arith, c.loop-more-test.true) in
    let pushed : map declared_view c.push.new.self ≡ map declared_view c.loop-more.declarators ++ declared_view c.in_ok-declarator.declarator ∷ [] =
    ap (map declared_view) c.in_ok-push.ensures.ok ∙ map_push declared_view c.loop-more.declarators c.in_ok-declarator.declarator in
    ap (λ (ts : List Token). following (map declared_view c.push.new.self) (read_declarators b (read b h) (within b h) (rows_within b h) (c.loop-more.more - 1) c.args.ty ts)) c.behind-rest.ensures
    ∙ ap (λ (xs : List Declared). following xs (read_declarators b (read b h) (within b h) (rows_within b h) (c.loop-more.more - 1) c.args.ty (drop 1 c.in_ok-declarator.end.now))) pushed
    ∙ sym (declarators_more b (read b h) (within b h) (rows_within b h) c.loop-more.more (c.loop-more.more - 1) c.loop-more.rest.now one c.args.ty (map declared_view c.loop-more.declarators)
    (declared_view c.in_ok-declarator.declarator) c.in_ok-declarator.end.now c.in_ok-declarator.ensures (sym c.is_sign.ensures ∙ c.if-not-is_sign.false))
    ∙ c.loop-more.invariant
