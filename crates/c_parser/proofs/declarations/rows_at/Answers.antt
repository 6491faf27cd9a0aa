use Rattle.std.proofs.Common.{◌≡◌, ◌-◌, ◌∙◌, ◌++◌, ℕ, length, map, suc, sym, ap, [], ◌∷◌, List, Some, drop, arith}
use Rattle.c_tokens.specs.declared.token.Token.{Token}
use Rattle.c_tokens.specs.declared.token.Punct.TheVariants as sign
use Rattle.c_parser.specs.Signs.{is_sign}
use Rattle.c_parser.specs.Tree.{Exps}
use Rattle.c_parser.specs.SourceView.{values_view}
use Rattle.c_parser.specs.ReadExpressions.{within}
use Rattle.c_parser.specs.Declarations.{read_row, read_rows}
use Rattle.c_parser.specs.ReadStatements.{rows_within}
use Rattle.c_parser.proofs.ListLaws.{following, map_push, brace_last, brace_close, brace_more}
use Rattle.c_parser.proofs.declarations.rows_at.Goals as goal

one_bracket : (b a h : ℕ) (ts : List Token) → b ≡ suc a → rows_within b h ts ≡ read_rows (within a h) (length ts) ts
unfolding rows_within
one_bracket b a h ts e = ap (λ (n : ℕ). rows_within n h ts) e

pub returns-then-not-is_sign : goal.returns-then-not-is_sign
returns-then-not-is_sign c =
    let b = c.args.brackets - 1 in
    let h = c.args.height in
    let one : c.loop-more.more ≡ suc (c.loop-more.more - 1) = omega (arith, c.loop-more-test.true) in
    let pushed : map values_view c.push.new.self ≡ map values_view c.loop-more.rows ++ values_view c.in_ok-row.row ∷ [] =
    ap (map values_view) c.in_ok-push.ensures.ok ∙ map_push values_view c.loop-more.rows c.in_ok-row.row in
    let inside : c.args.brackets ≡ suc (c.args.brackets - 1) = omega (arith, c.if-brackets-eq0.false) in
    one_bracket c.args.brackets (c.args.brackets - 1) h c.args.tokens.now inside
    ∙ sym c.loop-more.invariant
    ∙ brace_last Exps (read_row (within b h)) c.loop-more.more (c.loop-more.more - 1) c.loop-more.rest.now one (map values_view c.loop-more.rows) (values_view c.in_ok-row.row) c.in_ok-row.end.now c.in_ok-row.ensures (sym c.is_sign.ensures ∙ c.if-not-is_sign.true)
    ∙ ap (λ (xs : List Exps). Some (xs, c.in_ok-row.end.now)) (sym pushed)

pub returns-then-is_sign : goal.returns-then-is_sign
returns-then-is_sign c =
    let b = c.args.brackets - 1 in
    let h = c.args.height in
    let one : c.loop-more.more ≡ suc (c.loop-more.more - 1) = omega (arith, c.loop-more-test.true) in
    let pushed : map values_view c.push.new.self ≡ map values_view c.loop-more.rows ++ values_view c.in_ok-row.row ∷ [] =
    ap (map values_view) c.in_ok-push.ensures.ok ∙ map_push values_view c.loop-more.rows c.in_ok-row.row in
    let inside : c.args.brackets ≡ suc (c.args.brackets - 1) = omega (arith, c.if-brackets-eq0.false) in
    one_bracket c.args.brackets (c.args.brackets - 1) h c.args.tokens.now inside
    ∙ sym c.loop-more.invariant
    ∙ brace_close Exps (read_row (within b h)) c.loop-more.more (c.loop-more.more - 1) c.loop-more.rest.now one (map values_view c.loop-more.rows) (values_view c.in_ok-row.row) c.in_ok-row.end.now c.in_ok-row.ensures (sym c.is_sign.ensures ∙ c.if-not-is_sign.false)
    (ap (is_sign sign.BraceClose) (sym c.behind-rest.ensures) ∙ sym c.is_sign-in-loop-more.ensures ∙ c.if-is_sign.true)
    ∙ ap (λ (ts : List Token). Some (map values_view c.loop-more.rows ++ values_view c.in_ok-row.row ∷ [], ts)) (sym c.behind-rest.ensures)
    ∙ ap (λ (xs : List Exps). Some (xs, c.behind-rest.result.now)) (sym pushed)

pub loop-more-preserved : goal.loop-more-preserved
loop-more-preserved c =
    let b = c.args.brackets - 1 in
    let h = c.args.height in
    let one : c.loop-more.more ≡ suc (c.loop-more.more - 1) = omega (arith, c.loop-more-test.true) in
    let pushed : map values_view c.push.new.self ≡ map values_view c.loop-more.rows ++ values_view c.in_ok-row.row ∷ [] =
    ap (map values_view) c.in_ok-push.ensures.ok ∙ map_push values_view c.loop-more.rows c.in_ok-row.row in
    ap (λ (ts : List Token). following (map values_view c.push.new.self) (read_rows (within b h) (c.loop-more.more - 1) ts)) c.behind-rest.ensures
    ∙ ap (λ (xs : List Exps). following xs (read_rows (within b h) (c.loop-more.more - 1) (drop 1 c.in_ok-row.end.now))) pushed
    ∙ sym (brace_more Exps (read_row (within b h)) c.loop-more.more (c.loop-more.more - 1) c.loop-more.rest.now one (map values_view c.loop-more.rows) (values_view c.in_ok-row.row) c.in_ok-row.end.now c.in_ok-row.ensures (sym c.is_sign.ensures ∙ c.if-not-is_sign.false)
    (ap (is_sign sign.BraceClose) (sym c.behind-rest.ensures) ∙ sym c.is_sign-in-loop-more.ensures ∙ c.if-is_sign.false))
    ∙ c.loop-more.invariant
