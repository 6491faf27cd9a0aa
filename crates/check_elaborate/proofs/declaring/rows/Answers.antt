use Rattle.std.proofs.Common.{rules, ◌≡◌, ◌++◌, ◌+◌, ◌∷◌, [], List, drop, map, false, refl, sym, ap, ◌∙◌}
use Rattle.std.proofs.lemmas.List.{drop_all}
use Rattle.std.specs.List.{flat_map}
use Rattle.c_core.specs.Tree as t
use Rattle.c_core.specs.View.{exprs_view as typed_views}
use Rattle.c_core.specs.declared.tree.Row.{Row}
use Rattle.c_parser.specs.Tree as raw
use Rattle.c_parser.specs.Tree.{exps}
use Rattle.c_parser.specs.View.{exprs_view}
use Rattle.c_parser.specs.SourceView.{values_view}
use Rattle.c_parser.specs.declared.tree.RawExpr.{RawExpr}
use Rattle.c_parser.specs.declared.tree.RawRow.{RawRow}
use Rattle.check_rules.specs.Parts.{parts_of_values}
use Rattle.check_rules.specs.Scopes.{Scope, seen}
use Rattle.check_rules.specs.Typed.{typed_all}
use Rattle.check_elaborate.specs.Walks.{scope_at, items_in, bodies_in, found_at, with_parts}
use Rattle.check_elaborate.proofs.FoundLaws.{found_on, with_none}
use Rattle.check_elaborate.proofs.RowLaws.{rows_before, rows_before-none, rows_before-one_more}
use Rattle.check_elaborate.proofs.SizeLaws.{next_row}
use Rattle.check_elaborate.proofs.declaring.rows.Goals as goal

pub loop-row-preserved : goal.loop-row-preserved
loop-row-preserved c =
    let m = c.args.context.now.model in
    let items = items_in c.args.context.now in
    let bodies = bodies_in c.args.context.now in
    let s = scope_at c.args.walk.now in
    let row = values_view c.row-item.result in
    let rest = map values_view (drop (c.loop-row.row-index + 1) c.args.rows.now) in
    let next = next_row c.args.rows.now c.loop-row.row-index c.row-item.result c.loop-row-test.true c.row-item.is in
    let new : Row = record { values = c.in_ok-values.values } in
    let pushed : c.push.new.self ≡ c.loop-row.all ++ new ∷ [] = search rules in
    let of_row : (xs : List RawExpr) → xs ≡ c.row-item.result.values → exps (exprs_view xs) ≡ row = λ xs e. ap (λ (ys : List RawExpr). exps (exprs_view ys)) e in
    record {
      typed = ap (λ (xs : List Row). rows_before xs (map (typed_all m bodies (seen s)) rest)) pushed
          ∙ rows_before-one_more c.loop-row.all new (map (typed_all m bodies (seen s)) rest)
          ∙ ap (λ (x : t.Exps). rows_before c.loop-row.all (x ∷ map (typed_all m bodies (seen s)) rest))
          (c.in_ok-values.ensures.typed ∙ ap (λ (x : Scope). typed_all m bodies (seen x) (exps (exprs_view c.as_slice.result.now))) c.loop-row.invariant.scope
          ∙ ap (typed_all m bodies (seen s)) (of_row c.as_slice.result.now c.as_slice.ensures))
          ∙ sym (ap (λ (xs : List raw.Exps). rows_before c.loop-row.all (map (typed_all m bodies (seen s)) xs)) next)
          ∙ c.loop-row.invariant.typed;
      scope = c.in_ok-values.ensures.scope ∙ c.loop-row.invariant.scope;
      noted = found_on m items (found_at c.loop-row.walk) (found_at c.values.new.walk) _ (parts_of_values false s row) (λ (x : Scope). flat_map (parts_of_values false s) rest) s s
          (c.in_ok-values.ensures.noted ∙ ap (λ (x : Scope). with_parts m items (found_at c.loop-row.walk) (parts_of_values false x (exps (exprs_view c.as_slice.result.now)))) c.loop-row.invariant.scope
          ∙ ap (λ (x : raw.Exps). with_parts m items (found_at c.loop-row.walk) (parts_of_values false s x)) (of_row c.as_slice.result.now c.as_slice.ensures)) refl
          (sym (ap (λ (xs : List raw.Exps). with_parts m items (found_at c.loop-row.walk) (flat_map (parts_of_values false s) xs)) next) ∙ c.loop-row.invariant.noted);
    }

pub returns-clause-typed : goal.returns-clause-typed
returns-clause-typed c =
    let m = c.args.context.now.model in
    sym (rows_before-none c.loop-row.all)
    ∙ ap (λ (xs : List RawRow). rows_before c.loop-row.all (map (typed_all m (bodies_in c.args.context.now) (seen (scope_at c.args.walk.now))) (map values_view xs))) (sym (drop_all c.loop-row.row-index c.args.rows.now c.loop-row-test.false))
    ∙ c.loop-row.invariant.typed

pub returns-clause-noted : goal.returns-clause-noted
returns-clause-noted c =
    let m = c.args.context.now.model in
    let items = items_in c.args.context.now in
    with_none m items (found_at c.loop-row.walk)
    ∙ ap (λ (xs : List RawRow). with_parts m items (found_at c.loop-row.walk) (flat_map (parts_of_values false (scope_at c.args.walk.now)) (map values_view xs))) (sym (drop_all c.loop-row.row-index c.args.rows.now c.loop-row-test.false))
    ∙ c.loop-row.invariant.noted
