use Rattle.std.proofs.Common.{◌≡◌, ◌++◌, ◌+◌, ◌-◌, ◌∷◌, [], ℕ, ℤ, List, length, drop, map, true, refl, sym, ap, ◌∙◌}
use Rattle.std.proofs.lemmas.List.{append-nil, append_assoc, drop_all}
use Rattle.std.specs.List.{flat_map}
use Rattle.c_parser.specs.Tree as raw
use Rattle.c_parser.specs.Tree.{exps}
use Rattle.c_parser.specs.SourceView.{values_view}
use Rattle.c_parser.specs.View.{exprs_view}
use Rattle.c_parser.specs.declared.tree.RawExpr.{RawExpr}
use Rattle.c_parser.specs.declared.tree.RawRow.{RawRow}
use Rattle.check_rules.specs.Checked.{padded, start_values, row_values}
use Rattle.check_rules.specs.Parts.{parts_of_values}
use Rattle.check_rules.specs.Scopes.{Scope, seen}
use Rattle.check_elaborate.specs.Walks.{scope_at, items_in, bodies_in, found_at, with_parts}
use Rattle.check_elaborate.proofs.FoundLaws.{found_on, with_none}
use Rattle.check_elaborate.proofs.SizeLaws.{next_row}
use Rattle.check_elaborate.proofs.globals.row_values.Goals as goal

pub values-requires : goal.values-requires
values-requires c = c.requires ∙ sym (ap (λ (x : Scope). length x.objects - 1) c.loop-row.invariant.scope)

pub loop-row-preserved : goal.loop-row-preserved
loop-row-preserved c =
    let m = c.args.context.now.model in
    let items = items_in c.args.context.now in
    let bodies = bodies_in c.args.context.now in
    let s = scope_at c.args.walk.now in
    let ty = c.args.ty in
    let columns = c.args.columns in
    let row = values_view c.row-item.result in
    let rest = map values_view (drop (c.loop-row.row-index + 1) c.args.rows.now) in
    let next = next_row c.args.rows.now c.loop-row.row-index c.row-item.result c.loop-row-test.true c.row-item.is in
    let of_row : exps (exprs_view c.as_slice.result.now) ≡ row = ap (λ (ys : List RawExpr). exps (exprs_view ys)) c.as_slice.ensures in
    let own = padded columns (start_values m bodies (seen s) ty row) in
    let values = c.in_ok-values.ensures.values ∙ ap (λ (x : Scope). start_values m bodies (seen x) ty (exps (exprs_view c.as_slice.result.now))) c.loop-row.invariant.scope
    ∙ ap (start_values m bodies (seen s) ty) of_row in
    record {
      values = ap (λ (xs : List ℤ). xs ++ row_values m bodies (seen s) ty columns rest)
          (c.in_ok-append.ensures ∙ ap (λ (xs : List ℤ). c.loop-row.all ++ xs) (c.as_slice-in-loop-row.ensures ∙ c.in_ok-pad.ensures ∙ ap (padded columns) values))
          ∙ append_assoc c.loop-row.all own (row_values m bodies (seen s) ty columns rest)
          ∙ sym (ap (λ (xs : List raw.Exps). c.loop-row.all ++ row_values m bodies (seen s) ty columns xs) next)
          ∙ c.loop-row.invariant.values;
      scope = c.in_ok-values.ensures.scope ∙ c.loop-row.invariant.scope;
      noted = found_on m items (found_at c.loop-row.walk) (found_at c.values.new.walk) _ (parts_of_values true s row) (λ (x : Scope). flat_map (parts_of_values true s) rest) s s
          (c.in_ok-values.ensures.noted ∙ ap (λ (x : Scope). with_parts m items (found_at c.loop-row.walk) (parts_of_values true x (exps (exprs_view c.as_slice.result.now)))) c.loop-row.invariant.scope
          ∙ ap (λ (x : raw.Exps). with_parts m items (found_at c.loop-row.walk) (parts_of_values true s x)) of_row) refl
          (sym (ap (λ (xs : List raw.Exps). with_parts m items (found_at c.loop-row.walk) (flat_map (parts_of_values true s) xs)) next) ∙ c.loop-row.invariant.noted);
    }

pub returns-clause-values : goal.returns-clause-values
returns-clause-values c =
    let m = c.args.context.now.model in
    sym (append-nil c.loop-row.all)
    ∙ ap (λ (xs : List RawRow). c.loop-row.all ++ row_values m (bodies_in c.args.context.now) (seen (scope_at c.args.walk.now)) c.args.ty c.args.columns (map values_view xs)) (sym (drop_all c.loop-row.row-index c.args.rows.now c.loop-row-test.false))
    ∙ c.loop-row.invariant.values

pub returns-clause-noted : goal.returns-clause-noted
returns-clause-noted c =
    let m = c.args.context.now.model in
    let items = items_in c.args.context.now in
    with_none m items (found_at c.loop-row.walk)
    ∙ ap (λ (xs : List RawRow). with_parts m items (found_at c.loop-row.walk) (flat_map (parts_of_values true (scope_at c.args.walk.now)) (map values_view xs))) (sym (drop_all c.loop-row.row-index c.args.rows.now c.loop-row-test.false))
    ∙ c.loop-row.invariant.noted
