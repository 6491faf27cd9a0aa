use Rattle.std.proofs.Common.{◌≡◌, ◌++◌, ◌+◌, ◌∷◌, [], ℕ, None, List, Option, drop, sym, ap, ◌∙◌}
use Rattle.std.proofs.lemmas.List.{append_assoc, append-nil, drop_all}
use Rattle.c_parser.specs.Tree as raw
use Rattle.c_parser.specs.Tree.{exps}
use Rattle.c_parser.specs.View.{expr_view, exprs_view}
use Rattle.c_parser.specs.declared.tree.RawExpr.{RawExpr}
use Rattle.check_rules.specs.declared.sizes.Sizes.{Sizes}
use Rattle.check_rules.specs.declared.sizes.Sizes.TheVariants.{Scalar}
use Rattle.check_rules.specs.Kept.{Kept, kept, kept_sizes}
use Rattle.check_rules.specs.Noting.{noted_parts}
use Rattle.check_rules.specs.Parts.{Value, parts, parts_of}
use Rattle.check_rules.specs.Scopes.{Scope, seen, size_of}
use Rattle.check_rules.specs.Typed.{typed}
use Rattle.check_rules.proofs.NotingLaws.{noted_parts-append}
use Rattle.check_rules.specs.declared.fault.Refusal.{Refusal}
use Rattle.check_elaborate.specs.Items.{kept_views}
use Rattle.check_elaborate.specs.Walks.{scope_at, items_in, bodies_in, sizes_from, with_size}
use Rattle.check_elaborate.proofs.ListLaws.{views-next}
use Rattle.check_elaborate.proofs.SizeLaws.{all_sizes, next_size}
use Rattle.check_elaborate.proofs.sizes.sizes.Goals as goal

pub loop-e-preserved : goal.loop-e-preserved
loop-e-preserved c =
    let m = c.args.context.now.model in
    let items = items_in c.args.context.now in
    let bodies = bodies_in c.args.context.now in
    let es = seen (scope_at c.args.walk.now) in
    let e = expr_view c.e-item.result in
    let rest = drop (c.loop-e.e-index + 1) c.args.es.now in
    let next = next_size c.args.es.now c.loop-e.e-index c.e-item.result c.loop-e-test.true c.e-item.is in
    let next_all = views-next c.args.es.now c.loop-e.e-index c.e-item.result c.loop-e-test.true c.e-item.is in
    let at = c.loop-e.invariant.scope in
    record {
      sizes = ap (λ (x : Sizes). sizes_from m bodies es x (exprs_view rest))
          (c.with_size-stated.ensures ∙ ap (with_size c.loop-e.stated) (c.in_ok-size.ensures.size ∙ ap (λ (x : Scope). size_of m bodies (seen x) e) at))
          ∙ sym (ap (sizes_from m bodies es c.loop-e.stated) next)
          ∙ c.loop-e.invariant.sizes;
      scope = c.in_ok-size.ensures.scope ∙ at;
      noted = ap (λ (b : Option Refusal). noted_parts m items b (parts_of es (exps (exprs_view rest)))) (c.in_ok-size.ensures.noted ∙ ap (λ (x : Scope). noted_parts m items c.loop-e.walk.best (parts (seen x) Value e)) at)
          ∙ sym (noted_parts-append m items c.loop-e.walk.best (parts es Value e) (parts_of es (exps (exprs_view rest))))
          ∙ sym (ap (λ (xs : raw.Exps). noted_parts m items c.loop-e.walk.best (parts_of es xs)) next_all)
          ∙ c.loop-e.invariant.noted;
      kept = ap (λ (ks : List Kept). ks ++ kept_sizes m bodies es (exprs_view rest)) (c.in_ok-size.ensures.kept ∙ ap (λ (x : Scope). kept_views c.loop-e.walk.kept ++ kept None (typed m bodies (seen x) e) ∷ []) at)
          ∙ append_assoc (kept_views c.loop-e.walk.kept) (kept None (typed m bodies es e) ∷ []) (kept_sizes m bodies es (exprs_view rest))
          ∙ sym (ap (λ (xs : List raw.Exp). kept_views c.loop-e.walk.kept ++ kept_sizes m bodies es xs) next)
          ∙ c.loop-e.invariant.kept;
    }

pub returns-clause-sizes : goal.returns-clause-sizes
returns-clause-sizes c =
    let m = c.args.context.now.model in
    let bodies = bodies_in c.args.context.now in
    let es = seen (scope_at c.args.walk.now) in
    ap (λ (xs : List RawExpr). sizes_from m bodies es c.loop-e.stated (exprs_view xs)) (sym (drop_all c.loop-e.e-index c.args.es.now c.loop-e-test.false))
    ∙ c.loop-e.invariant.sizes ∙ all_sizes m bodies es (exprs_view c.args.es.now)

pub returns-clause-noted : goal.returns-clause-noted
returns-clause-noted c =
    let m = c.args.context.now.model in
    let items = items_in c.args.context.now in
    ap (λ (xs : List RawExpr). noted_parts m items c.loop-e.walk.best (parts_of (seen (scope_at c.args.walk.now)) (exps (exprs_view xs)))) (sym (drop_all c.loop-e.e-index c.args.es.now c.loop-e-test.false))
    ∙ c.loop-e.invariant.noted

pub returns-clause-kept : goal.returns-clause-kept
returns-clause-kept c =
    let ks = kept_views c.loop-e.walk.kept in
    sym (append-nil ks)
    ∙ ap (λ (xs : List RawExpr). ks ++ kept_sizes c.args.context.now.model (bodies_in c.args.context.now) (seen (scope_at c.args.walk.now)) (exprs_view xs)) (sym (drop_all c.loop-e.e-index c.args.es.now c.loop-e-test.false))
    ∙ c.loop-e.invariant.kept
