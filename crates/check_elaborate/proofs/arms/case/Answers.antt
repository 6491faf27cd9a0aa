use Rattle.std.proofs.Common.{◌≡◌, ◌++◌, ◌∷◌, [], List, None, ap, ◌∙◌}
use Rattle.c_core.specs.View.{expr_view as typed_view}
use Rattle.c_core.specs.Tree as t
use Rattle.c_parser.specs.View.{expr_view}
use Rattle.check_rules.specs.Arms.{case_of}
use Rattle.check_rules.specs.Constants.{constant}
use Rattle.check_rules.specs.Kept.{Kept, kept}
use Rattle.check_elaborate.specs.Items.{kept_views}
use Rattle.check_elaborate.specs.Walks.{scope_at, items_in, found_at}
use Rattle.check_elaborate.proofs.KeptLaws.{constant_found}
use Rattle.check_elaborate.proofs.arms.case.Goals as goal

pub returns-clause-label : goal.returns-clause-label
returns-clause-label c =
    let m = c.args.context.now.model in
    c.case_of-label.ensures ∙ ap (λ (x : t.Exp). case_of m c.args.ty (constant m x)) c.in_ok-typed.ensures.typed

pub returns-clause-noted : goal.returns-clause-noted
returns-clause-noted c =
    let e = expr_view c.args.e.now in
    let typed = c.in_ok-typed.typed in
    let last = c.keep.new.walk in
    constant_found c.args.context.now.model (items_in c.args.context.now) (found_at c.args.walk.now) (found_at c.full.new.walk) (scope_at c.args.walk.now) (scope_at c.full.new.walk) e
    last.best (kept_views last.kept) (typed_view typed)
    c.in_ok-typed.ensures.noted c.in_ok-typed.ensures.scope (c.in_ok-keep.ensures.best ∙ c.note_constant.ensures.noted) c.in_ok-typed.ensures.typed
    (c.in_ok-keep.ensures.kept ∙ ap (λ (ks : List Kept). ks ++ kept None (typed_view typed) ∷ []) (ap kept_views c.note_constant.ensures.kept))
