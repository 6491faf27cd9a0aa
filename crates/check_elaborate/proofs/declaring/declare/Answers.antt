use Rattle.std.proofs.Common.{◌≡◌, ◌++◌, ◌∷◌, [], List, ap, ◌∙◌}
use Rattle.c_parser.specs.SourceView.{declared_view}
use Rattle.c_parser.specs.Tree.{Exp, exps}
use Rattle.c_parser.specs.View.{exprs_view}
use Rattle.check_rules.specs.Checked.{filled_sizes}
use Rattle.check_rules.specs.Codes.{cells_of_all}
use Rattle.check_rules.specs.Kept.{kept_sizes}
use Rattle.check_rules.specs.Noting.{noted_parts}
use Rattle.check_rules.specs.Parts.{Declaring, parts_of}
use Rattle.check_rules.specs.Scopes.{Scope, seen, sizes_of}
use Rattle.check_elaborate.specs.Items.{kept_views}
use Rattle.check_elaborate.specs.Walks.{Found, scope_at, items_in, bodies_in, found, found_at, declarator}
use Rattle.check_elaborate.proofs.FoundLaws.{kept_so}
use Rattle.check_elaborate.proofs.KeptLaws.{kept_of_declarator}
use Rattle.check_elaborate.proofs.NotedLaws.{noted_then}
use Rattle.check_elaborate.proofs.declaring.declare.Goals as goal

pub returns-clause-noted : goal.returns-clause-noted
returns-clause-noted c =
    let m = c.args.context.now.model in
    let items = items_in c.args.context.now in
    let s = scope_at c.args.walk.now in
    let d = declared_view c.args.d.now in
    let noted = c.note_declared.new.walk in
    let own : exprs_view c.as_slice.result.now ≡ d.sizes = ap exprs_view c.as_slice.ensures in
    c.in_ok-declare.ensures.found
    ∙ kept_so m items (found_at c.args.walk.now) (found_at noted) (declarator c.args.fixed s d) (kept_sizes m (bodies_in c.args.context.now) (seen s) d.sizes)
    (noted_then m items c.args.walk.now.best c.sizes.new.walk.best noted.best
    (parts_of (seen s) (exps d.sizes)) (λ (x : Scope). Declaring c.args.fixed x d ∷ []) s (scope_at c.sizes.new.walk)
    (c.in_ok-sizes.ensures.noted ∙ ap (λ (xs : List Exp). noted_parts m items c.args.walk.now.best (parts_of (seen s) (exps xs))) own) c.in_ok-sizes.ensures.scope c.note_declared.ensures.noted)
    (ap kept_views c.note_declared.ensures.kept ∙ c.in_ok-sizes.ensures.kept
    ∙ ap (λ (xs : List Exp). kept_views c.args.walk.now.kept ++ kept_sizes m (bodies_in c.args.context.now) (seen s) xs) own)
    (kept_of_declarator m (bodies_in c.args.context.now) c.args.fixed s d)

pub returns-clause-filled : goal.returns-clause-filled
returns-clause-filled c =
    let m = c.args.context.now.model in
    let s = scope_at c.args.walk.now in
    let d = declared_view c.args.d.now in
    let own : exprs_view c.as_slice.result.now ≡ d.sizes = ap exprs_view c.as_slice.ensures in
    c.filled_sizes-filled.ensures
    ∙ ap (λ (x : Scope). filled_sizes (cells_of_all x.objects) d.init c.in_ok-sizes.sizes) (c.note_declared.ensures.scope ∙ c.in_ok-sizes.ensures.scope)
    ∙ ap (filled_sizes (cells_of_all s.objects) d.init) (c.in_ok-sizes.ensures.sizes ∙ ap (sizes_of m (bodies_in c.args.context.now) (seen s)) own)
