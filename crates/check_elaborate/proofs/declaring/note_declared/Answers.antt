use Rattle.std.proofs.Common.{◌≡◌, ℕ, List, ap, ◌∙◌}
use Rattle.check_rules.specs.Codes.{is_again}
use Rattle.check_rules.specs.declared.sizes.Sizes.{Sizes}
use Rattle.check_rules.specs.Names.{entry, Object}
use Rattle.check_rules.specs.Scopes.{seen}
use Rattle.c_parser.specs.SourceView.{declared_view}
use Rattle.c_parser.specs.View.{exprs_view}
use Rattle.check_elaborate.specs.Walks.{scope_at, items_in, bodies_in, dims_in}
use Rattle.check_elaborate.proofs.NotedLaws.{declared_noted}
use Rattle.check_elaborate.proofs.SizeLaws.{dims_are}
use Rattle.check_elaborate.proofs.declaring.note_declared.Goals as goal

pub returns-clause-noted : goal.returns-clause-noted
returns-clause-noted c =
    let m = c.args.context.now.model in
    let dims = c.dims-count.ensures ∙ ap dims_in c.requires.sizes ∙ dims_are m (bodies_in c.args.context.now) (seen (scope_at c.args.walk.now)) (exprs_view c.args.d.now.sizes) in
    declared_noted m (items_in c.args.context.now) c.args.walk.now.best c.noted-best.result c.noted-best-2.result c.noted-best-3.result c.noted-walk.result
    c.args.fixed (scope_at c.args.walk.now) (declared_view c.args.d.now) c.args.number c.cells.result c.dims-count.result c.args.sizes
    c.is_again-again.result c.is_wrong_init-wrong.result c.is_wrong_size.result c.is_crowded-crowded.result
    c.requires.number dims c.requires.sizes c.cells.ensures
    (c.is_again-again.ensures ∙ ap (λ (x : List ℕ). is_again (scope_at c.args.walk.now) (entry x (Object c.args.number c.args.d.now.ty c.dims-count.result c.args.fixed))) c.as_str.ensures)
    c.is_wrong_init-wrong.ensures c.is_wrong_size.ensures c.is_crowded-crowded.ensures
    c.noted-best.ensures c.noted-best-2.ensures c.noted-best-3.ensures c.noted-walk.ensures
