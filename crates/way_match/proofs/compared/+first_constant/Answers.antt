use Rattle.std.proofs.Common.{◌≡◌, ap, sym, ◌∙◌}
use Rattle.std.specs.Option.{option_copied}
use Rattle.c_core.specs.Tree.{Expr, Logic}
use Rattle.c_core.specs.TreeView.{expr_view, expr_view_if, node_view}
use Rattle.way_places.specs.Seeking.{or_else}
use Rattle.way_match.specs.Given.{first_constant, operands}
use Rattle.way_match.proofs.GatherLaws.{chain_first}
use Rattle.way_match.proofs.compared.+first_constant.Goals as goal

pub returns-then-both : goal.returns-then-both
returns-then-both t c =
    let e : node_view c.args.e.now.node ≡ Logic c.in-Logic.both (expr_view c.in-Logic.left.value) (expr_view c.in-Logic.right.value) = ap node_view c.in-Logic.is in
    c.earlier.ensures
    ∙ ap (λ x. or_else x (expr_view_if (option_copied c.first_constant-second.result)))
    (c.first_constant-first.ensures ∙ ap (λ x. first_constant c.args.object (operands (expr_view x))) c.deref.ensures)
    ∙ ap (λ x. or_else (first_constant c.args.object (operands (expr_view c.in-Logic.left.value))) x)
    (c.first_constant-second.ensures ∙ ap (λ x. first_constant c.args.object (operands (expr_view x))) c.deref-then-both.ensures)
    ∙ sym (chain_first c.args.object c.args.e.now.spot c.args.e.now.ty c.in-Logic.both (expr_view c.in-Logic.left.value) (expr_view c.in-Logic.right.value) c.if-both.true)
    ∙ sym (ap (λ n. first_constant c.args.object (operands (Expr c.args.e.now.spot c.args.e.now.ty n))) e)
