use Rattle.std.proofs.Common.{◌≡◌, ap, ◌∙◌}
use Rattle.c_core.specs.Tree as t
use Rattle.c_core.specs.View.{expr_view, stmt_view}
use Rattle.c_core.specs.declared.tree.Stmt.{Stmt}
use Rattle.check_elaborate.specs.Walks.{else_of}
use Rattle.check_elaborate.proofs.BlockLaws.{view_of_if}
use Rattle.check_elaborate.proofs.forms.choice_of.Goals as goal

pub returns : goal.returns
returns c =
    view_of_if c.args.test c.in_ok-yes.yes c.args.no
    ∙ ap (λ (s : Stmt). t.If (expr_view c.args.test) (stmt_view s) (else_of c.args.no)) c.in_ok-yes.ensures
