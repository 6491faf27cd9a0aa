use Rattle.std.proofs.Common.{◌≡◌, ap, ◌∙◌}
use Rattle.c_core.specs.Tree as t
use Rattle.c_core.specs.View.{joined, stmts_view}
use Rattle.c_core.specs.declared.tree.Arm.{Arm, Arm-F, roll-Arm, out-roll-Arm}
use Rattle.c_core.specs.declared.tree.Form.{Form}
use Rattle.c_core.specs.declared.tree.Stmt.{Stmt}
use Rattle.c_core.proofs.View.{arm_views}
use Rattle.check_elaborate.proofs.forms.arm_of.Goals as goal

pub returns : goal.returns
returns c =
    let level : Arm-F Form Arm Stmt = record { spot = c.args.spot; label = c.args.label; body = c.args.body } in
    λ rest. arm_views (roll-Arm level) rest
    ∙ ap (λ (x : Arm-F Form Arm Stmt). t.MoreCase x.spot x.label (joined (stmts_view x.body) rest)) (out-roll-Arm level)
