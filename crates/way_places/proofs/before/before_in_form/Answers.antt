use Rattle.std.proofs.Common.{◌≡◌, ap, sym, ◌∙◌}
use Rattle.c_core.specs.Places.{before_in, before_in_form}
use Rattle.c_core.specs.Tree.{Block, Switch}
use Rattle.c_core.specs.View.{expr_view, stmts_view, switch_view, form_view}
use Rattle.c_core.proofs.View.{view_of_block, view_of_switch}
use Rattle.way_places.proofs.before.before_in_form.Goals as goal

pub returns-in-Block : goal.returns-in-Block
returns-in-Block c =
    let e : form_view c.args.form.now ≡ Block (stmts_view c.in-Block.body) = ap form_view c.in-Block.is ∙ view_of_block c.in-Block.body in
    c.directly_before.ensures ∙ ap (λ ss. before_in c.args.spot (stmts_view ss)) c.as_slice.ensures ∙ sym (ap (λ f. before_in_form c.args.spot f) e)

pub returns-in-Switch : goal.returns-in-Switch
returns-in-Switch c =
    let e : form_view c.args.form.now ≡ Switch (expr_view c.in-Switch.test) (switch_view c.in-Switch.arms) = ap form_view c.in-Switch.is ∙ view_of_switch c.in-Switch.test c.in-Switch.arms in
    c.before_in_arms.ensures ∙ ap (λ ss. before_in c.args.spot (switch_view ss)) c.as_slice-in-Switch.ensures ∙ sym (ap (λ f. before_in_form c.args.spot f) e)
