use Rattle.std.proofs.Common.{◌≡◌, ◌++◌, ap, sym, ◌∙◌}
use Rattle.c_core.specs.Tree.{Block, Switch}
use Rattle.c_core.specs.View.{expr_view, stmts_view, switch_view, form_view}
use Rattle.c_core.proofs.View.{view_of_block, view_of_switch}
use Rattle.way_places.specs.Neighbours.{pairs_in, pairs_in_form, pairs_view}
use Rattle.way_places.proofs.neighbours.push_own.Goals as goal

pub returns-in_ok-push_pairs-in-Block : goal.returns-in_ok-push_pairs-in-Block
returns-in_ok-push_pairs-in-Block c =
    let e : form_view c.args.form.now ≡ Block (stmts_view c.in-Block.body) = ap form_view c.in-Block.is ∙ view_of_block c.in-Block.body in
    c.in_ok-push_pairs-in-Block.ensures
    ∙ ap (λ ss. pairs_view c.args.list.now.items ++ pairs_in (stmts_view ss)) c.as_slice.ensures
    ∙ sym (ap (λ f. pairs_view c.args.list.now.items ++ pairs_in_form f) e)

pub returns-in_ok-push_pairs_of_arms-in-Switch : goal.returns-in_ok-push_pairs_of_arms-in-Switch
returns-in_ok-push_pairs_of_arms-in-Switch c =
    let e : form_view c.args.form.now ≡ Switch (expr_view c.in-Switch.test) (switch_view c.in-Switch.arms) = ap form_view c.in-Switch.is ∙ view_of_switch c.in-Switch.test c.in-Switch.arms in
    c.in_ok-push_pairs_of_arms-in-Switch.ensures
    ∙ ap (λ ss. pairs_view c.args.list.now.items ++ pairs_in (switch_view ss)) c.as_slice-in-Switch.ensures
    ∙ sym (ap (λ f. pairs_view c.args.list.now.items ++ pairs_in_form f) e)
