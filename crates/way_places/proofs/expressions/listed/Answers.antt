use Rattle.std.proofs.Common.{◌+◌, ap, sym, ◌∙◌, drop}
use Rattle.std.specs.Option.{option_copied}
use Rattle.c_core.specs.View.{expr_view, expr_view_if, exprs_view}
use Rattle.c_core.proofs.ArmLaws.{item_first}
use Rattle.way_places.specs.Seeking.{first_of, is_wanted}
use Rattle.way_places.specs.Sought.{each_in_list, parts_of}
use Rattle.way_places.proofs.SeekingLaws.{first_of_both}
use Rattle.way_places.proofs.expressions.listed.Goals as goal

pub loop-e-preserved : goal.loop-e-preserved
loop-e-preserved c =
    ap (λ b. first_of (is_wanted c.args.wanted) b (each_in_list (parts_of c.args.wanted) (exprs_view (drop (c.loop-e.e-index + 1) c.args.es.now)))) c.full-first.ensures
    ∙ sym (first_of_both (is_wanted c.args.wanted) (expr_view_if (option_copied c.loop-e.first)) (parts_of c.args.wanted (expr_view c.e-item.result)) (each_in_list (parts_of c.args.wanted) (exprs_view (drop (c.loop-e.e-index + 1) c.args.es.now))))
    ∙ sym (ap (λ xs. first_of (is_wanted c.args.wanted) (expr_view_if (option_copied c.loop-e.first)) (each_in_list (parts_of c.args.wanted) (exprs_view xs))) (item_first c.args.es.now c.loop-e.e-index c.e-item.result c.loop-e-test.true c.e-item.is))
    ∙ c.loop-e.invariant
