use Rattle.std.proofs.Common.{◌+◌, ap, sym, ◌∙◌, drop}
use Rattle.std.specs.Option.{option_copied}
use Rattle.c_core.specs.View.{expr_view_if, init_view, names_view}
use Rattle.c_core.proofs.ArmLaws.{item_first}
use Rattle.way_places.specs.Seeking.{first_of, is_wanted}
use Rattle.way_places.specs.Sought.{each_in_init, each_in_names, parts_of}
use Rattle.way_places.proofs.SeekingLaws.{first_of_both}
use Rattle.way_places.proofs.expressions.declared.Goals as goal

pub loop-name-preserved : goal.loop-name-preserved
loop-name-preserved c =
    ap (λ b. first_of (is_wanted c.args.wanted) b (each_in_names (parts_of c.args.wanted) (names_view (drop (c.loop-name.name-index + 1) c.args.names.now)))) c.initial-first.ensures
    ∙ sym (first_of_both (is_wanted c.args.wanted) (expr_view_if (option_copied c.loop-name.first)) (each_in_init (parts_of c.args.wanted) (init_view c.name-item.result.init)) (each_in_names (parts_of c.args.wanted) (names_view (drop (c.loop-name.name-index + 1) c.args.names.now))))
    ∙ sym (ap (λ xs. first_of (is_wanted c.args.wanted) (expr_view_if (option_copied c.loop-name.first)) (each_in_names (parts_of c.args.wanted) (names_view xs))) (item_first c.args.names.now c.loop-name.name-index c.name-item.result c.loop-name-test.true c.name-item.is))
    ∙ c.loop-name.invariant
