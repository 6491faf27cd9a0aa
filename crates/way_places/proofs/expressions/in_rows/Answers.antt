use Rattle.std.proofs.Common.{◌+◌, ap, sym, ◌∙◌, drop}
use Rattle.std.specs.List.{flat_map}
use Rattle.std.specs.Option.{option_copied}
use Rattle.c_core.specs.View.{expr_view_if, exprs_view, rows_view}
use Rattle.c_core.proofs.ArmLaws.{item_first}
use Rattle.way_places.specs.Seeking.{first_of, is_wanted}
use Rattle.way_places.specs.Sought.{each_in_list, parts_of}
use Rattle.way_places.proofs.SeekingLaws.{first_of_both}
use Rattle.way_places.proofs.expressions.in_rows.Goals as goal

pub loop-row-preserved : goal.loop-row-preserved
loop-row-preserved c =
    let found = expr_view_if (option_copied c.loop-row.first) in
    let rest = flat_map (each_in_list (parts_of c.args.wanted)) (rows_view (drop (c.loop-row.row-index + 1) c.args.rows.now)) in
    ap (λ b. first_of (is_wanted c.args.wanted) b rest) (c.listed-first.ensures ∙ ap (λ es. first_of (is_wanted c.args.wanted) found (each_in_list (parts_of c.args.wanted) (exprs_view es))) c.as_slice.ensures)
    ∙ sym (first_of_both (is_wanted c.args.wanted) found (each_in_list (parts_of c.args.wanted) (exprs_view c.row-item.result.values)) rest)
    ∙ sym (ap (λ xs. first_of (is_wanted c.args.wanted) found (flat_map (each_in_list (parts_of c.args.wanted)) (rows_view xs))) (item_first c.args.rows.now c.loop-row.row-index c.row-item.result c.loop-row-test.true c.row-item.is))
    ∙ c.loop-row.invariant
