use Rattle.std.proofs.Common.{◌+◌, ◌++◌, ap, drop, ◌∙◌}
use Rattle.std.specs.List.{flat_map}
use Rattle.c_core.specs.View.{exprs_view, program_view, rows_view}
use Rattle.c_core.proofs.ArmLaws.{item_first}
use Rattle.c_meaning.specs.Duties.{property_duties}
use Rattle.c_core.specs.Parts.{exps_in}
use Rattle.c_duties.proofs.Walked.{with_the_rest}
use Rattle.c_duties.proofs.walk.push_rows.Goals as goal

pub loop-row-preserved : goal.loop-row-preserved
loop-row-preserved c =
    let p = program_view c.args.program.now in
    with_the_rest p _ _ (exps_in (exprs_view c.row-item.result.values)) (flat_map exps_in (rows_view (drop (c.loop-row.row-index + 1) c.args.rows.now))) _ _
    (ap (λ rows. flat_map exps_in (rows_view rows)) (item_first c.args.rows.now c.loop-row.row-index c.row-item.result c.loop-row-test.true c.row-item.is))
    c.loop-row.invariant
    (c.in_ok-push_list.ensures ∙ ap (λ es. c.loop-row.list.items ++ property_duties p (exps_in (exprs_view es))) c.as_slice.ensures)
