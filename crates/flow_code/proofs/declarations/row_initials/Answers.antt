use Rattle.std.proofs.Common.{◌+◌, ◌++◌, length, refl, ap, ◌∙◌}
use Rattle.std.proofs.lemmas.List.{drop_all}
use Rattle.c_core.specs.View.{program_view, exprs_view, rows_view}
use Rattle.c_meaning.specs.Objects.{columns_of_object}
use Rattle.flow_code.specs.Statements.{rows_code, initials_code}
use Rattle.flow_code.proofs.Gluing.{next_item, walk_on, walk_done}
use Rattle.flow_code.proofs.declarations.row_initials.Goals as goal

pub loop-row-preserved : goal.loop-row-preserved
loop-row-preserved c =
    let p = program_view c.args.program.now in
    let rows = c.args.rows.now in
    let i = c.loop-row.row-index in
    let x = c.row-item.result in
    let n = c.loop-row.index in
    let o = c.args.object in
    let old = c.loop-row.ops in
    let made = c.in_ok-initials.ensures ∙ ap (λ es. old ++ initials_code p (length old) c.args.at o n (exprs_view es)) c.as_slice.ensures in
    rw (c.in_ok-index.ensures, c.columns_of_object-columns.ensures)
    (walk_on rows i x old c.initials.new.ops _ (λ j xs. rows_code p j c.args.at o n (rows_view xs)) (λ j xs. rows_code p j c.args.at o (n + columns_of_object p o) (rows_view xs))
    (λ j. initials_code p j c.args.at o n (exprs_view x.values)) (next_item rows i x c.loop-row-test.true c.row-item.is) (λ j. refl) c.loop-row.invariant made)

pub returns : goal.returns
returns c =
    walk_done c.args.rows.now c.loop-row.row-index c.loop-row.ops _ (λ j xs. rows_code (program_view c.args.program.now) j c.args.at c.args.object c.loop-row.index (rows_view xs)) (drop_all c.loop-row.row-index c.args.rows.now c.loop-row-test.false) refl c.loop-row.invariant
