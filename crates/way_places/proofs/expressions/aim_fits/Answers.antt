use Rattle.std.proofs.Common.{ap, ◌∙◌, is_some}
use Rattle.c_core.specs.View.{program_view}
use Rattle.way_places.proofs.SoughtLaws.{aim_by}
use Rattle.way_places.proofs.expressions.aim_fits.Goals as goal

pub returns : goal.returns
returns c =
    aim_by (program_view c.args.program.now) c.args.line c.args.column c.is_aim.result c.is_some-at_statement.result c.is_found-at_start.result c.is_reachability-in_task.result c.is_found-at_error.result
    c.is_aim.ensures (c.is_some-at_statement.ensures ∙ ap is_some c.place_at.ensures) c.is_found-at_start.ensures c.is_reachability-in_task.ensures c.is_found-at_error.ensures
