use Rattle.c_core.specs.View.{program_view}
use Rattle.way_bind.proofs.LoopLaws.{avoids_told}
use Rattle.way_bind.proofs.binding.bind_segment.Goals as goal

pub returns-in_err-avoids : goal.returns-in_err-avoids
returns-in_err-avoids c =
    avoids_told (program_view c.args.lookup.now.index) c.args.first c.args.segment.now c.as_slice-waypoints.result.now c.in_err-avoids.field-0.0 c.from_residual.result c.as_slice-waypoints.ensures c.from_residual.ensures.1 c.in_err-avoids.ensures
