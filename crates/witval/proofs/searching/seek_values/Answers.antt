use Rattle.c_core.specs.View.{program_view}
use Rattle.witval.proofs.searching.seek_values.Goals as goal

pub seek_bound-requires-clause-segments : goal.seek_bound-requires-clause-segments
seek_bound-requires-clause-segments c =
    c.bound_segments_can_be_followed.ensures (program_view c.args.program.now) c.args.witness.now c.in-Ok.bound c.in-Ok.ensures
