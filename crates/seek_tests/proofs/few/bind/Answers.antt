use Rattle.c_core.specs.View.{program_view}
use Rattle.seek_tests.proofs.Followed.{followed}
use Rattle.seek_tests.proofs.few.bind.Goals as goal

pub returns : goal.returns
returns c =
    let p = program_view c.args.program.now in
    let w = c.args.witness.now in
    followed p w (c.bound_segments_can_be_followed.ensures p w) c.bind_violation.result c.bind_violation.ensures
