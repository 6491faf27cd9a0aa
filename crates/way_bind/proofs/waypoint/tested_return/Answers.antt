use Rattle.std.proofs.Common.{refl, Ok, Err}
use Rattle.way_match.specs.View.{test_view}
use Rattle.way_bind.proofs.ReturnLaws.{tested_there}
use Rattle.way_bind.proofs.waypoint.tested_return.Goals as goal

pub returns-in-Ok : goal.returns-in-Ok
returns-in-Ok c =
    (test_view c.in-Ok.test, tested_there c.program.result.now c.args.index.now c.is_valued-valued.result c.args.text.now c.args.close (Ok (test_view c.in-Ok.test)) c.program.ensures c.is_valued-valued.ensures c.in-Ok.ensures, refl)

pub returns-in-Err : goal.returns-in-Err
returns-in-Err c =
    tested_there c.program.result.now c.args.index.now c.is_valued-valued.result c.args.text.now c.args.close (Err c.in-Err.lack) c.program.ensures c.is_valued-valued.ensures c.in-Err.ensures
