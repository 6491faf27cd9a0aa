use Rattle.std.proofs.Common.{arith}
use Rattle.seek_tests.proofs.FewWaypoints.{few}
use Rattle.seek_tests.proofs.few.are_few.Goals as goal

pub returns : goal.returns
returns c e = few c.loop-segment.segment-index c.loop-segment.room c.args.segments.now c.loop-segment.invariant (omega arith)
