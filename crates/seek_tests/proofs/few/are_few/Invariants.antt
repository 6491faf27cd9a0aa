use Rattle.std.proofs.Common.{◌≡◌, ◌+◌, drop}
use Rattle.seek_tests.proofs.FewWaypoints.{count_in}
use Rattle.seek_tests.proofs.few.are_few.Given as goal

abbrev pub invariant-loop-segment : goal.invariant-loop-segment
invariant-loop-segment l = l.room + count_in l.segments ≡ 1073741823 + count_in (drop l.segment-index l.segments)
