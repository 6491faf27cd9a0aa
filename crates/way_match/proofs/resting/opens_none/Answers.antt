use Rattle.std.proofs.Common.{arith}
use Rattle.c_core.specs.View.{program_view}
use Rattle.way_match.specs.inside.Turning.{seen_by, sighted}
use Rattle.way_match.proofs.RestLaws.{one_closed}
use Rattle.way_match.proofs.Views.{segments_length}
use Rattle.way_match.proofs.resting.opens_none.Goals as goal

pub loop-k-preserved : goal.loop-k-preserved
loop-k-preserved c =
    one_closed (program_view c.args.sight.now.program.now) (seen_by c.args.sight.now) (sighted c.args.sight.now) c.args.live.now c.loop-k.k c.loop-k.invariant (c.opens.ensures c.if-opens.false)

pub returns-else-k-sight : goal.returns-else-k-sight
returns-else-k-sight c = λ t k lt.
    let l = segments_length c.args.sight.now.segments.now in
    c.loop-k.invariant k (omega (arith, lt, l, c.if-k-sight.false))
