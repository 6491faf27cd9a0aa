use Rattle.std.proofs.Common.{arith}
use Rattle.circuits.proofs.Nets.{own, kept, and_of, three}
use Rattle.seek_events.proofs.Bits.{reached_made}
use Rattle.seek_events.proofs.segment.completes.Goals as goal

pub returns : goal.returns
returns c =
    let s = c.in_ok-stays.ensures in
    let t = c.in_ok-there.ensures in
    record {
      grown = three 3 s.grown t.grown c.in_ok-completes.ensures.grown (omega arith);
      value = and_of c.in_ok-completes.ensures.value (kept t.grown (kept s.grown (own _ _ c.requires.here.followed)))
          (reached_made _ _ _ c.args.came c.args.assumes c.args.passing c.args.completed _ _ s.grown c.requires.came_in s.value t.value);
    }
