use Rattle.std.proofs.Common.{take}
use Rattle.check_sequencing.specs.Bodies.{fulls_view, tested_fulls}
use Rattle.check_sequencing.specs.Walking.{IsGone, IsReady, IsSameWalk}
use Rattle.check_sequencing.proofs.walk.Walk.fulls.Given as goal

abbrev pub invariant-loop-full : goal.invariant-loop-full
invariant-loop-full l = record {
  ready : IsReady l.self;
  same : IsSameWalk l.initial.self l.self;
  gone : IsGone l.initial.self l.self (tested_fulls (fulls_view (take l.full-index l.fulls)));
}
