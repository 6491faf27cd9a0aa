use Rattle.std.proofs.Common.{take}
use Rattle.check_sequencing.specs.Bodies.{tested_fulls}
use Rattle.check_sequencing.specs.Walking.{IsGone, IsReady, IsSameWalk}
use Rattle.check_unsequenced.specs.Bodies.{kept_fulls, kept_views}
use Rattle.check_unsequenced.proofs.walks.walk_kept.Given as goal

abbrev pub invariant-loop-one : goal.invariant-loop-one
invariant-loop-one l = record {
  ready : IsReady l.walk;
  same : IsSameWalk l.initial.walk l.walk;
  gone : IsGone l.initial.walk l.walk (tested_fulls (kept_fulls (kept_views (take l.one-index l.kept))));
}
