use Rattle.std.proofs.Common.{map, take}
use Rattle.c_core.specs.TreeView.{functions_view}
use Rattle.check_sequencing.specs.Bodies.{tested_fulls}
use Rattle.check_sequencing.specs.Walking.{IsGone, IsReady, IsSameWalk}
use Rattle.check_unsequenced.specs.Bodies.{all_fulls, kept_views}
use Rattle.check_unsequenced.proofs.walks.walk_functions.Given as goal

abbrev pub invariant-loop-at : goal.invariant-loop-at
invariant-loop-at l = record {
  ready : IsReady l.walk;
  same : IsSameWalk l.initial.walk l.walk;
  gone : IsGone l.initial.walk l.walk (tested_fulls (all_fulls (functions_view (take l.at l.functions)) (map kept_views l.kept)));
}
