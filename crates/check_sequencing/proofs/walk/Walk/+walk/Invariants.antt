use Rattle.std.proofs.Common.{take}
use Rattle.c_core.specs.TreeView.{exprs_view}
use Rattle.check_sequencing.specs.Typed.{tested_all}
use Rattle.check_sequencing.specs.Walking.{IsGone, IsReady, IsSameWalk}
use Rattle.check_sequencing.proofs.walk.Walk.+walk.Given as goal

abbrev pub invariant-arguments-loop-arg : goal.invariant-arguments-loop-arg
invariant-arguments-loop-arg l = record {
  ready : IsReady l.self;
  same : IsSameWalk l.initial.self l.self;
  gone : IsGone l.initial.self l.self (tested_all (exprs_view (take l.arg-index l.args)));
}
