use Rattle.std.proofs.Common.{List, take, ◌++◌}
use Rattle.check_sequencing.specs.declared.effect.Effect.{Effect}
use Rattle.check_sequencing.specs.Deciding.{IsSeen}
use Rattle.check_sequencing.proofs.seen.Seen.add.Given as goal

abbrev pub invariant-loop-effect : goal.invariant-loop-effect
invariant-loop-effect l = record {
  seen : (before : List Effect) → IsSeen l.initial.self before → IsSeen l.self (before ++ take l.effect-index l.effects);
}
