use Rattle.std.proofs.Common.{take}
use Rattle.check_sequencing.specs.Effects.{Meets, OneOf}
use Rattle.check_sequencing.specs.Deciding.{IsKnown, IsSameSource, bodies_of, objects_of}
use Rattle.check_sequencing.proofs.clash.Source.some_meets.Given as goal

-- none of the effects so far does
abbrev pub invariant-loop-effect : goal.invariant-loop-effect
invariant-loop-effect l = record {
  known : IsKnown l.self;
  same : IsSameSource l.initial.self l.self;
  none : OneOf (Meets (bodies_of l.initial.self) (objects_of l.initial.self) l.before) (take l.effect-index l.effects) → ⊥;
}
