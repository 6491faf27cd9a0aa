use Rattle.std.proofs.Common.{drop}
use Rattle.c_core.specs.TreeView.{exprs_view}
use Rattle.check_sequencing.specs.Effects.{SomeBehind}
use Rattle.check_sequencing.specs.Deciding.{IsKnown, IsSameSource, IsSeen, bodies_of, objects_of}
use Rattle.check_sequencing.specs.Walking.{SomePairBy, arguments_by}
use Rattle.check_sequencing.proofs.clash.Source.is_call_unordered.Given as goal

-- two arguments have no order exactly where one that is left has none with those before it
abbrev pub invariant-loop-arg : goal.invariant-loop-arg
invariant-loop-arg l = record {
  known : IsKnown l.self;
  same : IsSameSource l.initial.self l.self;
  seen : IsSeen l.seen l.before.items;
  forth : SomeBehind (bodies_of l.initial.self) (objects_of l.initial.self) l.before.items (arguments_by l.initial.self (exprs_view (drop l.arg-index l.args)))
      → SomePairBy l.initial.self (arguments_by l.initial.self (exprs_view l.args));
  back : SomePairBy l.initial.self (arguments_by l.initial.self (exprs_view l.args))
      → SomeBehind (bodies_of l.initial.self) (objects_of l.initial.self) l.before.items (arguments_by l.initial.self (exprs_view (drop l.arg-index l.args)));
}
