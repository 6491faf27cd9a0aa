use Rattle.std.proofs.Common.{◌≡◌, ◌+◌, drop}
use Rattle.c_core.specs.View.{names_view}
use Rattle.sym_weight.specs.Tally.{capped}
use Rattle.seek_weight.specs.SeekWeight.{declared}
use Rattle.seek_weight.specs.inside.Weighing.{in_walk}
use Rattle.seek_weight.proofs.statements.declared.Given as goal

-- with what is left it becomes what the whole gives
abbrev pub invariant-loop-name : goal.invariant-loop-name
invariant-loop-name l = record {
  settled : capped l.sum ≡ l.sum;
  value : capped (l.sum + in_walk declared l.walk (names_view (drop l.name-index l.names)))
      ≡ capped (in_walk declared l.walk (names_view l.names));
}
