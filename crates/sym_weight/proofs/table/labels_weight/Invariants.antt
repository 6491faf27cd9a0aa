use Rattle.std.proofs.Common.{◌≡◌, ◌+◌, drop}
use Rattle.c_core.specs.Typing.{labels_in}
use Rattle.c_core.specs.View.{switch_view}
use Rattle.sym_weight.specs.Table.{labels_weight}
use Rattle.sym_weight.specs.Tally.{capped}
use Rattle.sym_weight.proofs.table.labels_weight.Given as goal

-- with what is left it becomes what the whole gives
abbrev pub invariant-loop-arm : goal.invariant-loop-arm
invariant-loop-arm l = record {
  settled : capped l.sum ≡ l.sum;
  value : capped (l.sum + labels_weight l.model l.ty (labels_in (switch_view (drop l.arm-index l.arms)))) ≡ capped (labels_weight l.model l.ty (labels_in (switch_view l.arms)));
}
