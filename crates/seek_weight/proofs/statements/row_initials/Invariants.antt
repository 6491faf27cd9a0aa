use Rattle.std.proofs.Common.{◌≡◌, ◌+◌, drop}
use Rattle.c_core.specs.View.{rows_view}
use Rattle.sym_weight.specs.Tally.{capped}
use Rattle.seek_weight.specs.SeekWeight.{row_initials}
use Rattle.seek_weight.specs.inside.Weighing.{in_walk}
use Rattle.seek_weight.proofs.statements.row_initials.Given as goal

-- with what is left it becomes what the whole gives
abbrev pub invariant-loop-row : goal.invariant-loop-row
invariant-loop-row l = record {
  settled : capped l.sum ≡ l.sum;
  value : capped (l.sum + in_walk row_initials l.walk l.object (rows_view (drop l.row-index l.rows)))
      ≡ capped (in_walk row_initials l.walk l.object (rows_view l.rows));
}
