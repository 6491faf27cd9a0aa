use Rattle.std.proofs.Common.{◌≡◌, ◌+◌, drop}
use Rattle.c_core.specs.View.{exprs_view}
use Rattle.sym_weight.specs.Tally.{capped}
use Rattle.seek_weight.specs.SeekWeight.{initials}
use Rattle.seek_weight.specs.inside.Weighing.{in_walk}
use Rattle.seek_weight.proofs.statements.initials.Given as goal

-- with what is left it becomes what the whole gives
abbrev pub invariant-loop-e : goal.invariant-loop-e
invariant-loop-e l = record {
  settled : capped l.sum ≡ l.sum;
  value : capped (l.sum + in_walk initials l.walk l.object (exprs_view (drop l.e-index l.es)))
      ≡ capped (in_walk initials l.walk l.object (exprs_view l.es));
}
