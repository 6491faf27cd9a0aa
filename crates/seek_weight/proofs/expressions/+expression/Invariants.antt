use Rattle.std.proofs.Common.{◌≡◌, ◌+◌, drop}
use Rattle.c_core.specs.View.{exprs_view}
use Rattle.sym_weight.specs.Tally.{capped}
use Rattle.seek_weight.specs.SeekWeight.{arguments}
use Rattle.seek_weight.specs.inside.Weighing.{in_walk}
use Rattle.seek_weight.proofs.expressions.+expression.Given as goal

-- with what is left it becomes what the whole gives
abbrev pub invariant-arguments-loop-e : goal.invariant-arguments-loop-e
invariant-arguments-loop-e l = record {
  settled : capped l.sum ≡ l.sum;
  value : capped (l.sum + in_walk arguments l.walk (exprs_view (drop l.e-index l.args)))
      ≡ capped (in_walk arguments l.walk (exprs_view l.args));
}
