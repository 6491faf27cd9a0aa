use Rattle.std.proofs.Common.{◌≡◌, ◌+◌, drop}
use Rattle.c_core.specs.View.{stmts_view, switch_view}
use Rattle.sym_weight.specs.Tally.{capped}
use Rattle.seek_weight.specs.SeekWeight.{statements}
use Rattle.seek_weight.specs.inside.Weighing.{in_walk}
use Rattle.seek_weight.proofs.statements.+statement.Given as goal

-- with what is left it becomes what the whole gives
abbrev pub invariant-statements-loop-s : goal.invariant-statements-loop-s
invariant-statements-loop-s l = record {
  settled : capped l.sum ≡ l.sum;
  value : capped (l.sum + in_walk statements l.walk l.returns (stmts_view (drop l.s-index l.body)))
      ≡ capped (in_walk statements l.walk l.returns (stmts_view l.body));
}

abbrev pub invariant-statements_of_arms-loop-arm : goal.invariant-statements_of_arms-loop-arm
invariant-statements_of_arms-loop-arm l = record {
  settled : capped l.sum ≡ l.sum;
  value : capped (l.sum + in_walk statements l.walk l.returns (switch_view (drop l.arm-index l.arms)))
      ≡ capped (in_walk statements l.walk l.returns (switch_view l.arms));
}
