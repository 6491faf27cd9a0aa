use Rattle.std.proofs.Common.{◌≡◌, drop}
use Rattle.c_parser.specs.Tree.{exps}
use Rattle.c_parser.specs.View.{exprs_view}
use Rattle.c_parser.specs.Witness.{are_effectless}
use Rattle.c_parser.proofs.kinds.+effectless.Given as goal

-- what is left gives what the whole gives
abbrev pub invariant-are_effectless-loop-expr : goal.invariant-are_effectless-loop-expr
invariant-are_effectless-loop-expr l = (are_effectless (exps (exprs_view (drop l.expr-index l.exprs))) ≡ are_effectless (exps (exprs_view l.exprs)))
