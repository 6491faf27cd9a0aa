use Rattle.std.proofs.Common.{◌≡◌, ◌+◌, ◌*◌, max, drop}
use Rattle.c_parser.specs.Tree.{exps}
use Rattle.c_parser.specs.View.{exprs_view}
use Rattle.c_parser.specs.declared.tree.RawExpr.{size-RawExpr}
use Rattle.check_rules.specs.Noting.{noted_parts}
use Rattle.check_rules.specs.Parts.{parts_of}
use Rattle.check_rules.specs.Typed.{typed_all}
use Rattle.check_types.specs.Contexts.{items_in, bodies_in, entries_in}
use Rattle.check_types.proofs.ListLaws.{before}
use Rattle.check_types.proofs.trees.+expression.Given as goal

-- twice the depth, and 1 more for what has several parts
abbrev pub decreases-whole : goal.decreases-whole
decreases-whole l = 2 * goal.size-whole l

abbrev pub decreases-node : goal.decreases-node
decreases-node l = 2 * goal.size-node l + 1

abbrev pub decreases-binary : goal.decreases-binary
decreases-binary l = 2 * max (size-RawExpr l.left.now) (size-RawExpr l.right.now) + 1

abbrev pub decreases-logic : goal.decreases-logic
decreases-logic l = 2 * max (size-RawExpr l.left.now) (size-RawExpr l.right.now) + 1

abbrev pub decreases-choice : goal.decreases-choice
decreases-choice l = 2 * max (size-RawExpr l.test.now) (max (size-RawExpr l.yes.now) (size-RawExpr l.no.now)) + 1

abbrev pub decreases-comma : goal.decreases-comma
decreases-comma l = 2 * max (size-RawExpr l.first.now) (size-RawExpr l.last.now) + 1

abbrev pub decreases-assign : goal.decreases-assign
decreases-assign l = 2 * max (size-RawExpr l.target.now) (size-RawExpr l.from.now) + 1

abbrev pub decreases-values : goal.decreases-values
decreases-values l = 2 * goal.size-values l + 1

abbrev pub invariant-values-loop-e : goal.invariant-values-loop-e
invariant-values-loop-e l = record {
  typed : before l.all (typed_all l.context.model (bodies_in l.context) (entries_in l.context) (exps (exprs_view (drop l.e-index l.es)))) ≡ typed_all l.context.model (bodies_in l.context) (entries_in l.context) (exps (exprs_view l.es));
  noted : noted_parts l.context.model (items_in l.context) l.best (parts_of (entries_in l.context) (exps (exprs_view (drop l.e-index l.es)))) ≡ noted_parts l.context.model (items_in l.context) l.fn.best (parts_of (entries_in l.context) (exps (exprs_view l.es)));
}
