use Rattle.std.proofs.Common.{◌+◌, ◌*◌}
use Rattle.c_core.specs.Tree.{Expr, Index, Unary, Cast, Binary, Logic, Choose, Comma, NoExp, MoreExp}
use Rattle.c_core.specs.View.{program_view, expr_view, exprs_view}
use Rattle.sym_invariants.specs.Valued.{weight_of}
use Rattle.sym_invariants.proofs.values.+value.Given as goal

-- each part weighs less than the whole
abbrev pub decreases-value_bits : goal.decreases-value_bits
decreases-value_bits l = 3 * weight_of (program_view l.program.now) (expr_view l.e.now) + 2

abbrev pub decreases-element : goal.decreases-element
decreases-element l = 3 * weight_of (program_view l.program.now) (Expr l.spot l.ty (Index l.object (exprs_view l.at.now))) + 1

abbrev pub decreases-indexed : goal.decreases-indexed
decreases-indexed l = 3 * weight_of (program_view l.program.now) (Expr l.spot l.ty (Index l.object (MoreExp (expr_view l.index.now) NoExp)))

abbrev pub decreases-indexed_twice : goal.decreases-indexed_twice
decreases-indexed_twice l = 3 * weight_of (program_view l.program.now) (Expr l.spot l.ty (Index l.object (MoreExp (expr_view l.row.now) (MoreExp (expr_view l.column.now) NoExp))))

abbrev pub decreases-unary : goal.decreases-unary
decreases-unary l = 3 * weight_of (program_view l.program.now) (Expr l.spot l.ty (Unary l.op (expr_view l.of.now)))

abbrev pub decreases-cast : goal.decreases-cast
decreases-cast l = 3 * weight_of (program_view l.program.now) (Expr l.spot l.ty (Cast (expr_view l.of.now)))

abbrev pub decreases-binary : goal.decreases-binary
decreases-binary l = 3 * weight_of (program_view l.program.now) (Expr l.spot l.ty (Binary l.op (expr_view l.left.now) (expr_view l.right.now)))

abbrev pub decreases-logic : goal.decreases-logic
decreases-logic l = 3 * weight_of (program_view l.program.now) (Expr l.spot l.ty (Logic l.both (expr_view l.left.now) (expr_view l.right.now)))

abbrev pub decreases-choice : goal.decreases-choice
decreases-choice l = 3 * weight_of (program_view l.program.now) (Expr l.spot l.ty (Choose l.mark (expr_view l.condition.now) (expr_view l.yes.now) (expr_view l.no.now)))

abbrev pub decreases-comma : goal.decreases-comma
decreases-comma l = 3 * weight_of (program_view l.program.now) (Expr l.spot l.ty (Comma (expr_view l.first.now) (expr_view l.last.now)))
