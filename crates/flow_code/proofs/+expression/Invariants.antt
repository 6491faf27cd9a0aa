use Rattle.std.proofs.Common.{◌≡◌, ◌+◌, ◌*◌, ◌++◌, drop, length}
use Rattle.c_core.specs.View.{program_view, expr_view, exprs_view}
use Rattle.flow_code.specs.Expressions.{args_code, left_by}
use Rattle.flow_code.proofs.Weights.{weight, weight_of_all}
use Rattle.flow_code.proofs.+expression.Given as goal

-- each part weighs less than the whole
abbrev pub decreases-expressions::expression : goal.decreases-expressions::expression
decreases-expressions::expression l = 8 * weight (expr_view l.e.now) + 0

abbrev pub decreases-expressions::binary : goal.decreases-expressions::binary
decreases-expressions::binary l = 8 * (weight (expr_view l.left.now) + weight (expr_view l.right.now)) + 4

abbrev pub decreases-expressions::element : goal.decreases-expressions::element
decreases-expressions::element l = 8 * weight_of_all (exprs_view l.indexes.now) + 5

abbrev pub decreases-elements::element_cell : goal.decreases-elements::element_cell
decreases-elements::element_cell l = 8 * weight_of_all (exprs_view l.indexes.now) + 4

abbrev pub decreases-elements::in_row : goal.decreases-elements::in_row
decreases-elements::in_row l = 8 * (weight (expr_view l.row.now) + weight (expr_view l.column.now)) + 3

abbrev pub decreases-expressions::unary : goal.decreases-expressions::unary
decreases-expressions::unary l = 8 * weight (expr_view l.of.now) + 2

abbrev pub decreases-expressions::cast : goal.decreases-expressions::cast
decreases-expressions::cast l = 8 * weight (expr_view l.of.now) + 3

abbrev pub decreases-expressions::cast_to : goal.decreases-expressions::cast_to
decreases-expressions::cast_to l = 8 * weight (expr_view l.of.now) + 2

abbrev pub decreases-expressions::comma : goal.decreases-expressions::comma
decreases-expressions::comma l = 8 * (weight (expr_view l.first.now) + weight (expr_view l.last.now)) + 1

abbrev pub decreases-operands::prepare : goal.decreases-operands::prepare
decreases-operands::prepare l = 8 * weight (expr_view l.e.now) + 1

abbrev pub decreases-operands::prepare_second : goal.decreases-operands::prepare_second
decreases-operands::prepare_second l = 8 * weight (expr_view l.e.now) + 1

abbrev pub decreases-operands::prepare_both : goal.decreases-operands::prepare_both
decreases-operands::prepare_both l = 8 * (weight (expr_view l.a.now) + weight (expr_view l.b.now)) + 2

abbrev pub decreases-choices::truth : goal.decreases-choices::truth
decreases-choices::truth l = 8 * weight (expr_view l.e.now) + 2

abbrev pub decreases-choices::logic : goal.decreases-choices::logic
decreases-choices::logic l = 8 * (weight (expr_view l.left.now) + weight (expr_view l.right.now)) + 3

abbrev pub decreases-choices::arm : goal.decreases-choices::arm
decreases-choices::arm l = 8 * weight (expr_view l.e.now) + 1

abbrev pub decreases-choices::choose : goal.decreases-choices::choose
decreases-choices::choose l = 8 * (weight (expr_view l.test.now) + weight (expr_view l.yes.now) + weight (expr_view l.no.now)) + 2

abbrev pub decreases-targets::stored : goal.decreases-targets::stored
decreases-targets::stored l = 8 * weight (expr_view l.e.now) + 2

abbrev pub decreases-targets::aim : goal.decreases-targets::aim
decreases-targets::aim l = 8 * weight (expr_view l.target.now) + 0

abbrev pub decreases-targets::assign : goal.decreases-targets::assign
decreases-targets::assign l = 8 * (weight (expr_view l.target.now) + weight (expr_view l.from.now)) + 4

abbrev pub decreases-targets::replace : goal.decreases-targets::replace
decreases-targets::replace l = 8 * (weight (expr_view l.target.now) + weight (expr_view l.from.now)) + 3

abbrev pub decreases-targets::update : goal.decreases-targets::update
decreases-targets::update l = 8 * (weight (expr_view l.target.now) + weight (expr_view l.from.now)) + 3

abbrev pub decreases-targets::step : goal.decreases-targets::step
decreases-targets::step l = 8 * weight (expr_view l.target.now) + 1

abbrev pub decreases-calls::arguments : goal.decreases-calls::arguments
decreases-calls::arguments l = 8 * weight_of_all (exprs_view l.args.now) + 1

abbrev pub decreases-calls::call : goal.decreases-calls::call
decreases-calls::call l = 8 * weight_of_all (exprs_view l.args.now) + 2

-- what is left does what the whole does
abbrev pub invariant-calls::arguments-loop-e : goal.invariant-calls::arguments-loop-e
invariant-calls::arguments-loop-e l = record {
  code : l.ops ++ args_code (program_view l.program) l.around (length l.ops) l.left l.then (exprs_view (drop l.e-index l.args)) ≡ l.initial.ops ++ args_code (program_view l.program) l.around (length l.initial.ops) l.initial.left l.then (exprs_view l.args);
  due : left_by (exprs_view (drop l.e-index l.args)) l.left ≡ left_by (exprs_view l.args) l.initial.left;
}
