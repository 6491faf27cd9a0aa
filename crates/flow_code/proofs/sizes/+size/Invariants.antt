use Rattle.std.proofs.Common.{◌≡◌, ◌+◌, ◌*◌, drop}
use Rattle.c_core.specs.View.{expr_view, exprs_view}
use Rattle.flow_code.specs.Sizes.{size_of_all}
use Rattle.flow_code.proofs.Weights.{weight, weight_of_all}
use Rattle.flow_code.proofs.sizes.+size.Given as goal

-- each part weighs less than the whole
abbrev pub decreases-size : goal.decreases-size
decreases-size l = 8 * weight (expr_view l.e.now) + 0

abbrev pub decreases-size_of_assign : goal.decreases-size_of_assign
decreases-size_of_assign l = 8 * (weight (expr_view l.target.now) + weight (expr_view l.from.now)) + 3

abbrev pub decreases-size_of_element : goal.decreases-size_of_element
decreases-size_of_element l = 8 * weight_of_all (exprs_view l.indexes.now) + 3

abbrev pub decreases-size_of_all : goal.decreases-size_of_all
decreases-size_of_all l = 8 * weight_of_all (exprs_view l.args.now) + 1

abbrev pub decreases-size_with_one : goal.decreases-size_with_one
decreases-size_with_one l = 8 * weight (expr_view l.e.now) + 1

abbrev pub decreases-size_with_two : goal.decreases-size_with_two
decreases-size_with_two l = 8 * (weight (expr_view l.a.now) + weight (expr_view l.b.now)) + 2

abbrev pub decreases-size_behind_operand : goal.decreases-size_behind_operand
decreases-size_behind_operand l = 8 * weight (expr_view l.b.now) + 1

abbrev pub decreases-size_of_aim : goal.decreases-size_of_aim
decreases-size_of_aim l = 8 * weight (expr_view l.target.now) + 0

abbrev pub decreases-size_of_second : goal.decreases-size_of_second
decreases-size_of_second l = 8 * weight (expr_view l.from.now) + 2

abbrev pub decreases-size_stored : goal.decreases-size_stored
decreases-size_stored l = 8 * weight (expr_view l.e.now) + 2

-- with what is left it becomes the whole
abbrev pub invariant-size_of_all-loop-e : goal.invariant-size_of_all-loop-e
invariant-size_of_all-loop-e l = l.sum + size_of_all (exprs_view (drop l.e-index l.args)) ≡ size_of_all (exprs_view l.args)
