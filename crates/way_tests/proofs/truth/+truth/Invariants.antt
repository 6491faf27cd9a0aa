use Rattle.std.proofs.Common.{◌+◌, ◌*◌}
use Rattle.c_core.specs.View.{expr_view}
use Rattle.c_meaning.proofs.Weights.{weight}
use Rattle.way_tests.proofs.truth.+truth.Given as goal

-- each part weighs less than the whole
abbrev pub decreases-truth : goal.decreases-truth
decreases-truth l = 3 * weight (expr_view l.e.now)

abbrev pub decreases-and : goal.decreases-and
decreases-and l = 3 * (weight (expr_view l.left.now) + weight (expr_view l.right.now)) + 1

abbrev pub decreases-or : goal.decreases-or
decreases-or l = 3 * (weight (expr_view l.left.now) + weight (expr_view l.right.now)) + 1

abbrev pub decreases-logic : goal.decreases-logic
decreases-logic l = 3 * (weight (expr_view l.left.now) + weight (expr_view l.right.now)) + 2
