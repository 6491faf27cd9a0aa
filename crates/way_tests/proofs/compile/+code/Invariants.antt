use Rattle.std.proofs.Common.{◌+◌, ◌*◌}
use Rattle.c_core.specs.View.{expr_view}
use Rattle.c_meaning.proofs.Weights.{weight}
use Rattle.way_tests.proofs.compile.+code.Given as goal

-- each part weighs less than the whole
abbrev pub decreases-code : goal.decreases-code
decreases-code l = 2 * weight (expr_view l.e.now)

abbrev pub decreases-logic : goal.decreases-logic
decreases-logic l = 2 * (weight (expr_view l.left.now) + weight (expr_view l.right.now)) + 1
