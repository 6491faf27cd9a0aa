use Rattle.std.proofs.Common.{[], ◌∷◌}
use Rattle.c_core.specs.TreeView.{expr_view}
use Rattle.check_sequencing.specs.Typed.{Initial, tested}
use Rattle.check_sequencing.proofs.WalkLaws.{gone_both}
use Rattle.check_sequencing.proofs.walk.Walk.initializer.Goals as goal

pub returns-clause-gone : goal.returns-clause-gone
returns-clause-gone c =
    gone_both c.args.self.now c.test_initializer.new.self c.full_expression.new.self (Initial c.args.object (expr_view c.args.e.now) ∷ []) (tested (expr_view c.args.e.now))
    c.in_ok-test_initializer.ensures.same c.in_ok-test_initializer.ensures.gone c.in_ok-full_expression.ensures.gone
