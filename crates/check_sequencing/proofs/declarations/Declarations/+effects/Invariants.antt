use Rattle.std.proofs.Common.{◌≡◌, ◌++◌, drop}
use Rattle.c_core.specs.TreeView.{exprs_view}
use Rattle.check_sequencing.specs.Typed.{effects_all}
use Rattle.check_sequencing.proofs.declarations.Declarations.+effects.Given as goal

-- with what is left it becomes what the whole gives
abbrev pub invariant-push_all-loop-e : goal.invariant-push_all-loop-e
invariant-push_all-loop-e l =
    (l.list.items ++ effects_all l.self.objects.now l.self.bodies (exprs_view (drop l.e-index l.es))
    ≡ l.fn.list.items ++ effects_all l.self.objects.now l.self.bodies (exprs_view l.es))
