use Rattle.std.proofs.Common.{◌≡◌, ◌++◌, drop}
use Rattle.c_core.specs.TreeView.{exprs_view}
use Rattle.check_sequencing.specs.Bodies.{fulls_view, initializers}
use Rattle.check_sequencing.proofs.bodies.push_initializers.Given as goal

-- with what is left it becomes what the whole gives
abbrev pub invariant-loop-e : goal.invariant-loop-e
invariant-loop-e l =
    (fulls_view l.list.items ++ initializers l.object (exprs_view (drop l.e-index l.es)) ≡ fulls_view l.initial.list.items ++ initializers l.object (exprs_view l.es))
