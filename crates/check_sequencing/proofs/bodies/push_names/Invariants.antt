use Rattle.std.proofs.Common.{◌≡◌, ◌++◌, drop}
use Rattle.c_core.specs.TreeView.{names_view}
use Rattle.check_sequencing.specs.Bodies.{fulls_view, fulls_of_names}
use Rattle.check_sequencing.proofs.bodies.push_names.Given as goal

-- with what is left it becomes what the whole gives
abbrev pub invariant-loop-name : goal.invariant-loop-name
invariant-loop-name l =
    (fulls_view l.list.items ++ fulls_of_names (names_view (drop l.name-index l.names)) ≡ fulls_view l.initial.list.items ++ fulls_of_names (names_view l.names))
