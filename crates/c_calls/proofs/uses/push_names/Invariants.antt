use Rattle.std.proofs.Common.{◌≡◌, ◌++◌, drop}
use Rattle.c_core.specs.TreeView.{names_view}
use Rattle.c_calls.specs.Uses.{uses_of_names}
use Rattle.c_calls.proofs.uses.push_names.Given as goal

-- with what is left it becomes what the whole gives
abbrev pub invariant-loop-name : goal.invariant-loop-name
invariant-loop-name l =
    (l.uses.items ++ uses_of_names (names_view (drop l.name-index l.names)) ≡ l.initial.uses.items ++ uses_of_names (names_view l.names))
