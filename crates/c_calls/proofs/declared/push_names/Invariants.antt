use Rattle.std.proofs.Common.{◌≡◌, ◌++◌, drop}
use Rattle.c_core.specs.TreeView.{names_view}
use Rattle.c_core.specs.Parts.{objects_of_names}
use Rattle.c_calls.proofs.declared.push_names.Given as goal

-- with what is left it becomes what the whole gives
abbrev pub invariant-loop-name : goal.invariant-loop-name
invariant-loop-name l =
    (l.objects.items ++ objects_of_names (names_view (drop l.name-index l.names)) ≡ l.initial.objects.items ++ objects_of_names (names_view l.names))
