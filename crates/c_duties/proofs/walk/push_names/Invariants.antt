use Rattle.std.proofs.Common.{◌≡◌, ◌++◌, drop}
use Rattle.c_core.specs.TreeView.{names_view}
use Rattle.c_core.specs.View.{program_view}
use Rattle.c_meaning.specs.Duties.{property_duties}
use Rattle.c_core.specs.Parts.{fulls_of_names}
use Rattle.c_duties.proofs.walk.push_names.Given as goal

-- with what is left it becomes what the whole gives
abbrev pub invariant-loop-name : goal.invariant-loop-name
invariant-loop-name l =
    (l.list.items ++ property_duties (program_view l.program) (fulls_of_names (names_view (drop l.name-index l.names))) ≡ l.initial.list.items ++ property_duties (program_view l.program) (fulls_of_names (names_view l.names)))
