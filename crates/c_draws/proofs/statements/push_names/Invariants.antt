use Rattle.std.proofs.Common.{◌≡◌, ◌++◌, drop}
use Rattle.c_core.specs.View.{names_view, program_view}
use Rattle.c_draws.specs.Drawing.{draws_of_names}
use Rattle.c_draws.proofs.statements.push_names.Given as goal

-- with what is left it becomes what the whole gives
abbrev pub invariant-loop-name : goal.invariant-loop-name
invariant-loop-name l =
    (l.list.items ++ draws_of_names (program_view l.program) (names_view (drop l.name-index l.names)) ≡ l.initial.list.items ++ draws_of_names (program_view l.program) (names_view l.names))
