use Rattle.std.proofs.Common.{◌≡◌, ◌++◌, drop}
use Rattle.c_core.specs.TreeView.{functions_view}
use Rattle.c_core.specs.View.{program_view}
use Rattle.c_meaning.specs.Duties.{function_duties}
use Rattle.c_duties.proofs.walk.push_functions.Given as goal

-- with what is left it becomes what the whole gives
abbrev pub invariant-loop-function : goal.invariant-loop-function
invariant-loop-function l =
    (l.list.items ++ function_duties (program_view l.program) (functions_view (drop l.function-index l.functions)) ≡ l.initial.list.items ++ function_duties (program_view l.program) (functions_view l.functions))
