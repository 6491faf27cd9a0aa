use Rattle.std.proofs.Common.{◌≡◌, ◌++◌, drop}
use Rattle.std.specs.List.{flat_map}
use Rattle.c_core.specs.View.{program_view}
use Rattle.c_draws.specs.Drawing.{draws_of_function}
use Rattle.c_draws.proofs.program.push_functions.Given as goal

-- with what is left it becomes what the whole gives
abbrev pub invariant-loop-function : goal.invariant-loop-function
invariant-loop-function l =
    (l.list.items ++ flat_map (draws_of_function (program_view l.program)) (drop l.function-index l.functions) ≡ l.initial.list.items ++ flat_map (draws_of_function (program_view l.program)) l.functions)
