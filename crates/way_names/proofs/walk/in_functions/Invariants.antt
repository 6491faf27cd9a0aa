use Rattle.std.proofs.Common.{◌≡◌, drop}
use Rattle.c_core.specs.TreeView.{functions_view}
use Rattle.way_names.specs.Walk.{start, walk_view, walked_functions}
use Rattle.way_names.proofs.walk.in_functions.Given as goal

-- what is left gives what the whole gives
abbrev pub invariant-loop-function : goal.invariant-loop-function
invariant-loop-function l = walked_functions (walk_view l.walk) (functions_view (drop l.function-index l.functions)) ≡ walked_functions start (functions_view l.functions)
