use Rattle.std.proofs.Common.{◌≡◌, ◌++◌, drop, map}
use Rattle.c_core.specs.TreeView.{functions_view}
use Rattle.seek_weight.specs.inside.Weighing.{comes_to}
use Rattle.seek_weight.proofs.limits.totals_of.Given as goal

-- with those of the functions that are left they become those of all
abbrev pub invariant-loop-function : goal.invariant-loop-function
invariant-loop-function l = (l.all.items ++ map (comes_to l.walk) (functions_view (drop l.function-index l.functions)) ≡ map (comes_to l.walk) (functions_view l.functions))
