use Rattle.std.proofs.Common.{◌≡◌, ◌+◌, drop}
use Rattle.c_core.specs.View.{exprs_view}
use Rattle.flow_code.specs.Sizes.{size_of_values}
use Rattle.flow_code.proofs.sizes.size_of_values.Given as goal

-- with what is left it becomes the whole
abbrev pub invariant-loop-e : goal.invariant-loop-e
invariant-loop-e l = l.sum + size_of_values (exprs_view (drop l.e-index l.values)) ≡ size_of_values (exprs_view l.values)
