use Rattle.std.proofs.Common.{◌≡◌, ◌+◌, drop}
use Rattle.c_core.specs.View.{names_view}
use Rattle.flow_code.specs.Sizes.{size_of_names}
use Rattle.flow_code.proofs.sizes.size_of_names.Given as goal

-- with what is left it becomes the whole
abbrev pub invariant-loop-name : goal.invariant-loop-name
invariant-loop-name l = l.sum + size_of_names (names_view (drop l.name-index l.names)) ≡ size_of_names (names_view l.names)
