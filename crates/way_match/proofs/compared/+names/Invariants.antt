use Rattle.std.proofs.Common.{◌≡◌, drop}
use Rattle.c_core.specs.TreeView.{exprs_view}
use Rattle.c_meaning.specs.Parts.{some_argument}
use Rattle.way_match.specs.Given.{node_names}
use Rattle.way_match.proofs.compared.+names.Given as goal

-- what is left has what the whole has
abbrev pub invariant-some_has_names-loop-e : goal.invariant-some_has_names-loop-e
invariant-some_has_names-loop-e l = (some_argument node_names (exprs_view (drop l.e-index l.es)) ≡ some_argument node_names (exprs_view l.es))
