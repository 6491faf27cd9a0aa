use Rattle.std.proofs.Common.{◌≡◌, drop}
use Rattle.c_core.specs.TreeView.{exprs_view}
use Rattle.c_meaning.specs.Duties.{may_violate}
use Rattle.c_meaning.specs.Parts.{some_argument}
use Rattle.c_duties.proofs.violating.+expression.Given as goal

-- none before it does
abbrev pub invariant-argument_violates-loop-e : goal.invariant-argument_violates-loop-e
invariant-argument_violates-loop-e l =
    (some_argument (may_violate l.property l.model) (exprs_view (drop l.e-index l.es)) ≡ some_argument (may_violate l.property l.model) (exprs_view l.es))
