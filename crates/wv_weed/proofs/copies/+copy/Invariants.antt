use Rattle.std.proofs.Common.{◌≡◌, drop}
use Rattle.c_core.specs.View.{exprs_view}
use Rattle.wv_weed.proofs.Copied.{before}
use Rattle.wv_weed.proofs.copies.+copy.Given as goal

abbrev pub invariant-expressions-loop-e : goal.invariant-expressions-loop-e
invariant-expressions-loop-e l = before l.all (exprs_view (drop l.e-index l.es)) ≡ exprs_view l.es
