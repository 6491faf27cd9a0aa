use Rattle.std.proofs.Common.{refl}
use Rattle.c_meaning.specs.declared.run.Way.TheVariants.{Default}
use Rattle.seek_passes.proofs.Arms.{truth_taken, truth_elsewhere}
use Rattle.seek_passes.proofs.ways.truth_way.Goals as goal

pub returns-in-Truth : goal.returns-in-Truth
returns-in-Truth c = truth_taken c.args.net.now c.args.way c.in-Truth.taken c.args.truth c.kept_if.result c.in-Truth.is c.kept_if.ensures c.requires

pub returns-in-Case : goal.returns-in-Case
returns-in-Case c = truth_elsewhere c.args.net.now c.args.way _ c.args.truth c.known.result c.in-Case.is (λ b. refl) c.known.ensures

pub returns-in-Default : goal.returns-in-Default
returns-in-Default c = truth_elsewhere c.args.net.now c.args.way Default c.args.truth c.known-in-Default.result c.in-Default.is (λ b. refl) c.known-in-Default.ensures
