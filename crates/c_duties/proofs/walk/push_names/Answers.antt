use Rattle.std.proofs.Common.{◌+◌, ap, drop}
use Rattle.c_core.specs.View.{init_view, names_view, program_view}
use Rattle.c_core.specs.Parts.{fulls_of_init, fulls_of_names}
use Rattle.c_core.proofs.ArmLaws.{item_first}
use Rattle.c_duties.proofs.Walked.{with_the_rest}
use Rattle.c_duties.proofs.walk.push_names.Goals as goal

pub loop-name-preserved : goal.loop-name-preserved
loop-name-preserved c =
    with_the_rest (program_view c.args.program.now) _ _ (fulls_of_init (init_view c.name-item.result.init)) (fulls_of_names (names_view (drop (c.loop-name.name-index + 1) c.args.names.now))) _ _
    (ap (λ ns. fulls_of_names (names_view ns)) (item_first c.args.names.now c.loop-name.name-index c.name-item.result c.loop-name-test.true c.name-item.is))
    c.loop-name.invariant c.in_ok-push_init.ensures
