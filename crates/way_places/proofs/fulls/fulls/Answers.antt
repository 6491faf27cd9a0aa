use Rattle.std.proofs.Common.{◌++◌, ap, ◌∙◌}
use Rattle.c_core.specs.View.{functions_view, program_view}
use Rattle.way_places.specs.Calls.{alone, fulls_view}
use Rattle.way_places.specs.Sought.{each_in_functions}
use Rattle.way_places.proofs.CallLaws.{fulls_of_all}
use Rattle.way_places.proofs.fulls.fulls.Goals as goal

pub returns : goal.returns
returns c =
    c.in_ok-push_functions.ensures
    ∙ ap (λ l. fulls_view l ++ each_in_functions alone (functions_view c.as_slice.result.now)) c.new-list.ensures.items
    ∙ ap (λ fs. each_in_functions alone (functions_view fs)) c.as_slice.ensures
    ∙ fulls_of_all (program_view c.args.program.now)
