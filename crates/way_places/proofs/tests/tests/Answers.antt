use Rattle.std.proofs.Common.{◌++◌, ap, ◌∙◌}
use Rattle.c_core.specs.View.{functions_view, program_view}
use Rattle.way_places.specs.Seeking.{statements_of_functions}
use Rattle.way_places.specs.Switches.{tests_among}
use Rattle.way_places.proofs.BeforeLaws.{statements_of_all}
use Rattle.way_places.proofs.tests.tests.Goals as goal

pub returns : goal.returns
returns c =
    c.in_ok-push_functions.ensures
    ∙ ap (λ l. l ++ tests_among (statements_of_functions (functions_view c.as_slice.result.now))) c.new-list.ensures.items
    ∙ ap (λ fs. tests_among (statements_of_functions (functions_view fs))) c.as_slice.ensures
    ∙ ap tests_among (statements_of_all (program_view c.args.program.now).functions)
