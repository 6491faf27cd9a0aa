use Rattle.std.proofs.Common.{ap, ◌∙◌, None}
use Rattle.c_core.specs.View.{functions_view, program_view}
use Rattle.way_places.specs.Seeking.{statements_of_functions, type_from}
use Rattle.way_places.proofs.SwitchLaws.{switch_is_found}
use Rattle.way_places.proofs.switches.switch_at.Goals as goal

pub returns : goal.returns
returns c =
    c.in_functions.ensures
    ∙ ap (λ fs. type_from c.args.spot None (statements_of_functions (functions_view fs))) c.as_slice.ensures
    ∙ switch_is_found (program_view c.args.program.now) c.args.spot
