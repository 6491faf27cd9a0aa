use Rattle.std.proofs.Common.{ap, ◌∙◌, None}
use Rattle.c_core.specs.View.{functions_view, program_view}
use Rattle.way_places.specs.Seeking.{before_of, statements_of_functions}
use Rattle.way_places.proofs.BeforeLaws.{before_is_found}
use Rattle.way_places.proofs.before.stmt_before.Goals as goal

pub returns : goal.returns
returns c =
    c.in_functions.ensures
    ∙ ap (λ fs. before_of c.args.spot None (statements_of_functions (functions_view fs))) c.as_slice.ensures
    ∙ before_is_found (program_view c.args.program.now) c.args.spot
