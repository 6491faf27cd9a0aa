use Rattle.std.proofs.Common.{ap, ◌∙◌, None}
use Rattle.c_core.specs.View.{functions_view, program_view}
use Rattle.way_places.specs.Seeking.{first_of, is_wanted}
use Rattle.way_places.specs.Sought.{each_in_functions, parts_of}
use Rattle.way_places.specs.declared.expressions.Wanted.TheVariants.{EndsAt}
use Rattle.way_places.proofs.SoughtLaws.{first_is_call}
use Rattle.way_places.proofs.expressions.call_at.Goals as goal

pub returns : goal.returns
returns c =
    c.in_functions.ensures
    ∙ ap (λ fs. first_of (is_wanted (EndsAt c.args.close)) None (each_in_functions (parts_of (EndsAt c.args.close)) (functions_view fs))) c.as_slice.ensures
    ∙ first_is_call (program_view c.args.program.now) c.args.close
