use Rattle.std.proofs.Common.{ap, ◌∙◌, None}
use Rattle.c_core.specs.View.{functions_view, program_view}
use Rattle.way_places.specs.Seeking.{best_of, places_of_functions}
use Rattle.way_places.proofs.PlaceLaws.{best_is_place}
use Rattle.way_places.proofs.place.place_at.Goals as goal

pub returns : goal.returns
returns c =
    c.functions.ensures
    ∙ ap (λ fs. best_of c.args.kind c.args.line c.args.column None (places_of_functions (functions_view fs))) c.as_slice.ensures
    ∙ best_is_place (program_view c.args.program.now) c.args.kind c.args.line c.args.column
