use Rattle.std.proofs.Common.{◌≡◌, ◌++◌, ap, ◌∙◌}
use Rattle.c_core.specs.Places.{places_of}
use Rattle.c_core.specs.View.{functions_view, program_view}
use Rattle.way_places.specs.Ordered.{are_ordered}
use Rattle.way_places.specs.Seeking.{places_of_functions}
use Rattle.way_places.proofs.OrderLaws.{places_ordered}
use Rattle.way_places.proofs.PlaceLaws.{places_of_all}
use Rattle.way_places.proofs.listed.places.Goals as goal

pub returns-clause-ordered : goal.returns-clause-ordered
returns-clause-ordered c =
    let exact : c.from_vec.result ≡ places_of (program_view c.args.program.now) =
    c.from_vec.ensures ∙ c.in_ok-push_functions.ensures ∙ ap (λ l. l ++ places_of_functions (functions_view c.as_slice.result.now)) c.new-list.ensures.items
    ∙ ap (λ fs. places_of_functions (functions_view fs)) c.as_slice.ensures ∙ places_of_all (functions_view c.args.program.now.functions) in
    ap are_ordered exact ∙ places_ordered (program_view c.args.program.now) c.args.program.now.checked.in_order
