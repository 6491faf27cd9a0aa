use Rattle.std.proofs.Common.{◌++◌, ap, ◌∙◌}
use Rattle.c_core.specs.View.{functions_view, program_view}
use Rattle.view_products.specs.Products.{products_in}
use Rattle.way_places.specs.Sought.{each_in_functions}
use Rattle.view_products.proofs.Among.{in_program}
use Rattle.view_products.proofs.bodies.products.Goals as goal

pub returns : goal.returns
returns c =
    c.in_ok-push_functions.ensures
    ∙ ap (λ l. l ++ each_in_functions products_in (functions_view c.as_slice.result.now)) c.new-list.ensures.items
    ∙ ap (λ fs. each_in_functions products_in (functions_view fs)) c.as_slice.ensures
    ∙ in_program (program_view c.args.program.now)
