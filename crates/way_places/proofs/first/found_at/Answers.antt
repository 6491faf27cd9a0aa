use Rattle.std.proofs.Common.{ap, sym, ◌∙◌}
use Rattle.std.proofs.lemmas.List.{take_rest}
use Rattle.std.specs.List.{slice_get}
use Rattle.std.specs.Option.{option_map}
use Rattle.c_core.specs.Parts.{same_spot}
use Rattle.way_places.specs.Ordered.{kept_if}
use Rattle.way_places.proofs.TextLaws.{first_found}
use Rattle.way_places.proofs.first.found_at.Goals as goal

pub returns : goal.returns
returns g c =
    c.only_at.ensures
    ∙ ap (λ o. option_map (λ x. x.1) (kept_if (λ x. same_spot x.0 c.args.spot) o)) (c.first.ensures.value ∙ ap (λ l. slice_get l 0) (take_rest c.args.all.now c.earlier-index.result))
    ∙ sym (first_found c.args.all.now c.args.spot c.earlier-index.result c.requires c.earlier-index.ensures.point)
