use Rattle.std.proofs.Common.{ap, sym, ◌∙◌}
use Rattle.std.proofs.lemmas.List.{take_rest}
use Rattle.std.specs.List.{slice_get}
use Rattle.c_core.specs.Places.{is_named}
use Rattle.way_places.specs.Ordered.{kept_if}
use Rattle.way_places.proofs.TextLaws.{leftmost_from}
use Rattle.way_places.proofs.leftmost.named_in.Goals as goal

pub returns : goal.returns
returns c =
    let spots = c.args.spots.now in
    c.only_named.ensures
    ∙ ap (kept_if (is_named c.args.line c.args.column)) (c.first.ensures.value ∙ ap (λ l. slice_get l 0) (take_rest spots c.earlier-index.result))
    ∙ sym (leftmost_from c.args.line c.args.column spots c.earlier-index.result c.start-from.result c.requires c.start-from.ensures c.earlier-index.ensures.point)
