use Rattle.std.proofs.Common.{◌++◌, ap, ◌∙◌}
use Rattle.std.specs.List.{flat_map}
use Rattle.way_places.specs.Calls.{calls_of, ends_view, fulls_view}
use Rattle.way_places.proofs.CallLaws.{calls_of_all}
use Rattle.way_places.proofs.calls.calls.Goals as goal

pub returns : goal.returns
returns c =
    c.in_ok-push_fulls.ensures
    ∙ ap (λ l. ends_view l ++ flat_map calls_of (fulls_view c.args.fulls.now)) c.new-list.ensures.items
    ∙ calls_of_all (fulls_view c.args.fulls.now)
