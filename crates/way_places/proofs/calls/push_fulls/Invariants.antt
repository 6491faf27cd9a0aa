use Rattle.std.proofs.Common.{◌≡◌, ◌++◌, drop}
use Rattle.std.specs.List.{flat_map}
use Rattle.way_places.specs.Calls.{calls_of, ends_view, fulls_view}
use Rattle.way_places.proofs.calls.push_fulls.Given as goal

-- with what is left it becomes what the whole gives
abbrev pub invariant-loop-full : goal.invariant-loop-full
invariant-loop-full l =
    (ends_view l.list.items ++ flat_map calls_of (fulls_view (drop l.full-index l.fulls)) ≡ ends_view l.initial.list.items ++ flat_map calls_of (fulls_view l.fulls))
