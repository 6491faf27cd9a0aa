use Rattle.std.proofs.Common.{◌≡◌, ◌++◌, drop}
use Rattle.way_places.specs.Aims.{error_starts}
use Rattle.way_places.specs.Calls.{ends_view}
use Rattle.way_places.proofs.aims.push_errors.Given as goal

-- with what is left it becomes what the whole gives
abbrev pub invariant-loop-call : goal.invariant-loop-call
invariant-loop-call l = (l.spots.items ++ error_starts (ends_view (drop l.call-index l.calls)) ≡ l.initial.spots.items ++ error_starts (ends_view l.calls))
