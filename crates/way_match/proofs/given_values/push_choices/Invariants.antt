use Rattle.std.proofs.Common.{◌≡◌, ◌++◌, drop}
use Rattle.way_places.specs.Inputs.{calls_view}
use Rattle.way_match.specs.inside.Gathered.{choices_in}
use Rattle.way_match.proofs.given_values.push_choices.Given as goal

-- with what is left it becomes what the whole gives
abbrev pub invariant-loop-call : goal.invariant-loop-call
invariant-loop-call l =
    (l.list ++ choices_in l.values (calls_view (drop l.call-index l.calls)) ≡ l.initial.list ++ choices_in l.values (calls_view l.calls))
