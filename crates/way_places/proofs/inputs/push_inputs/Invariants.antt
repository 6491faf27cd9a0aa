use Rattle.std.proofs.Common.{◌≡◌, ◌++◌, drop}
use Rattle.way_places.specs.Calls.{ends_view}
use Rattle.way_places.specs.Inputs.{calls_view, inputs_among}
use Rattle.way_places.proofs.inputs.push_inputs.Given as goal

-- with what is left it becomes what the whole gives
abbrev pub invariant-loop-call : goal.invariant-loop-call
invariant-loop-call l =
    (calls_view l.list.items ++ inputs_among (ends_view (drop l.call-index l.calls)) ≡ calls_view l.initial.list.items ++ inputs_among (ends_view l.calls))
