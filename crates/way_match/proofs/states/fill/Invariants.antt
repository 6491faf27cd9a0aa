use Rattle.std.proofs.Common.{◌≡◌, ◌≤◌, [], length, drop}
use Rattle.way_match.specs.inside.Steps.{onto}
use Rattle.way_match.specs.inside.Arena.{chain, Held}
use Rattle.way_match.proofs.states.fill.Given as goal

abbrev pub invariant-loop-left : goal.invariant-loop-left
invariant-loop-left l = (l.left ≤ length l.room) × Held l.nodes l.left l.at ×
    (onto (drop l.left l.room) (chain l.nodes l.left l.at) ≡ onto [] (chain l.fn.nodes (length l.fn.room) l.fn.last))

abbrev pub decreases-loop-left : goal.decreases-loop-left
decreases-loop-left l = l.left
