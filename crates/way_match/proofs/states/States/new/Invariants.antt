use Rattle.std.proofs.Common.{◌≡◌, ◌∷◌, replicate, None, Some}
use Rattle.way_match.proofs.states.States.new.Given as goal

abbrev pub invariant-loop : goal.invariant-loop
invariant-loop l = l.live.items ≡ Some 0 ∷ replicate l.counter None
