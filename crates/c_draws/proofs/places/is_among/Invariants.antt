use Rattle.std.proofs.Common.{◌≡◌, take}
use Rattle.std.specs.List.{All}
use Rattle.c_draws.specs.declared.places.DrawPlace.{DrawPlace}
use Rattle.c_draws.proofs.places.is_among.Given as goal

-- none so far is the place
abbrev pub invariant-loop-other : goal.invariant-loop-other
invariant-loop-other l = All (λ (x : DrawPlace). x ≡ l.place → ⊥) (take l.other-index l.places)
