use Rattle.std.proofs.Common.{◌≡◌, false, take}
use Rattle.run_state.specs.Drawing.{any_at}
use Rattle.run_state.proofs.choices.place_of.Given as goal

-- none so far
abbrev pub invariant-loop-index : goal.invariant-loop-index
invariant-loop-index l = any_at l.spot (take l.index l.givens) ≡ false
