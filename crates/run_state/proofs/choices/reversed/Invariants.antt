use Rattle.std.proofs.Common.{◌≡◌, ◌-◌, length, drop, reverse}
use Rattle.run_state.proofs.choices.reversed.Given as goal

abbrev pub invariant-loop-index : goal.invariant-loop-index
invariant-loop-index l = l.last_first.items ≡ reverse (drop (length l.values - l.index) l.values)
