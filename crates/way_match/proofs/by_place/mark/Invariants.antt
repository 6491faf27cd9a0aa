use Rattle.std.proofs.Common.{◌≡◌, ℕ, ◌+◌, ◌-◌, length}
use Rattle.way_match.specs.inside.ByPlace.{is_marked}
use Rattle.way_match.proofs.by_place.mark.Given as goal

abbrev pub invariant-loop-lines : goal.invariant-loop-lines
invariant-loop-lines l = (k : ℕ) → is_marked l.lines.items k ≡ is_marked l.fn.lines.items k

abbrev pub decreases-loop-lines : goal.decreases-loop-lines
decreases-loop-lines l = l.at + 1 - length l.lines.items
