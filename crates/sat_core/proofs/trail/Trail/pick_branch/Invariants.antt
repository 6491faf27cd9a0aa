use Rattle.std.proofs.Common.{ℕ, ◌<◌, length}
use Rattle.sat_core.specs.Trail.{HasValue}
use Rattle.sat_core.proofs.trail.Trail.pick_branch.Given as goal

abbrev pub invariant-loop-variable : goal.invariant-loop-variable
invariant-loop-variable l = (v : ℕ) → 0 < v → v < l.variable → HasValue l.self.entries.items (length l.self.entries.items) v
