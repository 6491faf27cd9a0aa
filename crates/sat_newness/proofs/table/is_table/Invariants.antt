use Rattle.std.proofs.Common.{ℕ, ◌+◌, ◌*◌, ◌<◌, ◌≤◌}
use Rattle.std.specs.Prelude.{slice_index}
use Rattle.sat_newness.proofs.table.is_table.Given as goal

abbrev pub invariant-loop-variable : goal.invariant-loop-variable
invariant-loop-variable l = (v : ℕ) → v < l.variable → slice_index l.table (2 * v) + slice_index l.table (2 * v + 1) ≤ 2
