use Rattle.std.proofs.Common.{◌≡◌, ◌+◌, drop}
use Rattle.c_core.specs.View.{rows_view}
use Rattle.flow_code.specs.Sizes.{size_of_rows}
use Rattle.flow_code.proofs.sizes.size_of_rows.Given as goal

-- with what is left it becomes the whole
abbrev pub invariant-loop-row : goal.invariant-loop-row
invariant-loop-row l = l.sum + size_of_rows (rows_view (drop l.row-index l.rows)) ≡ size_of_rows (rows_view l.rows)
