use Rattle.std.proofs.Common.{◌≡◌, ◌++◌, drop, length}
use Rattle.c_core.specs.View.{program_view, rows_view}
use Rattle.flow_code.specs.Statements.{rows_code}
use Rattle.flow_code.proofs.declarations.row_initials.Given as goal

-- what is left does what the whole does
abbrev pub invariant-loop-row : goal.invariant-loop-row
invariant-loop-row l =
    l.ops ++ rows_code (program_view l.program) (length l.ops) l.at l.object l.index (rows_view (drop l.row-index l.rows))
    ≡ l.initial.ops ++ rows_code (program_view l.program) (length l.initial.ops) l.at l.object 0 (rows_view l.rows)
