use Rattle.std.proofs.Common.{◌≡◌, ◌-◌, map, length}
use Rattle.c_parser.specs.SourceView.{values_view}
use Rattle.c_parser.specs.ReadExpressions.{within}
use Rattle.c_parser.specs.Declarations.{read_rows}
use Rattle.c_parser.proofs.ListLaws.{following}
use Rattle.c_parser.proofs.declarations.rows_at.Given as goal

abbrev pub invariant-loop-more : goal.invariant-loop-more
invariant-loop-more l =
    following (map values_view l.rows) (read_rows (within (l.brackets - 1) l.height) l.more l.rest)
    ≡ read_rows (within (l.brackets - 1) l.height) (length l.tokens) l.tokens

abbrev pub decreases-loop-more : goal.decreases-loop-more
decreases-loop-more l = l.more
