use Rattle.std.proofs.Common.{◌≡◌}
use Rattle.c_parser.specs.View.{exprs_view}
use Rattle.c_parser.specs.ReadExpressions.{within}
use Rattle.c_parser.specs.Declarations.{read_values}
use Rattle.c_parser.proofs.ListLaws.{following}
use Rattle.c_parser.proofs.declarations.values_at.Given as goal

abbrev pub invariant-loop-more : goal.invariant-loop-more
invariant-loop-more l =
    following (exprs_view l.values) (read_values (within l.brackets l.height) l.more l.rest)
    ≡ read_values (within l.brackets l.height) l.most l.tokens

abbrev pub decreases-loop-more : goal.decreases-loop-more
decreases-loop-more l = l.more
