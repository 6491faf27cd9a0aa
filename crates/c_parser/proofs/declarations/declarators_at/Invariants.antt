use Rattle.std.proofs.Common.{◌≡◌, map}
use Rattle.c_parser.specs.SourceView.{declared_view}
use Rattle.c_parser.specs.ReadExpressions.{read, within}
use Rattle.c_parser.specs.Declarations.{read_declarators}
use Rattle.c_parser.specs.ReadStatements.{rows_within}
use Rattle.c_parser.proofs.ListLaws.{following}
use Rattle.c_parser.proofs.declarations.declarators_at.Given as goal

abbrev pub invariant-loop-more : goal.invariant-loop-more
invariant-loop-more l =
    following (map declared_view l.declarators) (read_declarators l.brackets (read l.brackets l.height) (within l.brackets l.height) (rows_within l.brackets l.height) l.more l.ty l.rest)
    ≡ read_declarators l.brackets (read l.brackets l.height) (within l.brackets l.height) (rows_within l.brackets l.height) l.most l.ty l.tokens

abbrev pub decreases-loop-more : goal.decreases-loop-more
decreases-loop-more l = l.more
