use Rattle.c_parser.proofs.SourceLaws.{one_expression}
use Rattle.c_parser.proofs.laws.one_expression.Goals as goal

pub returns : goal.returns
returns c = one_expression
