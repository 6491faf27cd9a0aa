use Rattle.c_parser.proofs.SourceLaws.{one_syntax}
use Rattle.c_parser.proofs.laws.one_syntax.Goals as goal

pub returns : goal.returns
returns c = one_syntax
