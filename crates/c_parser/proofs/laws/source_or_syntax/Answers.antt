use Rattle.c_parser.proofs.SourceLaws.{source_or_syntax}
use Rattle.c_parser.proofs.laws.source_or_syntax.Goals as goal

pub returns : goal.returns
returns c = source_or_syntax
