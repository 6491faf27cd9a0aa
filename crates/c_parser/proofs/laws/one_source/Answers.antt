use Rattle.c_parser.proofs.SourceLaws.{one_source}
use Rattle.c_parser.proofs.laws.one_source.Goals as goal

pub returns : goal.returns
returns c = one_source
