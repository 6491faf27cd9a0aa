use Rattle.c_parser.proofs.SourceLaws.{one_item}
use Rattle.c_parser.proofs.laws.one_item.Goals as goal

pub returns : goal.returns
returns c = one_item
