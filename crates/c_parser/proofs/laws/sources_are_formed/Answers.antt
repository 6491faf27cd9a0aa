use Rattle.c_parser.proofs.FormedItems.{source_formed}
use Rattle.c_parser.proofs.laws.sources_are_formed.Goals as goal

pub returns : goal.returns
returns c = source_formed
