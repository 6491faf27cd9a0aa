use Rattle.c_parser.proofs.OrderedItems.{source_rises}
use Rattle.c_parser.proofs.laws.text_order.Goals as goal

pub returns : goal.returns
returns c = source_rises
