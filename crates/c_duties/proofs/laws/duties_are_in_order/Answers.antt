use Rattle.c_duties.proofs.InOrder.{are_in_order}
use Rattle.c_duties.proofs.laws.duties_are_in_order.Goals as goal

pub returns : goal.returns
returns c = are_in_order
