use Rattle.std.proofs.Common.{Fits, w32}
use Rattle.c_calls.proofs.RecursionLaws.{each_member}
use Rattle.c_calls.proofs.recursion.first_on_cycle.Goals as goal

-- a reached function is among those that calls name
pub overflow_cast-function : goal.overflow_cast-function
overflow_cast-function c = each_member (λ n. Fits w32 n) c.args.order.now c.type_inv.order c.loop-number.number (c.requires.listed c.loop-number.number c.if-is_reached.true)
