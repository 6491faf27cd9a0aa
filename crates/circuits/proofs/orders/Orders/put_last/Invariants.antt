use Rattle.std.proofs.Common.{◌≡◌}
use Rattle.circuits.proofs.orders.Orders.put_last.Given as goal

abbrev pub invariant-loop-at : goal.invariant-loop-at
invariant-loop-at l = l.self.list ≡ l.fn.self.list
