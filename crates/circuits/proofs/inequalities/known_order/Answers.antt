use Rattle.circuits.proofs.OrderLaws.{order_known}
use Rattle.circuits.proofs.inequalities.known_order.Goals as goal

pub returns-clause-known : goal.returns-clause-known
returns-clause-known c = λ here f a.
    order_known c.args.hints.now.orders.list.items c.in-Some.at c.index-order.result.now c.args.bit c.index-order.ensures c.in-Some.ensures c.if-order-bit.false (c.in_ok-lesser.ensures here f) (c.in_ok-greater.ensures here f) c.requires.hints.orders a
