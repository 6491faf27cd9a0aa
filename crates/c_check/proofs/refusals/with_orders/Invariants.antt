use Rattle.std.proofs.Common.{◌≡◌, drop}
use Rattle.c_check.specs.Finding.{orders_noted}
use Rattle.c_check.proofs.refusals.with_orders.Given as goal

abbrev pub invariant-loop-spot : goal.invariant-loop-spot
invariant-loop-spot l = (orders_noted l.best (drop l.spot-index l.spots) ≡ orders_noted l.fn.best l.spots)
