use Rattle.std.proofs.lemmas.List.Elements.{All-nil}
use Rattle.circuits.specs.Words.{bits_of}
use Rattle.circuits.specs.Facts.{AllFollow, Condition}
use Rattle.circuits.specs.Inequalities.{AreKnown, IsKnown}
use Rattle.circuits.proofs.given.given_by.Goals as goal
use Rattle.circuits.proofs.given.given_by.Goals.{then-has_orders+in_ok-orders, else-has_orders}

known_here : (c : goal.In_ok-equalities) (here : Condition) → AllFollow c.args.nodes.now here c.args.bits.items
    → AreKnown c.args.nodes.now (bits_of c.args.hints.now.words.list.items) here c.if-has_orders.orders.items
known_here c here f = elim c.if-has_orders.branch [
  | then-has_orders+in_ok-orders w ↦ rw w.orders-is (w.in_ok-orders.ensures.known here (rw w.deref.ensures.value f))
  | else-has_orders w ↦ rw (w.orders-is, c.new-orders.ensures.items) (All-nil (λ k. IsKnown c.args.nodes.now (bits_of c.args.hints.now.words.list.items) here k))
]

pub returns : goal.returns
returns c = λ here f.
    let known = known_here c here f in
    record {
      bits = f;
      orders = known;
      equalities = c.in_ok-equalities.ensures c.args.nodes.now (bits_of c.args.hints.now.words.list.items) here (rw c.deref-2.ensures.value known);
    }
