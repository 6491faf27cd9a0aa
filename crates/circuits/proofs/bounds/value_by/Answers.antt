use Rattle.std.proofs.Common.{List}
use Rattle.circuits.specs.declared.net.Bit.{Bit}
use Rattle.circuits.specs.declared.net.NetNode.{NetNode}
use Rattle.circuits.specs.Facts.{Condition}
use Rattle.circuits.specs.Inequalities.{AreKnown, IsKnown, IsValueWhere}
use Rattle.circuits.proofs.FactLaws.{at_some}
use Rattle.circuits.proofs.OrderLaws.{known_at}
use Rattle.circuits.proofs.bounds.value_by.Goals as goal

pub returns-in-Some-2 : goal.returns-in-Some-2
returns-in-Some-2 c = λ net words here known.
    let k = c.index-known-at.result in
    let value = at_some (λ is. (v : List NetNode) (u : List (List Bit)) (h : Condition) → AreKnown v u h c.args.known.now → IsKnown v u h k → IsValueWhere v u h c.args.asked.now.width c.args.asked.now.lesser c.args.asked.now.greater is) _ _ c.in-Some-2.is c.in_ok-is-2.ensures in
    value net words here known (known_at c.args.known.now c.loop-at.at k c.index-known-at.is c.loop-at-test.true known)

pub returns-in-Some-3 : goal.returns-in-Some-3
returns-in-Some-3 c = λ net words here known.
    let k = c.index-known-at.result in
    let value = at_some (λ is. (v : List NetNode) (u : List (List Bit)) (h : Condition) → AreKnown v u h c.args.known.now → IsKnown v u h k → IsValueWhere v u h c.args.asked.now.width c.args.asked.now.lesser c.args.asked.now.greater is) _ _ c.in-Some-3.is c.in_ok-is-3.ensures in
    value net words here known (known_at c.args.known.now c.loop-at.at k c.index-known-at.is c.loop-at-test.true known)
