use Rattle.std.proofs.Common.{List}
use Rattle.circuits.specs.declared.net.Bit.{Bit}
use Rattle.circuits.specs.declared.net.NetNode.{NetNode}
use Rattle.circuits.specs.Facts.{Condition}
use Rattle.circuits.specs.Inequalities.{AreKnown, IsShifted}
use Rattle.circuits.proofs.FactLaws.{at_some}
use Rattle.circuits.proofs.BoundLaws.{value_less_beside, value_not_less_beside}
use Rattle.circuits.proofs.bounds.value_beside.Goals as goal

pub returns-then-first-second : goal.returns-then-first-second
returns-then-first-second c = λ net words here known order.
    let w = c.args.asked.now.width in
    let k = c.args.order.now in
    let first = at_some (λ n. (v : List NetNode) (u : List (List Bit)) (h : Condition) → AreKnown v u h c.args.known.now → IsShifted v u h w c.args.asked.now.lesser k.lesser n) _ _ c.in-Some.is c.in_ok-first.ensures in
    let second = at_some (λ n. (v : List NetNode) (u : List (List Bit)) (h : Condition) → AreKnown v u h c.args.known.now → IsShifted v u h w c.args.asked.now.greater k.greater n) _ _ c.in-Some-2.is c.in_ok-second.ensures in
    value_less_beside k c.requires.same c.if-order.true order (first net words here known) (second net words here known) c.if-first-second.true

pub returns-then-second-first : goal.returns-then-second-first
returns-then-second-first c = λ net words here known order.
    let w = c.args.asked.now.width in
    let k = c.args.order.now in
    let first = at_some (λ n. (v : List NetNode) (u : List (List Bit)) (h : Condition) → AreKnown v u h c.args.known.now → IsShifted v u h w c.args.asked.now.lesser k.lesser n) _ _ c.in-Some.is c.in_ok-first.ensures in
    let second = at_some (λ n. (v : List NetNode) (u : List (List Bit)) (h : Condition) → AreKnown v u h c.args.known.now → IsShifted v u h w c.args.asked.now.greater k.greater n) _ _ c.in-Some-2.is c.in_ok-second.ensures in
    value_not_less_beside k c.requires.same c.if-not-order.true order (first net words here known) (second net words here known) c.if-second-first.true
