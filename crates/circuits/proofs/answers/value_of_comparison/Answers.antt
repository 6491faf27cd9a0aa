use Rattle.std.proofs.Common.{List, arith, subst, sym}
use Rattle.std.proofs.lemmas.List.Elements.{All-get_or}
use Rattle.circuits.specs.declared.net.Bit.{Bit}
use Rattle.circuits.specs.declared.net.NetNode.{NetNode}
use Rattle.circuits.specs.Words.{bits_of}
use Rattle.circuits.specs.Facts.{Condition}
use Rattle.circuits.specs.Inequalities.{AreKnown, IsKnown, IsValueWhere}
use Rattle.circuits.proofs.FactLaws.{at_some}
use Rattle.circuits.proofs.AnswerLaws.{value_of_same}
use Rattle.circuits.proofs.answers.value_of_comparison.Goals as goal

pub returns-in-Some : goal.returns-in-Some
returns-in-Some c = λ here f.
    let asked = c.args.asked.now in
    let value = at_some (λ is. (n : List NetNode) (u : List (List Bit)) (h : Condition) → AreKnown n u h c.deref.result.now → IsValueWhere n u h asked.width asked.lesser asked.greater is) _ _ c.in-Some.is c.in_ok-is.ensures in
    value c.args.nodes.now (bits_of c.args.hints.now.words.list.items) here (rw c.deref.ensures.value f.orders)

pub returns-then-branch : goal.returns-then-branch
returns-then-branch c = λ here f.
    let net = c.args.nodes.now in
    let words = bits_of c.args.hints.now.words.list.items in
    let k = c.index-other.result.now in
    let known : IsKnown net words here k =
    subst (λ x. IsKnown net words here x) (sym c.index-other.ensures) (All-get_or (λ x. IsKnown net words here x) c.args.given.now.orders.items c.loop-at.at k (omega (arith, c.loop-at-test.true, c.len-at-end.ensures)) f.orders) in
    value_of_same k (c.in_ok-is_same_order.ensures.wide c.if-branch.true) (c.in_ok-is_same_order.ensures.same c.if-branch.true here f) known
