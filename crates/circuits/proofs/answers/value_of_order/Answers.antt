use Rattle.std.proofs.Common.{subst, sym}
use Rattle.std.proofs.lemmas.List.Elements.{All-get_or}
use Rattle.circuits.specs.Words.{IsOrder, bits_of}
use Rattle.circuits.specs.Facts.{Condition}
use Rattle.circuits.specs.Inequalities.{IsGiven, IsValueWhere}
use Rattle.circuits.proofs.FactLaws.{at_some}
use Rattle.circuits.proofs.AnswerLaws.{answer_order, value_of_rests}
use Rattle.circuits.proofs.answers.value_of_order.Goals as goal

pub returns-in-Some : goal.returns-in-Some
returns-in-Some c = λ here f.
    let net = c.args.nodes.now in
    let words = bits_of c.args.hints.now.words.list.items in
    let o = c.index-order.result.now in
    let order : IsOrder net words o =
    subst (λ x. IsOrder net words x) (sym c.index-order.ensures) (All-get_or (λ x. IsOrder net words x) c.args.hints.now.orders.list.items c.args.at o c.requires.inside c.requires.hints.orders) in
    let lesser = c.in_ok-specialised.ensures here (rw c.deref.ensures.value f.bits) in
    let greater = c.in_ok-specialised-2.ensures here (rw c.deref-2.ensures.value f.bits) in
    let values = at_some (λ is. (h : Condition) → IsGiven net words h c.args.given.now → IsValueWhere net words h o.width _ _ is) _ _ c.in-Some.is c.in_ok-is.ensures in
    answer_order o order (value_of_rests lesser greater (values here f)) c.if-order-bit.false
