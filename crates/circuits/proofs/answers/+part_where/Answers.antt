use Rattle.circuits.specs.Words.{bits_of}
use Rattle.circuits.specs.Facts.{Condition, IsAnswer}
use Rattle.circuits.specs.Inequalities.{IsGiven}
use Rattle.circuits.proofs.FactLaws.{at_some}
use Rattle.circuits.proofs.AnswerLaws.{alike_constant}
use Rattle.circuits.proofs.answers.+part_where.Goals as goal

pub returns-in-Some : goal.returns-in-Some
returns-in-Some t c = λ here f. alike_constant (c.in-Some.ensures c.args.nodes.now here (rw c.deref.ensures.value f.bits)) (c.constant.ensures c.args.nodes.now c.requires.net)

pub returns-in-Some-2 : goal.returns-in-Some-2
returns-in-Some-2 t c = λ here f.
    let answers = at_some (λ value. (h : Condition) → IsGiven c.args.nodes.now (bits_of c.args.hints.now.words.list.items) h c.args.given.now → IsAnswer c.args.nodes.now h c.args.bit value) _ _ c.in-Some-2.is c.in_ok-value.ensures in
    alike_constant (answers here f) (c.constant-in-Some-2.ensures c.args.nodes.now c.requires.net)

pub returns : goal.returns
returns t c = λ here f.
    let both = c.in-Some-arguments.ensures in
    c.part_of.ensures c.args.nodes.now c.requires.net here c.in-Some-arguments.pair.left c.in-Some-arguments.pair.right c.requires.bit_in both (c.in_ok-left.ensures here f) (c.in_ok-right.ensures here f)
