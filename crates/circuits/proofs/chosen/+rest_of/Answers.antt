use Rattle.circuits.proofs.AnswerLaws.{alike_constant}
use Rattle.circuits.proofs.ChosenLaws.{answer_test}
use Rattle.circuits.proofs.chosen.+rest_of.Goals as goal

pub returns-then-digit-test : goal.returns-then-digit-test
returns-then-digit-test t c = λ here a. alike_constant (answer_test c.args.test c.args.digit c.if-digit-test.true a) (c.constant.ensures c.args.nodes.now c.requires.net)

pub returns : goal.returns
returns t c = λ here a.
    c.part_of.ensures c.args.nodes.now c.requires.net here c.in-Some.pair.left c.in-Some.pair.right c.requires.digit_in c.in-Some.ensures (c.rest_of-left.ensures here a) (c.rest_of-right.ensures here a)
