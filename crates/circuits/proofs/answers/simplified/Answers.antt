use Rattle.circuits.specs.Net.{holds}
use Rattle.circuits.specs.Words.{bits_of}
use Rattle.circuits.specs.Facts.{Condition, IsAnswer}
use Rattle.circuits.specs.Inequalities.{IsGiven}
use Rattle.circuits.proofs.FactLaws.{at_some}
use Rattle.circuits.proofs.AnswerLaws.{alike_constant}
use Rattle.circuits.proofs.answers.simplified.Goals as goal

pub returns-then-part-eq0 : goal.returns-then-part-eq0
returns-then-part-eq0 c = c.in_ok-part.ensures (λ v. holds v c.args.nodes.now c.args.live) c.in_ok-given.ensures

pub returns-in-Some : goal.returns-in-Some
returns-in-Some c =
    let answers = at_some (λ value. (h : Condition) → IsGiven c.args.nodes.now (bits_of c.args.hints.now.words.list.items) h c.in_ok-given.given → IsAnswer c.args.nodes.now h c.args.bit value) _ _ c.in-Some.is c.in_ok-value.ensures in
    alike_constant (answers (λ v. holds v c.args.nodes.now c.args.live) c.in_ok-given.ensures) (c.constant.ensures c.args.nodes.now c.requires.net)

pub returns : goal.returns
returns c = c.in_ok-part.ensures (λ v. holds v c.args.nodes.now c.args.live) c.in_ok-given.ensures
