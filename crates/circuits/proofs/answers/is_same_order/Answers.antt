use Rattle.std.proofs.Common.{subst}
use Rattle.circuits.specs.Words.{bits_of}
use Rattle.circuits.specs.Facts.{Condition, IsZeroWhere}
use Rattle.circuits.specs.Inequalities.{IsGiven, IsOtherDifference}
use Rattle.circuits.proofs.FactLaws.{at_some}
use Rattle.circuits.proofs.AnswerLaws.{same_order}
use Rattle.circuits.proofs.answers.is_same_order.Goals as goal

pub returns-in-Some-2-clause-same : goal.returns-in-Some-2-clause-same
returns-in-Some-2-clause-same c = λ e here f.
    let other = at_some (λ d. IsOtherDifference c.args.asked.now.width c.args.asked.now.lesser c.args.asked.now.greater c.args.other.now.lesser c.args.other.now.greater d) _ _ c.in-Some.is c.in_ok-rest.ensures in
    let answers = at_some (λ is. (h : Condition) → IsGiven c.args.nodes.now (bits_of c.args.hints.now.words.list.items) h c.args.given.now → IsZeroWhere c.args.nodes.now (bits_of c.args.hints.now.words.list.items) h c.args.asked.now.width c.in-Some.rest is) _ _ c.in-Some-2.is c.in_ok-is.ensures in
    same_order other (subst (λ is. IsZeroWhere c.args.nodes.now (bits_of c.args.hints.now.words.list.items) here c.args.asked.now.width c.in-Some.rest is) e (answers here f))
