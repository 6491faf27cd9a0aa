use Rattle.std.proofs.lemmas.Option.{IfSome_then}
use Rattle.std.proofs.lemmas.Result.{IfOk-weaker}
use Rattle.circuits.proofs.AnswerLaws.{others_of_lesser, others_of_greater}
use Rattle.circuits.proofs.answers.other_difference.Goals as goal

pub returns-then-branch : goal.returns-then-branch
returns-then-branch c =
    IfOk-weaker c.difference.result _ _ (λ r o. IfSome_then r o (λ p. others_of_lesser c.args.asked.now.lesser c.args.asked.now.greater c.args.known.now.lesser c.args.known.now.greater p (c.in_ok-is_more_by.ensures c.if-branch.true)))
    c.difference.ensures

pub returns-then-branch-2 : goal.returns-then-branch-2
returns-then-branch-2 c =
    IfOk-weaker c.difference-then-branch-2.result _ _ (λ r o. IfSome_then r o (λ p. others_of_greater c.args.asked.now.lesser c.args.asked.now.greater c.args.known.now.lesser c.args.known.now.greater p (c.in_ok-is_more_by-2.ensures c.if-branch-2.true)))
    c.difference-then-branch-2.ensures
