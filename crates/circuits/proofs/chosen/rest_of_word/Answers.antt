use Rattle.std.proofs.Common.{◌≡◌, length, arith}
use Rattle.circuits.proofs.ChosenLaws.{alike_end, alike_next, alike_none}
use Rattle.circuits.proofs.chosen.rest_of_word.Goals as goal

pub loop-at-init : goal.loop-at-init
loop-at-init c = λ here a. rw c.new-rest.ensures.items (alike_none c.args.nodes.now here c.args.word.now)

pub loop-at-preserved : goal.loop-at-preserved
loop-at-preserved c = λ here a. rw c.in_ok-push.ensures.items (alike_next _ _ (c.loop-at.invariant here a) (c.rest_of-digit.ensures here a) (omega arith))

pub returns : goal.returns
returns c = λ here a.
    let n : c.loop-at.at ≡ length c.args.word.now = omega arith in
    alike_end _ (c.loop-at.invariant here a) n
