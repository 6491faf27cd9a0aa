use Rattle.std.proofs.Common.{◌&&◌}
use Rattle.std.proofs.lemmas.Option.{IfSome_then}
use Rattle.circuits.specs.Net.{holds}
use Rattle.circuits.proofs.AnswerLaws.{answer_in_arms}
use Rattle.circuits.proofs.answers.value_in_arms.Goals as goal

pub returns : goal.returns
returns c =
    let net = c.args.nodes.now in
    let arms = c.in-Some.arms in
    IfSome_then c.value_of_arms.result c.value_of_arms.ensures (λ value is here f.
    answer_in_arms arms.left arms.right c.args.bit c.in-Some.ensures (rw c.deref.ensures.value f.bits)
    (is net c.args.bit (λ v. here v && holds v net arms.left) (λ v. here v && holds v net arms.right) (c.in_ok-first.ensures here f) (c.in_ok-second.ensures here f)))
