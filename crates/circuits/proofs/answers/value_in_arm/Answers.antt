use Rattle.std.proofs.Common.{◌&&◌}
use Rattle.circuits.specs.Net.{holds}
use Rattle.circuits.proofs.AnswerLaws.{answer_constant}
use Rattle.circuits.proofs.answers.value_in_arm.Goals as goal

pub returns-then-is_contradictory : goal.returns-then-is_contradictory
returns-then-is_contradictory c = λ here f.
    let net = c.args.nodes.now in
    c.is_contradictory.ensures c.if-is_contradictory.true net (λ v. here v && holds v net c.args.arm) (rw c.deref.ensures.value (c.in_ok-inside.ensures here f).bits)

pub returns-then-part-eq0 : goal.returns-then-part-eq0
returns-then-part-eq0 c = λ here f.
    let net = c.args.nodes.now in
    answer_constant c.in_ok-part.part c.requires.net c.if-part-eq0.true (c.in_ok-part.ensures (λ v. here v && holds v net c.args.arm) (c.in_ok-inside.ensures here f))
