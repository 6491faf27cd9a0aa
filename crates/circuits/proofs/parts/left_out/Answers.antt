use Rattle.std.proofs.Common.{subst}
use Rattle.circuits.specs.Facts.{IsAnswer}
use Rattle.circuits.proofs.FactLaws.{both_swapped, left_out_of}
use Rattle.circuits.proofs.parts.left_out.Goals as goal

pub returns-in-Some-true : goal.returns-in-Some-true
returns-in-Some-true c =
    left_out_of c.not.ensures c.in_ok-pair.ensures c.in_ok-pair.ensures.right_in c.not-in-Some-true.ensures
    (λ here f. subst (λ r. IsAnswer c.args.nodes.now here c.in_ok-pair.pair.left r) c.in-Some-true.field-0-test (c.in-Some-true.ensures c.args.nodes.now here f))

pub returns-in-Some-true-value_among : goal.returns-in-Some-true-value_among
returns-in-Some-true-value_among c =
    left_out_of c.not.ensures (both_swapped c.in_ok-pair.ensures) c.in_ok-pair.ensures.left_in c.not-in-Some-true-value_among.ensures
    (λ here f. subst (λ r. IsAnswer c.args.nodes.now here c.in_ok-pair.pair.right r) c.in-Some-true-value_among.field-0-test (c.in-Some-true-value_among.ensures c.args.nodes.now here f))
