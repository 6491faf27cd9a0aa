use Rattle.std.proofs.Common.{◌∙◌, ◌++◌, ◌∷◌, [], ap, arith}
use Rattle.circuits.proofs.Nets.{opp}
use Rattle.sym_elements.proofs.Decoding.{zero_first, zero_next}
use Rattle.sym_elements.proofs.marks.zero_marks.Goals as goal

pub loop-i-init : goal.loop-i-init
loop-i-init c = rw (c.in_ok-push.ensures.items ∙ ap (λ z. z ++ c.args.here ∷ []) c.new-out.ensures.items) (zero_first c.requires.here_in)

pub loop-i-preserved : goal.loop-i-preserved
loop-i-preserved c = rw c.in_ok-push-2.ensures.items (zero_next c.args.here c.loop-i.invariant (opp c.not-never.ensures c.yes.ensures) (omega arith))
