use Rattle.std.proofs.Common.{subst, arith}
use Rattle.circuits.specs.Facts.{IsBoth}
use Rattle.circuits.proofs.FactLaws.{follow_both}
use Rattle.circuits.proofs.parts.taken_apart.Goals as goal
use Rattle.circuits.proofs.parts.taken_apart.Goals.{in-Some+in_ok-push+in_ok-push-2, in_default}

pub loop-step-preserved : goal.loop-step-preserved
loop-step-preserved c = λ here f. elim c.match-arguments.branch [
  | in-Some+in_ok-push+in_ok-push-2 w ↦
      rw (w.all-is, w.in_ok-push-2.ensures.items, w.in_ok-push.ensures.items)
      (follow_both c.loop-step.all.items _ c.index-whole.result.now w.in-Some.pair.left w.in-Some.pair.right (c.loop-step.invariant here f) (omega (arith, c.if-at-len.false))
      (subst (λ b. IsBoth c.args.nodes.now b w.in-Some.pair.left w.in-Some.pair.right) c.index-whole.ensures w.in-Some.ensures))
  | in_default w ↦ rw w.all-is (c.loop-step.invariant here f)
]
