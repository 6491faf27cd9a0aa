use Rattle.std.proofs.Common.{◌≡◌, length, arith}
use Rattle.circuits.proofs.Nets.{grown_then}
use Rattle.circuits.proofs.Multiplying.{scaled_none, scaled_next, scaled_end}
use Rattle.circuits.proofs.products.scaled.Goals as goal

pub loop-i-init : goal.loop-i-init
loop-i-init c = rw c.new-out.ensures.items (scaled_none _ _)

pub loop-i-preserved : goal.loop-i-preserved
loop-i-preserved c =
    rw c.in_ok-push.ensures.items
    (scaled_next _ _ c.loop-i.invariant c.in_ok-bit.ensures.grown c.in_ok-bit.ensures.value c.requires.a_in c.requires.b_in (omega arith))

pub returns-clause-value : goal.returns-clause-value
returns-clause-value c =
    let n : c.loop-i.i ≡ length c.args.a.now = omega arith in
    rw (← n) (scaled_end _ _ c.loop-i.invariant n)

pub returns-in_err-push-clause-grown : goal.returns-in_err-push-clause-grown
returns-in_err-push-clause-grown c = grown_then _ _ _ _ _ _ c.loop-i.invariant.grown c.in_ok-bit.ensures.grown (omega arith)
