use Rattle.std.proofs.Common.{◌≡◌, length, arith}
use Rattle.circuits.proofs.Multiplying.{multiplied_none, multiplied_next, multiplied_end, row_fits}
use Rattle.circuits.proofs.Nets.{grown_then, grown_not}
use Rattle.circuits.proofs.products.product.Goals as goal

pub loop-i-init : goal.loop-i-init
loop-i-init c = multiplied_none _ c.in_ok-total.ensures

pub loop-i-preserved : goal.loop-i-preserved
loop-i-preserved c = multiplied_next _ _ _ c.loop-i.invariant c.in_ok-total-2.ensures.grown (omega arith) c.requires.a_in c.requires.b_in c.in_ok-total-2.ensures.value

pub returns-in_err-total-2-clause-grown : goal.returns-in_err-total-2-clause-grown
returns-in_err-total-2-clause-grown c = grown_then _ _ _ _ _ _ c.loop-i.invariant.grown c.in_err-total-2.ensures.grown (row_fits _ _ _ (omega arith))

pub returns-clause-value : goal.returns-clause-value
returns-clause-value c =
    let n : c.loop-i.i ≡ length c.args.b.now = omega arith in
    rw (← n) (multiplied_end _ _ _ c.loop-i.invariant n)

pub returns-in_err-total-clause-grown : goal.returns-in_err-total-clause-grown
returns-in_err-total-clause-grown c = grown_not _ _
