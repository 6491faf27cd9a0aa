use Rattle.std.proofs.Common.{arith, rules, sym}
use Rattle.polynomials.proofs.Carrying.{carried_start, carried_kept, carried_merged, carried_swapped, carried_end, carried_over}
use Rattle.polynomials.proofs.factors.with_factor.Goals as goal
use Rattle.polynomials.proofs.factors.with_factor.Goals.{then-held-carried+then-held-eq1, else-held-carried+then-held-carried-2, else-held-carried+else-held-carried-2}

pub loop-i-init : goal.loop-i-init
loop-i-init c = carried_start _ _ (search rules)

pub loop-i-preserved : goal.loop-i-preserved
loop-i-preserved c =
    let old = c.loop-i.invariant in
    elim c.if-held-carried.branch [
      | then-held-carried+then-held-eq1 w ↦ rw w.product-is (rw w.carried-is (carried_merged old (omega (arith, old.wide)) (omega arith) (omega arith)))
      | else-held-carried+then-held-carried-2 w ↦ rw w.product-is (rw w.carried-is (carried_swapped old (omega (arith, old.wide)) (search rules) (omega arith)))
      | else-held-carried+else-held-carried-2 w ↦ rw w.product-is (rw w.carried-is (carried_kept old (omega arith)))
    ]

pub returns-then-carried-eq0 : goal.returns-then-carried-eq0
returns-then-carried-eq0 c = carried_end c.loop-i.invariant (omega arith)

pub returns-else-carried-eq0 : goal.returns-else-carried-eq0
returns-else-carried-eq0 c = carried_over c.loop-i.invariant (omega arith) (omega arith)
