use Rattle.std.proofs.Common.{◌∙◌, ◌++◌, ◌∷◌, [], refl, ap, arith}
use Rattle.circuits.proofs.Nets.{grown_not, grown_then}
use Rattle.circuits.proofs.Multiplying.{row_fits}
use Rattle.circuits.proofs.Dividing.{dividing_none, dividing_next, dividing_end, row_rest}
use Rattle.circuits.proofs.quotients.divide_sizes.Goals as goal

pub loop-i-init : goal.loop-i-init
loop-i-init c = dividing_none _ _ c.new-quotient.ensures.items c.in_ok-rest.ensures

pub loop-i-preserved : goal.loop-i-preserved
loop-i-preserved c =
    dividing_next _ _ _ c.loop-i.invariant c.in_ok-row.ensures.grown (omega arith) c.requires.a_in c.requires.b_in refl (row_rest c.deref.ensures.value c.in_ok-row.ensures.value)
    (c.in_ok-quotient.ensures ∙ ap (λ l. (c.in_ok-row.row.digit ∷ []) ++ l) c.deref-in-loop-i.ensures.value)

pub returns-in_err-rest-clause-grown : goal.returns-in_err-rest-clause-grown
returns-in_err-rest-clause-grown c = grown_not _ _

pub returns-in_err-row-clause-grown : goal.returns-in_err-row-clause-grown
returns-in_err-row-clause-grown c = grown_then _ _ _ _ _ _ c.loop-i.invariant.grown c.in_err-row.ensures.grown (row_fits _ _ _ (omega arith))

pub returns-in_err-quotient-clause-grown : goal.returns-in_err-quotient-clause-grown
returns-in_err-quotient-clause-grown c = grown_then _ _ _ _ _ _ c.loop-i.invariant.grown c.in_ok-row.ensures.grown (row_fits _ _ _ (omega arith))

pub returns-clause-value : goal.returns-clause-value
returns-clause-value c = dividing_end _ _ c.loop-i.invariant (omega arith)
