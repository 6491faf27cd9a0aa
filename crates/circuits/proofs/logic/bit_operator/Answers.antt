use Rattle.std.proofs.Common.{arith}
use Rattle.circuits.proofs.Nets.{opp, kept, wider}
use Rattle.circuits.proofs.Digits.{bits_give}
use Rattle.circuits.proofs.logic.bit_operator.Goals as goal

pub returns-clause-value : goal.returns-clause-value
returns-clause-value c =
    let never = kept c.in_ok-value.ensures.grown (opp c.not-never.ensures c.yes.ensures) in
    bits_give _ _ _ c.requires.promoted c.requires.a_in c.requires.b_in c.in_ok-value.ensures.value c.from_vec-bits.ensures never never

pub returns-in_err-value-clause-grown : goal.returns-in_err-value-clause-grown
returns-in_err-value-clause-grown c = wider c.in_err-value.ensures.grown (omega (arith, c.requires.a_in.wide))

pub returns-clause-grown : goal.returns-clause-grown
returns-clause-grown c = wider c.in_ok-value.ensures.grown (omega (arith, c.requires.a_in.wide))
