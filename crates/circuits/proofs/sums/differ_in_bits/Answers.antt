use Rattle.std.proofs.Common.{ap, arith, length}
use Rattle.circuits.proofs.Nets.{grown_then, wider}
use Rattle.circuits.proofs.Carrying.{counts_same, any_of}
use Rattle.circuits.proofs.Summed.{differ_means}
use Rattle.circuits.proofs.sums.differ_in_bits.Goals as goal

pub returns-clause-value : goal.returns-clause-value
returns-clause-value c = differ_means _ _ c.requires.a_in c.requires.b_in (any_of c.in_ok-differ.ensures.value (counts_same c.deref.ensures.value c.in_ok-apart.ensures.value))

pub returns-in_err-apart-clause-grown : goal.returns-in_err-apart-clause-grown
returns-in_err-apart-clause-grown c = wider c.in_err-apart.ensures.grown (omega (arith, c.requires.a_in.wide))

pub returns-in_err-differ-clause-grown : goal.returns-in_err-differ-clause-grown
returns-in_err-differ-clause-grown c =
    grown_then _ _ _ _ _ _ c.in_ok-apart.ensures.grown c.in_err-differ.ensures.grown (omega (arith, c.requires.a_in.wide, ap length c.deref.ensures.value, c.in_ok-apart.ensures.value.wide))

pub returns-clause-grown : goal.returns-clause-grown
returns-clause-grown c =
    grown_then _ _ _ _ _ _ c.in_ok-apart.ensures.grown c.in_ok-differ.ensures.grown (omega (arith, c.requires.a_in.wide, ap length c.deref.ensures.value, c.in_ok-apart.ensures.value.wide))
