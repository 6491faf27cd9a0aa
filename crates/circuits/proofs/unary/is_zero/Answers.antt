use Rattle.std.proofs.Common.{arith}
use Rattle.circuits.proofs.Nets.{opp}
use Rattle.circuits.proofs.Multiplied.{width_few}
use Rattle.circuits.proofs.Single.{zero_gives}
use Rattle.circuits.proofs.unary.is_zero.Goals as goal

pub returns-clause-value : goal.returns-clause-value
returns-clause-value c = zero_gives _ _ _ (opp c.not.ensures c.in_ok-some.ensures.value) c.in_ok-out.ensures

pub nonzero-requires-clause-few : goal.nonzero-requires-clause-few
nonzero-requires-clause-few c = omega (arith, c.requires.a_in.wide, width_few c.args.model c.args.ty)
