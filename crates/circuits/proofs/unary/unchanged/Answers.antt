use Rattle.std.proofs.Common.{◌∙◌}
use Rattle.circuits.proofs.Nets.{opp}
use Rattle.circuits.proofs.Single.{unchanged_gives}
use Rattle.circuits.proofs.unary.unchanged.Goals as goal

pub returns : goal.returns
returns c =
    let never = opp c.not-never.ensures c.yes.ensures in
    unchanged_gives _ c.requires.a_in (c.from_vec-bits.ensures ∙ c.in_ok-value.ensures) never never
