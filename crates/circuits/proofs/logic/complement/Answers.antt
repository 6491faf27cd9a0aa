use Rattle.std.proofs.Common.{◌∙◌}
use Rattle.circuits.proofs.Nets.{opp}
use Rattle.circuits.proofs.Digits.{complement_gives}
use Rattle.circuits.proofs.logic.complement.Goals as goal

pub returns : goal.returns
returns c =
    let never = opp c.not-never.ensures c.yes.ensures in
    complement_gives _ c.requires.promoted c.requires.a_in (c.from_vec-bits.ensures ∙ c.in_ok-value.ensures) never never
