use Rattle.circuits.proofs.Nets.{own, opp}
use Rattle.std.proofs.Common.{◌∙◌}
use Rattle.circuits.proofs.Carrying.{counts_same}
use Rattle.circuits.proofs.Digits.{truth_gives}
use Rattle.circuits.proofs.logic.truth_bits.Goals as goal

pub returns : goal.returns
returns c =
    let never = opp c.not-never.ensures c.yes.ensures in
    truth_gives (own _ _ c.requires.bit_in) (counts_same c.deref.ensures.value c.in_ok-gap.ensures) (c.from_vec-bits.ensures ∙ c.in_ok-value.ensures) never never
