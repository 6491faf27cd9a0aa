use Rattle.std.proofs.Common.{◌∙◌, sym}
use Rattle.circuits.proofs.Nets.{opp}
use Rattle.circuits.proofs.Carrying.{signed_top}
use Rattle.sym_elements.proofs.Placed.{unsigned_yes}
use Rattle.sym_elements.proofs.placing.not_negative.Goals as goal

pub returns-then-signed : goal.returns-then-signed
returns-then-signed c = opp c.not.ensures (signed_top _ _ _ _ (sym c.signed.ensures ∙ c.if-signed.true) c.requires.some c.requires.digits_in)

pub returns : goal.returns
returns c = unsigned_yes _ _ _ (sym c.signed.ensures ∙ c.if-signed.false) c.yes.ensures
