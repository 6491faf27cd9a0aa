use Rattle.std.proofs.Common.{◌∙◌, sym}
use Rattle.circuits.proofs.Nets.{opp}
use Rattle.circuits.proofs.Carrying.{signed_top, unsigned_top}
use Rattle.circuits.proofs.signs.sign.Goals as goal

pub returns-then-signed : goal.returns-then-signed
returns-then-signed c = signed_top _ _ _ _ (sym c.signed.ensures ∙ c.if-signed.true) c.requires.some c.requires.a_in

pub returns : goal.returns
returns c = unsigned_top _ _ (sym c.signed.ensures ∙ c.if-signed.false) (opp c.not.ensures c.yes.ensures)
