use Rattle.std.proofs.Common.{◌∙◌}
use Rattle.circuits.proofs.Nets.{own}
use Rattle.circuits.proofs.Carrying.{counts_same}
use Rattle.circuits.proofs.Distances.{limit_made}
use Rattle.circuits.proofs.signs.limit.Goals as goal

pub returns : goal.returns
returns c =
    limit_made c.args.w c.args.n c.requires.some c.requires.within (own _ _ c.requires.test_in) (counts_same c.deref.ensures.value c.in_ok-gap.ensures) c.yes.ensures (counts_same c.deref-3.ensures.value c.in_ok-rest.ensures)
    c.in_ok-low.ensures (c.deref-2.ensures.value ∙ c.in_ok-push.ensures.items) c.in_ok-out.ensures
