use Rattle.std.proofs.Common.{◌&&◌}
use Rattle.std.proofs.lemmas.Result.{IfOk-weaker}
use Rattle.circuits.specs.Net.{holds}
use Rattle.circuits.proofs.given.given_with.Goals as goal

pub returns : goal.returns
returns c =
    IfOk-weaker c.given_by.result _ _ (λ r g here f. g (λ v. here v && holds v c.args.nodes.now c.args.bit) (c.in_ok-bits.ensures here (rw c.deref.ensures.value f.bits)))
    c.given_by.ensures
