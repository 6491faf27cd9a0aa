use Rattle.std.proofs.Common.{◌∙◌, ap}
use Rattle.circuits.specs.Net.{bit_in}
use Rattle.circuits.proofs.Nets.{value_holds}
use Rattle.circuits.proofs.net.Net.value.Goals as goal

pub returns : goal.returns
returns c = value_holds _ _ _ c.in_ok-values.ensures (c.value_of_bit.ensures ∙ ap (λ l. bit_in l c.args.b) c.deref.ensures.value)
