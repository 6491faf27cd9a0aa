use Rattle.std.proofs.Common.{◌∙◌, ap, ◌++◌, ◌∷◌, [], true}
use Rattle.circuits.specs.declared.net.NetNode.TheVariants.{Constant}
use Rattle.circuits.proofs.Sound.{sound_new}
use Rattle.circuits.proofs.net.Net.new.Goals as goal

pub invariant_of-result : goal.invariant_of-result
invariant_of-result c = sound_new _ (c.in_ok-push.ensures.items ∙ ap (λ l. l ++ Constant true ∷ []) c.new-nodes.ensures.items) c.new-2.ensures
