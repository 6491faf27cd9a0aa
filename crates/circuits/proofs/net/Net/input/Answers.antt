use Rattle.std.proofs.Common.{rules, ◌≡◌, arith, ◌∙◌, ap, length}
use Rattle.circuits.proofs.Nets.{input_added, input_means, inputs_few}
use Rattle.circuits.proofs.Sound.{sound_input}
use Rattle.circuits.proofs.net.Net.input.Goals as goal

pub overflow_add-self : goal.overflow_add-self
overflow_add-self c = omega (arith, inputs_few c.self.inside.nodes.items, c.self.invariant.is, ap length c.self.view_is)

pub invariant_of-self-2 : goal.invariant_of-self-2
invariant_of-self-2 c = rw c.in_ok-push.ensures.items (sound_input _ _ c.self.invariant)

pub returns-clause-added : goal.returns-clause-added
returns-clause-added c = input_added c.in_ok-push.ensures.items c.self.view_is c.self.invariant.is

pub returns-clause-value : goal.returns-clause-value
returns-clause-value c =
    let e : c.len-node.result ≡ length c.self.inside.nodes.items = search rules in
    input_means _ _ (input_added c.in_ok-push.ensures.items c.self.view_is c.self.invariant.is) (e ∙ ap length c.self.view_is)
