use Rattle.std.proofs.Common.{rules, ◌≡◌, ◌∙◌, ap, length}
use Rattle.std.specs.Prelude.{slice_get}
use Rattle.circuits.proofs.Nets.{means_pushed}
use Rattle.circuits.proofs.Sound.{sound_and}
use Rattle.circuits.proofs.Nodes.{means_found}
use Rattle.circuits.proofs.net.Net.node_of.Goals as goal

pub returns-in-Some-clause-value : goal.returns-in-Some-clause-value
returns-in-Some-clause-value c = means_found _ _ _ _ (rw (← c.self.view_is) c.self.invariant.fine)
    (c.in-Some.ensures ∙ ap (λ l. slice_get l c.in-Some.node) (c.deref.ensures.value ∙ c.self.view_is))

pub invariant_of-self-2 : goal.invariant_of-self-2
invariant_of-self-2 c =
    let s = c.requires.stands in
    rw c.in_ok-push.ensures.items
    (sound_and _ _ _ _ c.self.invariant (rw c.self.view_is (c.requires.a_in, c.requires.b_in, s.left, s.right, s.two)))

pub returns-clause-value : goal.returns-clause-value
returns-clause-value c = rw (c.in_ok-push.ensures.items, c.self.view_is) (means_pushed _ _ _ _ (let e : c.len-node.result ≡ length c.self.inside.nodes.items = search rules in e ∙ ap length c.self.view_is))
