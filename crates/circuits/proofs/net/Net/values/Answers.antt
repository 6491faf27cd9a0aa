use Rattle.std.proofs.Common.{◌≡◌, arith, ap, length, rules}
use Rattle.circuits.proofs.Nets.{values_none, values_step, values_all}
use Rattle.circuits.proofs.net.Net.values.Goals as goal

pub loop-i-init : goal.loop-i-init
loop-i-init c = values_none _ _ c.new-values.ensures.items

pub loop-i-preserved : goal.loop-i-preserved
loop-i-preserved c =
    let e : c.len-i-end.result ≡ length c.self.inside.nodes.items = search rules in
    values_step _ _ c.self.inside.nodes.items c.loop-i.i _ c.loop-i.invariant (omega (arith, e)) c.self.view_is c.index.ensures c.deref.ensures.value c.value_of_node-next.ensures c.in_ok-push.ensures.items

pub returns : goal.returns
returns c =
    let e : c.len-i-end.result ≡ length c.self.inside.nodes.items = search rules in
    values_all _ _ _ c.loop-i.invariant (omega (arith, e, ap length c.self.view_is))
