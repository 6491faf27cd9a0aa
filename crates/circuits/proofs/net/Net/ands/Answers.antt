use Rattle.std.proofs.Common.{arith, rules, ◌≡◌, length, ap}
use Rattle.circuits.specs.Net.{count_ands}
use Rattle.circuits.proofs.Nets.{counted}
use Rattle.circuits.proofs.net.Net.ands.Goals as goal

pub overflow_sub-result-2 : goal.overflow_sub-result-2
overflow_sub-result-2 c = let e : c.len-nodes.result ≡ length c.self.inside.nodes.items = search rules in omega (arith, counted _ c.self.invariant.fine, c.self.invariant.is, c.from.ensures)

pub returns : goal.returns
returns c = let e : c.len-nodes.result ≡ length c.self.inside.nodes.items = search rules in omega (arith, counted _ c.self.invariant.fine, c.self.invariant.is, c.from.ensures, ap count_ands c.self.view_is)
