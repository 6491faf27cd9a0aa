use Rattle.std.proofs.Common.{sym, subst}
use Rattle.circuits.specs.Net.{holds, Means}
use Rattle.circuits.proofs.Nets.{opp}
use Rattle.sym_walk.specs.Hooks.{has_given}
use Rattle.sym_walk.proofs.hooks.given.Goals as goal

pub returns-in-None : goal.returns-in-None
returns-in-None c = subst (λ gives. Means c.args.net.now c.not.result (λ v. has_given gives (holds v c.args.net.now c.args.gave))) (sym c.in-None.is) (opp c.not.ensures c.yes.ensures)
