use Rattle.std.proofs.Common.{rules, ◌≡◌}
use Rattle.circuits.specs.Net.{opposite}
use Rattle.folded_nets.proofs.Telling.{means_right, means_never}
use Rattle.folded_nets.proofs.pairs.told.Goals as goal

pub returns-then-eq-4 : goal.returns-then-eq-4
returns-then-eq-4 c =
    let ea : c.args.a ≡ opposite c.args.pair.left = search rules in
    let eb : c.args.b ≡ c.args.pair.right = search rules in
    means_right c.args.net.now c.args.pair c.args.a c.args.b c.requires.apart ea eb

pub returns-then-eq-6 : goal.returns-then-eq-6
returns-then-eq-6 c =
    let ea : c.args.a ≡ c.args.pair.left = search rules in
    let eb : c.args.b ≡ c.args.pair.right = search rules in
    means_never c.args.net.now c.args.pair c.args.a c.args.b c.yes.result c.not-then-eq-6.result c.requires.apart ea eb c.yes.ensures c.not-then-eq-6.ensures
