use Rattle.std.proofs.Common.{rules}
use Rattle.folded_nets.proofs.Copies.{follows_first}
use Rattle.folded_nets.proofs.folded.FoldedNet.new.Goals as goal

pub returns : goal.returns
returns c = follows_first c.args.old.now _ c.yes.result c.nodes.ensures.fine (search rules) (search rules) (search rules) c.yes.ensures
