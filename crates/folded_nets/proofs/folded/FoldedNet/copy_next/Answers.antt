use Rattle.std.proofs.Common.{refl, rules}
use Rattle.folded_nets.proofs.Copies.{follows_more}
use Rattle.folded_nets.proofs.folded.FoldedNet.copy_next.Goals as goal

pub returns-clause-follows : goal.returns-clause-follows
returns-clause-follows c =
    follows_more c.args.old.now c.args.self.now c.next.new.self _ c.in_ok-copy.copy c.requires.follows c.in_ok-copy.ensures c.requires.more refl (search rules) refl
