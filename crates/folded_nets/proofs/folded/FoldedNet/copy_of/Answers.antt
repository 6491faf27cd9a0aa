use Rattle.std.proofs.Common.{subst, sym}
use Rattle.folded_nets.specs.Following.{IsCopy}
use Rattle.folded_nets.proofs.Copies.{copied_negated}
use Rattle.folded_nets.proofs.folded.FoldedNet.copy_of.Goals as goal

pub returns-then-bit : goal.returns-then-bit
returns-then-bit c =
    let f = c.args.self.now in
    let m : IsCopy c.args.old.now f.net c.args.bit.node c.index-copy.result.now = subst (IsCopy c.args.old.now f.net c.args.bit.node) (sym c.index-copy.ensures) (c.requires.follows.copied c.args.bit.node c.index-copy.result.now c.requires.copied) in
    copied_negated c.args.old.now f.net c.args.bit c.index-copy.result.now c.not.result c.if-bit.true c.not.ensures m
