use Rattle.std.proofs.Common.{ap, refl}
use Rattle.std.specs.Prelude.{set}
use Rattle.folded_nets.specs.Following.{never_true}
use Rattle.folded_nets.proofs.Copies.{follows_never}
use Rattle.folded_nets.proofs.folded.FoldedNet.note_never.Goals as goal

pub returns : goal.returns
returns c = record {
  follows = follows_never c.args.old.now c.args.self.now c.note_arguments.new.self _ c.args.bit _ c.requires.follows c.nodes.ensures.fine c.in_ok-note_arguments.ensures c.requires.copied c.requires.never refl refl refl
      refl;
  told = ap (λ k. set k.items c.args.bit.node (never_true c.args.bit)) c.in_ok-note_arguments.ensures.copies;
  same = c.in_ok-note_arguments.ensures.net;
}
