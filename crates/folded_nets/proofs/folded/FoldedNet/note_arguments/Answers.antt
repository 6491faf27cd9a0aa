use Rattle.std.proofs.Common.{◌≡◌, Some, rules}
use Rattle.std.specs.Prelude.{slice_get}
use Rattle.circuits.specs.declared.net.NetNode.TheVariants.{And}
use Rattle.folded_nets.proofs.Copies.{arguments_apart}
use Rattle.folded_nets.proofs.folded.FoldedNet.note_arguments.Goals as goal

pub note_apart-requires-clause-pair : goal.note_apart-requires-clause-pair
note_apart-requires-clause-pair c =
    let net = c.args.self.now.net in
    let at : Some (And c.in-And.left c.in-And.right) ≡ slice_get net c.args.copy.node = search rules in
    arguments_apart net c.args.copy c.in-And.left c.in-And.right c.nodes.ensures.fine c.if-copy.false c.requires.never at
