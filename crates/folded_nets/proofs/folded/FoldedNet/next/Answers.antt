use Rattle.std.proofs.Common.{◌≡◌, Some, length, rules}
use Rattle.std.specs.Prelude.{slice_get}
use Rattle.circuits.specs.Net.{Grown}
use Rattle.circuits.specs.declared.net.NetNode.TheVariants.{Constant, Input, And}
use Rattle.folded_nets.proofs.Copies.{never_constant, next_input, next_and, and_copied, ok_with, ok_both}
use Rattle.folded_nets.proofs.folded.FoldedNet.next.Goals as goal

pub copy_of-left-requires-clause-copied : goal.copy_of-left-requires-clause-copied
copy_of-left-requires-clause-copied c =
    let f = c.args.self.now in
    let e : Some (And c.in-And.a c.in-And.b) ≡ slice_get c.args.old.now (length f.copies.items) = search rules in
    (and_copied c.args.old.now f c.nodes.ensures.fine c.requires.follows c.in-And.a c.in-And.b e).0

pub copy_of-right-requires-clause-copied : goal.copy_of-right-requires-clause-copied
copy_of-right-requires-clause-copied c =
    let f = c.args.self.now in
    let e : Some (And c.in-And.a c.in-And.b) ≡ slice_get c.args.old.now (length f.copies.items) = search rules in
    (and_copied c.args.old.now f c.nodes.ensures.fine c.requires.follows c.in-And.a c.in-And.b e).1

pub returns-in-Constant : goal.returns-in-Constant
returns-in-Constant c =
    let f = c.args.self.now in
    let e : Some (Constant c.in-Constant.field-0) ≡ slice_get c.args.old.now (length f.copies.items) = search rules in
    absurd (never_constant c.args.old.now f c.nodes.ensures.fine c.requires.follows c.in-Constant.field-0 e)

pub returns-in-Input : goal.returns-in-Input
returns-in-Input c =
    let f = c.args.self.now in
    let e : Some (Input c.in-Input.field-0) ≡ slice_get c.args.old.now (length f.copies.items) = search rules in
    ok_both c.input.result _ _ _ c.input.ensures.added c.input.ensures.value
    (λ copy is m. next_input c.args.old.now f c.nodes.ensures.fine c.requires.follows _ copy c.in-Input.field-0 e is m (search rules))

pub returns-in-And : goal.returns-in-And
returns-in-And c =
    let f = c.args.self.now in
    let e : Some (And c.in-And.a c.in-And.b) ≡ slice_get c.args.old.now (length f.copies.items) = search rules in
    ok_with c.both.result (Grown 1 f.net c.both.new.self.net) _ _ c.both.ensures.grown c.both.ensures.value
    (λ grown copy m. next_and c.args.old.now f c.nodes.ensures.fine c.requires.follows c.both.new.self c.in-And.a c.in-And.b c.copy_of-left.result c.copy_of-right.result copy e c.copy_of-left.ensures
    c.copy_of-right.ensures m grown c.both.ensures.same)
