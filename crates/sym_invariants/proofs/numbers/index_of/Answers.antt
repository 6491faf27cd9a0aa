use Rattle.std.proofs.Common.{sym, ◌∙◌, arith, length-drop}
use Rattle.sym_invariants.proofs.Numbering.{number_past}
use Rattle.sym_invariants.proofs.numbers.index_of.Goals as goal

pub returns-then-is_before-clause-number : goal.returns-then-is_before-clause-number
returns-then-is_before-clause-number c =
    let i = c.loop-index.index in
    let ds = c.args.duties.now in
    let rest = number_past ds c.requires c.args.duty.now _ i c.loop-index-test.true (sym c.is_before.ensures ∙ c.if-is_before.true) in
    omega (arith, c.loop-index.invariant, rest, length-drop i ds, c.loop-index-test.true)
