use Rattle.std.proofs.Common.{◌≡◌, ◌++◌, drop}
use Rattle.c_inductive.specs.Picking.{picked}
use Rattle.c_meaning.specs.Placing.{placed_view}
use Rattle.wv_weed.proofs.copies.copies_of.Given as goal

abbrev pub invariant-loop-number : goal.invariant-loop-number
invariant-loop-number l =
    placed_view l.copies ++ picked (drop l.number-index l.numbers) (placed_view l.invariants)
    ≡ picked l.numbers (placed_view l.invariants)
