use Rattle.std.proofs.Common.{rules, get_or, pos, FitsSigned, w32, ◌≡◌, refl}
use Rattle.std.proofs.lemmas.Int.{to_z-of_z}
use Rattle.clauses.specs.Table.{Fits, cell}
use Rattle.clauses.proofs.Loops.{held_next, All-whole}
use Rattle.clauses.proofs.table.holds_all.Goals as goal

pub loop-y-preserved : goal.loop-y-preserved
loop-y-preserved c =
    let f : FitsSigned w32 (get_or c.args.clause.now c.loop-y.y-index (pos 0)) = search rules in
    let g : FitsSigned w32 (get_or c.args.cells.now c.unsigned_abs-variable.result (pos 0)) = search rules in
    held_next _ _ _ _ _ (to_z-of_z w32 _ f) c.unsigned_abs-variable.ensures.value c.loop-y-test.true c.if-variable-cells.false g f c.if-cells-variable.false c.loop-y.invariant

pub returns : goal.returns
returns c = (λ _. All-whole (λ y. Fits c.args.cells.now y × (cell c.args.cells.now y ≡ y)) _ _ c.loop-y-test.false c.loop-y.invariant, λ _. refl)
