use Rattle.std.proofs.Common.{rules, get_or, pos, FitsSigned, w32, neg_ℤ, ◌≡◌, refl}
use Rattle.std.proofs.lemmas.Int.{to_z-of_z}
use Rattle.clauses.specs.Table.{cell}
use Rattle.clauses.proofs.Loops.{apart_next, All-whole}
use Rattle.clauses.proofs.table.are_apart.Goals as goal

pub loop-y-preserved : goal.loop-y-preserved
loop-y-preserved c =
    let f : FitsSigned w32 (get_or c.args.clause.now c.loop-y.y-index (pos 0)) = search rules in
    apart_next _ _ _ _ _ (to_z-of_z w32 _ f) c.unsigned_abs.ensures.value c.loop-y-test.true c.if-cells-unsigned_abs.false c.loop-y.invariant

pub returns : goal.returns
returns c = (λ _. All-whole (λ y. cell c.args.cells.now y ≡ neg_ℤ y → ⊥) _ _ c.loop-y-test.false c.loop-y.invariant, λ _. refl)
