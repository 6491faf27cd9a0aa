use Rattle.std.proofs.Common.{rules, refl, get_or, pos, FitsSigned, w32, subst, length, ◌≤◌}
use Rattle.std.proofs.lemmas.Int.{to_z-of_z}
use Rattle.clauses.specs.Within.{IsOf}
use Rattle.clauses.proofs.Loops.{All-whole, of_next}
use Rattle.clauses.proofs.cnf.is_of.Goals as goal

pub loop-x-preserved : goal.loop-x-preserved
loop-x-preserved c =
    let same = c.numbers-x-items.ensures.same in
    let f : FitsSigned w32 (get_or c.numbers-x-items.result.now c.loop-x.x-index (pos 0)) = search rules in
    of_next c.args.variables c.args.clause.now _ _ _ _ same c.numbers-x-items.ensures.fine (to_z-of_z w32 _ f) c.unsigned_abs.ensures.value c.loop-x-test.true c.if-unsigned_abs-variables.false c.loop-x.invariant

pub returns : goal.returns
returns c = (λ _. All-whole (IsOf c.args.variables) _ _ (subst (λ l. length l ≤ c.loop-x.x-index) (c.numbers-x-items.ensures.same) c.loop-x-test.false) c.loop-x.invariant, λ _. refl)
