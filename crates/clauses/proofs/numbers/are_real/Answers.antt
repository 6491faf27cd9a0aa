use Rattle.std.proofs.Common.{rules, refl, get_or, pos, FitsSigned, w32, arith}
use Rattle.std.proofs.lemmas.Int.{to_z-of_z}
use Rattle.clauses.specs.Clause.{IsNumber}
use Rattle.clauses.proofs.Loops.{All-whole, real_next}
use Rattle.clauses.proofs.numbers.are_real.Goals as goal

pub loop-x-preserved : goal.loop-x-preserved
loop-x-preserved c =
    let f : FitsSigned w32 (get_or c.args.numbers.now c.loop-x.x-index (pos 0)) = search rules in
    real_next _ _ _ _ (to_z-of_z w32 _ f) c.unsigned_abs-size.ensures.value c.loop-x-test.true c.if-size-eq0.false (omega arith) c.loop-x.invariant

pub returns : goal.returns
returns c = (λ _. All-whole IsNumber _ _ c.loop-x-test.false c.loop-x.invariant, λ _. refl)
