use Rattle.std.proofs.Common.{refl, subst}
use Rattle.std.proofs.lemmas.List.Elements.{All-more}
use Rattle.std.specs.List.{All}
use Rattle.clauses.specs.Within.{IsOf}
use Rattle.clauses.proofs.Loops.{All-whole}
use Rattle.clauses.proofs.cnf.are_of.Goals as goal

pub loop-clause-preserved : goal.loop-clause-preserved
loop-clause-preserved c =
    All-more (All (IsOf c.args.variables)) c.args.clauses.now c.loop-clause.clause-index c.clause-item.result c.loop-clause-test.true c.loop-clause.invariant
    (subst (All (IsOf c.args.variables)) c.clause-item.is (c.is_of.ensures.0 c.if-not-is_of.false))

pub returns : goal.returns
returns c = (λ _. All-whole (All (IsOf c.args.variables)) _ _ c.loop-clause-test.false c.loop-clause.invariant, λ _. refl)
