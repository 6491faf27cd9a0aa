use Rattle.std.proofs.Common.{rules}
use Rattle.polynomials.proofs.Reducing.{reduced_start, reduced_more, given_follows}
use Rattle.polynomials.proofs.elimination.without_unknown.Goals as goal

pub returns-clause-question : goal.returns-clause-question
returns-clause-question c = reduced_more (reduced_start _ _ _) (given_follows _ _ c.args.pivot.place _ c.requires.inside c.index-fact.ensures) c.in_ok-question.ensures
