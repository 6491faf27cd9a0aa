use Rattle.std.proofs.Common.{◌∙◌}
use Rattle.polynomials.proofs.Terms.{pushed_is, single_is}
use Rattle.polynomials.proofs.polynomial.Polynomial.unknown.Goals as goal

pub returns-clause-value : goal.returns-clause-value
returns-clause-value c = λ v. pushed_is v c.p.inside.terms.items _ _ c.in_ok-push.ensures.items (c.p.view_is ∙ c.new-p.ensures) ∙ single_is v c.args.x
