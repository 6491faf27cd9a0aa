use Rattle.std.proofs.Common.{sym, ap, ◌∙◌}
use Rattle.polynomials.specs.Values.{value}
use Rattle.polynomials.proofs.Sameness.{same_by, same_trans, same_mod}
use Rattle.polynomials.proofs.Terms.{pushed_is, number_is}
use Rattle.polynomials.proofs.polynomial.Polynomial.constant.Goals as goal
use Rattle.polynomials.proofs.polynomial.Polynomial.constant.Goals.{then-coefficient-ne0+in_ok-push, else-coefficient-ne0}

pub returns-clause-value : goal.returns-clause-value
returns-clause-value c = λ v.
    let cut = same_trans (same_by c.masked-coefficient.ensures) (same_mod c.args.width c.args.c) in
    elim c.if-coefficient-ne0.branch [
      | then-coefficient-ne0+in_ok-push w ↦ same_trans (same_by (pushed_is v c.p.inside.terms.items _ _ (w.p-is ∙ w.in_ok-push.ensures.items) (c.p.view_is ∙ c.new-p.ensures) ∙ number_is v c.masked-coefficient.result)) cut
      | else-coefficient-ne0 w ↦ same_trans (same_by (ap (value v) (w.p-is ∙ c.new-p.ensures) ∙ sym w.if-coefficient-ne0.false)) cut
    ]
