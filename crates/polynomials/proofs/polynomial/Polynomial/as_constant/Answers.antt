use Rattle.std.proofs.Common.{get_or, refl, ap, ◌∙◌, length, arith, rules}
use Rattle.polynomials.proofs.Terms.{summed_start, summed_more, summed_end}
use Rattle.polynomials.proofs.polynomial.Polynomial.as_constant.Goals as goal

pub loop-i-init : goal.loop-i-init
loop-i-init c = summed_start _

pub loop-i-preserved : goal.loop-i-preserved
loop-i-preserved c = summed_more _ c.loop-i.invariant (omega (arith, c.len-i-end.ensures, ap length c.self.view_is))
    (c.index-term.ensures ∙ ap (λ l. get_or l c.loop-i.i c.index-term.result.now) c.self.view_is) c.if-not-is_one.ensures refl

pub returns : goal.returns
returns c = summed_end c.loop-i.invariant (omega (arith, c.len-i-end.ensures, ap length c.self.view_is))
