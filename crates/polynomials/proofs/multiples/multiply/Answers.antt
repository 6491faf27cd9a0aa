use Rattle.std.proofs.Common.{rules}
use Rattle.std.proofs.lemmas.Bool.{OnFalse_at}
use Rattle.polynomials.proofs.Summing.{multiplied_more, product_too_much}
use Rattle.polynomials.proofs.multiples.multiply.Goals as goal

pub loop-i-preserved : goal.loop-i-preserved
loop-i-preserved c = multiplied_more _ c.loop-i.invariant c.terms-terms.ensures (search rules)
    (c.in_ok-add_multiple.ensures.added (search rules)) c.in_ok-add_multiple.ensures.grown

pub returns-then-not-branch : goal.returns-then-not-branch
returns-then-not-branch c = product_too_much _ c.loop-i.invariant c.terms-terms.ensures (search rules)
    (OnFalse_at (search rules) c.in_ok-add_multiple.ensures.refused)
