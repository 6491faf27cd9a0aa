use Rattle.std.proofs.Common.{rules}
use Rattle.polynomials.proofs.Summing.{added_start, added_more, added_end}
use Rattle.polynomials.proofs.polynomial.Polynomial.add_multiple.Goals as goal

pub loop-i-preserved : goal.loop-i-preserved
loop-i-preserved c = added_more _ c.requires c.loop-i.invariant c.terms-terms.ensures (search rules) c.in-Some.ensures
    (c.in_ok-add_term.ensures.added (search rules)) c.in_ok-add_term.ensures.grown
