use Rattle.std.proofs.Common.{ap, length, arith}
use Rattle.polynomials.proofs.Terms.{same_more}
use Rattle.polynomials.proofs.polynomial.Polynomial.same_terms.Goals as goal

pub loop-i-preserved : goal.loop-i-preserved
loop-i-preserved c = same_more _ _ c.self.view_is c.other.view_is (omega (arith, c.len-i-end.ensures, ap length c.self.view_is))
    (omega (arith, c.len-i-end.ensures, c.len.ensures, c.len-2.ensures, c.if-len.false, ap length c.self.view_is, ap length c.other.view_is)) c.loop-i.invariant
    c.index.ensures c.index-in-loop-i.ensures c.if-ne.ensures
