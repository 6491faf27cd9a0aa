use Rattle.std.proofs.Common.{ap, length, arith}
use Rattle.std.proofs.lemmas.List.Edits.{map_over_more}
use Rattle.polynomials.proofs.Terms.{scaled, scaled_is}
use Rattle.polynomials.proofs.polynomial.Polynomial.scale.Goals as goal

pub loop-i-preserved : goal.loop-i-preserved
loop-i-preserved c = rw c.masked-coefficient.ensures (map_over_more (scaled c.args.width c.args.by) c.args.self.now _ c.loop-i.i _
    (omega (arith, c.len-i-end.ensures, ap length c.self.view_is)) c.loop-i.invariant c.index-term.ensures)

pub returns : goal.returns
returns c = scaled_is c.loop-i.i c.requires c.loop-i.invariant (omega (arith, c.len-i-end.ensures, ap length c.self.view_is))
