use Rattle.std.proofs.Common.{sym, ◌∙◌}
use Rattle.polynomials.proofs.Terms.{zeros_kept}
use Rattle.polynomials.proofs.polynomial.Polynomial.normalise.Goals as goal

pub returns : goal.returns
returns c = zeros_kept c.odd_part-odd.result c.requires (sym c.if-masked-ne1.false ∙ c.masked.ensures) (record { is = c.scale.ensures.is; within = c.scale.ensures.within })
