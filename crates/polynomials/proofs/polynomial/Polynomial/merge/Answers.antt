use Rattle.std.proofs.Common.{refl, sym, ◌∙◌}
use Rattle.polynomials.proofs.Terms.{removed_at, merged_at}
use Rattle.polynomials.proofs.polynomial.Polynomial.merge.Goals as goal

pub returns-then-coefficient-eq0-clause-merged : goal.returns-then-coefficient-eq0-clause-merged
returns-then-coefficient-eq0-clause-merged c = removed_at _ _ c.self.view_is c.requires.narrow c.requires.inside c.index-term.ensures
    c.remove.ensures.items (sym c.if-coefficient-eq0.true ∙ c.masked-coefficient.ensures)

pub returns-else-coefficient-eq0-clause-merged : goal.returns-else-coefficient-eq0-clause-merged
returns-else-coefficient-eq0-clause-merged c = merged_at _ _ _ c.self.view_is c.requires.narrow c.requires.inside c.index-term.ensures
    refl c.masked-coefficient.ensures refl
