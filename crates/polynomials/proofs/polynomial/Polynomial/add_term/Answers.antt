use Rattle.std.proofs.Common.{refl, sym, ◌∙◌}
use Rattle.polynomials.proofs.Terms.{nothing_is, inserted_is}
use Rattle.polynomials.proofs.polynomial.Polynomial.add_term.Goals as goal

pub returns-then-coefficient-eq0-clause-added : goal.returns-then-coefficient-eq0-clause-added
returns-then-coefficient-eq0-clause-added c = λ yes. nothing_is (sym c.if-coefficient-eq0.true ∙ c.masked-coefficient.ensures)

pub returns-clause-added : goal.returns-clause-added
returns-clause-added c = λ yes. inserted_is _ _ c.self.view_is c.in_ok-insert.ensures.items c.masked-coefficient.ensures refl
