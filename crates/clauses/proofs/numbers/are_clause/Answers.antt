use Rattle.clauses.proofs.numbers.are_clause.Goals as goal

pub returns : goal.returns
returns c = (
  (λ t. record { rising = c.rises.ensures.0 c.if-not-rises.false; real = c.are_real.ensures.0 c.if-not-are_real.false; apart = c.is_consistent.ensures.0 t }),
  (λ fine. c.is_consistent.ensures.1 fine.apart),
)
