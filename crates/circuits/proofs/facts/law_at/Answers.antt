use Rattle.std.proofs.Common.{arith}
use Rattle.circuits.proofs.FactLaws.{fact_of_law, zero_at}
use Rattle.circuits.proofs.facts.law_at.Goals as goal

pub returns-then-law-width : goal.returns-then-law-width
returns-then-law-width c = λ net words here n zeros.
    fact_of_law c.index-law.result.now n (rw c.index-law.ensures (zero_at c.args.zeros.now.list.items _ _ zeros (omega (arith, c.if-at-len.false)))) c.if-law-eq0.true c.if-not-law.true c.if-law-width.true
