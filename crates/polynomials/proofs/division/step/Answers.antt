use Rattle.std.proofs.Common.{rules}
use Rattle.polynomials.proofs.Reducing.{by_multiple}
use Rattle.polynomials.proofs.division.step.Goals as goal

pub returns-then-branch : goal.returns-then-branch
returns-then-branch c = by_multiple (rw c.in_ok-less.ensures at (c.in_ok-add_multiple.ensures.added (search rules))) c.in-Some.ensures
