use Rattle.std.proofs.Common.{rules, ◌-◌, refl, get_or, pos, ◌≤ℤ◌}
use Rattle.clauses.proofs.Ordered.{rises_by_index, falls_at, below_whole}
use Rattle.clauses.proofs.numbers.rises.Goals as goal

pub returns-then-numbers-i : goal.returns-then-numbers-i
returns-then-numbers-i c =
    let t : get_or c.args.numbers.now c.loop-i.i (pos 0) ≤ℤ get_or c.args.numbers.now (c.loop-i.i - 1) (pos 0) = search rules in
    (λ e. cc, λ r. absurd (falls_at c.args.numbers.now c.loop-i.i c.loop-i.auto.i c.loop-i-test.true t r))

pub returns : goal.returns
returns c = (λ _. rises_by_index c.args.numbers.now (below_whole c.args.numbers.now c.loop-i.i c.loop-i-test.false c.loop-i.invariant), λ _. refl)
