use Rattle.std.proofs.Common.{◌-◌}
use Rattle.clauses.proofs.Ordered.{ApartOutside}
use Rattle.clauses.proofs.numbers.is_consistent.Given as goal

abbrev pub invariant-loop-low : goal.invariant-loop-low
invariant-loop-low l = ApartOutside l.numbers l.low l.high

abbrev pub decreases-loop-low : goal.decreases-loop-low
decreases-loop-low l = l.high - l.low
