use Rattle.std.proofs.Common.{◌<◌, length, IfSome}
use Rattle.polynomials.proofs.elimination.shortest_pivot.Given as goal

abbrev pub invariant-loop-place : goal.invariant-loop-place
invariant-loop-place l = IfSome l.shortest (λ p. p.place < length l.facts.items)
