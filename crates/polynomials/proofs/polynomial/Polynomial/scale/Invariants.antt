use Rattle.std.proofs.Common.{◌≡◌, ◌++◌, map, take, drop}
use Rattle.polynomials.proofs.Terms.{scaled}
use Rattle.polynomials.proofs.polynomial.Polynomial.scale.Given as goal

abbrev pub invariant-loop-i : goal.invariant-loop-i
invariant-loop-i l = l.self-inside.terms.items ≡ map (scaled l.width l.by) (take l.i l.fn.self) ++ drop l.i l.fn.self
