use Rattle.std.proofs.Common.{◌≡◌, take}
use Rattle.polynomials.specs.Values.{degree}
use Rattle.polynomials.proofs.factors.is_one.Given as goal

abbrev pub invariant-loop-i : goal.invariant-loop-i
invariant-loop-i l = degree (take l.i l.factors) ≡ 0
