use Rattle.std.proofs.Common.{◌*◌, ◌-◌, ◌^◌}
use Rattle.circuits.specs.Net.{holds}
use Rattle.circuits.specs.Numbers.{Counts, digit}
use Rattle.circuits.proofs.conversions.repeated.Given as goal

abbrev pub invariant-loop-i : goal.invariant-loop-i
invariant-loop-i l = Counts l.net l.out.items l.i (λ v. digit (holds v l.net l.bit) * (2 ^ l.i - 1))
