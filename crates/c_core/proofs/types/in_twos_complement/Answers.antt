use Rattle.std.proofs.Common.{arith, ◌<◌, ◌≤◌, ◌^◌, ◌-◌}
use Rattle.std.proofs.lemmas.Int.{ints}
use Rattle.std.proofs.lemmas.Nat.{one_shl, pow_below}
use Rattle.c_core.proofs.Residues.{signed_low, signed_high}
use Rattle.c_core.proofs.types.in_twos_complement.Goals as goal

pub returns-then-low-bits : goal.returns-then-low-bits
returns-then-low-bits c =
    let h : c.args.low < 2 ^ (c.args.bits - 1) = omega (arith, one_shl (c.args.bits - 1) 64) in
    rw (signed_low c.args.bits c.args.low h) (omega (arith, ints))

pub returns-else-low-bits : goal.returns-else-low-bits
returns-else-low-bits c =
    let h : 2 ^ (c.args.bits - 1) ≤ c.args.low = omega (arith, one_shl (c.args.bits - 1) 64) in
    let p : 2 ^ c.args.bits < 2 ^ 127 = pow_below c.args.bits 127 (omega arith) in
    rw (one_shl c.args.bits 128 (omega arith)) (omega (arith, ints, signed_high c.args.bits c.args.low h c.requires.below))
