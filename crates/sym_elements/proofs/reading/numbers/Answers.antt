use Rattle.std.proofs.Common.{◌≤◌, ◌^◌, arith}
use Rattle.std.proofs.Math.Pow.{pow_mono}
use Rattle.sym_elements.proofs.reading.numbers.Goals as goal

pub returns : goal.returns
returns c =
    let many : 2 ^ 32 ≤ 2 ^ c.args.digits = pow_mono {i = 32} (omega (arith, c.if-digits-lt32.false)) in
    omega (arith, many)
