-- Numbers that fit 64 bits.
use Rattle.std.proofs.Common.{ℕ, ◌+◌, ◌*◌, ◌<◌, ◌≤◌, mul-le-mul, arith}

-- the cell of a row and a column
pub cell_fits : (i n j : ℕ) → i < 4294967296 → n < 4294967296 → j < 4294967296 → i * n + j < 18446744073709551616
cell_fits i n j a b c =
    let k : i ≤ 4294967295 = omega (arith, a) in
    let l : n ≤ 4294967295 = omega (arith, b) in
    let h : i * n ≤ 4294967295 * 4294967295 = mul-le-mul k l in
    omega (arith, h, c)
