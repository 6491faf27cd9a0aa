use Rattle.std.proofs.Common.{◌≡◌, ℕ, ◌+◌, ◌*◌, ◌^◌, ◌≤◌, suc, ap, sym, ◌∙◌, arith}
use Rattle.std.proofs.Math.Nat.{pow-le-pow_right, pow-suc}
use Rattle.sat_newness.proofs.undecided.few_variables.Goals as goal

pub overflow_mul-power : goal.overflow_mul-power
overflow_mul-power c =
    let k = c.loop-k.k in
    let le : 2 ^ (k + 2) ≤ 2 ^ 34 = pow-le-pow_right {n = 2} (omega arith) {i = k + 2} {j = 34} (omega arith) in
    omega (arith, le, c.loop-k.invariant)

pub loop-k-preserved : goal.loop-k-preserved
loop-k-preserved c =
    let k = c.loop-k.k in
    let e : suc (k + 2) ≡ k + 1 + 2 = omega arith in
    ap (λ (p : ℕ). p * 2) c.loop-k.invariant ∙ sym (pow-suc 2 (k + 2)) ∙ ap (λ (n : ℕ). 2 ^ n) e
