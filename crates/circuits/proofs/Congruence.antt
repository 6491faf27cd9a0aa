-- Numbers modulo 2^w: differences by multiples of 2^64 - 1, choices, and numbers that are equal below 2^w.
use Rattle.std.proofs.Common.{◌≡◌, ℕ, ◌+◌, ◌-◌, ◌*◌, ◌%◌, ◌^◌, ◌<◌, ◌≤◌, nat_eq, cond, Bool, true, false, sym, ◌∙◌, ap, arith}
use Rattle.std.proofs.lemmas.Bool.Decides.{nat_tests}
use Rattle.std.proofs.Math.Nat.{zero-mod, mod-eq_of_lt, add-mul-mod_self_right}
use Rattle.std.proofs.Math.Pow.{mod-mod-pow}
use Rattle.polynomials.specs.Values.{Same}
use Rattle.polynomials.proofs.Sameness.{same_refl, same_by, same_sym, same_trans, same_add, same_narrow}
use Rattle.circuits.specs.Numbers.{digit}

-- fewer digits
pub same_fewer : {n a b : ℕ} (w : ℕ) → w ≤ n → Same n a b → Same w a b
same_fewer {n} {a} {b} w l s =
    let e : n ≡ n - w + w = omega arith in
    let cut : (x : ℕ) → x % 2 ^ n % 2 ^ w ≡ x % 2 ^ w = λ x. ap (λ k. x % 2 ^ k % 2 ^ w) e ∙ mod-mod-pow x (n - w) w in
    record { is = sym (cut a) ∙ ap (λ k. k % 2 ^ w) s.is ∙ cut b }

-- n and 2^64 - 1 times n
pub vanishes : (w m n : ℕ) → w ≤ 64 → m + 1 ≡ 2 ^ 64 → Same w (n + m * n) 0
vanishes w m n l e =
    let whole : n + m * n ≡ 0 + n * 2 ^ 64 = omega (arith, ap (λ k. n * k) e) in
    let multiple : Same 64 (0 + n * 2 ^ 64) 0 = record { is = add-mul-mod_self_right 0 n (2 ^ 64) } in
    same_trans (same_by whole) (same_narrow l multiple)

-- b + test * (a - b)
pub choice : (w m : ℕ) (test : Bool) (a b : ℕ) → w ≤ 64 → m + 1 ≡ 2 ^ 64
    → Same w (b + 1 * (digit test * (a + m * b))) (cond test a b)
choice w m true a b l e =
    let apart : b + 1 * (1 * (a + m * b)) ≡ a + (b + m * b) = omega arith in
    same_trans (same_by apart) (same_trans (same_add (same_refl w a) (vanishes w m b l e)) (same_by (omega arith)))
choice w m false a b l e = same_by (omega arith)

pub zero_same : {w a : ℕ} → a % 2 ^ w ≡ 0 → Same w a 0
zero_same {w} {a} e = record { is = e ∙ sym (zero-mod (2 ^ w)) }

pub same_zero : {w a : ℕ} → Same w a 0 → a % 2 ^ w ≡ 0
same_zero {w} {a} s = s.is ∙ zero-mod (2 ^ w)

-- tests of which each gives the other
tests_agree : (x y a b : ℕ) → (x ≡ y → a ≡ b) → (a ≡ b → x ≡ y) → nat_eq x y ≡ nat_eq a b
tests_agree x y a b f g = grind (arith, nat_tests)

-- a difference that is 0
pub difference_zero : (w m a b : ℕ) → w ≤ 64 → m + 1 ≡ 2 ^ 64 → a < 2 ^ w → b < 2 ^ w → (a + m * b) % 2 ^ w ≡ 0 → a ≡ b
difference_zero w m a b l e la lb z =
    let back : Same w (a + (b + m * b)) a = same_trans (same_add (same_refl w a) (vanishes w m b l e)) (same_by (omega arith)) in
    let here : Same w (a + (b + m * b)) b = same_trans (same_by (omega arith)) (same_trans (same_add (same_refl w b) (zero_same z)) (same_by (omega arith))) in
    sym (mod-eq_of_lt la) ∙ (same_trans (same_sym back) here).is ∙ mod-eq_of_lt lb

-- a polynomial that is 0 where a difference is
pub equal_where_zero : (w m a b x y : ℕ) → w ≤ 64 → m + 1 ≡ 2 ^ 64 → a < 2 ^ w → b < 2 ^ w → Same w x (a + m * b)
    → (Same w x 0 → Same w y 0) → (Same w y 0 → Same w x 0) → nat_eq (y % 2 ^ w) 0 ≡ nat_eq a b
equal_where_zero w m a b x y l e la lb s kept only =
    tests_agree (y % 2 ^ w) 0 a b
    (λ z. difference_zero w m a b l e la lb (same_zero (same_trans (same_sym s) (only (zero_same z)))))
    (λ q. same_zero (kept (same_trans s (same_trans (same_by (ap (λ k. a + m * k) (sym q))) (vanishes w m a l e)))))
