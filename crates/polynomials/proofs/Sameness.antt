-- Numbers modulo 2^w.
use Rattle.std.proofs.Common.{◌≡◌, ℕ, ◌+◌, ◌-◌, ◌*◌, ◌%◌, ◌^◌, ◌<◌, ◌≤◌, refl, sym, ◌∙◌, ap, arith, subst}
use Rattle.std.proofs.Math.Nat.{add-mod, mod-mod, add-mul-mod_self_right}
use Rattle.std.proofs.Math.Pow.{mod-mod-pow}
use Rattle.std.proofs.lemmas.Nat.{mul-mod, pow_pos}
use Rattle.polynomials.specs.Values.{Same}

pub same_refl : (w a : ℕ) → Same w a a
same_refl w a = record { is = refl }

pub same_by : {w a b : ℕ} → a ≡ b → Same w a b
same_by {w} {a} {b} e = record { is = ap (λ k. k % 2 ^ w) e }

pub same_sym : {w a b : ℕ} → Same w a b → Same w b a
same_sym {w} {a} {b} p = record { is = sym p.is }

pub same_trans : {w a b c : ℕ} → Same w a b → Same w b c → Same w a c
same_trans {w} {a} {b} {c} p q = record { is = p.is ∙ q.is }

pub same_add : {w a b c d : ℕ} → Same w a b → Same w c d → Same w (a + c) (b + d)
same_add {w} {a} {b} {c} {d} p q = record { is = add-mod a c (2 ^ w) ∙ ap (λ k. (k + c % 2 ^ w) % 2 ^ w) p.is ∙ ap (λ k. (b % 2 ^ w + k) % 2 ^ w) q.is ∙ sym (add-mod b d (2 ^ w)) }

pub same_mul : {w a b c d : ℕ} → Same w a b → Same w c d → Same w (a * c) (b * d)
same_mul {w} {a} {b} {c} {d} p q = record { is = mul-mod a c (2 ^ w) ∙ ap (λ k. (k * (c % 2 ^ w)) % 2 ^ w) p.is ∙ ap (λ k. (b % 2 ^ w * k) % 2 ^ w) q.is ∙ sym (mul-mod b d (2 ^ w)) }

-- the lowest digits
pub same_mod : (w a : ℕ) → Same w (a % 2 ^ w) a
same_mod w a = record { is = mod-mod a (2 ^ w) }

-- fewer digits
pub same_narrow : {w a b : ℕ} → w ≤ 64 → Same 64 a b → Same w a b
same_narrow {w} {a} {b} h p =
    let e : 64 ≡ 64 - w + w = omega arith in
    let cut : (n : ℕ) → n % 2 ^ 64 % 2 ^ w ≡ n % 2 ^ w = λ n. ap (λ k. n % 2 ^ k % 2 ^ w) e ∙ mod-mod-pow n (64 - w) w in
    record { is = sym (cut a) ∙ ap (λ k. k % 2 ^ w) p.is ∙ cut b }

-- what a wrapping sum or product and a mask leave
pub same_masked : {w a b : ℕ} → w ≤ 64 → b ≡ a % 2 ^ 64 % 2 ^ w → Same w b a
same_masked {w} {a} {b} h e = same_trans (same_by e) (same_trans (same_mod w (a % 2 ^ 64)) (same_narrow h (same_mod 64 a)))

same_whole : (w k : ℕ) → Same w (k * 2 ^ w) 0
same_whole w k =
    let e : k * 2 ^ w ≡ 0 + k * 2 ^ w = omega arith in
    record { is = ap (λ n. n % 2 ^ w) e ∙ add-mul-mod_self_right 0 k (2 ^ w) }

one_more : (k m p : ℕ) → m ≡ p + 1 → k + k * p ≡ k * m
one_more k m p e = omega (arith, ap (λ x. k * x) e)

pub same_cancel : {w a b : ℕ} (k : ℕ) → Same w (a + k) (b + k) → Same w a b
same_cancel {w} {a} {b} k p =
    let rest : ℕ = k * (2 ^ w - 1) in
    let whole : k + rest ≡ k * 2 ^ w = one_more k (2 ^ w) (2 ^ w - 1) (omega (arith, pow_pos w)) in
    let off : (n : ℕ) → Same w (n + k + rest) n = λ n.
    let first : n + k + rest ≡ n + k * 2 ^ w = omega (arith, whole) in
    let last : n + 0 ≡ n = omega arith in
    same_trans (same_by first) (same_trans (same_add (same_refl w n) (same_whole w k)) (same_by last)) in
    same_trans (same_sym (off a)) (same_trans (same_add p (same_refl w rest)) (off b))

-- the same without a mask
pub same_cut : {w a b : ℕ} → w ≤ 64 → b ≡ a % 2 ^ 64 → Same w b a
same_cut {w} {a} {b} h e = same_trans (same_by e) (same_narrow h (same_mod 64 a))
