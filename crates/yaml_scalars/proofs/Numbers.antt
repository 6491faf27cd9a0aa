-- Numbers of hexadecimal digits.
use Rattle.std.proofs.Common.{◌≡◌, ℕ, suc, ◌+◌, ◌-◌, ◌*◌, ◌^◌, ◌<◌, ◌≤◌, List, ◌∷◌, length, drop, get_or, refl, sym, ap, ◌∙◌, Option, Some, None, arith, drop-cons, add-one, lit<}
use Rattle.std.proofs.Math.Nat.{pow-le-pow_right}
use Rattle.std.proofs.lemmas.List.{drop_all}
use Rattle.yaml_lines.specs.Chunks.{◌>>=◌}
use Rattle.yaml_scalars.specs.Quoted.{number, digit}

pub grows : (v d at : ℕ) → v < 16 ^ at → d < 16 → 16 * v + d < 16 ^ (at + 1)
grows v d at h k = let step : 16 ^ (at + 1) ≡ 16 * 16 ^ at = rw add-one (grind arith) in omega arith

pub fits : (v d at : ℕ) → v < 16 ^ at → at < 8 → d < 16 → 16 * v + d < 2 ^ 32
fits v d at h k m =
    let few : at ≤ 7 = omega arith in
    let most : 16 ^ at ≤ 16 ^ 7 = pow-le-pow_right (lit< tt) few in
    let seven : 16 ^ 7 ≡ 268435456 = refl in
    omega arith

less : (n at : ℕ) → at < n → n - at ≡ suc (n - (at + 1))
less n at h = omega arith

pub number_step : (n at v c d : ℕ) (text : List ℕ) → at < n → at < length text → c ≡ get_or text at c → digit c ≡ Some d →
    number (n - (at + 1)) (16 * v + d) (drop (at + 1) text) ≡ number (n - at) v (drop at text)
number_step n at v c d text h k is e =
    let here : drop at text ≡ c ∷ drop (at + 1) text = drop-cons text at c k ∙ ap (λ x. x ∷ drop (suc at) text) (sym is) ∙ ap (λ i. c ∷ drop i text) (sym (add-one at)) in
    sym (ap (λ m. number m v (drop at text)) (less n at h) ∙ ap (number (suc (n - (at + 1))) v) here ∙ ap (λ (o : Option ℕ). o >>= λ x. number (n - (at + 1)) (16 * v + x) (drop (at + 1) text)) e)

pub number_other : (n at v c : ℕ) (text : List ℕ) → at < n → at < length text → c ≡ get_or text at c → digit c ≡ None → number (n - at) v (drop at text) ≡ None
number_other n at v c text h k is e =
    let here : drop at text ≡ c ∷ drop (at + 1) text = drop-cons text at c k ∙ ap (λ x. x ∷ drop (suc at) text) (sym is) ∙ ap (λ i. c ∷ drop i text) (sym (add-one at)) in
    ap (λ m. number m v (drop at text)) (less n at h) ∙ ap (number (suc (n - (at + 1))) v) here ∙ ap (λ (o : Option ℕ). o >>= λ x. number (n - (at + 1)) (16 * v + x) (drop (at + 1) text)) e

pub number_short : (n at v : ℕ) (text : List ℕ) → at < n → at ≡ length text → number (n - at) v (drop at text) ≡ None
number_short n at v text h k = ap (λ m. number m v (drop at text)) (less n at h) ∙ ap (number (suc (n - (at + 1))) v) (drop_all at text (omega arith))
