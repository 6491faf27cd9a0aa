-- Numbers modulo a power of two.
use Rattle.std.proofs.Common.{◌≡◌, ℕ, suc, ◌+◌, ◌-◌, ◌*◌, ◌/◌, ◌%◌, ◌^◌, ◌<◌, ◌≤◌, ℤ, pos, negsuc, ◌-ℤ◌, refl, sym, ◌∙◌, ap, arith, FitsSigned, bit_and}
use Rattle.std.specs.Int.{w128, cast_unsigned}
use Rattle.std.proofs.lemmas.Nat.{pow_pos, pow-add, and_mask, mod-mul-add, div-add-mod', div_below, mod_below, one_shl}
use Rattle.std.proofs.lemmas.Int.{ints}
use Rattle.std.proofs.lemmas.Bool.{le-ltb, lt-ltb}
use Rattle.c_core.specs.Types.{residue, signed_of}

pub residue_below : (w : ℕ) (v : ℤ) → residue w v < 2 ^ w
unfolding residue
residue_below w (pos n) = mod_below n (2 ^ w) (pow_pos w)
residue_below w (negsuc n) = let h = pow_pos w in omega arith

complement : (b q r d : ℕ) → r < b → ((q + 1 + d) * b - suc (q * b + r)) % b ≡ b - 1 - r
complement b q r d h =
    let e : (q + 1 + d) * b - suc (q * b + r) ≡ d * b + (b - 1 - r) = omega arith in
    rw e (mod-mul-add d b (b - 1 - r) (omega arith))

-- the residue of a number below 0, whose digits are those of m * b more
residue_mirrored : (b m n : ℕ) → 0 < b → n < m * b → (m * b - suc n) % b ≡ b - 1 - n % b
residue_mirrored b m n h l =
    let q : n / b < m = div_below n b m h l in
    let e : n / b + 1 + (m - 1 - n / b) ≡ m = omega arith in
    let s : n / b * b + n % b ≡ n = div-add-mod' n b in
    let c = complement b (n / b) (n % b) (m - 1 - n / b) (mod_below n b h) in
    rw (e, s) at c

-- the low digits of a number in 128 bits of two's complement
pub low_digits : (k : ℕ) (v : ℤ) → k ≤ 128 → FitsSigned w128 v → cast_unsigned w128 v % 2 ^ k ≡ residue k v
unfolding residue
low_digits k (pos n) h f = refl
low_digits k (negsuc n) h f =
    let e : 2 ^ (128 - k) * 2 ^ k ≡ 2 ^ 128 = sym (pow-add 2 (128 - k) k) ∙ (let e : 128 - k + k ≡ 128 = omega arith in ap (λ j. 2 ^ j) e) in
    let l : n < 2 ^ (128 - k) * 2 ^ k = omega arith in
    rw e at (residue_mirrored (2 ^ k) (2 ^ (128 - k)) n (pow_pos k) l)

pub masked : (k : ℕ) (v : ℤ) → k < 128 → FitsSigned w128 v → bit_and (cast_unsigned w128 v) ((1 * 2 ^ k) % 2 ^ 128 - 1) ≡ residue k v
masked k v h f = rw (one_shl k 128 h, and_mask (cast_unsigned w128 v) k) (low_digits k v (omega arith) f)

-- the top half is below 0
pub signed_high : (w n : ℕ) → 2 ^ (w - 1) ≤ n → n < 2 ^ w → pos n -ℤ pos (2 ^ w) ≡ signed_of w n
unfolding signed_of
signed_high w n h l = rw (le-ltb n (2 ^ (w - 1)) h) (omega (arith, ints))

pub signed_low : (w n : ℕ) → n < 2 ^ (w - 1) → signed_of w n ≡ pos n
unfolding signed_of
signed_low w n h = rw (lt-ltb n (2 ^ (w - 1)) h) refl
