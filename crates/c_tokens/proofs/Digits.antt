-- Numbers read digit by digit.
use Rattle.std.proofs.Common.{◌≡◌, ◌≤◌, ◌<◌, ◌+◌, ◌*◌, ◌^◌, ◌∙◌, ℕ, List, [], ◌∷◌, ◌++◌, length, take, drop, get_or, refl, sym, ap, arith, add-one}
use Rattle.std.specs.List.{fold}
use Rattle.std.proofs.Math.Nat.{mul-le-mul_left}
use Rattle.std.proofs.Math.Seq.{drop-cons, take-length}
use Rattle.std.proofs.lemmas.List.{take-append-drop}
use Rattle.c_tokens.specs.Bytes.{digit_value}
use Rattle.c_tokens.specs.Numbers.{number_in}

-- one more digit
abbrev pub more : ℕ → ℕ → ℕ → ℕ
more radix n d = n * radix + digit_value d

more_least : (radix n d : ℕ) → 1 ≤ radix → n ≤ more radix n d
more_least radix n d h = grind (arith, mul-le-mul_left n h)

fold_least : (radix : ℕ) → 1 ≤ radix → (digits : List ℕ) (n : ℕ) → n ≤ fold (more radix) n digits
fold_least radix h [] n = omega arith
fold_least radix h (d ∷ digits) n =
    let first = more_least radix n d h in
    let rest = fold_least radix h digits (more radix n d) in
    omega (arith, first, rest)

fold_parts : (radix : ℕ) (front digits : List ℕ) (n : ℕ) → fold (more radix) n (front ++ digits) ≡ fold (more radix) (fold (more radix) n front) digits
fold_parts radix [] digits n = refl
fold_parts radix (d ∷ front) digits n = fold_parts radix front digits (more radix n d)

-- the digits before a place, and those from it on
split_at : (radix : ℕ) (digits : List ℕ) (i : ℕ) → number_in radix digits ≡ fold (more radix) (number_in radix (take i digits)) (drop i digits)
split_at radix digits i = ap (number_in radix) (sym (take-append-drop i digits)) ∙ fold_parts radix (take i digits) (drop i digits) 0

-- a number that is too large after one digit is too large after all
pub too_large : (radix : ℕ) (digits : List ℕ) (i limit : ℕ) → 1 ≤ radix → i < length digits →
    limit ≤ more radix (number_in radix (take i digits)) (get_or digits i 0) → limit ≤ number_in radix digits
too_large radix digits i limit h inside large =
    let rest : drop i digits ≡ get_or digits i 0 ∷ drop (i + 1) digits = rw (add-one, drop-cons digits i 0) in
    let n = number_in radix (take i digits) in
    let last = fold_least radix h (drop (i + 1) digits) (more radix n (get_or digits i 0)) in
    let e : number_in radix digits ≡ fold (more radix) (more radix n (get_or digits i 0)) (drop (i + 1) digits) =
    split_at radix digits i ∙ ap (fold (more radix) n) rest in
    omega (arith, last, e, large)

-- a number of all digits
pub whole : (radix : ℕ) (digits : List ℕ) (i n : ℕ) → n ≡ number_in radix (take i digits) → i ≡ length digits → n < 2 ^ 64 →
    (number_in radix digits < 2 ^ 64) × (n ≡ number_in radix digits)
whole radix digits i n e all fits =
    let same : n ≡ number_in radix digits = e ∙ ap (λ k. number_in radix (take k digits)) all ∙ ap (number_in radix) (take-length digits) in
    (omega (arith, fits, same), same)
