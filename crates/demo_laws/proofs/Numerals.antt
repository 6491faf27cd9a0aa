-- Decimals as tokens, and names that end in them.
use Rattle.std.proofs.Common.{◌≡◌, ℕ, ◌+◌, ◌*◌, ◌/◌, ◌%◌, ◌^◌, ◌<◌, ◌≤◌, ◌∙◌, true, List, [], ◌∷◌, ◌++◌, decimal, refl, ap, arith}
use Rattle.std.specs.List.{list_all}
use Rattle.std.proofs.lemmas.Bool.Decides.{nat_tests}
use Rattle.std.proofs.lemmas.Fmt.{decimal_by_steps}
use Rattle.std.proofs.lemmas.List.Folds.{list_all-append}
use Rattle.std.proofs.lemmas.List.Sums.{fold-append}
use Rattle.c_tokens.specs.Bytes.{is_digit, is_word_byte, digit_value}
use Rattle.c_tokens.specs.Numbers.{number_in}

-- digits alone, and their value
pub record AreDigits (n : ℕ) (ds : List ℕ) : Type 0 where
  pub all : list_all is_digit ds ≡ true
  pub value : number_in 10 ds ≡ n

digit_is : (r : ℕ) → r < 10 → is_digit (48 + r) ≡ true
digit_is r small = grind (arith, nat_tests)

value_is : (r : ℕ) → r < 10 → digit_value (48 + r) ≡ r
value_is r small = grind (arith, nat_tests)

one_digit : (n : ℕ) → n < 10 → AreDigits n ((48 + n) ∷ [])
one_digit n small =
    let digit = digit_is n small in
    let value = value_is n small in
    record { all = rw digit refl; value = rw value (omega arith) }

more_digits : (n : ℕ) (ds : List ℕ) → 10 ≤ n → AreDigits (n / 10) ds → AreDigits n (ds ++ ((48 + n % 10) ∷ []))
more_digits n ds large h =
    let last : n % 10 < 10 = omega arith in
    let digit = digit_is (n % 10) last in
    let value = value_is (n % 10) last in
    let split : n / 10 * 10 + n % 10 ≡ n = omega arith in
    record {
      all = rw (list_all-append, h.all, digit) refl;
      value = fold-append (λ m d. m * 10 + digit_value d) 0 ds ((48 + n % 10) ∷ []) ∙ ap (λ m. m * 10 + digit_value (48 + n % 10)) h.value ∙ ap (λ r. n / 10 * 10 + r) value ∙ split;
    }

pub decimal_digits : (n : ℕ) → n < 2 ^ 64 → AreDigits n (decimal n)
decimal_digits n small = decimal_by_steps AreDigits one_digit more_digits n small

pub digit_goes_on : (b : ℕ) → is_digit b ≡ true → is_word_byte b ≡ true
digit_goes_on b e = grind (arith, nat_tests)
