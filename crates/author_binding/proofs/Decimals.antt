-- Decimals as digits and their value.
use Rattle.std.proofs.Common.{◌≡◌, ℕ, ◌+◌, ◌*◌, ◌/◌, ◌%◌, ◌^◌, ◌<◌, ◌≤◌, ◌==◌, ◌∙◌, true, false, List, [], ◌∷◌, ◌++◌, length, get_or, decimal, refl, ap, arith}
use Rattle.std.specs.List.{list_all}
use Rattle.std.proofs.lemmas.Bool.Decides.{nat_tests}
use Rattle.std.proofs.lemmas.Fmt.{decimal_by_steps, decimal_nonempty, first_decimal}
use Rattle.std.proofs.lemmas.List.Folds.{list_all-append}
use Rattle.std.proofs.lemmas.List.Sums.{fold-append}
use Rattle.c_tokens.specs.Bytes.{is_digit, digit_value}
use Rattle.c_tokens.specs.Numbers.{number_in}
use Rattle.c_tokens.proofs.Choices.{both}

-- digits alone, and their value
record AreDigits (n : ℕ) (ds : List ℕ) : Type 0 where
  all : list_all is_digit ds ≡ true
  value : number_in 10 ds ≡ n

digit_is : (r : ℕ) → r < 10 → is_digit (48 + r) ≡ true
digit_is r small = grind (arith, nat_tests)

value_is : (r : ℕ) → r < 10 → digit_value (48 + r) ≡ r
value_is r small = grind (arith, nat_tests)

one_digit : (n : ℕ) → n < 10 → AreDigits n ((48 + n) ∷ [])
one_digit n small =
    let digit = digit_is n small in
    let value = value_is n small in
    record { all = rw digit refl; value = rw value (omega arith) }

more_digits : (n : ℕ) (ds : List ℕ) → 10 ≤ n → AreDigits (n / 10) ds → AreDigits n (ds ++ ((48 + n % 10) ∷ []))
more_digits n ds large h =
    let last : n % 10 < 10 = omega arith in
    let digit = digit_is (n % 10) last in
    let value = value_is (n % 10) last in
    let split : n / 10 * 10 + n % 10 ≡ n = omega arith in
    record {
      all = rw (list_all-append, h.all, digit) refl;
      value = fold-append (λ m d. m * 10 + digit_value d) 0 ds ((48 + n % 10) ∷ [])
          ∙ ap (λ m. m * 10 + digit_value (48 + n % 10)) h.value ∙ ap (λ r. n / 10 * 10 + r) value ∙ split;
    }

-- a number that doesn't begin with 0, as its first digit and the others
pub record IsDecimal (n : ℕ) (w : List ℕ) : Type 0 where
  pub first : ℕ
  pub others : List ℕ
  pub spelled : w ≡ first ∷ others
  pub value : number_in 10 (first ∷ others) ≡ n
  pub digit : is_digit first ≡ true
  pub digits : list_all is_digit others ≡ true
  pub no_octal : (first == 48) ≡ false

no_zero : (d : ℕ) → 48 < d → (d == 48) ≡ false
no_zero d large = grind (arith, nat_tests)

parted : (n : ℕ) (ds : List ℕ) → AreDigits n ds → 0 < length ds → 48 < get_or ds 0 0 → IsDecimal n ds
parted n [] h some large = absurd (omega arith)
parted n (d ∷ ds) h some large =
    let parts = both (is_digit d) (list_all is_digit ds) h.all in
    record {
      first = d;
      others = ds;
      spelled = refl;
      value = h.value;
      digit = parts.0;
      digits = parts.1;
      no_octal = no_zero d large;
    }

pub is_decimal : (n : ℕ) → 0 < n → n < 2 ^ 64 → IsDecimal n (decimal n)
is_decimal n some small =
    let digits = decimal_by_steps AreDigits one_digit more_digits n small in
    parted n (decimal n) digits (decimal_nonempty n small) (first_decimal n some small)
