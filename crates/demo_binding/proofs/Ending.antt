-- A number at the end of a text.
use Rattle.std.proofs.Common.{◌≡◌, ◌≢◌, ℕ, zero, suc, ◌+◌, ◌^◌, ◌<◌, ◌∙◌, true, false, not, nat_eq, List, [], ◌∷◌, ◌++◌, length, take, get_or, Option, Some, decimal, refl, sym, ap, subst, arith, append-nil}
use Rattle.std.specs.Fmt.{digits}
use Rattle.std.specs.List.{list_all, prefix_len}
use Rattle.std.proofs.Math.Seq.{take-length}
use Rattle.std.proofs.lemmas.Bool.Decides.{nat_tests}
use Rattle.std.proofs.lemmas.Fmt.{decimal_nonempty, first_decimal}
use Rattle.c_tokens.specs.declared.gap.Gap.TheVariants.{Absent}
use Rattle.c_tokens.specs.declared.token.TokenKind.{TokenKind}
use Rattle.c_tokens.specs.declared.token.TokenKind.TheVariants.{Number}
use Rattle.c_tokens.specs.Bytes.{is_digit, is_letter, is_number_byte}
use Rattle.c_tokens.specs.Gaps.{gap}
use Rattle.c_tokens.specs.Numbers.{constant}
use Rattle.c_tokens.specs.Scan.{scan, word_scan, number_scan}
use Rattle.c_tokens.proofs.Choices.{both, second_choice}
use Rattle.demo_laws.specs.DemoLines.{piece, number}
use Rattle.demo_laws.specs.Lines.{Stands}
use Rattle.demo_laws.proofs.Numerals.{AreDigits, decimal_digits}
use Rattle.demo_laws.proofs.Standing.{all_go_on, all_number_bytes, all_run, digit_no_letter, digits_constant, digits_gap}

digits_end : (v d : ℕ) (ds : List ℕ) → AreDigits v (d ∷ ds) → d ≢ 48 → v < 2 ^ 64 → scan (d ∷ ds) ≡ Some (length (d ∷ ds), Some (Number v true false 0))
digits_end v d ds h other small =
    let parts = both (is_digit d) (list_all is_digit ds) h.all in
    let run : prefix_len is_number_byte ds ≡ length ds = all_run is_number_byte ds (all_number_bytes ds parts.1) in
    let size : length ds + 1 ≡ suc (length ds) = omega arith in
    let whole : take (suc (length ds)) (d ∷ ds) ≡ d ∷ ds = ap (λ t. d ∷ t) (take-length ds) in
    let F : ℕ → Option (ℕ × Option TokenKind) = λ n. Some (n, constant (take n (d ∷ ds))) in
    second_choice (is_letter d) (is_digit d) (word_scan (d ∷ ds)) (number_scan (d ∷ ds)) _ (digit_no_letter d parts.0) parts.0
    ∙ ap (λ n. F (n + 1)) run ∙ ap F size ∙ ap (λ t. Some (suc (length ds), constant t)) whole ∙ ap (λ k. Some (suc (length ds), k)) (digits_constant v d ds h other small)

digits_end_in : (v : ℕ) (ds : List ℕ) → AreDigits v ds → 0 < length ds → 48 < get_or ds 0 0 → v < 2 ^ 64 → scan ds ≡ Some (length ds, Some (Number v true false 0))
digits_end_in v [] h some first small = absurd (omega arith)
digits_end_in v (d ∷ ds) h some first small = digits_end v d ds h (λ e. omega arith) small

zero_ends : (blanks : ℕ) → Stands (number blanks 0) []
unfolding digits
zero_ends blanks = record { found = refl; no_gap = λ fresh. elim fresh as (λ f. gap f (decimal 0 ++ []) ≡ Absent) [ true ↦ refl | false ↦ refl ]; one_line = refl }

positive_ends : (blanks v : ℕ) → 0 < v → v < 2 ^ 64 → Stands (piece blanks (decimal v) (Number v true false 0)) []
positive_ends blanks v some small =
    let are = decimal_digits v small in
    record {
      found = ap scan (append-nil (decimal v)) ∙ digits_end_in v (decimal v) are (decimal_nonempty v small) (first_decimal v some small) small;
      no_gap = λ fresh. digits_gap fresh v (decimal v) [] are (decimal_nonempty v small);
      one_line = all_go_on (decimal v) are.all;
    }

not_zero : (n : ℕ) → 0 < n → nat_eq n 0 ≡ false
not_zero n some = grind (arith, nat_tests)

pub number_ends : (blanks v : ℕ) → v < 2 ^ 64 → Stands (number blanks v) []
number_ends blanks zero small = zero_ends blanks
number_ends blanks (suc v) small =
    subst (λ b. Stands (piece blanks (decimal (suc v)) (Number (suc v) (not b) false 0)) []) (sym (not_zero (suc v) (omega arith))) (positive_ends blanks (suc v) (omega arith) small)
