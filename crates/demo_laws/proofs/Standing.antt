-- The pieces of a demo's lines stand: each is the longest token at its place.
use Rattle.std.proofs.Common.{◌≡◌, ◌≢◌, ℕ, suc, ◌+◌, ◌^◌, ◌<◌, ◌==◌, ◌∙◌, Bool, true, false, nat_lt, List, [], ◌∷◌, ◌++◌, length, take, drop, get_or, Option, Some, decimal, refl, ap, arith}
use Rattle.std.specs.List.{list_all, prefix_len, take_while}
use Rattle.std.proofs.Math.Seq.{take-append_seam, take-length}
use Rattle.std.proofs.lemmas.Bool.Decides.{nat_tests}
use Rattle.std.proofs.lemmas.Fmt.{decimal_nonempty, first_decimal}
use Rattle.c_tokens.specs.declared.gap.Gap.TheVariants.{Absent}
use Rattle.c_tokens.specs.declared.token.TokenKind.{TokenKind}
use Rattle.c_tokens.specs.declared.token.TokenKind.TheVariants.{Word, Number}
use Rattle.c_tokens.specs.Bytes.{is_digit, is_letter, is_word_byte, is_number_byte}
use Rattle.c_tokens.specs.Gaps.{gap}
use Rattle.c_tokens.specs.Numbers.{constant}
use Rattle.c_tokens.specs.Scan.{scan, word_scan, number_scan}
use Rattle.c_tokens.proofs.Choices.{both, first_choice, second_choice}
use Rattle.c_tokens.proofs.Runs.{run_exact}
use Rattle.demo_laws.specs.DemoLines.{name, piece, word}
use Rattle.demo_laws.specs.Lines.{goes_on, Stands}
use Rattle.demo_laws.proofs.Numerals.{AreDigits, decimal_digits, digit_goes_on}

-- ---- words

pub word_found : (b c : ℕ) (w rest : List ℕ) → is_letter b ≡ true → list_all is_word_byte w ≡ true → is_word_byte c ≡ false →
    scan (b ∷ (w ++ c ∷ rest)) ≡ Some (length (b ∷ w), Some (Word (b ∷ w)))
word_found b c w rest letter all other =
    let run : prefix_len is_word_byte (w ++ c ∷ rest) ≡ length w = run_exact is_word_byte w c rest all other in
    let size : length w + 1 ≡ suc (length w) = omega arith in
    let whole : take (suc (length w)) (b ∷ (w ++ c ∷ rest)) ≡ b ∷ w = ap (λ t. b ∷ t) (take-append_seam w (c ∷ rest)) in
    let F : ℕ → Option (ℕ × Option TokenKind) = λ n. Some (n, Some (Word (take n (b ∷ (w ++ c ∷ rest))))) in
    first_choice (is_letter b) (word_scan (b ∷ (w ++ c ∷ rest))) _ letter ∙ ap (λ n. F (n + 1)) run ∙ ap F size ∙ ap (λ t. Some (suc (length w), Some (Word t))) whole

-- ---- decimals

pub all_run : (p : ℕ → Bool) (w : List ℕ) → list_all p w ≡ true → prefix_len p w ≡ length w
all_run p [] all = refl
all_run p (a ∷ w) all =
    let parts = both (p a) (list_all p w) all in
    let more = all_run p w parts.1 in
    rw parts.0 (omega (arith, more))

all_taken : (p : ℕ → Bool) (w : List ℕ) → list_all p w ≡ true → take_while p w ≡ w
all_taken p w all = ap (λ n. take n w) (all_run p w all) ∙ take-length w

dropped : (w : List ℕ) → drop (length w) w ≡ []
dropped [] = refl
dropped (a ∷ w) = dropped w

number_byte : (b : ℕ) → is_digit b ≡ true → is_number_byte b ≡ true
number_byte b e = rw (digit_goes_on b e) refl

pub all_number_bytes : (w : List ℕ) → list_all is_digit w ≡ true → list_all is_number_byte w ≡ true
all_number_bytes [] all = refl
all_number_bytes (a ∷ w) all =
    let parts = both (is_digit a) (list_all is_digit w) all in
    rw (number_byte a parts.0, all_number_bytes w parts.1) refl

all_word_bytes : (w : List ℕ) → list_all is_digit w ≡ true → list_all is_word_byte w ≡ true
all_word_bytes [] all = refl
all_word_bytes (a ∷ w) all =
    let parts = both (is_digit a) (list_all is_digit w) all in
    rw (digit_goes_on a parts.0, all_word_bytes w parts.1) refl

no_line_end : (b : ℕ) → is_digit b ≡ true → goes_on b ≡ true
no_line_end b e = grind (arith, nat_tests)

pub all_go_on : (w : List ℕ) → list_all is_digit w ≡ true → list_all goes_on w ≡ true
all_go_on [] all = refl
all_go_on (a ∷ w) all =
    let parts = both (is_digit a) (list_all is_digit w) all in
    rw (no_line_end a parts.0, all_go_on w parts.1) refl

-- a decimal that doesn't begin with 0 is this constant
pub digits_constant : (v d : ℕ) (ds : List ℕ) → AreDigits v (d ∷ ds) → d ≢ 48 → v < 2 ^ 64 → constant (d ∷ ds) ≡ Some (Number v true false 0)
digits_constant v d ds h other small =
    let first : (d == 48) ≡ false = grind (arith, nat_tests) in
    let run : prefix_len is_digit (d ∷ ds) ≡ length (d ∷ ds) = all_run is_digit (d ∷ ds) h.all in
    let taken : take (length ds) ds ≡ ds = take-length ds in
    let left : drop (length ds) ds ≡ [] = dropped ds in
    let some : nat_lt 0 (length (d ∷ ds)) ≡ true = grind (arith, nat_tests) in
    let low : nat_lt v (2 ^ 64) ≡ true = grind (arith, nat_tests) in
    rw first (rw (run, taken, left) (rw (some, h.value, low) refl))

pub digit_no_letter : (b : ℕ) → is_digit b ≡ true → is_letter b ≡ false
digit_no_letter b e = grind (arith, nat_tests)

digits_found : (v d c : ℕ) (ds rest : List ℕ) → AreDigits v (d ∷ ds) → d ≢ 48 → v < 2 ^ 64 → is_number_byte c ≡ false →
    scan (d ∷ (ds ++ c ∷ rest)) ≡ Some (length (d ∷ ds), Some (Number v true false 0))
digits_found v d c ds rest h other small ends =
    let parts = both (is_digit d) (list_all is_digit ds) h.all in
    let run : prefix_len is_number_byte (ds ++ c ∷ rest) ≡ length ds = run_exact is_number_byte ds c rest (all_number_bytes ds parts.1) ends in
    let size : length ds + 1 ≡ suc (length ds) = omega arith in
    let whole : take (suc (length ds)) (d ∷ (ds ++ c ∷ rest)) ≡ d ∷ ds = ap (λ t. d ∷ t) (take-append_seam ds (c ∷ rest)) in
    let F : ℕ → Option (ℕ × Option TokenKind) = λ n. Some (n, constant (take n (d ∷ (ds ++ c ∷ rest)))) in
    second_choice (is_letter d) (is_digit d) (word_scan (d ∷ (ds ++ c ∷ rest))) (number_scan (d ∷ (ds ++ c ∷ rest))) _ (digit_no_letter d parts.0) parts.0
    ∙ ap (λ n. F (n + 1)) run ∙ ap F size ∙ ap (λ t. Some (suc (length ds), constant t)) whole ∙ ap (λ k. Some (suc (length ds), k)) (digits_constant v d ds h other small)

digits_found_in : (v c : ℕ) (ds rest : List ℕ) → AreDigits v ds → 0 < length ds → 48 < get_or ds 0 0 → v < 2 ^ 64 → is_number_byte c ≡ false →
    scan (ds ++ c ∷ rest) ≡ Some (length ds, Some (Number v true false 0))
digits_found_in v c [] rest h some first small ends = absurd (omega arith)
digits_found_in v c (d ∷ ds) rest h some first small ends = digits_found v d c ds rest h (λ e. omega arith) small ends

number_found : (v c : ℕ) (rest : List ℕ) → 0 < v → v < 2 ^ 64 → is_number_byte c ≡ false → scan (decimal v ++ c ∷ rest) ≡ Some (length (decimal v), Some (Number v true false 0))
number_found v c rest some small ends =
    digits_found_in v c (decimal v) rest (decimal_digits v small) (decimal_nonempty v small) (first_decimal v some small) small ends

gap_plain : (fresh : Bool) (b : ℕ) (text : List ℕ) → (b == 32) ≡ false → (b == 9) ≡ false → (b == 10) ≡ false → (b == 12) ≡ false → (b == 13) ≡ false → (b == 35) ≡ false →
    (b == 47) ≡ false → gap fresh (b ∷ text) ≡ Absent
gap_plain true b text e1 e2 e3 e4 e5 e6 e7 = rw (e1, e2, e3, e4, e5, e6, e7) refl
gap_plain false b text e1 e2 e3 e4 e5 e6 e7 = rw (e1, e2, e3, e4, e5, e7) refl

digit_not : (b c : ℕ) → is_digit b ≡ true → is_digit c ≡ false → (b == c) ≡ false
digit_not b c e f = grind (arith, nat_tests)

digit_gap : (fresh : Bool) (b : ℕ) (text : List ℕ) → is_digit b ≡ true → gap fresh (b ∷ text) ≡ Absent
digit_gap fresh b text e =
    gap_plain fresh b text (digit_not b 32 e refl) (digit_not b 9 e refl) (digit_not b 10 e refl) (digit_not b 12 e refl) (digit_not b 13 e refl) (digit_not b 35 e refl) (digit_not b 47 e refl)

pub digits_gap : (fresh : Bool) (v : ℕ) (ds rest : List ℕ) → AreDigits v ds → 0 < length ds → gap fresh (ds ++ rest) ≡ Absent
digits_gap fresh v [] rest h some = absurd (omega arith)
digits_gap fresh v (d ∷ ds) rest h some = digit_gap fresh d (ds ++ rest) (both (is_digit d) (list_all is_digit ds) h.all).0

-- ---- pieces

pub name_stands : (blanks k c : ℕ) (rest : List ℕ) → k < 2 ^ 64 → is_word_byte c ≡ false → Stands (word blanks (name k)) (c ∷ rest)
name_stands blanks k c rest small ends =
    let digits = decimal_digits k small in
    record {
      found = word_found 120 c (decimal k) rest refl (all_word_bytes (decimal k) digits.all) ends;
      no_gap = λ fresh. elim fresh as (λ f. gap f (120 ∷ (decimal k ++ c ∷ rest)) ≡ Absent) [ true ↦ refl | false ↦ refl ];
      one_line = all_go_on (decimal k) digits.all;
    }

pub number_stands : (blanks v c : ℕ) (rest : List ℕ) → 0 < v → v < 2 ^ 64 → is_number_byte c ≡ false → Stands (piece blanks (decimal v) (Number v true false 0)) (c ∷ rest)
number_stands blanks v c rest some small ends =
    let digits = decimal_digits v small in
    record {
      found = number_found v c rest some small ends;
      no_gap = λ fresh. digits_gap fresh v (decimal v) (c ∷ rest) digits (decimal_nonempty v small);
      one_line = all_go_on (decimal v) digits.all;
    }
