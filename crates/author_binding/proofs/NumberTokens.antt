-- Numbers at the end of a text, with a suffix or without one, as tokens.
use Rattle.std.proofs.Common.{◌≡◌, ℕ, suc, ◌+◌, ◌^◌, ◌<◌, ◌==◌, ◌∙◌, Bool, true, false, nat_lt, List, [], ◌∷◌, ◌++◌, length, take, drop, Option, Some, refl, sym, ap, subst, arith}
use Rattle.std.specs.List.{list_all, prefix_len}
use Rattle.std.proofs.Math.Seq.{drop-append_seam, take-append_seam, take-length, drop-length}
use Rattle.std.proofs.lemmas.Bool.Decides.{nat_tests}
use Rattle.std.proofs.lemmas.List.Folds.{list_all-append}
use Rattle.c_tokens.specs.declared.gap.Gap.TheVariants.{Absent}
use Rattle.c_tokens.specs.declared.place.Place.{Place}
use Rattle.c_tokens.specs.declared.token.TokenKind.{TokenKind}
use Rattle.c_tokens.specs.declared.token.TokenKind.TheVariants.{Number}
use Rattle.c_tokens.specs.Bytes.{is_digit, is_letter, is_number_byte}
use Rattle.c_tokens.specs.Gaps.{gap}
use Rattle.c_tokens.specs.Numbers.{constant, suffix_of}
use Rattle.c_tokens.specs.Pieces.{Longest}
use Rattle.c_tokens.specs.Reading.{AtEnd, AToken, Reads, Whole, token}
use Rattle.c_tokens.specs.Scan.{scan, word_scan, number_scan}
use Rattle.c_tokens.proofs.Choices.{both, second_choice}
use Rattle.c_tokens.proofs.Scanned.{longest_found}
use Rattle.author_binding.proofs.Decimals.{IsDecimal}

-- ---- the last token of a text

last_longest : (text : List ℕ) (kind : TokenKind) → scan text ≡ Some (length text, Some kind) →
    Longest text (Some kind) text []
last_longest text kind found =
    let long = longest_found text (length text) (Some kind) found in
    subst (λ w. Longest w (Some kind) text []) (take-length text)
    (subst (λ r. Longest (take (length text) text) (Some kind) text r) (drop-length text) long)

pub last_read : (at : Place) (text : List ℕ) (kind : TokenKind) →
    gap false text ≡ Absent → scan text ≡ Some (length text, Some kind) →
    Reads false at text (token kind at ∷ []) Whole
last_read at text kind no_gap found = AToken no_gap (last_longest text kind found) AtEnd

-- ---- runs of bytes

all_run : (p : ℕ → Bool) (w : List ℕ) → list_all p w ≡ true → prefix_len p w ≡ length w
all_run p [] all = refl
all_run p (a ∷ w) all =
    let parts = both (p a) (list_all p w) all in
    let more = all_run p w parts.1 in
    rw parts.0 (omega (arith, more))

-- a run ends before what begins with none of its bytes
run_ends : (p : ℕ → Bool) (w rest : List ℕ) → list_all p w ≡ true → prefix_len p rest ≡ 0 →
    prefix_len p (w ++ rest) ≡ length w
run_ends p [] rest all ends = ends
run_ends p (a ∷ w) rest all ends =
    let parts = both (p a) (list_all p w) all in
    let more = run_ends p w rest parts.1 ends in
    rw parts.0 (omega (arith, more))

digit_goes_on : (b : ℕ) → is_digit b ≡ true → is_number_byte b ≡ true
digit_goes_on b e = grind (arith, nat_tests)

digits_go_on : (w : List ℕ) → list_all is_digit w ≡ true → list_all is_number_byte w ≡ true
digits_go_on [] all = refl
digits_go_on (a ∷ w) all =
    let parts = both (is_digit a) (list_all is_digit w) all in
    rw (digit_goes_on a parts.0, digits_go_on w parts.1) refl

digit_no_letter : (b : ℕ) → is_digit b ≡ true → is_letter b ≡ false
digit_no_letter b e = grind (arith, nat_tests)

pub digit_not : (b c : ℕ) → is_digit b ≡ true → is_digit c ≡ false → (b == c) ≡ false
digit_not b c e f = grind (arith, nat_tests)

-- ---- digits and a suffix

-- letters that are a suffix, no digit first
pub record IsSuffix (w : List ℕ) (unsigned : Bool) (longs : ℕ) : Type 0 where
  pub letters : list_all is_number_byte w ≡ true
  pub no_digit : prefix_len is_digit w ≡ 0
  pub says : suffix_of w ≡ Some (unsigned, longs)

pub no_suffix : IsSuffix [] false 0
no_suffix = record { letters = refl; no_digit = refl; says = refl }

-- `ULL`
pub wide_suffix : IsSuffix (85 ∷ 76 ∷ 76 ∷ []) true 2
wide_suffix = record { letters = refl; no_digit = refl; says = refl }

module _ (n : ℕ) (ds w : List ℕ) (unsigned : Bool) (longs : ℕ)
    (h : IsDecimal n ds) (suffix : IsSuffix w unsigned longs) (small : n < 2 ^ 64) where
  abbrev behind : List ℕ
  behind = h.others ++ w

  abbrev text : List ℕ
  text = h.first ∷ behind

  run : prefix_len is_digit text ≡ suc (length h.others)
  run = let more = run_ends is_digit h.others w h.digits suffix.no_digit in rw h.digit (omega (arith, more))

  is_constant : constant text ≡ Some (Number n true unsigned longs)
  is_constant =
      let taken : take (length h.others) behind ≡ h.others = take-append_seam h.others w in
      let left : drop (length h.others) behind ≡ w = drop-append_seam h.others w in
      let some : nat_lt 0 (suc (length h.others)) ≡ true = grind (arith, nat_tests) in
      let low : nat_lt n (2 ^ 64) ≡ true = grind (arith, nat_tests) in
      rw h.no_octal (rw (run, taken, left) (rw (some, suffix.says, h.value, low) refl))

  is_scanned : scan text ≡ Some (length text, Some (Number n true unsigned longs))
  is_scanned =
      let all : list_all is_number_byte behind ≡ true =
      rw (list_all-append, digits_go_on h.others h.digits, suffix.letters) refl in
      let long : prefix_len is_number_byte behind ≡ length behind = all_run is_number_byte behind all in
      let size : length behind + 1 ≡ suc (length behind) = omega arith in
      let whole : take (suc (length behind)) text ≡ text = ap (λ t. h.first ∷ t) (take-length behind) in
      let F : ℕ → Option (ℕ × Option TokenKind) = λ k. Some (k, constant (take k text)) in
      let no_letter = digit_no_letter h.first h.digit in
      second_choice (is_letter h.first) (is_digit h.first) (word_scan text) (number_scan text) _ no_letter h.digit
      ∙ ap (λ k. F (k + 1)) long
      ∙ ap F size
      ∙ ap (λ t. Some (suc (length behind), constant t)) whole
      ∙ ap (λ k. Some (suc (length behind), k)) is_constant

  other_than : (c : ℕ) → is_digit c ≡ false → (h.first == c) ≡ false
  other_than c other = digit_not h.first c h.digit other

  no_gap : gap false text ≡ Absent
  no_gap =
      rw (other_than 32 refl, other_than 9 refl, other_than 10 refl)
      (rw (other_than 12 refl, other_than 13 refl, other_than 47 refl) refl)

  -- a decimal and its suffix are one token
  pub number_read : (at : Place) → Reads false at (ds ++ w) (token (Number n true unsigned longs) at ∷ []) Whole
  number_read at =
      subst (λ t. Reads false at (t ++ w) (token (Number n true unsigned longs) at ∷ []) Whole) (sym h.spelled)
      (last_read at text (Number n true unsigned longs) no_gap is_scanned)
