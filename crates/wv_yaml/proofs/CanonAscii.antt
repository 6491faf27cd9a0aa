-- Bare keys and bare numbers are ASCII.
use Rattle.std.proofs.Common.{◌≡◌, ℕ, ◌≤◌, List, [], ◌∷◌, ◌++◌, true, ◌==◌, ◌||◌, refl, sym, ap, ◌∙◌, inl, inr, arith, true≢false}
use Rattle.std.proofs.lemmas.Bool.{eqb-true, and_parts, and_from, or_cases, or_left, or_right}
use Rattle.std.proofs.lemmas.Str.{encode_ascii}
use lib.Utf8.{encodes}
use Rattle.wv_yaml.specs.Canon.{is_letter, is_decimal, is_word_char, all_of, is_name, is_count}
use Rattle.yaml_lines.proofs.Ranges.{within_range, range_within}

-- what is printed of ASCII
abbrev pub IsPrinted : ℕ → Type 0
IsPrinted c = (32 ≤ c) × (c ≤ 126)

decimal_printed : (c : ℕ) → is_decimal c ≡ true → IsPrinted c
decimal_printed c e = let r = within_range 48 57 c e in (omega (arith, r.0), omega (arith, r.1))

letter_printed : (c : ℕ) → is_letter c ≡ true → IsPrinted c
letter_printed c e =
    elim (or_cases _ _ e) [
      | inl h ↦ let r = within_range 65 90 c h in (omega (arith, r.0), omega (arith, r.1))
      | inr h ↦ let r = within_range 97 122 c h in (omega (arith, r.0), omega (arith, r.1))
    ]

pub word_printed : (c : ℕ) → is_word_char c ≡ true → IsPrinted c
word_printed c e =
    elim (or_cases _ _ e) [
      | inl h ↦ letter_printed c h
      | inr h ↦ elim (or_cases _ _ h) [ inl g ↦ decimal_printed c g | inr g ↦ let is : c ≡ 95 = eqb-true c 95 g in (omega arith, omega arith) ]
    ]

pub name_words : (k : List ℕ) → is_name k ≡ true → all_of is_word_char k ≡ true
name_words [] e = absurd (true≢false (sym e))
name_words (c ∷ cs) e =
    let both = and_parts _ _ e in
    let first : is_word_char c ≡ true =
    elim (or_cases (is_letter c) (c == 95) both.0) [
      | inl h ↦ or_left (is_letter c) (is_decimal c || (c == 95)) h
      | inr h ↦ or_right (is_letter c) (is_decimal c || (c == 95)) (or_right (is_decimal c) (c == 95) h)
    ] in
    and_from _ _ first both.1

decimal_word : (c : ℕ) → is_decimal c ≡ true → is_word_char c ≡ true
decimal_word c e = or_right (is_letter c) (is_decimal c || (c == 95)) (or_left (is_decimal c) (c == 95) e)

decimal_words : (cs : List ℕ) → all_of is_decimal cs ≡ true → all_of is_word_char cs ≡ true
decimal_words [] e = refl
decimal_words (c ∷ cs) e = let both = and_parts _ _ e in and_from _ _ (decimal_word c both.0) (decimal_words cs both.1)

pub count_words : (v : List ℕ) → is_count v ≡ true → all_of is_word_char v ≡ true
count_words [] e = absurd (true≢false (sym e))
count_words (c ∷ cs) e =
    let both = and_parts _ _ e in
    let r = within_range 49 57 c both.0 in
    and_from _ _ (decimal_word c (range_within 48 57 c (omega (arith, r.0)) r.1)) (decimal_words cs (and_parts _ _ both.1).0)

pub words_same : (cs : List ℕ) → all_of is_word_char cs ≡ true → encodes cs ≡ cs
words_same [] e = refl
words_same (c ∷ cs) e =
    let both : (is_word_char c ≡ true) × (all_of is_word_char cs ≡ true) = and_parts _ _ e in
    let high : c ≤ 126 = (word_printed c both.0).1 in
    ap (λ xs. xs ++ encodes cs) (encode_ascii c (omega arith)) ∙ ap (λ xs. c ∷ xs) (words_same cs both.1)

pub name_same : (k : List ℕ) → is_name k ≡ true → encodes k ≡ k
name_same k e = words_same k (name_words k e)

pub count_same : (v : List ℕ) → is_count v ≡ true → encodes v ≡ v
count_same v e = words_same v (count_words v e)
