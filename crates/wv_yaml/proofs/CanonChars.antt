-- The characters of the canonical text: each may stand in a document, and none is a line break.
use Rattle.std.proofs.Common.{◌≡◌, ℕ, ◌+◌, ◌/◌, ◌%◌, ◌<◌, ◌≤◌, List, [], ◌∷◌, ◌++◌, Bool, true, false, ◌==◌, ◌&&◌, ◌||◌, nat_lt, nat_le, refl, ap, ◌∙◌, inl, inr, ◌⊎◌, arith, div-lt_iff_lt-mul, mod-lt}
use Rattle.std.proofs.lemmas.Bool.{eqb-true, ltb-false, lt-ltb, ltb-true, le-leb, and_parts, and_from, or_cases, or_parts, or_left, or_right}
use Rattle.std.specs.List.{flat_map}
use Rattle.std.specs.Str.{chars, IsUtf8, all_scalars}
use Rattle.std.proofs.lemmas.Str.{scalars-chars}
use lib.Utf8.{scalar, scalar_cases, low_scalar}
use Rattle.yaml_lines.specs.Chunks.{Each, NoneOf}
use Rattle.yaml_lines.specs.Lines.{within, may_stand, allowed, is_break}
use Rattle.wv_yaml.specs.Canon.{hex_of, escaped, all_of, is_word_char, is_name, is_count}
use Rattle.yaml_lines.proofs.Ranges.{either, differs, order, beyond, within_range, range_within}
use Rattle.wv_yaml.proofs.CanonAscii.{IsPrinted, word_printed, name_words, count_words}
use Rattle.wv_yaml.proofs.CanonLines.{quoted_chars, key_chars, text_chars}

-- a character that may stand in the canonical text
abbrev pub shown : ℕ → Bool
shown c = within 32 126 c || (within 0xA0 0xD7FF c || (within 0xE000 0xFFFD c || within 0x1_0000 0x10_FFFF c))

pub printed_shown : (c : ℕ) → IsPrinted c → shown c ≡ true
printed_shown c p = or_left (within 32 126 c) _ (range_within 32 126 c p.0 p.1)

-- the ranges of shown characters
shown_by : {X : Type 0} (c : ℕ) → shown c ≡ true → (IsPrinted c → X) → ((0xA0 ≤ c) × (c ≤ 0xD7FF) → X) → ((0xE000 ≤ c) × (c ≤ 0xFFFD) → X) → ((0x1_0000 ≤ c) × (c ≤ 0x10_FFFF) → X) → X
shown_by c e f g h k =
    elim (or_cases (within 32 126 c) _ e) [
      | inl a ↦ f (within_range 32 126 c a)
      | inr a ↦ elim (or_cases (within 0xA0 0xD7FF c) _ a) [
        | inl b ↦ g (within_range 0xA0 0xD7FF c b)
        | inr b ↦ elim (or_cases (within 0xE000 0xFFFD c) _ b) [ inl d ↦ h (within_range 0xE000 0xFFFD c d) | inr d ↦ k (within_range 0x1_0000 0x10_FFFF c d) ]
      ]
    ]

shown_stands : (c : ℕ) (cs : List ℕ) → shown c ≡ true → may_stand c cs ≡ true
shown_stands c cs e = shown_by c e (λ r. printed (range_within 32 126 c r.0 r.1)) (λ r. wide (range_within 0xA0 0xFFFD c r.0 (omega (arith, r.1)))) (λ r. wide (range_within 0xA0 0xFFFD c (omega (arith, r.0)) r.1)) (λ r. or_right _ (nat_le 0x1_0000 c) (le-leb 0x1_0000 c r.0))
  where
    wide : within 0xA0 0xFFFD c ≡ true → may_stand c cs ≡ true
    wide r = or_left _ (nat_le 0x1_0000 c) (or_right _ (within 0xA0 0xFFFD c) r)

    printed : within 32 126 c ≡ true → may_stand c cs ≡ true
    printed r = or_left _ (nat_le 0x1_0000 c) (or_left _ (within 0xA0 0xFFFD c) (or_left _ (c == 0x85) (or_right _ (within 32 126 c) r)))

shown_scalar : (c : ℕ) → shown c ≡ true → scalar c ≡ true
shown_scalar c e = shown_by c e (λ r. low_scalar c (omega (arith, r.1))) (λ r. low_scalar c (omega (arith, r.1))) (λ r. high (omega (arith, r.0)) (omega (arith, r.1))) (λ r. high (omega (arith, r.0)) (omega (arith, r.1)))
  where
    high : 57344 ≤ c → c < 1114112 → scalar c ≡ true
    high l h = either (λ b. b ≡ true) (nat_lt c 55296) true (nat_le 57344 c && nat_lt c 1114112) (λ _. refl) (λ _. and_from _ _ (le-leb 57344 c l) (lt-ltb c 1114112 h))

pub shown_unbroken : (c : ℕ) → shown c ≡ true → is_break c ≡ false
shown_unbroken c e = ap (λ b. b || (c == 13)) (differs shown c 10 e refl) ∙ differs shown c 13 e refl

-- the same of texts
pub each_append : (cs ds : List ℕ) → Each shown cs → Each shown ds → Each shown (cs ++ ds)
each_append [] ds h k = k
each_append (c ∷ cs) ds h k = (h.0, each_append cs ds h.1 k)

pub all_stand : (cs : List ℕ) → Each shown cs → (rest : List ℕ) → allowed rest ≡ true → allowed (cs ++ rest) ≡ true
all_stand [] h rest a = a
all_stand (c ∷ cs) h rest a = and_from _ _ (shown_stands c (cs ++ rest) h.0) (all_stand cs h.1 rest a)

pub are_scalars : (cs : List ℕ) → Each shown cs → (rest : List ℕ) → all_scalars rest ≡ true → all_scalars (cs ++ rest) ≡ true
are_scalars [] h rest a = a
are_scalars (c ∷ cs) h rest a = and_from _ _ (shown_scalar c h.0) (are_scalars cs h.1 rest a)

pub unbroken : (cs : List ℕ) → Each shown cs → NoneOf is_break cs
unbroken [] h = tt
unbroken (c ∷ cs) h = (shown_unbroken c h.0, unbroken cs h.1)

words_shown : (cs : List ℕ) → all_of is_word_char cs ≡ true → Each shown cs
words_shown [] e = tt
words_shown (c ∷ cs) e = let both = and_parts _ _ e in (printed_shown c (word_printed c both.0), words_shown cs both.1)

-- escapes
high_digit : (c : ℕ) → c < 256 → c / 16 < 16
high_digit c lt = (div-lt_iff_lt-mul (omega arith)).1 (omega arith)

hex_shown : (n : ℕ) → n < 16 → shown (hex_of n) ≡ true
hex_shown n h = either (λ c. shown c ≡ true) (nat_lt n 10) (48 + n) (87 + n) (λ _. printed_shown (48 + n) (omega arith, omega arith)) (λ _. printed_shown (87 + n) (omega arith, omega arith))

escaped_shown : (c : ℕ) → scalar c ≡ true → Each shown (escaped c)
escaped_shown c s =
    let P : List ℕ → Type 0 = Each shown in
    let digit : shown (hex_of (c % 16)) ≡ true = hex_shown (c % 16) (mod-lt c (omega arith)) in
    either P ((c == 34) || (c == 92)) _ _ (λ e. (refl, (sign e, tt)))
    (λ _. either P (c == 10) _ _ (λ _. (refl, (refl, tt)))
    (λ _. either P (c == 9) _ _ (λ _. (refl, (refl, tt)))
    (λ _. either P (c == 13) _ _ (λ _. (refl, (refl, tt)))
    (λ _. either P (nat_lt c 32 || within 0x7F 0x9F c) _ _ (λ e. (refl, (refl, (hex_shown (c / 16) (high_digit c (control e)), (digit, tt)))))
    (λ e. either P (within 0xFFFE 0xFFFF c) _ _ (λ _. (refl, (refl, (refl, (refl, (refl, (digit, tt))))))) (λ f. (other e f, tt)))))))
  where
    high : within 0xFFFE 0xFFFF c ≡ false → 0x9F < c → (c < 55296) ⊎ ((57344 ≤ c) × (c < 1114112)) → shown c ≡ true
    high f l (inl h) = or_right (within 32 126 c) _ (or_left (within 0xA0 0xD7FF c) _ (range_within 0xA0 0xD7FF c (omega arith) (omega arith)))
    high f l (inr h) =
        let top : c < 1114112 = h.1 in
        or_right (within 32 126 c) _ (or_right (within 0xA0 0xD7FF c) _
        (elim (order 0xFFFD c) [
          | inl k ↦ let over = beyond 0xFFFE 0xFFFF c f k in or_right (within 0xE000 0xFFFD c) _ (range_within 0x1_0000 0x10_FFFF c (omega arith) (omega arith))
          | inr k ↦ or_left (within 0xE000 0xFFFD c) _ (range_within 0xE000 0xFFFD c h.0 k)
        ]))

    sign : ((c == 34) || (c == 92)) ≡ true → shown c ≡ true
    sign e = elim (or_cases _ _ e) [ inl h ↦ ap shown (eqb-true c 34 h) | inr h ↦ ap shown (eqb-true c 92 h) ]

    control : (nat_lt c 32 || within 0x7F 0x9F c) ≡ true → c < 256
    control e = elim (or_cases _ _ e) [ inl h ↦ let lt = ltb-true c 32 h in omega arith | inr h ↦ let r = within_range 0x7F 0x9F c h in omega (arith, r.1) ]

    other : (nat_lt c 32 || within 0x7F 0x9F c) ≡ false → within 0xFFFE 0xFFFF c ≡ false → shown c ≡ true
    other e f =
        let few = or_parts (nat_lt c 32) (within 0x7F 0x9F c) e in
        elim (order 126 c) [
          | inl h ↦ high f (beyond 0x7F 0x9F c few.1 h) (scalar_cases c s)
          | inr h ↦ printed_shown c (ltb-false c 32 few.0, h)
        ]

flat_shown : (cs : List ℕ) → all_scalars cs ≡ true → Each shown (flat_map escaped cs)
flat_shown [] s = tt
flat_shown (c ∷ cs) s = let both = and_parts _ _ s in each_append (escaped c) (flat_map escaped cs) (escaped_shown c both.0) (flat_shown cs both.1)

pub quoted_shown : (v : List ℕ) → IsUtf8 v → Each shown (quoted_chars v)
quoted_shown v u = (refl, each_append (flat_map escaped (chars v)) (34 ∷ []) (flat_shown (chars v) (scalars-chars v u)) (refl, tt))

pub key_shown : (k : List ℕ) → IsUtf8 k → Each shown (key_chars k)
key_shown k u = either (Each shown) (is_name k) k (quoted_chars k) (λ e. words_shown k (name_words k e)) (λ _. quoted_shown k u)

pub text_shown : (bare : Bool) (v : List ℕ) → IsUtf8 v → Each shown (text_chars bare v)
text_shown bare v u = either (Each shown) (bare && is_count v) v (quoted_chars v) (λ e. words_shown v (count_words v (and_parts _ _ e).1)) (λ _. quoted_shown v u)
