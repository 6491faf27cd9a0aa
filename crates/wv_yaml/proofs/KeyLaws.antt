-- A key that is read has few characters.
use Rattle.std.proofs.Common.{◌≡◌, ℕ, zero, suc, ◌+◌, ◌/◌, ◌<◌, ◌≤◌, List, [], ◌∷◌, ◌++◌, length, drop, Bool, true, false, ◌&&◌, ◌==◌, nat_lt, nat_le, refl, sym, ap, ◌∙◌, subst, cond, arith, inl, inr, Option, Some}
use Rattle.std.proofs.lemmas.Bool.{cond-true, cond-false, leb-true, lt-ltb, and_parts}
use Rattle.std.proofs.Math.Nat.{div-lt_iff_lt-mul}
use Rattle.std.specs.Str.{chars, chars_after, continuation_len, lead_bits, encode_utf8_all}
use lib.Utf8.{encode, encodes, next}
use Rattle.yaml_lines.specs.Marks.{trimmed, without_end, parted}
use Rattle.yaml_scalars.specs.Plain.{stops, cut}
use Rattle.yaml_scalars.specs.Quoted.{quoted, double_step, single_step}
use Rattle.yaml_scalars.specs.Tokens.{max_key}
use Rattle.wv_yaml.specs.Inline.{colon, quoted_key, plain_key, key, key_bytes}
use Rattle.yaml_lines.proofs.Parts.{chosen, bind_some, provided_some}
use Rattle.std.proofs.lemmas.Option.{same_Some}

next_char : (v : ℕ) (rest : List ℕ) → chars_after zero v rest ≡ v ∷ chars rest
unfolding chars
next_char v [] = refl
next_char v (b ∷ bs) = refl

-- so many bytes follow a lead byte
behind : (n v : ℕ) (b : ℕ) (rest : List ℕ) → continuation_len b ≡ n → chars (b ∷ rest) ≡ chars_after n (lead_bits b) rest
unfolding chars
behind n v b rest e = ap (λ k. chars_after k (lead_bits b) rest) e

-- ltb at numbers
below : (a b : ℕ) → a < b → nat_lt a b ≡ true
below a b h = lt-ltb a b h

not_below : (a b : ℕ) → b ≤ a → nat_lt a b ≡ false
not_below a b h = grind arith

len_one : (b : ℕ) → b < 128 → continuation_len b ≡ 0
len_one b h = cond-true (nat_lt b 128) _ _ (below b 128 h)

len_two : (b : ℕ) → 128 ≤ b → b < 224 → continuation_len b ≡ 1
len_two b l h = cond-false (nat_lt b 128) _ _ (not_below b 128 l) ∙ cond-true (nat_lt b 224) _ _ (below b 224 h)

len_three : (b : ℕ) → 224 ≤ b → b < 240 → continuation_len b ≡ 2
len_three b l h = cond-false (nat_lt b 128) _ _ (not_below b 128 (omega arith)) ∙ cond-false (nat_lt b 224) _ _ (not_below b 224 l) ∙ cond-true (nat_lt b 240) _ _ (below b 240 h)

len_four : (b : ℕ) → 240 ≤ b → continuation_len b ≡ 3
len_four b l = cond-false (nat_lt b 128) _ _ (not_below b 128 (omega arith)) ∙ cond-false (nat_lt b 224) _ _ (not_below b 224 (omega arith)) ∙ cond-false (nat_lt b 240) _ _ (not_below b 240 l)

-- the bytes of a number are one character, whatever it is
one_char : (c : ℕ) (rest : List ℕ) → length (chars (encode c ++ rest)) ≡ suc (length (chars rest))
unfolding encode
one_char c rest = first (nat_lt c 128) refl
  where
    bytes : Bool → Bool → Bool → List ℕ
    bytes x y z =
        cond x (c ∷ []) (cond y ((192 + c / 64) ∷ next c ∷ []) (cond z ((224 + c / 4096) ∷ next (c / 64) ∷ next c ∷ []) ((240 + c / 262144) ∷ next (c / 4096) ∷ next (c / 64) ∷ next c ∷ [])))

    ends : (v : ℕ) → length (chars_after zero v rest) ≡ suc (length (chars rest))
    ends v = ap length (next_char v rest)

    third : (z : Bool) → nat_lt c 65536 ≡ z → length (chars (bytes false false z ++ rest)) ≡ suc (length (chars rest))
    third true e =
        let lt : c < 65536 = grind arith in
        let d : c / 4096 < 16 = (div-lt_iff_lt-mul (omega arith)).1 (omega arith) in
        ap length (behind 2 0 (224 + c / 4096) _ (len_three (224 + c / 4096) (omega arith) (omega arith))) ∙ ends _
    third false e = ap length (behind 3 0 (240 + c / 262144) _ (len_four (240 + c / 262144) (omega arith))) ∙ ends _

    second : (y : Bool) → nat_lt c 2048 ≡ y → length (chars (bytes false y (nat_lt c 65536) ++ rest)) ≡ suc (length (chars rest))
    second true e =
        let lt : c < 2048 = grind arith in
        let d : c / 64 < 32 = (div-lt_iff_lt-mul (omega arith)).1 (omega arith) in
        ap length (behind 1 0 (192 + c / 64) _ (len_two (192 + c / 64) (omega arith) (omega arith))) ∙ ends _
    second false e = third (nat_lt c 65536) refl

    first : (x : Bool) → nat_lt c 128 ≡ x → length (chars (bytes x (nat_lt c 2048) (nat_lt c 65536) ++ rest)) ≡ suc (length (chars rest))
    first true e =
        let lt : c < 128 = grind arith in
        ap length (behind 0 0 c rest (len_one c lt)) ∙ ends _
    first false e = second (nat_lt c 2048) refl

characters_of : (cs : List ℕ) → length (chars (encodes cs)) ≡ length cs
unfolding chars
characters_of [] = refl
characters_of (c ∷ cs) = one_char c (encodes cs) ∙ ap suc (characters_of cs)

pub short_text : (cs : List ℕ) → nat_le (length cs) max_key ≡ true → length (chars (encodes cs)) ≤ max_key
short_text cs e = subst (λ n. n ≤ max_key) (sym (characters_of cs)) (leb-true (length cs) max_key e)

colon_len : (name cs : List ℕ) (q : List ℕ × List ℕ) → colon name cs ≡ Some q → nat_le (length q.0) max_key ≡ true
colon_len name [] q e = absurd (cc)
colon_len name (c ∷ cs) q e =
    let here : (((c == 58) && (parted cs && nat_le (length name) max_key)) ≡ true) × (Some (name, cs) ≡ Some q) = provided_some _ _ q e in
    let same : (name, cs) ≡ q = same_Some _ _ here.1 in
    subst (λ (r : List ℕ × List ℕ). nat_le (length r.0) max_key ≡ true) same (and_parts _ _ (and_parts _ _ here.0).1).1

quoted_len : (inside : List ℕ → Option (List ℕ × ℕ)) (cs : List ℕ) (q : List ℕ × List ℕ) → quoted_key inside cs ≡ Some q → nat_le (length q.0) max_key ≡ true
quoted_len inside cs q e = let r = bind_some (inside cs) _ q e in colon_len r.0.0 (trimmed (drop r.0.1 cs)) q r.2

plain_len : (text : List ℕ) (q : List ℕ × List ℕ) → plain_key text ≡ Some q → nat_le (length q.0) max_key ≡ true
plain_len text q e = colon_len (without_end (cut stops false text).0) (cut stops false text).1 q (provided_some _ _ q e).1

key_len : (text : List ℕ) (q : List ℕ × List ℕ) → key text ≡ Some q → nat_le (length q.0) max_key ≡ true
key_len [] q e = absurd (cc)
key_len (c ∷ cs) q e =
    elim (chosen (c == 34) _ _ (Some q) e) [
      | inl h ↦ quoted_len (quoted double_step 0) cs q h.1
      | inr h ↦ elim (chosen (c == 39) _ _ (Some q) h.1) [ inl g ↦ quoted_len (quoted single_step 0) cs q g.1 | inr g ↦ plain_len (c ∷ cs) q g.1 ]
    ]

pub key_short : (text : List ℕ) (k : List ℕ × List ℕ) → key_bytes text ≡ Some k → length (chars k.0) ≤ max_key
key_short text k e =
    let r = bind_some (key text) _ k e in
    let same : (encode_utf8_all r.0.0, r.0.1) ≡ k = cc in
    subst (λ (q : List ℕ × List ℕ). length (chars q.0) ≤ max_key) same (short_text r.0.0 (key_len text r.0 r.1))
