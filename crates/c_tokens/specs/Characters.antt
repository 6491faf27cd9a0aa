-- Character constants (C11 6.4.4.4) and strings (C11 6.4.5).
use Rattle.std.specs.Prelude.{◌≡◌, ◌≢◌, ◌<◌, ◌≤◌, ℕ, true, List, [], ◌∷◌, length, ◌⊎◌}
use Rattle.std.specs.List.{list_all}
use Rattle.c_tokens.specs.Bytes.{is_plain, is_octal_digit, is_hexadecimal_digit, backslash, double_quote, line_feed, small_x}
use Rattle.c_tokens.specs.Numbers.{number_in}

-- the letter of a simple escape and its value: a b f n r t v, and the signs that stand for themselves
abbrev pub simple_escapes : List (ℕ × ℕ)
simple_escapes =
    (97, 7) ∷ (98, 8) ∷ (102, 12) ∷ (110, 10) ∷ (114, 13) ∷ (116, 9) ∷ (118, 11) ∷
    (92, 92) ∷ (39, 39) ∷ (34, 34) ∷ (63, 63) ∷ []

-- a table pairs x with y
abbrev pub Pairs : {X Y : Type 0} → List (X × Y) → X → Y → Type 0
Pairs [] x y = ⊥
Pairs (row ∷ rows) x y = ((row.0 ≡ x) × (row.1 ≡ y)) ⊎ Pairs rows x y

-- what stands between single quotes, and its value as a byte
pub data Character : List ℕ → ℕ → Type 0 where
  Plain : {b : ℕ} → is_plain b ≡ true → Character (b ∷ []) b
  Simple : {b value : ℕ} → Pairs simple_escapes b value → Character (backslash ∷ b ∷ []) value
  Octal : {digits : List ℕ} → list_all is_octal_digit digits ≡ true → 1 ≤ length digits → length digits ≤ 3 → number_in 8 digits < 256 →
      Character (backslash ∷ digits) (number_in 8 digits)
  Hexadecimal : {digits : List ℕ} → list_all is_hexadecimal_digit digits ≡ true → 1 ≤ length digits → length digits ≤ 2 →
      Character (backslash ∷ small_x ∷ digits) (number_in 16 digits)

-- what stands between double quotes, on one line; a backslash passes the next byte
pub data StringText : List ℕ → Type 0 where
  Nothing : StringText []
  Byte : {b : ℕ} {text : List ℕ} → b ≢ double_quote → b ≢ backslash → b ≢ line_feed → StringText text → StringText (b ∷ text)
  Passed : {b : ℕ} {text : List ℕ} → b ≢ line_feed → StringText text → StringText (backslash ∷ b ∷ text)
