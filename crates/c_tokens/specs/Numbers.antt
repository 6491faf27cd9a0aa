-- Integer constants (C11 6.4.4.1).
use Rattle.std.specs.Prelude.{◌+◌, ◌*◌, ◌^◌, ℕ, Bool, true, false, List, [], ◌∷◌, ◌==◌, ◌||◌, ◌&&◌, Option, Some, None, drop, nat_lt, if◌then◌else◌, codes}
use Rattle.std.specs.List.{fold, prefix_len, take_while}
use Rattle.c_tokens.specs.declared.token.TokenKind.{TokenKind}
use Rattle.c_tokens.specs.declared.token.TokenKind.TheVariants.{Number}
use Rattle.c_tokens.specs.Bytes.{is_digit, is_octal_digit, is_hexadecimal_digit, digit_value}

-- the number that digits spell
abbrev pub number_in : ℕ → List ℕ → ℕ
number_in radix digits = fold (λ n d. n * radix + digit_value d) 0 digits

-- letters after a constant, and what they say of its type (C11 6.4.4.1)
pub record Suffix : Type 0 where
  pub spelling : List ℕ
  pub unsigned : Bool
  pub longs : ℕ

-- one of them
abbrev pub suffix : List ℕ → Bool → ℕ → Suffix
suffix spelling unsigned longs = record { spelling = spelling; unsigned = unsigned; longs = longs }

-- every suffix: `u`, `l`, `ll`, or `u` and one of these in either order; the letters of `ll` are alike
abbrev pub suffixes : List Suffix
suffixes =
    suffix (codes "") false 0 ∷
    suffix (codes "u") true 0 ∷ suffix (codes "U") true 0 ∷
    suffix (codes "l") false 1 ∷ suffix (codes "L") false 1 ∷
    suffix (codes "ll") false 2 ∷ suffix (codes "LL") false 2 ∷
    suffix (codes "ul") true 1 ∷ suffix (codes "uL") true 1 ∷ suffix (codes "Ul") true 1 ∷ suffix (codes "UL") true 1 ∷
    suffix (codes "lu") true 1 ∷ suffix (codes "lU") true 1 ∷ suffix (codes "Lu") true 1 ∷ suffix (codes "LU") true 1 ∷
    suffix (codes "ull") true 2 ∷ suffix (codes "uLL") true 2 ∷ suffix (codes "Ull") true 2 ∷ suffix (codes "ULL") true 2 ∷
    suffix (codes "llu") true 2 ∷ suffix (codes "llU") true 2 ∷ suffix (codes "LLu") true 2 ∷ suffix (codes "LLU") true 2 ∷ []

-- the bytes are these
abbrev pub is_spelled : List ℕ → List ℕ → Bool
is_spelled [] [] = true
is_spelled [] (b ∷ w) = false
is_spelled (a ∷ s) [] = false
is_spelled (a ∷ s) (b ∷ w) = (b == a) && is_spelled s w

-- the suffix of a table that is spelled so
abbrev pub suffix_among : List Suffix → List ℕ → Option (Bool × ℕ)
suffix_among [] w = None
suffix_among (s ∷ rows) w = if is_spelled s.spelling w then Some (s.unsigned, s.longs) else suffix_among rows w

-- what the letters say, if they are a suffix
abbrev pub suffix_of : List ℕ → Option (Bool × ℕ)
suffix_of w = suffix_among suffixes w

-- a constant of digits and a suffix, whose value has to fit 64 bits
abbrev pub with_suffix : Bool → ℕ → List ℕ → Option (Bool × ℕ) → Option TokenKind
with_suffix decimal radix digits None = None
with_suffix decimal radix digits (Some s) =
    if nat_lt (number_in radix digits) (2 ^ 64) then Some (Number (number_in radix digits) decimal s.0 s.1) else None

-- digits as many as there are, at least one, and a suffix
abbrev pub in_radix : Bool → ℕ → (ℕ → Bool) → List ℕ → Option TokenKind
in_radix decimal radix is_digit_of w =
    if nat_lt 0 (prefix_len is_digit_of w) then with_suffix decimal radix (take_while is_digit_of w) (suffix_of (drop (prefix_len is_digit_of w) w))
    else None

-- `x` or `X`
abbrev pub begins_hexadecimal : List ℕ → Bool
begins_hexadecimal [] = false
begins_hexadecimal (b ∷ w) = (b == 120) || (b == 88)

-- the token that a number is: decimal, octal (a leading 0) or hexadecimal (0x, 0X)
abbrev pub constant : List ℕ → Option TokenKind
constant [] = None
constant (b ∷ w) =
    if b == 48 then (if begins_hexadecimal w then in_radix false 16 is_hexadecimal_digit (drop 1 w) else in_radix false 8 is_octal_digit (b ∷ w))
    else in_radix true 10 is_digit (b ∷ w)
