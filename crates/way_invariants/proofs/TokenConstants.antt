-- The constants among the tokens of a text fit.
use Rattle.std.proofs.Common.{◌≡◌, ℕ, pos, negsuc, nat_lt, nat_le, ◌^◌, ◌-◌, suc, List, [], ◌∷◌, take_while, Bool, true, false, cond, ◌==◌, if◌then◌else◌, refl, drop, Option, Some, None, arith}
use Rattle.std.proofs.lemmas.Bool.Decides.{nat_tests}
use Rattle.std.specs.List.{list_all, prefix_len}
use Rattle.c_core.specs.Types.{fits_signed, signed_of}
use Rattle.c_tokens.specs.Bytes.{is_digit, is_octal_digit, is_hexadecimal_digit}
use Rattle.c_tokens.specs.Numbers.{Suffix, suffixes, suffix_among, suffix_of, with_suffix, in_radix, constant, begins_hexadecimal, is_spelled, number_in}
use Rattle.c_tokens.specs.Pieces.{Piece, AWord, ANumber, ACharacter, AString, ASign}
use Rattle.c_tokens.specs.Reading.{Ending, Reads, AtEnd, Between, AToken, RefusedDirective, UnclosedComment, BadNumber, BadByte}
use Rattle.c_tokens.specs.declared.place.Place.{Place}
use Rattle.c_tokens.specs.declared.token.Token.{Token}
use Rattle.c_tokens.specs.declared.token.TokenKind.{TokenKind}
use Rattle.c_parser.specs.Formed.{kind_fits, constants_fit}
use Rattle.check_wellformed.proofs.Lists.{both, left, right}

-- ---- numbers

abbrev few_longs : Option (Bool × ℕ) → Bool
few_longs None = true
few_longs (Some s) = nat_le s.1 2

abbrev row_fits : Suffix → Bool
row_fits s = nat_le s.longs 2

among_fits : (rows : List Suffix) (w : List ℕ) → list_all row_fits rows ≡ true → few_longs (suffix_among rows w) ≡ true
among_fits [] w h = refl
among_fits (s ∷ rows) w h = by (is_spelled s.spelling w) (among_fits rows w (right (row_fits s) _ h))
  where
    by : (x : Bool) → few_longs (suffix_among rows w) ≡ true → few_longs (if x then Some (s.unsigned, s.longs) else suffix_among rows w) ≡ true
    by true later = left (row_fits s) _ h
    by false later = later

-- what a piece of text is, if it is a token
abbrev IfToken : Option TokenKind → Type 0
IfToken None = Unit {0}
IfToken (Some k) = kind_fits k ≡ true

chosen : (b : Bool) (k : TokenKind) → kind_fits k ≡ true → IfToken (if b then Some k else None)
chosen true k h = h
chosen false k h = tt

with_suffix_fits : (decimal : Bool) (radix : ℕ) (digits : List ℕ) (o : Option (Bool × ℕ)) → few_longs o ≡ true → IfToken (with_suffix decimal radix digits o)
with_suffix_fits decimal radix digits None h = tt
with_suffix_fits decimal radix digits (Some s) h = chosen (nat_lt (number_in radix digits) (2 ^ 64)) _ h

either : (b : Bool) (x y : Option TokenKind) → IfToken x → IfToken y → IfToken (if b then x else y)
either true x y h k = h
either false x y h k = k

radix_fits : (decimal : Bool) (radix : ℕ) (is : ℕ → Bool) (w : List ℕ) → IfToken (in_radix decimal radix is w)
radix_fits decimal radix is w =
    either (nat_lt 0 (prefix_len is w)) _ None
    (with_suffix_fits decimal radix (take_while is w) (suffix_of (drop (prefix_len is w) w)) (among_fits suffixes (drop (prefix_len is w) w) refl)) tt

number_fits : (w : List ℕ) → IfToken (constant w)
number_fits [] = tt
number_fits (b ∷ w) =
    either (b == 48) _ _
    (either (begins_hexadecimal w) _ _ (radix_fits false 16 is_hexadecimal_digit (drop 1 w)) (radix_fits false 8 is_octal_digit (b ∷ w)))
    (radix_fits true 10 is_digit (b ∷ w))

-- ---- tokens

-- a byte read in two's complement
byte_fits : (n : ℕ) → fits_signed 32 (signed_of 8 n) ≡ true
unfolding signed_of
byte_fits n = by (nat_lt n 128) refl
  where
    by : (x : Bool) → nat_lt n 128 ≡ x → fits_signed 32 (cond x (pos n) (negsuc (256 - suc n))) ≡ true
    by true e = grind (arith, nat_tests)
    by false e = grind (arith, nat_tests)

piece_fits : {w : List ℕ} {o : Option TokenKind} → Piece w o → IfToken o
piece_fits (AWord l ws) = refl
piece_fits (ANumber {b} {w} l ws) = number_fits (b ∷ w)
piece_fits (ACharacter {value = value} c) = byte_fits value
piece_fits (AString s) = refl
piece_fits (ASign p) = refl

one_fits : {w : List ℕ} (k : TokenKind) → Piece w (Some k) → kind_fits k ≡ true
one_fits k p = piece_fits p

pub tokens_fit : (directives : Bool) (at : Place) (text : List ℕ) (ts : List Token) (end : Ending) → Reads directives at text ts end → constants_fit ts ≡ true
tokens_fit directives at text ts end AtEnd = refl
tokens_fit directives at text ts end (Between g d) = tokens_fit directives _ _ ts end d
tokens_fit directives at text ts end (AToken {kind = kind} g piece d) = both (one_fits kind piece.piece) (tokens_fit directives _ _ _ end d)
tokens_fit directives at text ts end (RefusedDirective g) = refl
tokens_fit directives at text ts end (UnclosedComment g) = refl
tokens_fit directives at text ts end (BadNumber g l) = refl
tokens_fit directives at text ts end (BadByte g n) = refl
