-- The forms of tokens, and the longest that stands at a place (C11 6.4).
use Rattle.std.specs.Prelude.{◌≡◌, ◌≤◌, ℕ, true, List, [], ◌∷◌, ◌++◌, length, Option, Some}
use Rattle.std.specs.List.{list_all}
use Rattle.c_core.specs.Types.{signed_of}
use Rattle.c_tokens.specs.declared.token.Punct.{Punct}
use Rattle.c_tokens.specs.declared.token.TokenKind.{TokenKind}
use Rattle.c_tokens.specs.declared.token.TokenKind.TheVariants.{Word, Char, Str, Punct as Sign}
use Rattle.c_tokens.specs.Bytes.{is_letter, is_digit, is_word_byte, is_number_byte, quote, double_quote}
use Rattle.c_tokens.specs.Signs.{signs}
use Rattle.c_tokens.specs.Numbers.{constant}
use Rattle.c_tokens.specs.Characters.{Pairs, Character, StringText}

-- a piece of text of one of the forms, and the token that it is; a number may be none
pub data Piece : List ℕ → Option TokenKind → Type 0 where
  AWord : {b : ℕ} {w : List ℕ} → is_letter b ≡ true → list_all is_word_byte w ≡ true → Piece (b ∷ w) (Some (Word (b ∷ w)))
  ANumber : {b : ℕ} {w : List ℕ} → is_digit b ≡ true → list_all is_number_byte w ≡ true → Piece (b ∷ w) (constant (b ∷ w))
  ACharacter : {text : List ℕ} {value : ℕ} → Character text value → Piece (quote ∷ (text ++ quote ∷ [])) (Some (Char (signed_of 8 value)))
  AString : {text : List ℕ} → StringText text → Piece (double_quote ∷ (text ++ double_quote ∷ [])) (Some Str)
  ASign : {w : List ℕ} {s : Punct} → Pairs signs w s → Piece w (Some (Sign s))

-- the text is this piece and the rest, and no longer piece stands at its front
pub record Longest (w : List ℕ) (kind : Option TokenKind) (text rest : List ℕ) : Type 0 where
  pub piece : Piece w kind
  pub parts : text ≡ w ++ rest
  pub longest : (v : List ℕ) (other : Option TokenKind) (left : List ℕ) → Piece v other → text ≡ v ++ left → length v ≤ length w

-- no piece stands at the front of the text
abbrev pub NoPiece : List ℕ → Type 0
NoPiece text = (v : List ℕ) (kind : Option TokenKind) (left : List ℕ) → Piece v kind → text ≡ v ++ left → ⊥
