-- A text as lines of pieces, each of this many blanks and a token after them.
use Rattle.std.specs.Prelude.{◌≡◌, ℕ, ◌+◌, ◌==◌, Bool, true, not, List, [], ◌∷◌, ◌++◌, length, replicate, Some}
use Rattle.std.specs.List.{list_all}
use Rattle.c_core.specs.declared.number.Spot.{Spot}
use Rattle.c_tokens.specs.declared.gap.Gap.TheVariants.{Absent}
use Rattle.c_tokens.specs.declared.place.Place.{Place}
use Rattle.c_tokens.specs.declared.token.Token.{Token}
use Rattle.c_tokens.specs.declared.token.TokenKind.{TokenKind}
use Rattle.c_tokens.specs.Gaps.{gap}
use Rattle.c_tokens.specs.Scan.{scan}

-- blanks, and a token by its spelling
pub record Piece : Type 0 where
  pub blanks : ℕ
  pub spelling : List ℕ
  pub kind : TokenKind

-- the blanks, then the spelling
abbrev pub piece_text : Piece → List ℕ
piece_text x = replicate x.blanks 32 ++ x.spelling

-- the pieces of a line, with its end
abbrev pub line_text : List Piece → List ℕ
line_text [] = 10 ∷ []
line_text (x ∷ xs) = piece_text x ++ line_text xs

-- lines one below another
abbrev pub text_of : List (List Piece) → List ℕ
text_of [] = []
text_of (xs ∷ lines) = line_text xs ++ text_of lines

-- a line and a column
abbrev pub spot : ℕ → ℕ → Spot
spot line column = record { line = line; column = column }

-- a place on a line; only blanks stand before it there, or not
abbrev pub place : ℕ → ℕ → Bool → Place
place line column fresh = record { spot = spot line column; fresh = fresh }

-- the tokens of a line from a column on
abbrev pub line_tokens : ℕ → ℕ → List Piece → List Token
line_tokens line column [] = []
line_tokens line column (x ∷ xs) =
    record { kind = x.kind; spot = spot line (column + x.blanks) } ∷ line_tokens line (column + x.blanks + length x.spelling) xs

-- the tokens of lines, the first of which has this number
abbrev pub tokens_from : ℕ → List (List Piece) → List Token
tokens_from line [] = []
tokens_from line (xs ∷ lines) = line_tokens line 1 xs ++ tokens_from (line + 1) lines

-- a byte that ends no line
abbrev pub goes_on : ℕ → Bool
goes_on b = not (b == 10)

-- the token of this spelling is the longest that stands before the rest of the text
pub record Stands (x : Piece) (rest : List ℕ) : Type 0 where
  pub found : scan (x.spelling ++ rest) ≡ Some (length x.spelling, Some x.kind)
  pub no_gap : (fresh : Bool) → gap fresh (x.spelling ++ rest) ≡ Absent
  pub one_line : list_all goes_on x.spelling ≡ true

-- each token of a line stands before what follows it
abbrev pub AllStand : List Piece → List ℕ → Type 0
AllStand [] rest = Unit {0}
AllStand (x ∷ xs) rest = Stands x (line_text xs ++ rest) × AllStand xs rest

-- the same of lines
abbrev pub LinesStand : List (List Piece) → List ℕ → Type 0
LinesStand [] rest = Unit {0}
LinesStand (xs ∷ lines) rest = AllStand xs (text_of lines ++ rest) × LinesStand lines rest
