-- What the parser answers where it passes tokens.
use Rattle.std.specs.Prelude.{◌≡◌, ℕ, List, drop, Option, Some, None, Result, Ok, Err}
use Rattle.std.specs.Borrow.{Bor}
use Rattle.c_tokens.specs.declared.token.Token.{Token}
use Rattle.c_parser.specs.declared.fault.Unread.{Unread}
use Rattle.c_parser.specs.declared.brackets.Bracket.{Bracket as Raw}
use Rattle.c_parser.specs.declared.brackets.Bracket.TheVariants as raw
use Rattle.c_parser.specs.declared.specifiers.Part.{Part as RawPart}
use Rattle.c_parser.specs.declared.specifiers.Part.TheVariants as raw_part
use Rattle.c_parser.specs.Words.{TypeWord}
use Rattle.c_parser.specs.TypeCounts.{word_view, counted}
use Rattle.c_parser.specs.ReadExpressions.{Read}
use Rattle.c_parser.specs.Declarations.{Part, NoPart, TypePart, OtherPart, AttributePart}
use Rattle.c_core.specs.declared.number.Spot.{Spot}
use Rattle.c_tokens.specs.declared.token.Punct.TheVariants as sign
use Rattle.c_parser.specs.Signs.{is_sign, word_at, place}
use Rattle.c_parser.specs.Items.{or_later, closed_word}
use Rattle.c_parser.specs.Brackets.{Bracket, NoBracket, Opening, Closing}
use Rattle.c_parser.specs.Gives.{Fails}

-- the tokens after are those that are read
abbrev pub Passes : Result (Bor (List Token)) Unread → Option (List Token) → Type 0
Passes (Ok rest) read = read ≡ Some rest.now
Passes (Err fault) read = Fails fault read

abbrev pub bracket_view : Raw → Bracket
bracket_view raw.Absent = NoBracket
bracket_view (raw.Opening c) = Opening c
bracket_view (raw.Closing c) = Closing c

abbrev pub part_view : RawPart → Part
part_view raw_part.Absent = NoPart
part_view (raw_part.Type w) = TypePart (word_view w)
part_view raw_part.Other = OtherPart
part_view raw_part.Attribute = AttributePart

-- the words that are read have these counts
pub record Counted (ns : List ℕ) (rest : List Token) (read : Read (List TypeWord)) : Type 0 where
  pub words : List TypeWord
  pub counts : ns ≡ counted words
  pub same : read ≡ Some (words, rest)

abbrev pub Specified : Result (List ℕ × Bor (List Token)) Unread → Read (List TypeWord) → Type 0
Specified (Ok r) read = Counted r.0 r.1.now read
Specified (Err fault) read = Fails fault read

-- a word and its place
abbrev pub named : Option (Bor (List ℕ) × Spot) → Option (List ℕ × Spot)
named None = None
named (Some n) = Some (n.0.now, n.1)

-- the word that stands first, where it may be the name of a closed item
abbrev pub name_here : List Token → Option (List ℕ × Spot)
name_here ts = or_later (closed_word (is_sign sign.ParenOpen (drop 1 ts)) (word_at ts)) (place ts) None
