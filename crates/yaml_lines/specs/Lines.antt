-- Characters, and the lines that they make (YAML 1.2.2, 5.1 and 5.4).
use Rattle.std.specs.Prelude.{◌≡◌, ◌≢◌, ℕ, suc, List, [], ◌∷◌, ◌++◌, Bool, true, false, ◌==◌, ◌&&◌, ◌||◌, nat_le, if◌then◌else◌}
use Rattle.yaml_lines.specs.Line.{Line, line_at}
use Rattle.yaml_lines.specs.Chunks.{NoneOf}
use Rattle.yaml_lines.specs.Marks.{begins_with, indented, is_end, is_empty}

-- from the first to the second, both included
abbrev pub within : ℕ → ℕ → ℕ → Bool
within low high c = nat_le low c && nat_le c high

-- A character that may stand before these. Surrogates are no characters.
abbrev pub may_stand : ℕ → List ℕ → Bool
may_stand c cs =
    (c == 9) || (c == 10) || ((c == 13) && begins_with 10 cs) || within 32 126 c || (c == 0x85) || within 0xA0 0xFFFD c || nat_le 0x1_0000 c

-- each character may stand in a text
abbrev pub allowed : List ℕ → Bool
allowed [] = true
allowed (c ∷ cs) = may_stand c cs && allowed cs

-- without one byte order mark in front
abbrev pub unmarked : List ℕ → List ℕ
unmarked [] = []
unmarked (c ∷ cs) = if c == 0xFEFF then cs else c ∷ cs

-- the text before the first line feed, and from there on
abbrev pub to_feed : List ℕ → List ℕ
to_feed [] = []
to_feed (c ∷ cs) = if c == 10 then [] else c ∷ to_feed cs

abbrev pub from_feed : List ℕ → List ℕ
from_feed [] = []
from_feed (c ∷ cs) = if c == 10 then c ∷ cs else from_feed cs

-- without the CR at its end
abbrev pub without_return : List ℕ → List ℕ
without_return [] = []
without_return (c ∷ []) = if c == 13 then [] else c ∷ []
without_return (c ∷ d ∷ ds) = c ∷ without_return (d ∷ ds)

abbrev pub spaces : List ℕ → ℕ
spaces [] = 0
spaces (c ∷ cs) = if c == 32 then suc (spaces cs) else 0

abbrev pub unspaced : List ℕ → List ℕ
unspaced [] = []
unspaced (c ∷ cs) = if c == 32 then unspaced cs else c ∷ cs

-- the line of a text, without its break
abbrev pub ended_line : List ℕ → Bool → Line
ended_line text ended = line_at (spaces text) (unspaced text) ended

-- The lines: `front` is what the first has before these characters.
abbrev pub lines_from : List ℕ → List ℕ → List Line
lines_from front [] = if is_end front then [] else ended_line front false ∷ []
lines_from front (c ∷ cs) =
    if c == 10 then ended_line (without_return front) true ∷ lines_from [] cs else lines_from (front ++ (c ∷ [])) cs

abbrev pub lines_in : List ℕ → List Line
lines_in cs = lines_from [] cs

-- Lines, as a relation.

-- a line feed or a carriage return
abbrev pub is_break : ℕ → Bool
is_break c = (c == 10) || (c == 13)

-- the text begins with no space
abbrev pub NoSpace : List ℕ → Type 0
NoSpace [] = Unit {0}
NoSpace (c ∷ cs) = (c == 32) ≡ false

-- a line break: LF, or CR LF; at the document's end there may be none
pub data IsBreak : Bool → List ℕ → List ℕ → Type 0 where
  LineFeed : (rest : List ℕ) → IsBreak true (10 ∷ rest) rest
  ReturnLineFeed : (rest : List ℕ) → IsBreak true (13 ∷ 10 ∷ rest) rest
  Missing : IsBreak false [] []

-- the characters begin with this line
pub record LineAt (cs : List ℕ) (l : Line) (rest : List ℕ) : Type 0 where
  pub after : List ℕ
  pub whole : cs ≡ indented l.indent l.text ++ after
  pub one_line : NoneOf is_break l.text
  pub no_more : NoSpace l.text
  pub ends : IsBreak l.ended after rest
  pub some : cs ≢ []

-- the characters are these lines
abbrev pub AreLines : List ℕ → List Line → Type 0
AreLines cs [] = cs ≡ []
AreLines cs (l ∷ ls) = (rest : List ℕ) × LineAt cs l rest × AreLines rest ls

-- A value that may go on over lines is read as one text with its line breaks: 10 is a break, and 13 is one before a line that
-- is not indented enough.

-- the break before a line: 13 where the line is neither empty nor indented by this much
abbrev pub break_before : ℕ → Line → ℕ
break_before column l = if is_empty l || nat_le column l.indent then 10 else 13

-- the lines after a value's first, each with its break in front
abbrev pub after_breaks : ℕ → List Line → List ℕ
after_breaks column [] = []
after_breaks column (l ∷ ls) = break_before column l ∷ (l.text ++ after_breaks column ls)

-- the text of a value that may go on over lines which are indented by a column or more
abbrev pub joined : ℕ → List ℕ → List Line → List ℕ
joined column text body = text ++ after_breaks column body
