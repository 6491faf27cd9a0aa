-- Whole documents (YAML 1.2.2, 9), and which bytes spell a tree.
use Rattle.std.specs.Prelude.{◌≡◌, ℕ, List, [], ◌∷◌, ◌++◌, drop, Bool, true, false, ◌==◌, ◌&&◌, ◌||◌, not, Option, None, if◌then◌else◌}
use Rattle.std.specs.Str.{encode_utf8_all, all_scalars, chars, is_utf8}
use Rattle.yaml_lines.specs.Line.{Line}
use Rattle.wv_yaml.specs.declared.tree.Tree.{Tree}
use Rattle.yaml_lines.specs.Chunks.{Each, provided}
use Rattle.yaml_lines.specs.Marks.{trimmed, quiet, is_tail, parted, all_quiet, Quiet, ahead}
use Rattle.yaml_lines.specs.Lines.{allowed, unmarked, lines_in, AreLines, joined}
use Rattle.yaml_scalars.specs.BlockScalar.{while, past}
use Rattle.wv_yaml.specs.Inline.{key_bytes, inline, begins_flow, flow_text, KeyText, Inline, FlowText}
use Rattle.wv_yaml.specs.Block.{block}
use Rattle.wv_yaml.specs.Spelled.{Block}

-- lists and maps nest at most this deep
abbrev pub max_depth : ℕ
max_depth = 64

-- three signs, and then a blank or the line's end
abbrev pub is_triple : ℕ → List ℕ → Bool
is_triple c [] = false
is_triple c (x ∷ []) = false
is_triple c (x ∷ y ∷ []) = false
is_triple c (x ∷ y ∷ z ∷ rest) = (x == c) && ((y == c) && ((z == c) && parted rest))

-- a line that begins or ends a document: `---` or `...`
abbrev pub is_start : Line → Bool
is_start l = (l.indent == 0) && is_triple 45 l.text

-- a line `...`
abbrev pub is_stop : Line → Bool
is_stop l = (l.indent == 0) && is_triple 46 l.text

-- a line that neither begins nor ends a document
abbrev pub is_plain_line : Line → Bool
is_plain_line l = not (is_start l || is_stop l)

-- a marker with nothing but a comment after it
abbrev pub is_alone : Line → Bool
is_alone l = is_tail (drop 3 l.text)

-- without a first line `---`
abbrev pub opened : List Line → List Line
opened [] = []
opened (l ∷ ls) = if is_start l && is_alone l then ls else l ∷ ls

-- nothing, or a line `...` and quiet lines
abbrev pub is_closing : List Line → Bool
is_closing [] = true
is_closing (l ∷ ls) = is_stop l && (is_alone l && all_quiet ls)

-- the top node: a flow collection, or a block collection at any indentation
abbrev pub top : List Line → Option Tree
top [] = None
top (l ∷ ls) =
    if begins_flow (trimmed l.text) then flow_text max_depth (joined 0 (trimmed l.text) ls) else block inline key_bytes max_depth (l ∷ ls)

abbrev pub framed : List Line → Option Tree
framed ls = provided (is_closing (past is_plain_line ls)) (top (ahead (while is_plain_line ls)))

unfoldable pub document : List Line → Option Tree
document ls = framed (opened (ahead ls))

-- the characters of a text are allowed
abbrev pub is_allowed : List ℕ → Bool
is_allowed bytes = is_utf8 bytes && allowed (unmarked (chars bytes))

-- the tree of a whole text of allowed characters
unfoldable pub tree_of : List ℕ → Option Tree
tree_of bytes = document (lines_in (unmarked (chars bytes)))

-- The same as relations.

-- the characters of the bytes: UTF-8, each allowed, without a byte order mark in front
pub record Characters (bytes cs : List ℕ) : Type 0 where
  pub all : List ℕ
  pub scalars : all_scalars all ≡ true
  pub encoded : encode_utf8_all all ≡ bytes
  pub behind_mark : cs ≡ unmarked all
  pub may_stand : allowed cs ≡ true

-- the line that begins a document, if there is one
pub data Opened : List Line → List Line → Type 0 where
  Marked : (l : Line) (ls : List Line) → is_start l ≡ true → is_alone l ≡ true → Opened (l ∷ ls) ls
  Unmarked : (l : Line) (ls : List Line) → (is_start l && is_alone l) ≡ false → Opened (l ∷ ls) (l ∷ ls)

-- the line that ends a document, if there is one
pub data Closed : List Line → Type 0 where
  Open : Closed []
  Stopped : (l : Line) (ls : List Line) → is_stop l ≡ true → is_alone l ≡ true → Quiet ls → Closed (l ∷ ls)

-- the top node: a flow collection, or a block from the first line on
pub data Top : List Line → Tree → Type 0 where
  TopFlow : (l : Line) (ls : List Line) (t : Tree) → begins_flow (trimmed l.text) ≡ true → FlowText max_depth (joined 0 (trimmed l.text) ls) t → Top (l ∷ ls) t
  TopBlock : (l : Line) (ls : List Line) (t : Tree) → begins_flow (trimmed l.text) ≡ false → Block KeyText Inline max_depth (l ∷ ls) t → Top (l ∷ ls) t

-- quiet lines, maybe a line `---`, quiet lines, the top node, and maybe a line `...` with quiet lines after it
pub record Document (lines : List Line) (t : Tree) : Type 0 where
  pub before : List Line
  pub first : Line
  pub others : List Line
  pub whole : lines ≡ before ++ (first ∷ others)
  pub skipped : Quiet before
  pub loud : quiet first.text ≡ false
  pub inside : List Line
  pub opened : Opened (first ∷ others) inside
  pub more_before : List Line
  pub node : List Line
  pub tail : List Line
  pub parts : inside ≡ (more_before ++ node) ++ tail
  pub quiet_before : Quiet more_before
  pub no_marks : Each is_plain_line (more_before ++ node)
  pub closed : Closed tail
  pub top : Top node t
  -- the node begins with its first line that isn't quiet
  pub begins : ahead node ≡ node

-- the bytes spell the tree
pub record Spelled (t : Tree) (bytes : List ℕ) : Type 0 where
  pub cs : List ℕ
  pub lines : List Line
  pub characters : Characters bytes cs
  pub are_lines : AreLines cs lines
  pub document : Document lines t
