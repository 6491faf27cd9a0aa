-- The lines of the canonical text.
use Rattle.std.proofs.Common.{◌≡◌, ℕ, ◌+◌, List, [], ◌∷◌, ◌++◌, Bool, true, false, ◌&&◌, refl, sym, ap, ◌∙◌, append_assoc, if◌then◌else◌}
use Rattle.std.specs.List.{flat_map}
use Rattle.std.specs.Str.{chars}
use Rattle.yaml_lines.specs.Line.{Line, line_at}
use Rattle.wv_yaml.specs.declared.tree.Tree.{Tree, Text, List', Map', Row_of-Tree, end_of-Tree, more_of-Tree, Row_of-Pair, end_of-Pair, more_of-Pair}
use Rattle.yaml_lines.specs.Chunks.{unchunked}
use Rattle.yaml_lines.specs.Marks.{indented}
use Rattle.wv_yaml.specs.Block.{Chunk}
use Rattle.wv_yaml.specs.Canon.{escaped, is_name, is_count, is_place, is_inline}

-- the characters of a text between quotes, of a key, and of a text that may stand bare
abbrev pub quoted_chars : List ℕ → List ℕ
quoted_chars v = 34 ∷ (flat_map escaped (chars v) ++ (34 ∷ []))

abbrev pub key_chars : List ℕ → List ℕ
key_chars k = if is_name k then k else quoted_chars k

abbrev pub text_chars : Bool → List ℕ → List ℕ
text_chars bare v = if bare && is_count v then v else quoted_chars v

-- a pair's first line, where the value's begins so, and the lines behind it
abbrev pub pair_line : List ℕ → Bool → List ℕ → List ℕ
pair_line k true first = key_chars k ++ (58 ∷ 32 ∷ first)
pair_line k false first = key_chars k ++ (58 ∷ [])

abbrev pub pair_body : ℕ → Bool → List ℕ → List Line → List Line
pair_body n true first later = later
pair_body n false first later = line_at n first true ∷ later

abbrev pub later_of : List Line → List Line
later_of [] = []
later_of (l ∷ ls) = ls

abbrev mutual
  -- the first line of a value, from the value's column on
  pub first_text : Bool → Tree → List ℕ
  first_text bare (Text v) = text_chars bare v
  first_text bare (List' s row) = first_item row
  first_text bare (Map' s row) = first_pair row

  pub first_item : {m : _} → Row_of-Tree m → List ℕ
  first_item end_of-Tree = 91 ∷ 93 ∷ []
  first_item (more_of-Tree t rest) = 45 ∷ 32 ∷ first_text false t

  pub first_pair : {m : _} → Row_of-Pair m → List ℕ
  first_pair end_of-Pair = 123 ∷ 125 ∷ []
  first_pair (more_of-Pair k v rest) = pair_line k (is_inline v) (first_text (is_place k) v)

abbrev mutual
  -- the other lines of a value that begins at this column
  pub later_lines : ℕ → Tree → List Line
  later_lines n (Text v) = []
  later_lines n (List' s row) = later_of (unchunked (item_chunks n row))
  later_lines n (Map' s row) = later_of (unchunked (pair_chunks n row))

  -- the lines of each item and of each pair
  pub item_chunks : {m : _} → ℕ → Row_of-Tree m → List Chunk
  item_chunks n end_of-Tree = []
  item_chunks n (more_of-Tree t rest) = (line_at n (45 ∷ 32 ∷ first_text false t) true, later_lines (n + 2) t) ∷ item_chunks n rest

  pub pair_chunks : {m : _} → ℕ → Row_of-Pair m → List Chunk
  pair_chunks n end_of-Pair = []
  pair_chunks n (more_of-Pair k v rest) =
      (line_at n (pair_line k (is_inline v) (first_text (is_place k) v)) true, pair_body (n + 2) (is_inline v) (first_text (is_place k) v) (later_lines (n + 2) v)) ∷ pair_chunks n rest

-- the characters of lines, each with its line feed
abbrev pub text_of : List Line → List ℕ
text_of [] = []
text_of (l ∷ ls) = indented l.indent l.text ++ (10 ∷ text_of ls)

pub text_append : (ls more : List Line) → text_of (ls ++ more) ≡ text_of ls ++ text_of more
text_append [] more = refl
text_append (l ∷ ls) more = ap (λ xs. indented l.indent l.text ++ (10 ∷ xs)) (text_append ls more) ∙ sym (append_assoc (indented l.indent l.text) (10 ∷ text_of ls) (text_of more))
