-- The canonical text of a tree.
use Rattle.std.specs.Prelude.{◌≡◌, ℕ, suc, ◌+◌, ◌/◌, ◌%◌, ◌≤◌, List, [], ◌∷◌, ◌++◌, length, Bool, true, false, ◌==◌, ◌&&◌, ◌||◌, not, nat_lt, nat_le, if◌then◌else◌}
use Rattle.std.specs.List.{flat_map}
use Rattle.std.specs.Str.{encode_utf8_all, chars, IsUtf8}
use Rattle.wv_yaml.specs.declared.tree.Tree.{Tree, Text, List', Map', Row_of-Tree, end_of-Tree, more_of-Tree, Row_of-Pair, end_of-Pair, more_of-Pair}
use Rattle.wv_yaml.specs.declared.tree.Pair.{Pair}
use Rattle.yaml_lines.specs.Marks.{indented}
use Rattle.yaml_lines.specs.Lines.{within}
use Rattle.yaml_scalars.specs.Tokens.{max_key}

-- a hexadecimal digit, in lower case
abbrev pub hex_of : ℕ → ℕ
hex_of n = if nat_lt n 10 then 48 + n else 87 + n

-- how a character is written between quotes
abbrev pub escaped : ℕ → List ℕ
escaped c =
    if (c == 34) || (c == 92) then 92 ∷ c ∷ []
    else (if c == 10 then 92 ∷ 110 ∷ []
    else (if c == 9 then 92 ∷ 116 ∷ []
    else (if c == 13 then 92 ∷ 114 ∷ []
    else (if nat_lt c 32 || within 0x7F 0x9F c then 92 ∷ 120 ∷ hex_of (c / 16) ∷ hex_of (c % 16) ∷ []
    else (if within 0xFFFE 0xFFFF c then 92 ∷ 117 ∷ 102 ∷ 102 ∷ 102 ∷ hex_of (c % 16) ∷ [] else c ∷ [])))))

-- characters between quotes, and a text's
abbrev pub between_quotes : List ℕ → List ℕ
between_quotes cs = 34 ∷ (encode_utf8_all (flat_map escaped cs) ++ (34 ∷ []))

-- a text in double quotes
abbrev pub quoted_text : List ℕ → List ℕ
quoted_text text = between_quotes (chars text)

-- A to Z, a to z
abbrev pub is_letter : ℕ → Bool
is_letter c = within 65 90 c || within 97 122 c

-- 0 to 9
abbrev pub is_decimal : ℕ → Bool
is_decimal c = within 48 57 c

-- each character is so
abbrev pub all_of : (ℕ → Bool) → List ℕ → Bool
all_of p [] = true
all_of p (c ∷ cs) = p c && all_of p cs

-- a letter, a digit or `_`
abbrev pub is_word_char : ℕ → Bool
is_word_char c = is_letter c || (is_decimal c || (c == 95))

-- a letter or `_`, and then letters, digits and `_`
abbrev pub is_name : List ℕ → Bool
is_name [] = false
is_name (c ∷ cs) = (is_letter c || (c == 95)) && all_of is_word_char cs

-- a key: bare where it is a name, else quoted
abbrev pub key_text : List ℕ → List ℕ
key_text k = if is_name k then k else quoted_text k

-- 1 to 7 digits, the first not 0
abbrev pub is_count : List ℕ → Bool
is_count [] = false
is_count (c ∷ cs) = within 49 57 c && (all_of is_decimal cs && nat_le (length cs) 6)

-- the same bytes
abbrev pub bytes_are : List ℕ → List ℕ → Bool
bytes_are [] [] = true
bytes_are (x ∷ xs) (y ∷ ys) = (x == y) && bytes_are xs ys
bytes_are [] (y ∷ ys) = false
bytes_are (x ∷ xs) [] = false

-- the keys `line` and `column`, whose values the witness format has as integers
abbrev pub is_place : List ℕ → Bool
is_place k = bytes_are k (108 ∷ 105 ∷ 110 ∷ 101 ∷ []) || bytes_are k (99 ∷ 111 ∷ 108 ∷ 117 ∷ 109 ∷ 110 ∷ [])

-- a text, bare where it may be
abbrev pub text_form : Bool → List ℕ → List ℕ
text_form is_bare v = if is_bare && is_count v then v else quoted_text v

-- what stands between a key's colon, or an entry's dash, and its value: an inline form stays on the line
abbrev pub has_items : {m : _} → Row_of-Tree m → Bool
has_items end_of-Tree = false
has_items (more_of-Tree t rest) = true

-- the map isn't empty
abbrev pub has_pairs : {m : _} → Row_of-Pair m → Bool
has_pairs end_of-Pair = false
has_pairs (more_of-Pair k v rest) = true

-- a text, or a collection without items, stands on its key's line
abbrev pub is_inline : Tree → Bool
is_inline (Text v) = true
is_inline (List' s row) = not (has_items row)
is_inline (Map' s row) = not (has_pairs row)

-- what stands before an item: nothing after an indicator, else a line's indentation
abbrev pub lead : ℕ → Bool → List ℕ
lead n true = []
lead n false = indented n []

-- what stands after a colon: a space, or the next line's indentation
abbrev pub after_colon : ℕ → Bool → List ℕ
after_colon n true = 32 ∷ []
after_colon n false = 10 ∷ indented n []

-- The bytes of a value that begins at this column, with the line feed at its end. The first line of a collection has its
-- indentation already, its others get theirs; `bare` tells whether a text may stand bare.
unfoldable mutual
  pub form : ℕ → Bool → Tree → List ℕ
  form n bare (Text v) = text_form bare v ++ (10 ∷ [])
  form n bare (List' s row) = if has_items row then items_form n true row else 91 ∷ 93 ∷ 10 ∷ []
  form n bare (Map' s row) = if has_pairs row then pairs_form n true row else 123 ∷ 125 ∷ 10 ∷ []

  pub items_form : {m : _} → ℕ → Bool → Row_of-Tree m → List ℕ
  items_form n first end_of-Tree = []
  items_form n first (more_of-Tree t rest) = lead n first ++ (45 ∷ 32 ∷ (form (n + 2) false t ++ items_form n false rest))

  pub pairs_form : {m : _} → ℕ → Bool → Row_of-Pair m → List ℕ
  pairs_form n first end_of-Pair = []
  pairs_form n first (more_of-Pair k v rest) =
      lead n first ++ (key_text k ++ (58 ∷ (after_colon (n + 2) (is_inline v) ++ (form (n + 2) (is_place k) v ++ pairs_form n false rest))))

-- the same for the items of a list and the pairs of a map
abbrev pub items_bytes : ℕ → Bool → List Tree → List ℕ
items_bytes n first [] = []
items_bytes n first (t ∷ ts) = lead n first ++ (45 ∷ 32 ∷ (form (n + 2) false t ++ items_bytes n false ts))

abbrev pub pairs_bytes : ℕ → Bool → List Pair → List ℕ
pairs_bytes n first [] = []
pairs_bytes n first (p ∷ ps) =
    lead n first ++ (key_text p.key ++ (58 ∷ (after_colon (n + 2) (is_inline p.value) ++ (form (n + 2) (is_place p.key) p.value ++ pairs_bytes n false ps))))

-- the canonical text of a tree
unfoldable pub canon : Tree → List ℕ
canon t = form 0 false t

abbrev mutual
  -- lists and maps nest at most this deep, and each key has at most this many characters
  pub Fits : ℕ → Tree → Type 0
  Fits d (Text v) = Unit {0}
  Fits d (List' s row) = (e : ℕ) × (d ≡ suc e) × ItemsFit e row
  Fits d (Map' s row) = (e : ℕ) × (d ≡ suc e) × PairsFit e row

  pub ItemsFit : {m : _} → ℕ → Row_of-Tree m → Type 0
  ItemsFit e end_of-Tree = Unit {0}
  ItemsFit e (more_of-Tree t rest) = Fits e t × ItemsFit e rest

  pub PairsFit : {m : _} → ℕ → Row_of-Pair m → Type 0
  PairsFit e end_of-Pair = Unit {0}
  PairsFit e (more_of-Pair k v rest) = (length (chars k) ≤ max_key) × (Fits e v × PairsFit e rest)

abbrev pub PairFits : ℕ → Pair → Type 0
PairFits e p = (length (chars p.key) ≤ max_key) × Fits e p.value

-- a list or a map
abbrev pub IsCollection : Tree → Type 0
IsCollection (Text v) = ⊥
IsCollection (List' s row) = Unit {0}
IsCollection (Map' s row) = Unit {0}

abbrev mutual
  -- each text and each key is UTF-8, as every `Text` is
  pub InUtf8 : Tree → Type 0
  InUtf8 (Text v) = IsUtf8 v
  InUtf8 (List' s row) = ItemsInUtf8 row
  InUtf8 (Map' s row) = PairsInUtf8 row

  pub ItemsInUtf8 : {m : _} → Row_of-Tree m → Type 0
  ItemsInUtf8 end_of-Tree = Unit {0}
  ItemsInUtf8 (more_of-Tree t rest) = InUtf8 t × ItemsInUtf8 rest

  pub PairsInUtf8 : {m : _} → Row_of-Pair m → Type 0
  PairsInUtf8 end_of-Pair = Unit {0}
  PairsInUtf8 (more_of-Pair k v rest) = IsUtf8 k × (InUtf8 v × PairsInUtf8 rest)

abbrev pub PairInUtf8 : Pair → Type 0
PairInUtf8 p = IsUtf8 p.key × InUtf8 p.value
