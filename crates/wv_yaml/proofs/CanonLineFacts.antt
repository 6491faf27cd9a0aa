-- The lines of the canonical text: how each begins, how far it is indented, and that its characters may stand.
use Rattle.std.proofs.Common.{◌≡◌, ℕ, ◌+◌, ◌≤◌, List, [], ◌∷◌, ◌++◌, Bool, true, false, ◌==◌, ◌||◌, not, refl, sym, arith, le_refl, true≢false}
use Rattle.std.specs.List.{AllByRecursion}
use Rattle.yaml_lines.specs.Line.{Line, line_at}
use Rattle.wv_yaml.specs.declared.tree.Tree.{Tree, Text, List', Map', Row_of-Tree, end_of-Tree, more_of-Tree, Row_of-Pair, end_of-Pair, more_of-Pair}
use Rattle.yaml_lines.specs.Chunks.{Each, unchunked}
use Rattle.wv_yaml.specs.Canon.{is_letter, is_name, is_place, is_inline, has_items, has_pairs, InUtf8, ItemsInUtf8, PairsInUtf8}
use Rattle.std.proofs.lemmas.Bool.{and_parts, or_left}
use Rattle.yaml_lines.proofs.Ranges.{either}
use Rattle.wv_yaml.proofs.CanonChars.{shown, each_append, key_shown, text_shown}
use Rattle.wv_yaml.proofs.CanonLines.{quoted_chars, key_chars, pair_line, pair_body, later_of, first_text, first_item, first_pair, later_lines, item_chunks, pair_chunks}

-- a key's first character
abbrev pub key_sign : ℕ → Bool
key_sign c = (is_letter c || (c == 95)) || (c == 34)

-- an entry or a pair of the canonical text begins so
pub data Opening : List ℕ → Type 0 where
  Dashed : (rest : List ℕ) → Opening (45 ∷ 32 ∷ rest)
  Keyed : (c : ℕ) (rest : List ℕ) → key_sign c ≡ true → Opening (c ∷ rest)

-- a line of the canonical text at this column or more
pub record CanonicalLine (n : ℕ) (l : Line) : Type 0 where
  pub under : n ≤ l.indent
  pub begins : Opening l.text
  pub stands : Each shown l.text
  pub ended : l.ended ≡ true

abbrev pub CanonicalLines : ℕ → List Line → Type 0
CanonicalLines n ls = AllByRecursion (CanonicalLine n) ls

-- a pair begins so
abbrev pub IsKeyed : List ℕ → Type 0
IsKeyed [] = ⊥
IsKeyed (c ∷ cs) = key_sign c ≡ true

name_keyed : (k rest : List ℕ) → is_name k ≡ true → IsKeyed (k ++ rest)
name_keyed [] rest e = absurd (true≢false (sym e))
name_keyed (c ∷ cs) rest e = or_left _ (c == 34) (and_parts _ _ e).0

key_keyed : (k rest : List ℕ) → IsKeyed (key_chars k ++ rest)
key_keyed k rest = either (λ xs. IsKeyed (xs ++ rest)) (is_name k) k (quoted_chars k) (name_keyed k rest) (λ _. refl)

pub pair_keyed : (k : List ℕ) (b : Bool) (first : List ℕ) → IsKeyed (pair_line k b first)
pair_keyed k true first = key_keyed k (58 ∷ 32 ∷ first)
pair_keyed k false first = key_keyed k (58 ∷ [])

keyed_opening : (text : List ℕ) → IsKeyed text → Opening text
keyed_opening [] k = absurd k
keyed_opening (c ∷ cs) k = Keyed c cs k

pair_opening : (k : List ℕ) (b : Bool) (first : List ℕ) → Opening (pair_line k b first)
pair_opening k b first = keyed_opening (pair_line k b first) (pair_keyed k b first)

pair_shown : (k : List ℕ) (b : Bool) (first : List ℕ) → Each shown (key_chars k) → Each shown first → Each shown (pair_line k b first)
pair_shown k true first g h = each_append (key_chars k) (58 ∷ 32 ∷ first) g (refl, (refl, h))
pair_shown k false first g h = each_append (key_chars k) (58 ∷ []) g (refl, tt)

mutual
  pub first_shown : (bare : Bool) (t : Tree) → InUtf8 t → Each shown (first_text bare t)
  first_shown bare (Text v) u = text_shown bare v u
  first_shown bare (List' s row) u = first_item_shown row u
  first_shown bare (Map' s row) u = first_pair_shown row u

  first_item_shown : {m : _} (row : Row_of-Tree m) → ItemsInUtf8 row → Each shown (first_item row)
  first_item_shown end_of-Tree u = (refl, (refl, tt))
  first_item_shown (more_of-Tree t rest) u = (refl, (refl, first_shown false t u.0))

  first_pair_shown : {m : _} (row : Row_of-Pair m) → PairsInUtf8 row → Each shown (first_pair row)
  first_pair_shown end_of-Pair u = (refl, (refl, tt))
  first_pair_shown (more_of-Pair k v rest) u = pair_shown k (is_inline v) (first_text (is_place k) v) (key_shown k u.0) (first_shown (is_place k) v u.1.0)

-- a list or a map that is no inline form begins with an entry or a pair
pub block_opening : (bare : Bool) (t : Tree) → is_inline t ≡ false → Opening (first_text bare t)
block_opening bare (Text v) e = absurd (true≢false e)
block_opening bare (List' s row) e = at row e
  where
    at : {m : _} (row : Row_of-Tree m) → not (has_items row) ≡ false → Opening (first_item row)
    at end_of-Tree e = absurd (true≢false e)
    at (more_of-Tree t rest) e = Dashed (first_text false t)
block_opening bare (Map' s row) e = at row e
  where
    at : {m : _} (row : Row_of-Pair m) → not (has_pairs row) ≡ false → Opening (first_pair row)
    at end_of-Pair e = absurd (true≢false e)
    at (more_of-Pair k v rest) e = pair_opening k (is_inline v) (first_text (is_place k) v)

-- lines at a column or more are lines at one before it or more
raised : (n : ℕ) (ls : List Line) → CanonicalLines (n + 2) ls → CanonicalLines n ls
raised n [] h = tt
raised n (l ∷ ls) h =
    let two : n + 2 ≤ l.indent = h.0.under in
    (record { under = omega arith; begins = h.0.begins; stands = h.0.stands; ended = h.0.ended }, raised n ls h.1)

lines_append : (n : ℕ) (ls more : List Line) → CanonicalLines n ls → CanonicalLines n more → CanonicalLines n (ls ++ more)
lines_append n [] more h k = k
lines_append n (l ∷ ls) more h k = (h.0, lines_append n ls more h.1 k)

lines_later : (n : ℕ) (ls : List Line) → CanonicalLines n ls → CanonicalLines n (later_of ls)
lines_later n [] h = tt
lines_later n (l ∷ ls) h = h.1

pub line_of : (n : ℕ) (text : List ℕ) → Opening text → Each shown text → CanonicalLine n (line_at n text true)
line_of n text o g = record { under = le_refl n; begins = o; stands = g; ended = refl }

-- the lines behind a pair's first
pub body_lines : (n : ℕ) (bare : Bool) (v : Tree) → InUtf8 v → CanonicalLines n (later_lines n v) → CanonicalLines n (pair_body n (is_inline v) (first_text bare v) (later_lines n v))
body_lines n bare v u h = at (is_inline v) refl
  where
    at : (b : Bool) → is_inline v ≡ b → CanonicalLines n (pair_body n b (first_text bare v) (later_lines n v))
    at true e = h
    at false e = (line_of n (first_text bare v) (block_opening bare v e) (first_shown bare v u), h)

mutual
  pub later_are_lines : (n : ℕ) (t : Tree) → InUtf8 t → CanonicalLines n (later_lines n t)
  later_are_lines n (Text v) u = tt
  later_are_lines n (List' s row) u = lines_later n (unchunked (item_chunks n row)) (items_are_lines n row u)
  later_are_lines n (Map' s row) u = lines_later n (unchunked (pair_chunks n row)) (pairs_are_lines n row u)

  pub items_are_lines : {m : _} (n : ℕ) (row : Row_of-Tree m) → ItemsInUtf8 row → CanonicalLines n (unchunked (item_chunks n row))
  items_are_lines n end_of-Tree u = tt
  items_are_lines n (more_of-Tree t rest) u = (
    line_of n (45 ∷ 32 ∷ first_text false t) (Dashed (first_text false t)) (refl, (refl, first_shown false t u.0)),
    lines_append n (later_lines (n + 2) t) (unchunked (item_chunks n rest)) (raised n (later_lines (n + 2) t) (later_are_lines (n + 2) t u.0)) (items_are_lines n rest u.1),
  )

  pub pairs_are_lines : {m : _} (n : ℕ) (row : Row_of-Pair m) → PairsInUtf8 row → CanonicalLines n (unchunked (pair_chunks n row))
  pairs_are_lines n end_of-Pair u = tt
  pairs_are_lines n (more_of-Pair k v rest) u =
      let first : List ℕ = first_text (is_place k) v in
      let body : List Line = pair_body (n + 2) (is_inline v) first (later_lines (n + 2) v) in (
        line_of n (pair_line k (is_inline v) first) (pair_opening k (is_inline v) first) (pair_shown k (is_inline v) first (key_shown k u.0) (first_shown (is_place k) v u.1.0)),
        lines_append n body (unchunked (pair_chunks n rest)) (raised n body (body_lines (n + 2) (is_place k) v u.1.0 (later_are_lines (n + 2) v u.1.0))) (pairs_are_lines n rest u.1.1),
      )
