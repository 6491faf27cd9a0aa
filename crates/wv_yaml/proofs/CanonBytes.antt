-- The bytes of the canonical text are those of its lines.
use Rattle.std.proofs.Common.{◌≡◌, ℕ, zero, suc, ◌+◌, List, [], ◌∷◌, ◌++◌, Bool, true, false, ◌&&◌, refl, sym, ap, ◌∙◌, append_assoc, cond}
use Rattle.std.specs.List.{flat_map}
use Rattle.std.specs.Str.{chars}
use Rattle.std.proofs.lemmas.Str.{encodes-append}
use lib.Utf8.{encode, encodes}
use Rattle.yaml_lines.specs.Line.{Line}
use Rattle.wv_yaml.specs.declared.tree.Tree.{Tree, Text, List', Map', Row_of-Tree, end_of-Tree, more_of-Tree, Row_of-Pair, end_of-Pair, more_of-Pair}
use Rattle.yaml_lines.specs.Chunks.{unchunked}
use Rattle.yaml_lines.specs.Marks.{indented}
use Rattle.wv_yaml.specs.Canon.{escaped, quoted_text, is_name, is_count, is_place, is_inline, key_text, text_form, after_colon, has_items, has_pairs, form, items_form, pairs_form}
use Rattle.std.proofs.lemmas.Bool.{and_parts}
use Rattle.yaml_scalars.proofs.Rows.{indented_append}
use Rattle.wv_yaml.proofs.CanonAscii.{name_same, count_same}
use Rattle.wv_yaml.proofs.CanonLines.{quoted_chars, key_chars, text_chars, pair_line, pair_body, later_of, first_text, first_item, first_pair, later_lines, item_chunks, pair_chunks, text_of, text_append}

spaces_same : (n : ℕ) → encodes (indented n []) ≡ indented n []
unfolding encode
spaces_same zero = refl
spaces_same (suc n) = ap (λ xs. 32 ∷ xs) (spaces_same n)

quoted_same : (v : List ℕ) → quoted_text v ≡ encodes (quoted_chars v)
unfolding encode
quoted_same v = ap (λ xs. 34 ∷ xs) (sym (encodes-append (flat_map escaped (chars v)) (34 ∷ [])))

key_same : (k : List ℕ) → key_text k ≡ encodes (key_chars k)
key_same k = at (is_name k) refl
  where
    at : (b : Bool) → is_name k ≡ b → cond b k (quoted_text k) ≡ encodes (cond b k (quoted_chars k))
    at true e = sym (name_same k e)
    at false e = quoted_same k

text_same : (bare : Bool) (v : List ℕ) → text_form bare v ≡ encodes (text_chars bare v)
text_same bare v = at (bare && is_count v) refl
  where
    at : (b : Bool) → (bare && is_count v) ≡ b → cond b v (quoted_text v) ≡ encodes (cond b v (quoted_chars v))
    at true e = sym (count_same v (and_parts _ _ e).1)
    at false e = quoted_same v

-- a value's text, and the lines behind it
joins : (first : List ℕ) (later more : List Line) → (first ++ (10 ∷ text_of later)) ++ text_of more ≡ first ++ (10 ∷ text_of (later ++ more))
joins first later more = append_assoc first (10 ∷ text_of later) (text_of more) ∙ ap (λ xs. first ++ (10 ∷ xs)) (sym (text_append later more))

behind : (first : List ℕ) (later more : List Line) (F R : List ℕ) → F ≡ encodes (first ++ (10 ∷ text_of later)) → R ≡ encodes (text_of more) →
    F ++ R ≡ encodes (first ++ (10 ∷ text_of (later ++ more)))
behind first later more F R f r =
    ap (λ xs. xs ++ R) f ∙ ap (λ xs. encodes (first ++ (10 ∷ text_of later)) ++ xs) r ∙ sym (encodes-append (first ++ (10 ∷ text_of later)) (text_of more))
    ∙ ap encodes (joins first later more)

spaced : (n : ℕ) (first rest : List ℕ) → indented n [] ++ encodes (first ++ rest) ≡ encodes (indented n first ++ rest)
spaced n first rest =
    ap (λ xs. xs ++ encodes (first ++ rest)) (sym (spaces_same n)) ∙ sym (encodes-append (indented n []) (first ++ rest))
    ∙ ap encodes (sym (append_assoc (indented n []) first rest) ∙ ap (λ xs. xs ++ rest) (sym (indented_append n first)))

item_same : (first : List ℕ) (later more : List Line) (F R : List ℕ) → F ≡ encodes (first ++ (10 ∷ text_of later)) → R ≡ encodes (text_of more) →
    45 ∷ 32 ∷ (F ++ R) ≡ encodes ((45 ∷ 32 ∷ first) ++ (10 ∷ text_of (later ++ more)))
unfolding encode
item_same first later more F R f r = ap (λ xs. 45 ∷ 32 ∷ xs) (behind first later more F R f r)

pair_same : (n : ℕ) (k : List ℕ) (b : Bool) (first : List ℕ) (later more : List Line) (F R : List ℕ) → F ≡ encodes (first ++ (10 ∷ text_of later)) → R ≡ encodes (text_of more) →
    key_text k ++ (58 ∷ (after_colon n b ++ (F ++ R))) ≡ encodes (pair_line k b first ++ (10 ∷ text_of (pair_body n b first later ++ more)))
unfolding encode
pair_same n k b first later more F R f r = at b
  where
    rest : F ++ R ≡ encodes (first ++ (10 ∷ text_of (later ++ more)))
    rest = behind first later more F R f r

    keyed : (front behind : List ℕ) → key_text k ++ encodes (front ++ behind) ≡ encodes ((key_chars k ++ front) ++ behind)
    keyed front behind =
        ap (λ xs. xs ++ encodes (front ++ behind)) (key_same k) ∙ sym (encodes-append (key_chars k) (front ++ behind)) ∙ ap encodes (sym (append_assoc (key_chars k) front behind))

    at : (b : Bool) → key_text k ++ (58 ∷ (after_colon n b ++ (F ++ R))) ≡ encodes (pair_line k b first ++ (10 ∷ text_of (pair_body n b first later ++ more)))
    at true = ap (λ xs. key_text k ++ (58 ∷ 32 ∷ xs)) rest ∙ keyed (58 ∷ 32 ∷ first) (10 ∷ text_of (later ++ more))
    at false =
        ap (λ xs. key_text k ++ (58 ∷ 10 ∷ xs)) (ap (λ xs. indented n [] ++ xs) rest ∙ spaced n first (10 ∷ text_of (later ++ more)))
        ∙ keyed (58 ∷ []) (10 ∷ (indented n first ++ (10 ∷ text_of (later ++ more))))

mutual
  unfolding form encode

  pub value_bytes : (n : ℕ) (bare : Bool) (t : Tree) → form n bare t ≡ encodes (first_text bare t ++ (10 ∷ text_of (later_lines n t)))
  value_bytes n bare (Text v) = ap (λ xs. xs ++ (10 ∷ [])) (text_same bare v) ∙ sym (encodes-append (text_chars bare v) (10 ∷ []))
  value_bytes n bare (List' s row) = list_bytes n row
  value_bytes n bare (Map' s row) = map_bytes n row

  list_bytes : {m : _} (n : ℕ) (row : Row_of-Tree m) → cond (has_items row) (items_form n true row) (91 ∷ 93 ∷ 10 ∷ []) ≡ encodes (first_item row ++ (10 ∷ text_of (later_of (unchunked (item_chunks n row)))))
  list_bytes n end_of-Tree = refl
  list_bytes n (more_of-Tree t rest) = item_same (first_text false t) (later_lines (n + 2) t) (unchunked (item_chunks n rest)) (form (n + 2) false t) (items_form n false rest) (value_bytes (n + 2) false t) (items_same n rest)

  map_bytes : {m : _} (n : ℕ) (row : Row_of-Pair m) → cond (has_pairs row) (pairs_form n true row) (123 ∷ 125 ∷ 10 ∷ []) ≡ encodes (first_pair row ++ (10 ∷ text_of (later_of (unchunked (pair_chunks n row)))))
  map_bytes n end_of-Pair = refl
  map_bytes n (more_of-Pair k v rest) =
      pair_same (n + 2) k (is_inline v) (first_text (is_place k) v) (later_lines (n + 2) v) (unchunked (pair_chunks n rest)) (form (n + 2) (is_place k) v) (pairs_form n false rest)
      (value_bytes (n + 2) (is_place k) v) (pairs_same n rest)

  items_same : {m : _} (n : ℕ) (row : Row_of-Tree m) → items_form n false row ≡ encodes (text_of (unchunked (item_chunks n row)))
  items_same n end_of-Tree = refl
  items_same n (more_of-Tree t rest) =
      ap (λ xs. indented n [] ++ xs) (item_same (first_text false t) (later_lines (n + 2) t) (unchunked (item_chunks n rest)) (form (n + 2) false t) (items_form n false rest) (value_bytes (n + 2) false t) (items_same n rest))
      ∙ spaced n (45 ∷ 32 ∷ first_text false t) (10 ∷ text_of (later_lines (n + 2) t ++ unchunked (item_chunks n rest)))

  pairs_same : {m : _} (n : ℕ) (row : Row_of-Pair m) → pairs_form n false row ≡ encodes (text_of (unchunked (pair_chunks n row)))
  pairs_same n end_of-Pair = refl
  pairs_same n (more_of-Pair k v rest) =
      ap (λ xs. indented n [] ++ xs)
      (pair_same (n + 2) k (is_inline v) (first_text (is_place k) v) (later_lines (n + 2) v) (unchunked (pair_chunks n rest)) (form (n + 2) (is_place k) v) (pairs_form n false rest)
      (value_bytes (n + 2) (is_place k) v) (pairs_same n rest))
      ∙ spaced n (pair_line k (is_inline v) (first_text (is_place k) v)) (10 ∷ text_of (pair_body (n + 2) (is_inline v) (first_text (is_place k) v) (later_lines (n + 2) v) ++ unchunked (pair_chunks n rest)))
