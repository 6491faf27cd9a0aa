-- How the values of the canonical text begin, and that inline forms are read as what was written.
use Rattle.std.proofs.Common.{◌≡◌, ℕ, ◌≤◌, List, [], ◌∷◌, length, Bool, true, false, ◌==◌, ◌&&◌, not, refl, sym, ap, ◌∙◌, subst, Some, true≢false}
use Rattle.std.specs.Str.{chars, IsUtf8}
use Rattle.wv_yaml.specs.declared.tree.Tree.{Tree, Text, List', Map', Row_of-Tree, end_of-Tree, more_of-Tree, Row_of-Pair, end_of-Pair, more_of-Pair, items-the_row-Tree, items-the_row-Pair}
use Rattle.wv_yaml.specs.declared.tree.Tree.TheVariants as tree
use Rattle.yaml_lines.specs.Chunks.{unchunked}
use Rattle.yaml_lines.specs.Marks.{blank, trimmed, gap, nothing, quiet, dash}
use Rattle.yaml_scalars.specs.Tokens.{max_key}
use Rattle.wv_yaml.specs.Inline.{key_bytes, inline}
use Rattle.wv_yaml.specs.Block.{has_key, opens}
use Rattle.wv_yaml.specs.Canon.{is_word_char, is_count, is_place, has_items, has_pairs, is_inline, Fits, PairsFit, InUtf8, PairsInUtf8}
use Rattle.wv_yaml.proofs.TreeRows.{relisted_is}
use Rattle.yaml_lines.proofs.Ranges.{either, differs}
use Rattle.std.proofs.lemmas.Bool.{or_right, and_parts}
use Rattle.wv_yaml.proofs.CanonAscii.{count_words}
use Rattle.wv_yaml.proofs.CanonLines.{quoted_chars, pair_line, later_of, first_text, first_item, first_pair, later_lines, item_chunks, pair_chunks}
use Rattle.wv_yaml.proofs.CanonLineFacts.{key_sign, Opening, Dashed, Keyed, IsKeyed}
use Rattle.wv_yaml.proofs.CanonScalars.{unblank, key_back, text_back, quoted_no_key, list_back, map_back}

-- the first character is no blank and begins no comment
abbrev pub Leads : List ℕ → Type 0
Leads [] = ⊥
Leads (c ∷ cs) = (blank c ≡ false) × ((c == 35) ≡ false)

pub leads_trimmed : (text : List ℕ) → Leads text → trimmed text ≡ text
leads_trimmed [] h = absurd h
leads_trimmed (c ∷ cs) h = rw h.0 refl

pub leads_gap : (text : List ℕ) → Leads text → gap text ≡ []
leads_gap [] h = absurd h
leads_gap (c ∷ cs) h = rw h.0 refl

pub leads_loud : (text : List ℕ) → Leads text → nothing text ≡ false
leads_loud [] h = absurd h
leads_loud (c ∷ cs) h = h.1

key_unblank : (c : ℕ) → key_sign c ≡ true → blank c ≡ false
key_unblank c e = rw (differs key_sign c 32 e refl, differs key_sign c 9 e refl) refl

pub opening_leads : (text : List ℕ) → Opening text → Leads text
opening_leads _ (Dashed rest) = (refl, refl)
opening_leads _ (Keyed c rest e) = (key_unblank c e, differs key_sign c 35 e refl)

pub leads_quiet : (text : List ℕ) → Leads text → quiet text ≡ false
leads_quiet text h = ap nothing (leads_trimmed text h) ∙ leads_loud text h

pub keyed_leads : (text : List ℕ) → IsKeyed text → Leads text
keyed_leads [] k = absurd k
keyed_leads (c ∷ cs) k = (key_unblank c k, differs key_sign c 35 k refl)

pub keyed_dash : (text : List ℕ) → IsKeyed text → dash text ≡ false
keyed_dash [] k = refl
keyed_dash (c ∷ cs) k = rw (differs key_sign c 45 k refl) refl

-- inline forms
pub no_items : {m : _} (row : Row_of-Tree m) → not (has_items row) ≡ true → (first_item row ≡ 91 ∷ 93 ∷ []) × (items-the_row-Tree _ row ≡ []) × ((n : ℕ) → unchunked (item_chunks n row) ≡ [])
no_items end_of-Tree e = (refl, refl, λ n. refl)
no_items (more_of-Tree t rest) e = absurd (true≢false (sym e))

pub no_pairs : {m : _} (row : Row_of-Pair m) → not (has_pairs row) ≡ true → (first_pair row ≡ 123 ∷ 125 ∷ []) × (items-the_row-Pair _ row ≡ []) × ((n : ℕ) → unchunked (pair_chunks n row) ≡ [])
no_pairs end_of-Pair e = (refl, refl, λ n. refl)
no_pairs (more_of-Pair k v rest) e = absurd (true≢false (sym e))

pub inline_back : (d n : ℕ) (bare : Bool) (t : Tree) → Fits d t → InUtf8 t → is_inline t ≡ true → inline d true n (first_text bare t) [] ≡ Some t
inline_back d n bare (Text v) f u e = text_back d n bare v u
inline_back d n bare (List' s row) f u e =
    let r = no_items row e in
    ap (λ xs. inline d true n xs []) r.0 ∙ ap (λ k. inline k true n (91 ∷ 93 ∷ []) []) f.1 ∙ list_back f.0 n ∙ ap (λ xs. Some (tree.List xs)) (sym r.1) ∙ ap Some (relisted_is (List' s row))
inline_back d n bare (Map' s row) f u e =
    let r = no_pairs row e in
    ap (λ xs. inline d true n xs []) r.0 ∙ ap (λ k. inline k true n (123 ∷ 125 ∷ []) []) f.1 ∙ map_back f.0 n ∙ ap (λ ps. Some (tree.Map ps)) (sym r.1) ∙ ap Some (relisted_is (Map' s row))

pub inline_alone : (n : ℕ) (t : Tree) → is_inline t ≡ true → later_lines n t ≡ []
inline_alone n (Text v) e = refl
inline_alone n (List' s row) e = ap later_of ((no_items row e).2 n)
inline_alone n (Map' s row) e = ap later_of ((no_pairs row e).2 n)

pub inline_closed : (t : Tree) → is_inline t ≡ true → opens key_bytes (first_text false t) ≡ false
inline_closed (Text v) e = quoted_no_key v
inline_closed (List' s row) e = ap (opens key_bytes) (no_items row e).0
inline_closed (Map' s row) e = ap (opens key_bytes) (no_pairs row e).0

count_leads : (v : List ℕ) → is_count v ≡ true → Leads v
count_leads [] e = absurd (true≢false (sym e))
count_leads (c ∷ cs) e = let w = (and_parts _ _ (count_words (c ∷ cs) e)).0 in (unblank c w, differs is_word_char c 35 w refl)

pub inline_leads : (bare : Bool) (t : Tree) → is_inline t ≡ true → Leads (first_text bare t)
inline_leads bare (Text v) e = either Leads (bare && is_count v) v (quoted_chars v) (λ h. count_leads v (and_parts _ _ h).1) (λ _. (refl, refl))
inline_leads bare (List' s row) e = subst Leads (sym (no_items row e).0) (refl, refl)
inline_leads bare (Map' s row) e = subst Leads (sym (no_pairs row e).0) (refl, refl)

-- pairs
abbrev pub beside : Bool → List ℕ → List ℕ
beside true first = 32 ∷ first
beside false first = []

pub pair_key : (k : List ℕ) (b : Bool) (first : List ℕ) → IsUtf8 k → length (chars k) ≤ max_key → key_bytes (pair_line k b first) ≡ Some (k, beside b first)
pair_key k true first u s = key_back k (32 ∷ first) u s refl
pair_key k false first u s = key_back k [] u s refl

-- a list or a map that is no inline form begins with what opens a collection
pub block_opens : (d : ℕ) (bare : Bool) (t : Tree) → Fits d t → InUtf8 t → is_inline t ≡ false → opens key_bytes (first_text bare t) ≡ true
block_opens d bare (Text v) f u e = absurd (true≢false e)
block_opens d bare (List' s row) f u e = at row e
  where
    at : {m : _} (row : Row_of-Tree m) → not (has_items row) ≡ false → opens key_bytes (first_item row) ≡ true
    at end_of-Tree e = absurd (true≢false e)
    at (more_of-Tree t rest) e = refl
block_opens d bare (Map' s row) f u e = at row f.2 u e
  where
    at : {m : _} (row : Row_of-Pair m) → PairsFit f.0 row → PairsInUtf8 row → not (has_pairs row) ≡ false → opens key_bytes (first_pair row) ≡ true
    at end_of-Pair f u e = absurd (true≢false e)
    at (more_of-Pair k v rest) f u e = or_right _ (has_key (key_bytes (pair_line k (is_inline v) (first_text (is_place k) v)))) (ap has_key (pair_key k (is_inline v) (first_text (is_place k) v) u.0 f.0))
