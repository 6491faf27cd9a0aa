-- The lists and maps of the canonical text are read as what was written.
use Rattle.std.proofs.Common.{◌≡◌, ℕ, suc, ◌+◌, ◌≤◌, List, [], ◌∷◌, length, Bool, true, false, ◌==◌, ◌&&◌, ◌||◌, not, nat_lt, refl, ap, ◌∙◌, Option, Some, arith, true≢false}
use Rattle.std.proofs.lemmas.Bool.{cond-true, cond-false, eqb-true, lt-ltb, false_from_ne_true}
use Rattle.std.specs.Str.{chars, IsUtf8}
use Rattle.yaml_lines.specs.Line.{Line, line_at}
use Rattle.wv_yaml.specs.declared.tree.Tree.{Tree, Text, List', Map', Row_of-Tree, end_of-Tree, more_of-Tree, Row_of-Pair, end_of-Pair, more_of-Pair, items-the_row-Tree, items-the_row-Pair}
use Rattle.wv_yaml.specs.declared.tree.Tree.TheVariants as tree
use Rattle.yaml_lines.specs.Chunks.{NoneOf, AreChunks, unchunked, collected, ◌>>=◌}
use Rattle.yaml_lines.specs.Marks.{dash, quiet, trimmed, nothing}
use Rattle.yaml_scalars.specs.Tokens.{max_key}
use Rattle.wv_yaml.specs.Flow.{pair_of, as_list, as_map}
use Rattle.wv_yaml.specs.Inline.{key_bytes, inline}
use Rattle.wv_yaml.specs.Block.{Chunk, is_item, is_pair, is_under, opens, all_spaces, below, value_of, entry_of, item, pair, block}
use Rattle.wv_yaml.specs.Canon.{is_place, has_items, has_pairs, is_inline, Fits, ItemsFit, PairsFit, InUtf8, ItemsInUtf8, PairsInUtf8}
use Rattle.wv_yaml.proofs.Heads.{is_item_at, is_pair_at}
use Rattle.wv_yaml.proofs.TreeRows.{relisted_is}
use Rattle.yaml_lines.proofs.ChunkLaws.{chunked_again}
use Rattle.wv_yaml.proofs.CanonLines.{pair_line, pair_body, later_of, first_text, first_item, first_pair, later_lines, item_chunks, pair_chunks}
use Rattle.wv_yaml.proofs.CanonLineFacts.{CanonicalLines, pair_keyed, block_opening, body_lines, later_are_lines}
use Rattle.wv_yaml.proofs.CanonValues.{Leads, leads_trimmed, leads_gap, leads_loud, leads_quiet, opening_leads, keyed_leads, keyed_dash, inline_back, inline_alone, inline_closed, inline_leads, pair_key, block_opens}

-- what is indented more begins no entry and no pair at a column
other_column : (n m : ℕ) → n + 2 ≤ m → (m == n) ≡ false
other_column n m h = false_from_ne_true (m == n) (λ e. let is : m ≡ n = eqb-true m n e in absurd (omega arith))

deeper : (n : ℕ) (starts : Line → Bool) (ls : List Line) → CanonicalLines (n + 2) ls → NoneOf (λ l. (l.indent == n) && starts l) ls
deeper n starts [] h = tt
deeper n starts (l ∷ ls) h = (ap (λ b. b && starts l) (other_column n l.indent h.0.under), deeper n starts ls h.1)

items_heads : {m : _} (n : ℕ) (row : Row_of-Tree m) → ItemsInUtf8 row → AreChunks (is_item n) (item_chunks n row)
items_heads n end_of-Tree u = tt
items_heads n (more_of-Tree t rest) u =
    (is_item_at n (line_at n (45 ∷ 32 ∷ first_text false t) true) refl refl, deeper n (λ l. dash l.text) (later_lines (n + 2) t) (later_are_lines (n + 2) t u.0), items_heads n rest u.1)

pairs_heads : {m : _} (n : ℕ) (row : Row_of-Pair m) → PairsInUtf8 row → AreChunks (is_pair n) (pair_chunks n row)
pairs_heads n end_of-Pair u = tt
pairs_heads n (more_of-Pair k v rest) u =
    let first : List ℕ = first_text (is_place k) v in
    let keyed = pair_keyed k (is_inline v) first in
    let text : List ℕ = pair_line k (is_inline v) first in (
      is_pair_at n (line_at n text true) refl (keyed_dash text keyed) (leads_quiet text (keyed_leads text keyed)),
      deeper n (λ l. not (dash l.text) && not (quiet l.text)) (pair_body (n + 2) (is_inline v) first (later_lines (n + 2) v)) (body_lines (n + 2) (is_place k) v u.1.0 (later_are_lines (n + 2) v u.1.0)),
      pairs_heads n rest u.1.1,
    )

-- one entry and one pair, where `read` reads what is in a collection
module _ (d : ℕ) (read : List Line → Option Tree) where
  item_entry : (n : ℕ) (first : List ℕ) (body : List Line) → Leads first →
      item (inline d) key_bytes read n (line_at n (45 ∷ 32 ∷ first) true, body) ≡ entry_of (inline d) key_bytes read n true (line_at (n + 2) first true) body
  item_entry n first body h =
      let two : n + 1 + 1 ≡ n + 2 = omega arith in
      ap (λ g. entry_of (inline d) key_bytes read n (all_spaces (32 ∷ g)) (line_at (n + 1 + length (32 ∷ g)) (trimmed first) true) body) (leads_gap first h)
      ∙ ap (λ x. entry_of (inline d) key_bytes read n true (line_at (n + 1 + 1) x true) body) (leads_trimmed first h)
      ∙ ap (λ m. entry_of (inline d) key_bytes read n true (line_at m first true) body) two

  item_beside : (n : ℕ) (first : List ℕ) (body : List Line) (t : Tree) → Leads first → opens key_bytes first ≡ false → body ≡ [] → inline d true n first [] ≡ Some t →
      item (inline d) key_bytes read n (line_at n (45 ∷ 32 ∷ first) true, body) ≡ Some t
  item_beside n first body t h o b e =
      item_entry n first body h ∙ cond-false (nothing first) _ _ (leads_loud first h) ∙ cond-false (opens key_bytes first) _ _ o ∙ ap (inline d true n first) b ∙ e

  item_compact : (n : ℕ) (first : List ℕ) (body : List Line) (t : Tree) → Leads first → opens key_bytes first ≡ true → read (line_at (n + 2) first true ∷ body) ≡ Some t →
      item (inline d) key_bytes read n (line_at n (45 ∷ 32 ∷ first) true, body) ≡ Some t
  item_compact n first body t h o e =
      item_entry n first body h ∙ cond-false (nothing first) _ _ (leads_loud first h) ∙ cond-true (opens key_bytes first) _ _ o ∙ e

  pair_value : (n : ℕ) (text k rest : List ℕ) (body : List Line) (v : Tree) → key_bytes text ≡ Some (k, rest) → value_of (inline d) key_bytes read n (trimmed rest) body ≡ Some v →
      pair (inline d) key_bytes read n (line_at n text true, body) ≡ Some (pair_of k v)
  pair_value n text k rest body v e f =
      ap (λ (o : Option (List ℕ × List ℕ)). o >>= λ q. value_of (inline d) key_bytes read n (trimmed q.1) body >>= λ w. Some (pair_of q.0 w)) e ∙ ap (λ (o : Option Tree). o >>= λ w. Some (pair_of k w)) f

  value_beside : (n : ℕ) (first : List ℕ) (body : List Line) (v : Tree) → Leads first → body ≡ [] → inline d true n first [] ≡ Some v → value_of (inline d) key_bytes read n (trimmed (32 ∷ first)) body ≡ Some v
  value_beside n first body v h b e =
      ap (λ xs. value_of (inline d) key_bytes read n xs body) (leads_trimmed first h) ∙ cond-false (nothing first) _ _ (leads_loud first h) ∙ ap (inline d true n first) b ∙ e

  value_under : (n : ℕ) (first : List ℕ) (body : List Line) (v : Tree) → Leads first → opens key_bytes first ≡ true → read (line_at (n + 2) first true ∷ body) ≡ Some v →
      value_of (inline d) key_bytes read n [] (line_at (n + 2) first true ∷ body) ≡ Some v
  value_under n first body v h o e =
      let more : nat_lt n (n + 2) ≡ true = lt-ltb n (n + 2) (omega arith) in
      let under : is_under true n (line_at (n + 2) first true) ≡ true = ap (λ b. b || (true && is_item n (line_at (n + 2) first true))) more in
      ap (below (inline d) key_bytes read true n) (cond-false (quiet first) _ _ (leads_quiet first h)) ∙ cond-true (is_under true n (line_at (n + 2) first true)) _ _ under
      ∙ cond-true (opens key_bytes first) _ _ o ∙ e

-- an entry and a pair of the canonical text, where nested collections are read
abbrev pub ReadsBlock : ℕ → ℕ → Bool → Tree → Type 0
ReadsBlock d n bare t = is_inline t ≡ false → block inline key_bytes d (line_at n (first_text bare t) true ∷ later_lines n t) ≡ Some t

item_back : (d n : ℕ) (t : Tree) → Fits d t → InUtf8 t → ReadsBlock d (n + 2) false t →
    item (inline d) key_bytes (block inline key_bytes d) n (line_at n (45 ∷ 32 ∷ first_text false t) true, later_lines (n + 2) t) ≡ Some t
item_back d n t f u h = at (is_inline t) refl
  where
    at : (b : Bool) → is_inline t ≡ b → item (inline d) key_bytes (block inline key_bytes d) n (line_at n (45 ∷ 32 ∷ first_text false t) true, later_lines (n + 2) t) ≡ Some t
    at true e = item_beside d (block inline key_bytes d) n (first_text false t) (later_lines (n + 2) t) t (inline_leads false t e) (inline_closed t e) (inline_alone (n + 2) t e) (inline_back d n false t f u e)
    at false e =
        item_compact d (block inline key_bytes d) n (first_text false t) (later_lines (n + 2) t) t (opening_leads (first_text false t) (block_opening false t e)) (block_opens d false t f u e) (h e)

pair_back : (d n : ℕ) (k : List ℕ) (v : Tree) → IsUtf8 k → length (chars k) ≤ max_key → Fits d v → InUtf8 v → ReadsBlock d (n + 2) (is_place k) v →
    pair (inline d) key_bytes (block inline key_bytes d) n (line_at n (pair_line k (is_inline v) (first_text (is_place k) v)) true, pair_body (n + 2) (is_inline v) (first_text (is_place k) v) (later_lines (n + 2) v)) ≡ Some (pair_of k v)
pair_back d n k v ku s f u h = at (is_inline v) refl
  where
    at : (b : Bool) → is_inline v ≡ b →
        pair (inline d) key_bytes (block inline key_bytes d) n (line_at n (pair_line k b (first_text (is_place k) v)) true, pair_body (n + 2) b (first_text (is_place k) v) (later_lines (n + 2) v)) ≡ Some (pair_of k v)
    at true e =
        pair_value d (block inline key_bytes d) n (pair_line k true (first_text (is_place k) v)) k (32 ∷ first_text (is_place k) v) (later_lines (n + 2) v) v (pair_key k true (first_text (is_place k) v) ku s)
        (value_beside d (block inline key_bytes d) n (first_text (is_place k) v) (later_lines (n + 2) v) v (inline_leads (is_place k) v e) (inline_alone (n + 2) v e) (inline_back d n (is_place k) v f u e))
    at false e =
        pair_value d (block inline key_bytes d) n (pair_line k false (first_text (is_place k) v)) k [] (line_at (n + 2) (first_text (is_place k) v) true ∷ later_lines (n + 2) v) v (pair_key k false (first_text (is_place k) v) ku s)
        (value_under d (block inline key_bytes d) n (first_text (is_place k) v) (later_lines (n + 2) v) v (opening_leads (first_text (is_place k) v) (block_opening (is_place k) v e)) (block_opens d (is_place k) v f u e) (h e))

collected_more : {A B : Type 0} (f : A → Option B) (x : A) (xs : List A) (y : B) (ys : List B) → f x ≡ Some y → collected f xs ≡ Some ys → collected f (x ∷ xs) ≡ Some (y ∷ ys)
collected_more f x xs y ys e g = rw (e, g) refl

list_block : {m : _} (d n : ℕ) (row : Row_of-Tree m) → not (has_items row) ≡ false → ItemsInUtf8 row →
    collected (item (inline d) key_bytes (block inline key_bytes d) n) (item_chunks n row) ≡ Some (items-the_row-Tree _ row) →
    block inline key_bytes (suc d) (line_at n (first_item row) true ∷ later_of (unchunked (item_chunks n row))) ≡ Some (tree.List (items-the_row-Tree _ row))
unfolding block
list_block d n end_of-Tree e u h = absurd (true≢false e)
list_block d n (more_of-Tree t rest) e u h =
    ap (λ (r : List Line × List Chunk). as_list (collected (item (inline d) key_bytes (block inline key_bytes d) n) r.1)) (chunked_again (is_item n) (item_chunks n (more_of-Tree t rest)) (items_heads n (more_of-Tree t rest) u)) ∙ ap as_list h

map_block : {m : _} (d n : ℕ) (row : Row_of-Pair m) → not (has_pairs row) ≡ false → PairsInUtf8 row →
    collected (pair (inline d) key_bytes (block inline key_bytes d) n) (pair_chunks n row) ≡ Some (items-the_row-Pair _ row) →
    block inline key_bytes (suc d) (line_at n (first_pair row) true ∷ later_of (unchunked (pair_chunks n row))) ≡ Some (tree.Map (items-the_row-Pair _ row))
unfolding block
map_block d n end_of-Pair e u h = absurd (true≢false e)
map_block d n (more_of-Pair k v rest) e u h =
    let text : List ℕ = pair_line k (is_inline v) (first_text (is_place k) v) in
    let keyed = pair_keyed k (is_inline v) (first_text (is_place k) v) in
    cond-false (dash text) _ _ (keyed_dash text keyed) ∙ cond-false (quiet text) _ _ (leads_quiet text (keyed_leads text keyed))
    ∙ ap (λ (r : List Line × List Chunk). as_map (collected (pair (inline d) key_bytes (block inline key_bytes d) n) r.1)) (chunked_again (is_pair n) (pair_chunks n (more_of-Pair k v rest)) (pairs_heads n (more_of-Pair k v rest) u)) ∙ ap as_map h

mutual
  pub block_back : (d n : ℕ) (bare : Bool) (t : Tree) → Fits d t → InUtf8 t → ReadsBlock d n bare t
  block_back d n bare (Text v) f u e = absurd (true≢false e)
  block_back d n bare (List' s row) f u e =
      ap (λ k. block inline key_bytes k (line_at n (first_item row) true ∷ later_of (unchunked (item_chunks n row)))) f.1 ∙ list_block f.0 n row e u (items_back f.0 n row f.2 u) ∙ ap Some (relisted_is (List' s row))
  block_back d n bare (Map' s row) f u e =
      ap (λ k. block inline key_bytes k (line_at n (first_pair row) true ∷ later_of (unchunked (pair_chunks n row)))) f.1 ∙ map_block f.0 n row e u (pairs_back f.0 n row f.2 u) ∙ ap Some (relisted_is (Map' s row))

  items_back : {m : _} (d n : ℕ) (row : Row_of-Tree m) → ItemsFit d row → ItemsInUtf8 row → collected (item (inline d) key_bytes (block inline key_bytes d) n) (item_chunks n row) ≡ Some (items-the_row-Tree _ row)
  items_back d n end_of-Tree f u = refl
  items_back d n (more_of-Tree t rest) f u =
      collected_more (item (inline d) key_bytes (block inline key_bytes d) n) (line_at n (45 ∷ 32 ∷ first_text false t) true, later_lines (n + 2) t) (item_chunks n rest) t (items-the_row-Tree _ rest)
      (item_back d n t f.0 u.0 (block_back d (n + 2) false t f.0 u.0)) (items_back d n rest f.1 u.1)

  pairs_back : {m : _} (d n : ℕ) (row : Row_of-Pair m) → PairsFit d row → PairsInUtf8 row → collected (pair (inline d) key_bytes (block inline key_bytes d) n) (pair_chunks n row) ≡ Some (items-the_row-Pair _ row)
  pairs_back d n end_of-Pair f u = refl
  pairs_back d n (more_of-Pair k v rest) f u =
      collected_more (pair (inline d) key_bytes (block inline key_bytes d) n)
      (line_at n (pair_line k (is_inline v) (first_text (is_place k) v)) true, pair_body (n + 2) (is_inline v) (first_text (is_place k) v) (later_lines (n + 2) v)) (pair_chunks n rest) (pair_of k v) (items-the_row-Pair _ rest)
      (pair_back d n k v u.0 f.0 f.1.0 u.1.0 (block_back d (n + 2) (is_place k) v f.1.0 u.1.0)) (pairs_back d n rest f.1.1 u.1.1)
