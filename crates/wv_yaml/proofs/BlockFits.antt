-- What is read may be written again: it is a collection, has few levels and short keys.
use Rattle.std.proofs.Common.{◌≡◌, ℕ, zero, suc, ◌+◌, List, [], ◌∷◌, ◌++◌, length, drop, Bool, true, false, ◌&&◌, ◌||◌, ◌==◌, refl, sym, ap, ◌∙◌, subst, inl, inr, Option, Some, Result, Ok, Err, IfOk}
use Rattle.std.specs.List.{AllByRecursion}
use Rattle.std.specs.Str.{chars, encode_utf8_all}
use Rattle.std.proofs.lemmas.Bool.{eqb-true}
use Rattle.wv_yaml.specs.declared.tree.Tree.{Tree}
use Rattle.wv_yaml.specs.declared.tree.Tree.TheVariants as tree
use Rattle.wv_yaml.specs.declared.tree.Pair.{Pair}
use Rattle.yaml_scalars.specs.declared.token.Token.TheVariants as token
use Rattle.yaml_scalars.specs.declared.fault.YamlFault.{YamlFault}
use Rattle.yaml_lines.specs.Line.{Line, line_at}
use Rattle.yaml_lines.specs.Chunks.{collected, chunked}
use Rattle.yaml_lines.specs.Marks.{dash, quiet, nothing, trimmed, gap, ahead}
use Rattle.yaml_lines.specs.Lines.{joined, after_breaks, lines_in, unmarked}
use Rattle.yaml_scalars.specs.Tokens.{tokens}
use Rattle.wv_yaml.specs.Flow.{pair_of, flow, before_last, closes_list, closes_map, entries_of, flow_pair}
use Rattle.wv_yaml.specs.Inline.{key_bytes, inline, flow_text, scalar, begins_flow}
use Rattle.wv_yaml.specs.Block.{Chunk, is_item, is_pair, is_under, opens, all_spaces, below, value_of, entry_of, item, pair, collection, block}
use Rattle.yaml_scalars.specs.BlockScalar.{while, past}
use Rattle.wv_yaml.specs.Document.{max_depth, top, document, opened, is_plain_line, is_closing, tree_of}
use Rattle.wv_yaml.specs.Reading.{IsReading}
use Rattle.wv_yaml.specs.Canon.{Fits, PairFits, IsCollection}
use Rattle.yaml_lines.proofs.Parts.{chosen, bind_some, provided_some, collected_all}
use Rattle.std.proofs.lemmas.Option.{same_Some}
use Rattle.wv_yaml.proofs.KeyLaws.{key_short}
use Rattle.wv_yaml.proofs.FlowFits.{flow_fits, tokens_short, list_that_fits, map_that_fits, text_that_fits}

text_fits : (d : ℕ) (text : List ℕ) (t : Tree) → flow_text d text ≡ Some t → Fits d t
text_fits d text t e =
    let ts = bind_some (tokens false 0 text) _ t e in
    flow_fits d ts.0 t (tokens_short false 0 text ts.0 ts.1) ts.2

inline_fits : (d : ℕ) (here : Bool) (n : ℕ) (text : List ℕ) (body : List Line) (t : Tree) → inline d here n text body ≡ Some t → Fits d t
inline_fits d here n text body t e =
    elim (chosen (begins_flow text) _ _ (Some t) e) [
      | inl h ↦ text_fits d (joined (suc n) text body) t h.1
      | inr h ↦ let v = bind_some (scalar here n text body) _ t h.1 in subst (Fits d) (same_Some (tree.Text (encode_utf8_all v.0)) t v.2) (text_that_fits (encode_utf8_all v.0) d)
    ]

module _ (d : ℕ) (read : List Line → Option Tree) (fits : (ls : List Line) (t : Tree) → read ls ≡ Some t → Fits d t) where
  below_fits : (own : Bool) (n : ℕ) (ls : List Line) (t : Tree) → below (inline d) key_bytes read own n ls ≡ Some t → Fits d t
  below_fits own n [] t e = subst (Fits d) (same_Some (tree.Text []) t e) (text_that_fits [] d)
  below_fits own n (l ∷ ls) t e =
      elim (chosen (is_under own n l) _ _ (Some t) e) [
        | inl h ↦ elim (chosen (opens key_bytes l.text) _ _ (Some t) h.1) [ inl g ↦ fits (l ∷ ls) t g.1 | inr g ↦ inline_fits d false n (trimmed l.text) ls t g.1 ]
        | inr h ↦ absurd (cc)
      ]

  value_fits : (n : ℕ) (text : List ℕ) (body : List Line) (t : Tree) → value_of (inline d) key_bytes read n text body ≡ Some t → Fits d t
  value_fits n text body t e =
      elim (chosen (nothing text) _ _ (Some t) e) [ inl h ↦ below_fits true n (ahead body) t h.1 | inr h ↦ inline_fits d true n text body t h.1 ]

  entry_fits : (n : ℕ) (compact : Bool) (l : Line) (body : List Line) (t : Tree) → entry_of (inline d) key_bytes read n compact l body ≡ Some t → Fits d t
  entry_fits n compact l body t e =
      elim (chosen (nothing l.text) _ _ (Some t) e) [
        | inl h ↦ below_fits false n (ahead body) t h.1
        | inr h ↦ elim (chosen (compact && opens key_bytes l.text) _ _ (Some t) h.1) [ inl g ↦ fits (l ∷ body) t g.1 | inr g ↦ inline_fits d true n l.text body t g.1 ]
      ]

  item_fits : (n : ℕ) (c : Chunk) (t : Tree) → Unit {0} → item (inline d) key_bytes read n c ≡ Some t → Fits d t
  item_fits n c t u e =
      entry_fits n (all_spaces (gap (drop 1 c.0.text))) (line_at (n + 1 + length (gap (drop 1 c.0.text))) (trimmed (drop 1 c.0.text)) c.0.ended) c.1 t e

  pair_fits : (n : ℕ) (c : Chunk) (p : Pair) → Unit {0} → pair (inline d) key_bytes read n c ≡ Some p → PairFits d p
  pair_fits n c p u e =
      let k = bind_some (key_bytes c.0.text) _ p e in
      let v = bind_some (value_of (inline d) key_bytes read n (trimmed k.0.1) c.1) _ p k.2 in
      let same : pair_of k.0.0 v.0 ≡ p = same_Some _ _ v.2 in
      subst (PairFits d) same (key_short c.0.text k.0 k.1, value_fits n (trimmed k.0.1) c.1 v.0 v.1)

  any_chunks : (cs : List Chunk) → AllByRecursion (λ _. Unit {0}) cs
  any_chunks [] = tt
  any_chunks (c ∷ cs) = (tt, any_chunks cs)

  pub collection_fits : (l : Line) (ls : List Line) (t : Tree) → collection (inline d) key_bytes read l ls ≡ Some t → IsCollection t × Fits (suc d) t
  collection_fits l ls t e =
      let P : Tree → Type 0 = λ u. IsCollection u × Fits (suc d) u in
      elim (chosen (dash l.text) _ _ (Some t) e) [
        | inl h ↦
            let cs : List Chunk = (chunked (is_item l.indent) (l ∷ ls)).1 in
            let items = bind_some (collected (item (inline d) key_bytes read l.indent) cs) _ t h.1 in
            let all = collected_all (item (inline d) key_bytes read l.indent) (λ _. Unit {0}) (Fits d) (item_fits l.indent) cs items.0 (any_chunks cs) items.1 in
            subst P (same_Some (tree.List items.0) t items.2) (tt, list_that_fits items.0 d all)
        | inr h ↦ elim (chosen (quiet l.text) _ _ (Some t) h.1) [
          | inl g ↦ absurd (cc)
          | inr g ↦
              let cs : List Chunk = (chunked (is_pair l.indent) (l ∷ ls)).1 in
              let pairs = bind_some (collected (pair (inline d) key_bytes read l.indent) cs) _ t g.1 in
              let all = collected_all (pair (inline d) key_bytes read l.indent) (λ _. Unit {0}) (PairFits d) (pair_fits l.indent) cs pairs.0 (any_chunks cs) pairs.1 in
              subst P (same_Some (tree.Map pairs.0) t pairs.2) (tt, map_that_fits pairs.0 d all)
        ]
      ]

block_fits : (d : ℕ) (ls : List Line) (t : Tree) → block inline key_bytes d ls ≡ Some t → IsCollection t × Fits d t
unfolding block
block_fits zero ls t e = absurd (cc)
block_fits (suc d) [] t e = absurd (cc)
block_fits (suc d) (l ∷ ls) t e = collection_fits d (block inline key_bytes d) (λ xs u g. (block_fits d xs u g).1) l ls t e

-- a text that begins with a bracket or a brace is a collection
list_text : (d : ℕ) (cs : List ℕ) (t : Tree) → flow_text (suc d) (91 ∷ cs) ≡ Some t → IsCollection t
unfolding flow
list_text d cs t e =
    let ts = bind_some (tokens false 0 (91 ∷ cs)) _ t e in
    let us = bind_some (tokens false 0 cs) _ ts.0 ts.1 in
    let same : token.OpenList ∷ us.0 ≡ ts.0 = same_Some _ _ us.2 in
    let whole : flow (suc d) (token.OpenList ∷ us.0) ≡ Some t = ap (flow (suc d)) same ∙ ts.2 in
    let inner = bind_some (before_last closes_list us.0) _ t whole in
    let items = bind_some (collected (flow d) (entries_of inner.0)) _ t inner.2 in
    subst IsCollection (same_Some (tree.List items.0) t items.2) tt

map_text : (d : ℕ) (cs : List ℕ) (t : Tree) → flow_text (suc d) (123 ∷ cs) ≡ Some t → IsCollection t
unfolding flow
map_text d cs t e =
    let ts = bind_some (tokens false 0 (123 ∷ cs)) _ t e in
    let us = bind_some (tokens false 0 cs) _ ts.0 ts.1 in
    let same : token.OpenMap ∷ us.0 ≡ ts.0 = same_Some _ _ us.2 in
    let whole : flow (suc d) (token.OpenMap ∷ us.0) ≡ Some t = ap (flow (suc d)) same ∙ ts.2 in
    let inner = bind_some (before_last closes_map us.0) _ t whole in
    let pairs = bind_some (collected (flow_pair (flow d)) (entries_of inner.0)) _ t inner.2 in
    subst IsCollection (same_Some (tree.Map pairs.0) t pairs.2) tt

flow_collection : (d : ℕ) (text : List ℕ) (body : List Line) (t : Tree) → begins_flow text ≡ true → flow_text (suc d) (joined 0 text body) ≡ Some t → IsCollection t
flow_collection d [] body t h e = absurd (cc)
flow_collection d (c ∷ cs) body t h e = by (c == 91) refl
  where
    at : (b : ℕ) → c ≡ b → flow_text (suc d) (b ∷ (cs ++ after_breaks 0 body)) ≡ Some t
    at b is = subst (λ x. flow_text (suc d) (x ∷ (cs ++ after_breaks 0 body)) ≡ Some t) is e

    by : (v : Bool) → (c == 91) ≡ v → IsCollection t
    by true v = list_text d (cs ++ after_breaks 0 body) t (at 91 (eqb-true c 91 v))
    by false v =
        let other : (c == 123) ≡ true = sym (ap (λ b. b || (c == 123)) v) ∙ h in
        map_text d (cs ++ after_breaks 0 body) t (at 123 (eqb-true c 123 other))

top_fits : (ls : List Line) (t : Tree) → top ls ≡ Some t → IsCollection t × Fits max_depth t
top_fits [] t e = absurd (cc)
top_fits (l ∷ ls) t e =
    elim (chosen (begins_flow (trimmed l.text)) _ _ (Some t) e) [
      | inl h ↦ (flow_collection 63 (trimmed l.text) ls t h.0 h.1, text_fits max_depth (joined 0 (trimmed l.text) ls) t h.1)
      | inr h ↦ block_fits max_depth (l ∷ ls) t h.1
    ]

tree_fits : (bytes : List ℕ) (t : Tree) → tree_of bytes ≡ Some t → IsCollection t × Fits max_depth t
unfolding tree_of document
tree_fits bytes t e =
    let ls = opened (ahead (lines_in (unmarked (chars bytes)))) in
    top_fits (ahead (while is_plain_line ls)) t (provided_some (is_closing (past is_plain_line ls)) (top (ahead (while is_plain_line ls))) t e).1

pub read_collection : (fit : Bool) (bytes : List ℕ) (r : Result Tree YamlFault) → IsReading fit (tree_of bytes) r → IfOk r IsCollection
read_collection fit bytes (Ok t) h = (tree_fits bytes t h.1).0
read_collection fit bytes (Err e) h = tt

pub read_fits : (fit : Bool) (bytes : List ℕ) (r : Result Tree YamlFault) → IsReading fit (tree_of bytes) r → IfOk r (λ t. Fits max_depth t)
read_fits fit bytes (Ok t) h = (tree_fits bytes t h.1).1
read_fits fit bytes (Err e) h = tt
