-- A flow collection that is read has few levels and short keys.
use Rattle.std.proofs.Common.{◌≡◌, ℕ, zero, suc, ◌+◌, ◌-◌, ◌≤◌, List, [], ◌∷◌, length, drop, take, Bool, true, false, ◌&&◌, ◌==◌, refl, sym, subst, cond, inl, inr, Option, Some}
use Rattle.std.specs.List.{AllByRecursion}
use Rattle.std.specs.Str.{chars, encode_utf8_all}
use Rattle.wv_yaml.specs.declared.tree.Tree.{Tree, Text, Row_of-Tree, end_of-Tree, more_of-Tree, Row_of-Pair, end_of-Pair, more_of-Pair, items-the_row-Tree, items-the_row-Pair}
use Rattle.wv_yaml.specs.declared.tree.Tree.TheVariants as tree
use Rattle.wv_yaml.specs.declared.tree.Pair.{Pair}
use Rattle.yaml_scalars.specs.declared.token.Token.{Token}
use Rattle.yaml_scalars.specs.declared.token.Token.TheVariants.{OpenList, CloseList, OpenMap, CloseMap, Comma, Key, Word}
use Rattle.yaml_lines.specs.Chunks.{collected}
use Rattle.yaml_lines.specs.Marks.{is_end, begins_with, trimmed, gap}
use Rattle.yaml_scalars.specs.Plain.{flow_sign}
use Rattle.yaml_scalars.specs.Quoted.{white}
use Rattle.yaml_scalars.specs.Tokens.{max_key, sign_of, is_quote, word, is_key, token_of, comment_front, one_more, tokens}
use Rattle.wv_yaml.specs.Flow.{pair_of, is_comma, open_after, to_part, new_part, parts, without_empty_last, entries_of, before_last, closes_list, closes_map, flow_word, flow_pair, flow_value, flow}
use Rattle.wv_yaml.specs.Canon.{Fits, ItemsFit, PairsFit, PairFits}
use Rattle.std.proofs.lemmas.Bool.{and_parts}
use Rattle.yaml_lines.proofs.Parts.{chosen, bind_some, provided_some, collected_all}
use Rattle.std.proofs.lemmas.Option.{same_Some}
use Rattle.wv_yaml.proofs.KeyLaws.{short_text}
use Rattle.wv_yaml.proofs.TreeRows.{items_of_list, pairs_of_map}
use Rattle.wv_yaml.proofs.WriteSteps.{row_of_items, row_of_pairs}

items_fit_row : {m : _} (row : Row_of-Tree m) (e : ℕ) → AllByRecursion (λ t. Fits e t) (items-the_row-Tree _ row) → ItemsFit e row
items_fit_row end_of-Tree e h = tt
items_fit_row (more_of-Tree t rest) e h = (h.0, items_fit_row rest e h.1)

pairs_fit_row : {m : _} (row : Row_of-Pair m) (e : ℕ) → AllByRecursion (λ p. PairFits e p) (items-the_row-Pair _ row) → PairsFit e row
pairs_fit_row end_of-Pair e h = tt
pairs_fit_row (more_of-Pair k v rest) e h = (h.0.0, (h.0.1, pairs_fit_row rest e h.1))

-- a list of trees that fit, and a map
pub list_that_fits : (xs : List Tree) (e : ℕ) → AllByRecursion (λ t. Fits e t) xs → Fits (suc e) (tree.List xs)
list_that_fits xs e h =
    (e, refl, items_fit_row {m = (row_of_items (tree.List xs)).0} (row_of_items (tree.List xs)).1 e (subst (λ ys. AllByRecursion (λ t. Fits e t) ys) (sym (items_of_list xs)) h))

pub map_that_fits : (ps : List Pair) (e : ℕ) → AllByRecursion (λ p. PairFits e p) ps → Fits (suc e) (tree.Map ps)
map_that_fits ps e h =
    (e, refl, pairs_fit_row {m = (row_of_pairs (tree.Map ps)).0} (row_of_pairs (tree.Map ps)).1 e (subst (λ ys. AllByRecursion (λ p. PairFits e p) ys) (sym (pairs_of_map ps)) h))

pub text_that_fits : (v : List ℕ) (e : ℕ) → Fits e (tree.Text v)
text_that_fits v e = tt

-- keys are short
abbrev pub ShortToken : Token → Type 0
ShortToken (Key k) = length (chars k) ≤ max_key
ShortToken OpenList = Unit {0}
ShortToken CloseList = Unit {0}
ShortToken OpenMap = Unit {0}
ShortToken CloseMap = Unit {0}
ShortToken Comma = Unit {0}
ShortToken (Word v) = Unit {0}

abbrev pub Short : List Token → Type 0
Short ts = AllByRecursion ShortToken ts

-- the parts of a collection
parts_short : (k : ℕ) (ts : List Token) → Short ts → Short (parts k ts).0 × AllByRecursion Short (parts k ts).1
parts_short k [] h = (tt, tt)
parts_short k (t ∷ ts) h = by (is_comma t && (k == 0)) (parts_short 0 ts h.1) (parts_short (open_after k t) ts h.1)
  where
    by : (b : Bool) → Short (parts 0 ts).0 × AllByRecursion Short (parts 0 ts).1 → Short (parts (open_after k t) ts).0 × AllByRecursion Short (parts (open_after k t) ts).1 →
        Short (cond b (new_part (parts 0 ts)) (to_part t (parts (open_after k t) ts))).0 × AllByRecursion Short (cond b (new_part (parts 0 ts)) (to_part t (parts (open_after k t) ts))).1
    by true x y = (tt, (x.0, x.1))
    by false x y = ((h.0, y.0), y.1)

last_short : (p : List Token) (qs : List (List Token)) → Short p → AllByRecursion Short qs → AllByRecursion Short (without_empty_last p qs)
last_short p [] a b = (a, tt)
last_short p (q ∷ []) a b = by (is_end q)
  where
    by : (v : Bool) → AllByRecursion Short (cond v (p ∷ []) (p ∷ q ∷ []))
    by true = (a, tt)
    by false = (a, (b.0, tt))
last_short p (q ∷ r ∷ rs) a b = (a, last_short q (r ∷ rs) b.0 b.1)

entries_short : (ts : List Token) → Short ts → AllByRecursion Short (entries_of ts)
entries_short [] h = tt
entries_short (t ∷ ts) h = let r = parts_short 0 (t ∷ ts) h in last_short (parts 0 (t ∷ ts)).0 (parts 0 (t ∷ ts)).1 r.0 r.1

before_short : (closes : Token → Bool) (ts inner : List Token) → Short ts → before_last closes ts ≡ Some inner → Short inner
before_short closes [] inner h e = absurd (cc)
before_short closes (t ∷ []) inner h e =
    let same : [] ≡ inner = same_Some _ _ (provided_some (closes t) (Some []) inner e).1 in
    subst Short same tt
before_short closes (t ∷ u ∷ ts) inner h e =
    let r = bind_some (before_last closes (u ∷ ts)) _ inner e in
    let same : t ∷ r.0 ≡ inner = same_Some _ _ r.2 in
    subst Short same (h.0, before_short closes (u ∷ ts) r.0 h.1 r.1)

word_fits : (d : ℕ) (ts : List Token) (t : Tree) → flow_word ts ≡ Some t → Fits d t
word_fits d [] t e = absurd (cc)
word_fits d (Word v ∷ []) t e = subst (Fits d) (same_Some (tree.Text v) t e) (text_that_fits v d)
word_fits d (Word v ∷ u ∷ us) t e = absurd (cc)
word_fits d (OpenList ∷ us) t e = absurd (cc)
word_fits d (CloseList ∷ us) t e = absurd (cc)
word_fits d (OpenMap ∷ us) t e = absurd (cc)
word_fits d (CloseMap ∷ us) t e = absurd (cc)
word_fits d (Comma ∷ us) t e = absurd (cc)
word_fits d (Key k ∷ us) t e = absurd (cc)

module _ (d : ℕ) (read : List Token → Option Tree) (fits : (ts : List Token) (t : Tree) → Short ts → read ts ≡ Some t → Fits d t) where
  pair_fits : (ts : List Token) (p : Pair) → Short ts → flow_pair read ts ≡ Some p → PairFits d p
  pair_fits [] p h e = absurd (cc)
  pair_fits (Key k ∷ ts) p h e =
      let r = bind_some (read ts) _ p e in
      let same : pair_of k r.0 ≡ p = same_Some _ _ r.2 in
      subst (PairFits d) same (h.0, fits ts r.0 h.1 r.1)
  pair_fits (Word v ∷ us) p h e = absurd (cc)
  pair_fits (OpenList ∷ us) p h e = absurd (cc)
  pair_fits (CloseList ∷ us) p h e = absurd (cc)
  pair_fits (OpenMap ∷ us) p h e = absurd (cc)
  pair_fits (CloseMap ∷ us) p h e = absurd (cc)
  pair_fits (Comma ∷ us) p h e = absurd (cc)

  value_fits : (ts : List Token) (t : Tree) → Short ts → flow_value read ts ≡ Some t → Fits (suc d) t
  value_fits [] t h e = absurd (cc)
  value_fits (OpenList ∷ ts) t h e =
      let inner = bind_some (before_last closes_list ts) _ t e in
      let items = bind_some (collected read (entries_of inner.0)) _ t inner.2 in
      let all = collected_all read Short (Fits d) fits (entries_of inner.0) items.0 (entries_short inner.0 (before_short closes_list ts inner.0 h.1 inner.1)) items.1 in
      subst (Fits (suc d)) (same_Some (tree.List items.0) t items.2) (list_that_fits items.0 d all)
  value_fits (OpenMap ∷ ts) t h e =
      let inner = bind_some (before_last closes_map ts) _ t e in
      let items = bind_some (collected (flow_pair read) (entries_of inner.0)) _ t inner.2 in
      let all = collected_all (flow_pair read) Short (PairFits d) pair_fits (entries_of inner.0) items.0 (entries_short inner.0 (before_short closes_map ts inner.0 h.1 inner.1)) items.1 in
      subst (Fits (suc d)) (same_Some (tree.Map items.0) t items.2) (map_that_fits items.0 d all)
  value_fits (Word v ∷ us) t h e = word_fits (suc d) (Word v ∷ us) t e
  value_fits (Key k ∷ us) t h e = absurd (cc)
  value_fits (CloseList ∷ us) t h e = absurd (cc)
  value_fits (CloseMap ∷ us) t h e = absurd (cc)
  value_fits (Comma ∷ us) t h e = absurd (cc)

pub flow_fits : (d : ℕ) (ts : List Token) (t : Tree) → Short ts → flow d ts ≡ Some t → Fits d t
unfolding flow
flow_fits zero ts t h e = word_fits zero ts t e
flow_fits (suc d) ts t h e = value_fits d (flow d) (flow_fits d) ts t h e

-- the tokens of a text
sign_short : (c : ℕ) → ShortToken (sign_of c)
sign_short c = by (c == 91) OpenList _ tt (by (c == 93) CloseList _ tt (by (c == 123) OpenMap _ tt (by (c == 125) CloseMap Comma tt tt)))
  where
    by : (b : Bool) (x y : Token) → ShortToken x → ShortToken y → ShortToken (cond b x y)
    by true x y h g = h
    by false x y h g = g

word_short : (quote : Bool) (text value : List ℕ) (n : ℕ) → ShortToken (token_of quote text value n).0
word_short quote text value n = by (is_key quote (take n text) value (drop n text)) refl
  where
    by : (b : Bool) → is_key quote (take n text) value (drop n text) ≡ b →
        ShortToken (cond {A = Token × ℕ} b (Key (encode_utf8_all value), n + length (gap (drop n text))) (Word (encode_utf8_all value), n - 1)).0
    by true e = short_text value (and_parts _ _ (and_parts _ _ e).1).0
    by false e = tt

more_short : (t : Token) (o : Option (List Token)) (ts : List Token) → ShortToken t → ((us : List Token) → o ≡ Some us → Short us) → one_more t o ≡ Some ts → Short ts
more_short t o ts a b e =
    let r = bind_some o _ ts e in
    let same : t ∷ r.0 ≡ ts = same_Some _ _ r.2 in
    subst Short same (a, b r.0 r.1)

pub tokens_short : (behind : Bool) (k : ℕ) (text : List ℕ) (ts : List Token) → tokens behind k text ≡ Some ts → Short ts
tokens_short behind k [] ts e = subst Short (same_Some [] ts e) tt
tokens_short behind (suc k) (c ∷ cs) ts e = tokens_short behind k cs ts e
tokens_short behind zero (c ∷ cs) ts e =
    let rec : (b : Bool) (n : ℕ) (us : List Token) → tokens b n cs ≡ Some us → Short us = λ b n us g. tokens_short b n cs us g in
    elim (chosen (white c) _ _ (Some ts) e) [
      | inl h ↦ rec true 0 ts h.1
      | inr h ↦ elim (chosen (c == 13) _ _ (Some ts) h.1) [
        | inl g ↦ elim (chosen (begins_with 35 (trimmed cs)) _ _ (Some ts) g.1) [ inl w ↦ rec true 0 ts w.1 | inr w ↦ absurd (cc) ]
        | inr g ↦ elim (chosen (c == 35) _ _ (Some ts) g.1) [
          | inl w ↦ elim (chosen behind _ _ (Some ts) w.1) [ inl v ↦ rec true (length (comment_front cs)) ts v.1 | inr v ↦ absurd (cc) ]
          | inr w ↦ elim (chosen (flow_sign c) _ _ (Some ts) w.1) [
            | inl v ↦ more_short (sign_of c) (tokens false 0 cs) ts (sign_short c) (rec false 0) v.1
            | inr v ↦ let r = bind_some (word c cs) _ ts v.1 in
                more_short _ _ ts (word_short (is_quote c) (c ∷ cs) r.0.0 r.0.1) (rec false (token_of (is_quote c) (c ∷ cs) r.0.0 r.0.1).1) r.2
          ]
        ]
      ]
    ]
