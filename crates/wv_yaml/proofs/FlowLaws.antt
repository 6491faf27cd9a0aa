-- Flow collections: the function gives what the relation says, and nothing else.
use Rattle.std.proofs.Common.{◌≡◌, ℕ, zero, suc, List, [], ◌∷◌, ◌++◌, Bool, true, false, refl, sym, ap, ◌∙◌, subst, cond, append_assoc, append-nil, Option, Some, ◌==◌, ◌&&◌, arith}
use Rattle.std.proofs.lemmas.Bool.{cond-false, eqb-true, and_parts}
use Rattle.wv_yaml.specs.declared.tree.Tree.{Tree}
use Rattle.wv_yaml.specs.declared.tree.Tree.TheVariants as tree
use Rattle.wv_yaml.specs.declared.tree.Pair.{Pair}
use Rattle.yaml_scalars.specs.declared.token.Token.{Token}
use Rattle.yaml_scalars.specs.declared.token.Token.TheVariants.{OpenList, CloseList, OpenMap, CloseMap, Comma, Key, Word}
use Rattle.yaml_lines.specs.Chunks.{Pairwise, ◌>>=◌, collected}
use Rattle.yaml_lines.specs.Marks.{is_end}
use Rattle.wv_yaml.specs.Flow.{pair_of, is_comma, open_after, to_part, new_part, parts, without_empty_last, entries_of, before_last, closes_list, closes_map, flow_word, flow_pair, flow_value, flow, as_list, as_map, Separated, NoPart, LastPart, LastComma, NextPart, PairOf, FlowValue, FlowWord, FlowList, FlowMap, IsFlowWord, Flow}
use Rattle.yaml_lines.proofs.Parts.{bind_some, provided_some}
use Rattle.std.proofs.lemmas.Option.{same_Some}
use Rattle.yaml_lines.proofs.ChunkLaws.{collected_sound, collected_complete}
use Rattle.wv_yaml.proofs.FlowSteps.{after_comma}
use Rattle.yaml_scalars.proofs.PlainLaws.{passed, end_is}

comma_is : (t : Token) → is_comma t ≡ true → t ≡ Comma
comma_is Comma e = refl
comma_is OpenList e = absurd (cc)
comma_is CloseList e = absurd (cc)
comma_is OpenMap e = absurd (cc)
comma_is CloseMap e = absurd (cc)
comma_is (Key v) e = absurd (cc)
comma_is (Word v) e = absurd (cc)

list_end : (t : Token) → closes_list t ≡ true → t ≡ CloseList
list_end CloseList e = refl
list_end Comma e = absurd (cc)
list_end OpenList e = absurd (cc)
list_end OpenMap e = absurd (cc)
list_end CloseMap e = absurd (cc)
list_end (Key v) e = absurd (cc)
list_end (Word v) e = absurd (cc)

map_end : (t : Token) → closes_map t ≡ true → t ≡ CloseMap
map_end CloseMap e = refl
map_end Comma e = absurd (cc)
map_end OpenList e = absurd (cc)
map_end CloseList e = absurd (cc)
map_end OpenMap e = absurd (cc)
map_end (Key v) e = absurd (cc)
map_end (Word v) e = absurd (cc)

-- the last token
last_sound : (closes : Token → Bool) (ts inner : List Token) → before_last closes ts ≡ Some inner → (t : Token) × (closes t ≡ true) × (ts ≡ inner ++ t ∷ [])
last_sound closes [] inner e = absurd (cc)
last_sound closes (t ∷ []) inner e =
    let p = provided_some (closes t) (Some []) inner e in
    (t, p.0, ap (λ xs. xs ++ t ∷ []) (same_Some [] inner p.1))
last_sound closes (t ∷ u ∷ ts) inner e =
    let r = bind_some (before_last closes (u ∷ ts)) _ inner e in
    let h = last_sound closes (u ∷ ts) r.0 r.1 in
    (h.0, h.1, ap (λ xs. t ∷ xs) h.2 ∙ ap (λ xs. xs ++ h.0 ∷ []) (same_Some (t ∷ r.0) inner r.2))

last_complete : (closes : Token → Bool) (inner : List Token) (t : Token) → closes t ≡ true → before_last closes (inner ++ t ∷ []) ≡ Some inner
last_complete closes [] t e = passed (closes t) [] e
last_complete closes (u ∷ []) t e = ap (λ (o : Option (List Token)). o >>= λ front. Some (u ∷ front)) (last_complete closes [] t e)
last_complete closes (u ∷ v ∷ inner) t e = ap (λ (o : Option (List Token)). o >>= λ front. Some (u ∷ front)) (last_complete closes (v ∷ inner) t e)

-- parts with their commas
abbrev with_commas : List (List Token) → List Token
with_commas [] = []
with_commas (q ∷ qs) = Comma ∷ (q ++ with_commas qs)

parts_whole : (k : ℕ) (ts : List Token) → ts ≡ (parts k ts).0 ++ with_commas (parts k ts).1
parts_whole k [] = refl
parts_whole k (t ∷ ts) = at (is_comma t && (k == 0)) refl (parts_whole 0 ts) (parts_whole (open_after k t) ts)
  where
    at : (b : Bool) → (is_comma t && (k == 0)) ≡ b → ts ≡ (parts 0 ts).0 ++ with_commas (parts 0 ts).1 → ts ≡ (parts (open_after k t) ts).0 ++ with_commas (parts (open_after k t) ts).1 →
        t ∷ ts ≡ (cond b (new_part (parts 0 ts)) (to_part t (parts (open_after k t) ts))).0 ++ with_commas (cond b (new_part (parts 0 ts)) (to_part t (parts (open_after k t) ts))).1
    at true e h g = ap (λ x. x ∷ ts) (comma_is t (and_parts _ _ e).0) ∙ ap (λ xs. Comma ∷ xs) h
    at false e h g = ap (λ xs. t ∷ xs) g

first_stays : (q : List Token) (qs : List (List Token)) → (rest : List (List Token)) × (without_empty_last q qs ≡ q ∷ rest)
first_stays q [] = ([], refl)
first_stays q (r ∷ []) = at (is_end r)
  where
    at : (b : Bool) → (rest : List (List Token)) × (cond b (q ∷ []) (q ∷ r ∷ []) ≡ q ∷ rest)
    at true = ([], refl)
    at false = (r ∷ [], refl)
first_stays q (r ∷ s ∷ rs) = (without_empty_last r (s ∷ rs), refl)

separated : (p : List Token) (qs : List (List Token)) → Separated (without_empty_last p qs) (p ++ with_commas qs)
separated p [] = subst (Separated (p ∷ [])) (sym (append-nil p)) (LastPart p)
separated p (q ∷ []) = at (is_end q) refl
  where
    at : (b : Bool) → is_end q ≡ b → Separated (cond b (p ∷ []) (p ∷ q ∷ [])) (p ++ (Comma ∷ (q ++ [])))
    at true e = subst (λ xs. Separated (p ∷ []) (p ++ (Comma ∷ (xs ++ [])))) (sym (end_is q e)) (LastComma p)
    at false e = NextPart p q [] (q ++ []) (subst (Separated (q ∷ [])) (sym (append-nil q)) (LastPart q))
separated p (q ∷ r ∷ rs) =
    let f = first_stays q (r ∷ rs) in
    subst (λ (xs : List (List Token)). Separated (p ∷ xs) (p ++ with_commas (q ∷ r ∷ rs))) (sym f.1)
    (NextPart p q f.0 (q ++ with_commas (r ∷ rs)) (subst (λ (xs : List (List Token)). Separated xs (q ++ with_commas (r ∷ rs))) f.1 (separated q (r ∷ rs))))

entries_sound : (ts : List Token) → Separated (entries_of ts) ts
entries_sound [] = NoPart
entries_sound (t ∷ ts) = subst (Separated (entries_of (t ∷ ts))) (sym (parts_whole 0 (t ∷ ts))) (separated (parts 0 (t ∷ ts)).0 (parts 0 (t ∷ ts)).1)

-- tokens that no comma outside their own brackets parts
abbrev Solid : List Token → Type 0
Solid p = (k : ℕ) (rest : List Token) → parts k (p ++ rest) ≡ (p ++ (parts k rest).0, (parts k rest).1)

-- the same below a bracket
abbrev Inner : List Token → Type 0
Inner p = (k : ℕ) (rest : List Token) → parts (suc k) (p ++ rest) ≡ (p ++ (parts (suc k) rest).0, (parts (suc k) rest).1)

solid_first : (p : List Token) → Solid p → parts 0 p ≡ (p, [])
solid_first p h = ap (parts 0) (sym (append-nil p)) ∙ h 0 [] ∙ ap (λ xs. (xs, [])) (append-nil p)

comma_inside : (k : ℕ) (p ts rest : List Token) → Inner p → Inner ts → parts (suc k) ((p ++ (Comma ∷ ts)) ++ rest) ≡ ((p ++ (Comma ∷ ts)) ++ (parts (suc k) rest).0, (parts (suc k) rest).1)
comma_inside k p ts rest h g =
    ap (parts (suc k)) (append_assoc p (Comma ∷ ts) rest) ∙ h k (Comma ∷ (ts ++ rest)) ∙ ap (λ (r : List Token × List (List Token)). (p ++ r.0, r.1)) (pass (suc k == 0) refl)
    ∙ ap (λ xs. (xs, (parts (suc k) rest).1)) (sym (append_assoc p (Comma ∷ ts) (parts (suc k) rest).0))
  where
    pass : (b : Bool) → (suc k == 0) ≡ b → parts (suc k) (Comma ∷ (ts ++ rest)) ≡ (Comma ∷ (ts ++ (parts (suc k) rest).0), (parts (suc k) rest).1)
    pass true e = absurd (let z : suc k ≡ 0 = eqb-true (suc k) 0 e in omega arith)
    pass false e = cond-false (suc k == 0) _ _ e ∙ ap (to_part Comma) (g k rest)

module _ {Y : Type 0} (R : List Token → Y → Type 0) (solid : (ts : List Token) (y : Y) → R ts y → Solid ts) where
  inner_separated : (ps : List (List Token)) (ts : List Token) (ys : List Y) → Separated ps ts → Pairwise R ps ys → Inner ts
  inner_separated _ _ ys NoPart w k rest = refl
  inner_separated _ _ [] (LastPart p) w k rest = absurd w
  inner_separated _ _ (y ∷ ys) (LastPart p) w k rest = solid p y w.0 (suc k) rest
  inner_separated _ _ [] (LastComma p) w k rest = absurd w
  inner_separated _ _ (y ∷ ys) (LastComma p) w k rest = comma_inside k p [] rest (λ j xs. solid p y w.0 (suc j) xs) (λ j xs. refl)
  inner_separated _ _ [] (NextPart p q ps ts s) w k rest = absurd w
  inner_separated _ _ (y ∷ ys) (NextPart p q ps ts s) w k rest = comma_inside k p ts rest (λ j xs. solid p y w.0 (suc j) xs) (inner_separated (q ∷ ps) ts ys s w.1)

  module _ (some : (ts : List Token) (y : Y) → R ts y → is_end ts ≡ false) where
    entries_complete : (ps : List (List Token)) (ts : List Token) (ys : List Y) → Separated ps ts → Pairwise R ps ys → entries_of ts ≡ ps
    entries_complete _ _ ys NoPart w = refl
    entries_complete _ _ [] (LastPart p) w = absurd w
    entries_complete _ _ (y ∷ ys) (LastPart p) w = whole p (some p y w.0) ∙ ap (λ (r : List Token × List (List Token)). without_empty_last r.0 r.1) (solid_first p (solid p y w.0))
      where
        whole : (p : List Token) → is_end p ≡ false → entries_of p ≡ without_empty_last (parts 0 p).0 (parts 0 p).1
        whole [] e = absurd (cc)
        whole (t ∷ ts) e = refl
    entries_complete _ _ [] (LastComma p) w = absurd w
    entries_complete _ _ (y ∷ ys) (LastComma p) w = whole p (some p y w.0) ∙ ap (λ (r : List Token × List (List Token)). without_empty_last r.0 r.1) (solid p y w.0 0 (Comma ∷ []) ∙ ap (λ xs. (xs, [] ∷ [])) (append-nil p))
      where
        whole : (p : List Token) → is_end p ≡ false → entries_of (p ++ (Comma ∷ [])) ≡ without_empty_last (parts 0 (p ++ (Comma ∷ []))).0 (parts 0 (p ++ (Comma ∷ []))).1
        whole [] e = absurd (cc)
        whole (t ∷ ts) e = refl
    entries_complete _ _ [] (NextPart p q ps ts s) w = absurd w
    entries_complete _ _ (y ∷ ys) (NextPart p q ps ts s) w =
        whole p (some p y w.0) ∙ ap (λ (r : List Token × List (List Token)). without_empty_last r.0 r.1) (solid p y w.0 0 (Comma ∷ ts) ∙ ap (λ xs. (xs, (parts 0 ts).0 ∷ (parts 0 ts).1)) (append-nil p))
        ∙ after_comma p ts ∙ ap (λ (xs : List (List Token)). p ∷ xs) (entries_complete (q ∷ ps) ts ys s w.1)
      where
        whole : (p : List Token) → is_end p ≡ false → entries_of (p ++ (Comma ∷ ts)) ≡ without_empty_last (parts 0 (p ++ (Comma ∷ ts))).0 (parts 0 (p ++ (Comma ∷ ts))).1
        whole [] e = absurd (cc)
        whole (t ∷ us) e = refl

bracketed : (o c : Token) (inner : List Token) → is_comma o ≡ false → is_comma c ≡ false → ((k : ℕ) → open_after k o ≡ suc k) → ((k : ℕ) → open_after (suc k) c ≡ k) → Inner inner → Solid (o ∷ (inner ++ (c ∷ [])))
bracketed o c inner eo ec ho hc h k rest =
    cond-false (is_comma o && (k == 0)) _ _ (ap (λ b. b && (k == 0)) eo)
    ∙ ap (to_part o) (ap (λ n. parts n ((inner ++ (c ∷ [])) ++ rest)) (ho k) ∙ ap (parts (suc k)) (append_assoc inner (c ∷ []) rest) ∙ h k (c ∷ rest)
    ∙ ap (λ (r : List Token × List (List Token)). (inner ++ r.0, r.1)) (cond-false (is_comma c && (suc k == 0)) _ _ (ap (λ b. b && (suc k == 0)) ec) ∙ ap (λ n. to_part c (parts n rest)) (hc k)))
    ∙ ap (λ xs. (o ∷ xs, (parts k rest).1)) (sym (append_assoc inner (c ∷ []) (parts k rest).0))

one_solid : (t : Token) → is_comma t ≡ false → ((k : ℕ) → open_after k t ≡ k) → Solid (t ∷ [])
one_solid t e h k rest = cond-false (is_comma t && (k == 0)) _ _ (ap (λ b. b && (k == 0)) e) ∙ ap (λ n. to_part t (parts n rest)) (h k)

pair_solid : (R : List Token → Tree → Type 0) → ((ts : List Token) (t : Tree) → R ts t → Solid ts) → (ts : List Token) (p : Pair) → PairOf R ts p → Solid ts
pair_solid R h ts p w =
    subst Solid (sym w.key) (λ k rest. ap (to_part (Key p.key)) (h w.rest p.value w.value k rest))

pair_some : (R : List Token → Tree → Type 0) (ts : List Token) (p : Pair) → PairOf R ts p → is_end ts ≡ false
pair_some R ts p w = ap is_end w.key

value_solid : (R : List Token → Tree → Type 0) → ((ts : List Token) (t : Tree) → R ts t → Solid ts) → (ts : List Token) (t : Tree) → FlowValue R ts t → Solid ts
value_solid R h _ _ (FlowWord v) = one_solid (Word v) refl (λ k. refl)
value_solid R h _ _ (FlowList entries inner items s w) = bracketed OpenList CloseList inner refl refl (λ k. refl) (λ k. omega arith) (inner_separated R h entries inner items s w)
value_solid R h _ _ (FlowMap entries inner pairs s w) = bracketed OpenMap CloseMap inner refl refl (λ k. refl) (λ k. omega arith) (inner_separated (PairOf R) (pair_solid R h) entries inner pairs s w)

flow_solid : (d : ℕ) (ts : List Token) (t : Tree) → Flow d ts t → Solid ts
unfolding Flow
flow_solid zero ts t h = subst Solid (sym h.1) (one_solid (Word h.0) refl (λ k. refl))
flow_solid (suc d) ts t h = value_solid (Flow d) (flow_solid d) ts t h

flow_some : (d : ℕ) (ts : List Token) (t : Tree) → Flow d ts t → is_end ts ≡ false
unfolding Flow
flow_some zero ts t h = ap is_end h.1
flow_some (suc d) _ _ (FlowWord v) = refl
flow_some (suc d) _ _ (FlowList entries inner items s w) = refl
flow_some (suc d) _ _ (FlowMap entries inner pairs s w) = refl

-- scalars
word_sound : (ts : List Token) (t : Tree) → flow_word ts ≡ Some t → IsFlowWord ts t
word_sound [] t e = absurd (cc)
word_sound (Word v ∷ []) t e = (v, refl, sym (same_Some (tree.Text v) t e))
word_sound (Word v ∷ u ∷ us) t e = absurd (cc)
word_sound (OpenList ∷ us) t e = absurd (cc)
word_sound (CloseList ∷ us) t e = absurd (cc)
word_sound (OpenMap ∷ us) t e = absurd (cc)
word_sound (CloseMap ∷ us) t e = absurd (cc)
word_sound (Comma ∷ us) t e = absurd (cc)
word_sound (Key k ∷ us) t e = absurd (cc)

module _ (R : List Token → Tree → Type 0) (read : List Token → Option Tree) where
  module _ (sound : (ts : List Token) (t : Tree) → read ts ≡ Some t → R ts t) where
    pair_sound : (ts : List Token) (p : Pair) → flow_pair read ts ≡ Some p → PairOf R ts p
    pair_sound [] p e = absurd (cc)
    pair_sound (Key k ∷ ts) p e =
        let r = bind_some (read ts) _ p e in
        let same : pair_of k r.0 ≡ p = same_Some _ _ r.2 in
        subst (PairOf R (Key k ∷ ts)) same (record { rest = ts; key = refl; value = sound ts r.0 r.1 })
    pair_sound (Word v ∷ us) p e = absurd (cc)
    pair_sound (OpenList ∷ us) p e = absurd (cc)
    pair_sound (CloseList ∷ us) p e = absurd (cc)
    pair_sound (OpenMap ∷ us) p e = absurd (cc)
    pair_sound (CloseMap ∷ us) p e = absurd (cc)
    pair_sound (Comma ∷ us) p e = absurd (cc)

    value_sound : (ts : List Token) (t : Tree) → flow_value read ts ≡ Some t → FlowValue R ts t
    value_sound [] t e = absurd (cc)
    value_sound (OpenList ∷ ts) t e =
        let inner = bind_some (before_last closes_list ts) _ t e in
        let items = bind_some (collected read (entries_of inner.0)) _ t inner.2 in
        let last = last_sound closes_list ts inner.0 inner.1 in
        let whole : ts ≡ inner.0 ++ CloseList ∷ [] = last.2 ∙ ap (λ x. inner.0 ++ x ∷ []) (list_end last.0 last.1) in
        let one : FlowValue R (OpenList ∷ (inner.0 ++ CloseList ∷ [])) (tree.List items.0) =
        FlowList (entries_of inner.0) inner.0 items.0 (entries_sound inner.0) (collected_sound read R sound (entries_of inner.0) items.0 items.1) in
        subst (FlowValue R (OpenList ∷ ts)) (same_Some (tree.List items.0) t items.2) (subst (λ xs. FlowValue R (OpenList ∷ xs) (tree.List items.0)) (sym whole) one)
    value_sound (OpenMap ∷ ts) t e =
        let inner = bind_some (before_last closes_map ts) _ t e in
        let pairs = bind_some (collected (flow_pair read) (entries_of inner.0)) _ t inner.2 in
        let last = last_sound closes_map ts inner.0 inner.1 in
        let whole : ts ≡ inner.0 ++ CloseMap ∷ [] = last.2 ∙ ap (λ x. inner.0 ++ x ∷ []) (map_end last.0 last.1) in
        let one : FlowValue R (OpenMap ∷ (inner.0 ++ CloseMap ∷ [])) (tree.Map pairs.0) =
        FlowMap (entries_of inner.0) inner.0 pairs.0 (entries_sound inner.0) (collected_sound (flow_pair read) (PairOf R) pair_sound (entries_of inner.0) pairs.0 pairs.1) in
        subst (FlowValue R (OpenMap ∷ ts)) (same_Some (tree.Map pairs.0) t pairs.2) (subst (λ xs. FlowValue R (OpenMap ∷ xs) (tree.Map pairs.0)) (sym whole) one)
    value_sound (Word v ∷ us) t e =
        let h = word_sound (Word v ∷ us) t e in
        let one : FlowValue R (Word h.0 ∷ []) (tree.Text h.0) = FlowWord h.0 in
        subst (FlowValue R (Word v ∷ us)) (sym h.2) (subst (λ xs. FlowValue R xs (tree.Text h.0)) (sym h.1) one)
    value_sound (Key k ∷ us) t e = absurd (cc)
    value_sound (CloseList ∷ us) t e = absurd (cc)
    value_sound (CloseMap ∷ us) t e = absurd (cc)
    value_sound (Comma ∷ us) t e = absurd (cc)

  module _ (complete : (ts : List Token) (t : Tree) → R ts t → read ts ≡ Some t) (solid : (ts : List Token) (t : Tree) → R ts t → Solid ts) (some : (ts : List Token) (t : Tree) → R ts t → is_end ts ≡ false) where
    pair_complete : (ts : List Token) (p : Pair) → PairOf R ts p → flow_pair read ts ≡ Some p
    pair_complete ts p w = ap (flow_pair read) w.key ∙ ap (λ (o : Option Tree). o >>= λ v. Some (pair_of p.key v)) (complete w.rest p.value w.value)

    value_complete : (ts : List Token) (t : Tree) → FlowValue R ts t → flow_value read ts ≡ Some t
    value_complete _ _ (FlowWord v) = refl
    value_complete _ _ (FlowList entries inner items s w) =
        ap (λ (o : Option (List Token)). o >>= λ xs. as_list (collected read (entries_of xs))) (last_complete closes_list inner CloseList refl)
        ∙ ap (λ (xs : List (List Token)). as_list (collected read xs)) (entries_complete R solid some entries inner items s w)
        ∙ ap as_list (collected_complete read R complete entries items w)
    value_complete _ _ (FlowMap entries inner pairs s w) =
        ap (λ (o : Option (List Token)). o >>= λ xs. as_map (collected (flow_pair read) (entries_of xs))) (last_complete closes_map inner CloseMap refl)
        ∙ ap (λ (xs : List (List Token)). as_map (collected (flow_pair read) xs)) (entries_complete (PairOf R) (pair_solid R solid) (pair_some R) entries inner pairs s w)
        ∙ ap as_map (collected_complete (flow_pair read) (PairOf R) pair_complete entries pairs w)

pub flow_sound : (d : ℕ) (ts : List Token) (t : Tree) → flow d ts ≡ Some t → Flow d ts t
unfolding flow Flow
flow_sound zero ts t e = word_sound ts t e
flow_sound (suc d) ts t e = value_sound (Flow d) (flow d) (flow_sound d) ts t e

pub flow_complete : (d : ℕ) (ts : List Token) (t : Tree) → Flow d ts t → flow d ts ≡ Some t
unfolding flow Flow
flow_complete zero ts t h = ap flow_word h.1 ∙ ap Some (sym h.2)
flow_complete (suc d) ts t h = value_complete (Flow d) (flow d) (flow_complete d) (flow_solid d) (flow_some d) ts t h
