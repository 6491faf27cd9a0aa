-- What the function reads is what the relation says, and nothing else.
use Rattle.std.proofs.Common.{◌≡◌, ℕ, zero, suc, List, [], ◌∷◌, ◌++◌, drop, Bool, true, false, refl, sym, ap, ◌∙◌, subst, cond, inl, inr, ◌⊎◌, Option, Some, None, true≢false, ◌&&◌, ◌||◌, not, eq-eqb}
use Rattle.std.proofs.lemmas.Bool.{cond-true, cond-false, eqb-true, not-true, false_from_ne_true, and_parts, and_from}
use Rattle.std.proofs.Math.Bool.{or-true}
use Rattle.yaml_lines.specs.Line.{Line}
use Rattle.wv_yaml.specs.declared.tree.Tree.{Tree}
use Rattle.wv_yaml.specs.declared.tree.Pair.{Pair}
use Rattle.yaml_lines.specs.Chunks.{Pairwise, unchunked, AreChunks, chunked, collected}
use Rattle.yaml_lines.specs.Marks.{trimmed, gap, nothing, quiet, dash, Quiet, ahead}
use Rattle.wv_yaml.specs.Flow.{as_list, as_map}
use Rattle.wv_yaml.specs.Block.{Chunk, is_item, is_pair, is_under, opens, has_key, below, value_of, entry_of, item, pair, collection, block}
use Rattle.wv_yaml.specs.Spelled.{Begins, First, Below, Empty, Nested, Later, Value, Under, Beside, Entry, EntryUnder, Compact, EntryBeside, Item, PairAt, Sequence, Mapping, Collection, Items, Pairs, Block}
use Rattle.yaml_lines.proofs.Parts.{chosen, bind_some}
use Rattle.std.proofs.lemmas.Option.{same_Some}
use Rattle.yaml_lines.proofs.ChunkLaws.{chunked_chunks, chunked_head, chunked_again, collected_complete, Ahead, ahead_cases, ahead_quiet, ahead_loud, gap_whole, gap_blanks, gap_again}

-- each chunk gives what it is related to
module _ {X Y : Type 0} (head : X → Bool) (f : X × List X → Option Y) (R : X × List X → Y → Type 0) where
  chunks_sound : ((c : X × List X) (y : Y) → head c.0 ≡ true → f c ≡ Some y → R c y) → (cs : List (X × List X)) (ys : List Y) → AreChunks head cs → collected f cs ≡ Some ys → Pairwise R cs ys
  chunks_sound h [] [] a e = tt
  chunks_sound h [] (y ∷ ys) a e = absurd (cc)
  chunks_sound h (c ∷ cs) ys a e =
      let one = bind_some (f c) _ ys e in
      let others = bind_some (collected f cs) _ ys one.2 in
      let same : one.0 ∷ others.0 ≡ ys = cc in
      subst (λ zs. Pairwise R (c ∷ cs) zs) same (h c one.0 a.0 one.1, chunks_sound h cs others.0 a.2 others.1)

first_head : {X : Type 0} (head : X → Bool) (cs : List (X × List X)) (x : X) (xs : List X) → x ∷ xs ≡ unchunked cs → AreChunks head cs → head x ≡ true
first_head head [] x xs e a = absurd (cc)
first_head head (c ∷ cs) x xs e a = let same : x ≡ c.0 = cc in ap head same ∙ a.0

-- a line that begins with a dash
pub dash_whole : (text : List ℕ) → dash text ≡ true → text ≡ 45 ∷ drop 1 text
dash_whole [] e = absurd (cc)
dash_whole (b ∷ bs) e = ap (λ x. x ∷ bs) (eqb-true b 45 (and_parts _ _ e).0)

module _ (inline : Bool → ℕ → List ℕ → List Line → Option Tree) (key : List ℕ → Option (List ℕ × List ℕ)) (KeyAt : List ℕ → List ℕ → List ℕ → Type 0) (Inline : Bool → ℕ → List Line → List ℕ → Tree → Type 0) where
  module _ (key_sound : (text : List ℕ) (k : List ℕ × List ℕ) → key text ≡ Some k → KeyAt text k.0 k.1) (key_complete : (text name rest : List ℕ) → KeyAt text name rest → key text ≡ Some (name, rest)) where
    by_key : (text : List ℕ) (o : Option (List ℕ × List ℕ)) → key text ≡ o → has_key o ≡ true → Begins KeyAt Inline text
    by_key text None e h = absurd (cc)
    by_key text (Some k) e h = inr (k.0, k.1, key_sound text k e)

    by_dash : (text : List ℕ) (b : Bool) → dash text ≡ b → (b || has_key (key text)) ≡ true → Begins KeyAt Inline text
    by_dash text true e h = inl e
    by_dash text false e h = by_key text (key text) refl h

    begins_sound : (text : List ℕ) → opens key text ≡ true → Begins KeyAt Inline text
    begins_sound text h = by_dash text (dash text) refl h

    begins_complete : (text : List ℕ) → Begins KeyAt Inline text → opens key text ≡ true
    begins_complete text (inl e) = rw e refl
    begins_complete text (inr k) = ap (λ o. dash text || has_key o) (key_complete text k.0 k.1 k.2) ∙ or-true (dash text)

    closed_sound : (text : List ℕ) → opens key text ≡ false → Begins KeyAt Inline text → ⊥
    closed_sound text e h = true≢false (sym (begins_complete text h) ∙ e)

    closed_complete : (text : List ℕ) → (Begins KeyAt Inline text → ⊥) → opens key text ≡ false
    closed_complete text h = false_from_ne_true (opens key text) (λ e. h (begins_sound text e))

    module _ (read : List Line → Option Tree) (R : List Line → Tree → Type 0) where
      module _ (sound : (ls : List Line) (t : Tree) → read ls ≡ Some t → R ls t) (inline_sound : (here : Bool) (n : ℕ) (text : List ℕ) (body : List Line) (t : Tree) → inline here n text body ≡ Some t → Inline here n body text t) where
        below_at : (own : Bool) (n : ℕ) (body : List Line) (t : Tree) (a : Ahead body) →
            below inline key read own n (a.first ∷ a.others) ≡ Some t → Below KeyAt Inline R own n body t
        below_at own n body t a e = at_under (chosen _ _ _ _ e)
          where
            first : is_under own n a.first ≡ true → First KeyAt Inline R own n body a.first a.others
            first u = record { before = a.before; whole = a.whole; skipped = a.skipped; loud = a.loud; under = u }

            at_open : is_under own n a.first ≡ true →
                ((opens key a.first.text ≡ true) × (read (a.first ∷ a.others) ≡ Some t)) ⊎ ((opens key a.first.text ≡ false) × (inline false n (trimmed a.first.text) a.others ≡ Some t)) → Below KeyAt Inline R own n body t
            at_open u (inl h) = Nested a.first a.others (first u) (begins_sound _ h.0) (sound _ _ h.1)
            at_open u (inr h) = Later a.first a.others (first u) (closed_sound _ h.0) (inline_sound _ _ _ _ _ h.1)

            at_under : ((is_under own n a.first ≡ true) × (cond (opens key a.first.text) (read (a.first ∷ a.others)) (inline false n (trimmed a.first.text) a.others) ≡ Some t)) ⊎ ((is_under own n a.first ≡ false) × (None ≡ Some t)) → Below KeyAt Inline R own n body t
            at_under (inl h) = at_open h.0 (chosen _ _ _ _ h.1)
            at_under (inr h) = absurd (cc)

        below_sound : (own : Bool) (n : ℕ) (body : List Line) (t : Tree) → below inline key read own n (ahead body) ≡ Some t → Below KeyAt Inline R own n body t
        below_sound own n body t e = at_ahead (ahead_cases body)
          where
            at_ahead : (Quiet body × (ahead body ≡ [])) ⊎ Ahead body → Below KeyAt Inline R own n body t
            at_ahead (inl q) =
                let e1 : below inline key read own n [] ≡ Some t = rw q.1 at e in
                Empty (record { after = q.0; is = sym (same_Some _ _ e1) })
            at_ahead (inr a) = below_at own n body t a (rw a.is at e)

        value_sound : (n : ℕ) (text : List ℕ) (body : List Line) (t : Tree) → value_of inline key read n text body ≡ Some t → Value KeyAt Inline R n text body t
        value_sound n text body t e = by_nothing (chosen _ _ _ _ e)
          where
            by_nothing : ((nothing text ≡ true) × (below inline key read true n (ahead body) ≡ Some t)) ⊎ ((nothing text ≡ false) × (inline true n text body ≡ Some t)) → Value KeyAt Inline R n text body t
            by_nothing (inl h) = Under h.0 (below_sound true n body t h.1)
            by_nothing (inr h) = Beside h.0 (inline_sound true n text body t h.1)

        entry_sound : (n : ℕ) (compact : Bool) (l : Line) (body : List Line) (t : Tree) → entry_of inline key read n compact l body ≡ Some t → Entry KeyAt Inline R n compact l body t
        entry_sound n compact l body t e = by_nothing (chosen _ _ _ _ e)
          where
            by_opens : nothing l.text ≡ false → (((compact && opens key l.text) ≡ true) × (read (l ∷ body) ≡ Some t)) ⊎ (((compact && opens key l.text) ≡ false) × (inline true n l.text body ≡ Some t)) → Entry KeyAt Inline R n compact l body t
            by_opens o (inl h) = let both = and_parts _ _ h.0 in Compact o both.0 (begins_sound _ both.1) (sound _ _ h.1)
            by_opens o (inr h) = EntryBeside o (λ c b. true≢false (sym (and_from _ _ c (begins_complete _ b)) ∙ h.0)) (inline_sound true n l.text body t h.1)

            by_nothing : ((nothing l.text ≡ true) × (below inline key read false n (ahead body) ≡ Some t)) ⊎ ((nothing l.text ≡ false) × (cond (compact && opens key l.text) (read (l ∷ body)) (inline true n l.text body) ≡ Some t)) → Entry KeyAt Inline R n compact l body t
            by_nothing (inl h) = EntryUnder h.0 (below_sound false n body t h.1)
            by_nothing (inr h) = by_opens h.0 (chosen _ _ _ _ h.1)

        item_sound : (n : ℕ) (c : Chunk) (t : Tree) → dash c.0.text ≡ true → item inline key read n c ≡ Some t → Item KeyAt Inline R n c t
        item_sound n c t d e =
            let rest = drop 1 c.0.text in
            record {
              gap = gap rest;
              text = trimmed rest;
              whole = dash_whole c.0.text d ∙ ap (λ xs. 45 ∷ xs) (gap_whole rest);
              blanks = (gap_blanks rest).0;
              no_more = (gap_blanks rest).1;
              entry = entry_sound _ _ _ _ _ e;
            }

        pair_sound : (n : ℕ) (c : Chunk) (p : Pair) → pair inline key read n c ≡ Some p → PairAt KeyAt Inline R n c p
        pair_sound n c p e =
            let k = bind_some (key c.0.text) _ p e in
            let v = bind_some (value_of inline key read n (trimmed k.0.1) c.1) _ p k.2 in
            record {
              name = k.0.0;
              gap = gap k.0.1;
              text = trimmed k.0.1;
              value = v.0;
              whole = subst (λ xs. KeyAt c.0.text k.0.0 xs) (gap_whole k.0.1) (key_sound c.0.text k.0 k.1);
              blanks = (gap_blanks k.0.1).0;
              no_more = (gap_blanks k.0.1).1;
              spelled = value_sound _ _ _ _ v.1;
              is = sym (same_Some _ _ v.2);
            }

        sequence_sound : (l : Line) (ls : List Line) (t : Tree) → dash l.text ≡ true → as_list (collected (item inline key read l.indent) (chunked (is_item l.indent) (l ∷ ls)).1) ≡ Some t → Sequence KeyAt Inline R l.indent l ls t
        sequence_sound l ls t d e =
            let here : is_item l.indent l ≡ true = and_from _ _ (eq-eqb l.indent l.indent refl) d in
            let ts = bind_some (collected (item inline key read l.indent) (chunked (is_item l.indent) (l ∷ ls)).1) _ t e in
            let are = (chunked_chunks (is_item l.indent) (l ∷ ls)).1 in
            record {
              chunks = (chunked (is_item l.indent) (l ∷ ls)).1;
              items = ts.0;
              whole = chunked_head (is_item l.indent) l ls here;
              heads = are;
              each = chunks_sound (is_item l.indent) (item inline key read l.indent) (Item KeyAt Inline R l.indent) (λ c y h f. item_sound l.indent c y (and_parts _ _ h).1 f) _ _ are ts.1;
              is = sym (same_Some _ _ ts.2);
            }

        mapping_sound : (l : Line) (ls : List Line) (t : Tree) → dash l.text ≡ false → quiet l.text ≡ false → as_map (collected (pair inline key read l.indent) (chunked (is_pair l.indent) (l ∷ ls)).1) ≡ Some t → Mapping KeyAt Inline R l.indent l ls t
        mapping_sound l ls t d q e =
            let here : is_pair l.indent l ≡ true = and_from _ _ (eq-eqb l.indent l.indent refl) (and_from _ _ (ap not d) (ap not q)) in
            let ps = bind_some (collected (pair inline key read l.indent) (chunked (is_pair l.indent) (l ∷ ls)).1) _ t e in
            let are = (chunked_chunks (is_pair l.indent) (l ∷ ls)).1 in
            record {
              chunks = (chunked (is_pair l.indent) (l ∷ ls)).1;
              pairs = ps.0;
              whole = chunked_head (is_pair l.indent) l ls here;
              heads = are;
              each = chunks_sound (is_pair l.indent) (pair inline key read l.indent) (PairAt KeyAt Inline R l.indent) (λ c y h f. pair_sound l.indent c y f) _ _ are ps.1;
              is = sym (same_Some _ _ ps.2);
            }

        collection_sound : (l : Line) (ls : List Line) (t : Tree) → collection inline key read l ls ≡ Some t → Collection KeyAt Inline R l ls t
        collection_sound l ls t e = by_dash (chosen _ _ _ _ e)
          where
            by_quiet : dash l.text ≡ false → ((quiet l.text ≡ true) × (None ≡ Some t)) ⊎ ((quiet l.text ≡ false) × (as_map (collected (pair inline key read l.indent) (chunked (is_pair l.indent) (l ∷ ls)).1) ≡ Some t)) → Collection KeyAt Inline R l ls t
            by_quiet d (inl h) = absurd (cc)
            by_quiet d (inr h) = Pairs (mapping_sound l ls t d h.0 h.1)

            by_dash : ((dash l.text ≡ true) × (as_list (collected (item inline key read l.indent) (chunked (is_item l.indent) (l ∷ ls)).1) ≡ Some t)) ⊎ ((dash l.text ≡ false) × (cond (quiet l.text) None (as_map (collected (pair inline key read l.indent) (chunked (is_pair l.indent) (l ∷ ls)).1)) ≡ Some t)) → Collection KeyAt Inline R l ls t
            by_dash (inl h) = Items (sequence_sound l ls t h.0 h.1)
            by_dash (inr h) = by_quiet h.0 (chosen _ _ _ _ h.1)

      module _ (complete : (ls : List Line) (t : Tree) → R ls t → read ls ≡ Some t) (inline_complete : (here : Bool) (n : ℕ) (text : List ℕ) (body : List Line) (t : Tree) → Inline here n body text t → inline here n text body ≡ Some t) where
        below_complete : (own : Bool) (n : ℕ) (body : List Line) (t : Tree) → Below KeyAt Inline R own n body t → below inline key read own n (ahead body) ≡ Some t
        below_complete own n body t (Empty h) = rw (ahead_quiet body h.after, h.is) refl
        below_complete own n body t (Nested l ls f o h) =
            rw (f.whole, ahead_loud f.before l ls f.skipped f.loud, f.under, begins_complete l.text o) (complete _ _ h)
        below_complete own n body t (Later l ls f o h) =
            rw (f.whole, ahead_loud f.before l ls f.skipped f.loud, f.under, closed_complete l.text o) (inline_complete _ _ _ _ _ h)

        value_complete : (n : ℕ) (text : List ℕ) (body : List Line) (t : Tree) → Value KeyAt Inline R n text body t → value_of inline key read n text body ≡ Some t
        value_complete n text body t (Under o h) = rw o (below_complete _ _ _ _ h)
        value_complete n text body t (Beside o h) = rw o (inline_complete _ _ _ _ _ h)

        not_compact : (compact : Bool) (text : List ℕ) → (compact ≡ true → Begins KeyAt Inline text → ⊥) → (compact && opens key text) ≡ false
        not_compact compact text h = false_from_ne_true (compact && opens key text) (λ e. let both = and_parts _ _ e in h both.0 (begins_sound text both.1))

        entry_complete : (n : ℕ) (compact : Bool) (l : Line) (body : List Line) (t : Tree) → Entry KeyAt Inline R n compact l body t → entry_of inline key read n compact l body ≡ Some t
        entry_complete n compact l body t (EntryUnder o h) = rw o (below_complete _ _ _ _ h)
        entry_complete n compact l body t (Compact o k p h) = rw (o, k, begins_complete l.text p) (complete _ _ h)
        entry_complete n compact l body t (EntryBeside o p h) = rw (o, not_compact compact l.text p) (inline_complete _ _ _ _ _ h)

        item_complete : (n : ℕ) (c : Chunk) (t : Tree) → Item KeyAt Inline R n c t → item inline key read n c ≡ Some t
        item_complete n c t i =
            let again = gap_again i.gap i.text i.blanks i.no_more in
            let rest : drop 1 c.0.text ≡ i.gap ++ i.text = ap (drop 1) i.whole in
            rw (rest, again.0, again.1) (entry_complete _ _ _ _ _ i.entry)

        pair_complete : (n : ℕ) (c : Chunk) (p : Pair) → PairAt KeyAt Inline R n c p → pair inline key read n c ≡ Some p
        pair_complete n c p i =
            let again = gap_again i.gap i.text i.blanks i.no_more in
            rw (key_complete c.0.text i.name (i.gap ++ i.text) i.whole, again.1, value_complete _ _ _ _ i.spelled, i.is) refl

        sequence_complete : (l : Line) (ls : List Line) (t : Tree) → Sequence KeyAt Inline R l.indent l ls t → collection inline key read l ls ≡ Some t
        sequence_complete l ls t s =
            let here = first_head (is_item l.indent) s.chunks l ls s.whole s.heads in
            let dashed = (and_parts _ _ here).1 in
            let found : chunked (is_item l.indent) (l ∷ ls) ≡ ([], s.chunks) = ap (chunked (is_item l.indent)) s.whole ∙ chunked_again (is_item l.indent) s.chunks s.heads in
            let all = collected_complete (item inline key read l.indent) (Item KeyAt Inline R l.indent) (item_complete l.indent) s.chunks s.items s.each in
            cond-true (dash l.text) _ _ dashed ∙ ap (λ r. as_list (collected (item inline key read l.indent) r.1)) found ∙ ap (as_list) all ∙ ap Some (sym s.is)

        mapping_complete : (l : Line) (ls : List Line) (t : Tree) → Mapping KeyAt Inline R l.indent l ls t → collection inline key read l ls ≡ Some t
        mapping_complete l ls t s =
            let here = (and_parts _ _ (first_head (is_pair l.indent) s.chunks l ls s.whole s.heads)).1 in
            let both = and_parts _ _ here in
            let found : chunked (is_pair l.indent) (l ∷ ls) ≡ ([], s.chunks) = ap (chunked (is_pair l.indent)) s.whole ∙ chunked_again (is_pair l.indent) s.chunks s.heads in
            let all = collected_complete (pair inline key read l.indent) (PairAt KeyAt Inline R l.indent) (pair_complete l.indent) s.chunks s.pairs s.each in
            cond-false (dash l.text) _ _ (not-true _ both.0) ∙ cond-false (quiet l.text) _ _ (not-true _ both.1)
            ∙ ap (λ r. as_map (collected (pair inline key read l.indent) r.1)) found ∙ ap (as_map) all ∙ ap Some (sym s.is)

        collection_complete : (l : Line) (ls : List Line) (t : Tree) → Collection KeyAt Inline R l ls t → collection inline key read l ls ≡ Some t
        collection_complete l ls t (Items s) = sequence_complete l ls t s
        collection_complete l ls t (Pairs s) = mapping_complete l ls t s

module _ (inline : ℕ → Bool → ℕ → List ℕ → List Line → Option Tree) (key : List ℕ → Option (List ℕ × List ℕ)) (KeyAt : List ℕ → List ℕ → List ℕ → Type 0) (Inline : ℕ → Bool → ℕ → List Line → List ℕ → Tree → Type 0) where
  module _ (key_sound : (text : List ℕ) (k : List ℕ × List ℕ) → key text ≡ Some k → KeyAt text k.0 k.1) (key_complete : (text name rest : List ℕ) → KeyAt text name rest → key text ≡ Some (name, rest)) where
    pub block_sound : ((d : ℕ) (here : Bool) (n : ℕ) (text : List ℕ) (body : List Line) (t : Tree) → inline d here n text body ≡ Some t → Inline d here n body text t) →
        (d : ℕ) (ls : List Line) (t : Tree) → block inline key d ls ≡ Some t → Block KeyAt Inline d ls t
    unfolding block Block
    block_sound h zero ls t e = absurd (cc)
    block_sound h (suc d) [] t e = absurd (cc)
    block_sound h (suc d) (l ∷ ls) t e = collection_sound (inline d) key KeyAt (Inline d) key_sound key_complete (block inline key d) (Block KeyAt Inline d) (block_sound h d) (h d) l ls t e

    pub block_complete : ((d : ℕ) (here : Bool) (n : ℕ) (text : List ℕ) (body : List Line) (t : Tree) → Inline d here n body text t → inline d here n text body ≡ Some t) →
        (d : ℕ) (ls : List Line) (t : Tree) → Block KeyAt Inline d ls t → block inline key d ls ≡ Some t
    unfolding block Block
    block_complete h zero ls t e = absurd e
    block_complete h (suc d) [] t e = absurd e
    block_complete h (suc d) (l ∷ ls) t e = collection_complete (inline d) key KeyAt (Inline d) key_sound key_complete (block inline key d) (Block KeyAt Inline d) (block_complete h d) (h d) l ls t e
