-- Rows that are judged one after another.
use Rattle.std.proofs.Common.{◌≡◌, ℕ, List, [], ◌∷◌, ◌++◌, Bool, true, false, Option, Some, None, is_some, option_and_then, Result, Ok, Err, unwrap_or, refl, sym, ap, subst, ◌∙◌}
use Rattle.std.specs.Option.{option_or}
use Rattle.wv_yaml.specs.declared.tree.Tree.{Tree, Text, List', Map'}
use Rattle.wv_yaml.specs.declared.tree.Pair.{Pair}
use Rattle.wv_schema.specs.declared.fault.SchemaFault.{SchemaFault}
use Rattle.wv_schema.specs.declared.fault.SchemaFault.TheVariants.{Missing, WrongKind, BadValue, Version, Shape, Entries, OutOfMemory}
use Rattle.wv_schema.specs.Paths.{Found, Nowhere, Lacking, There, text_in, items_in, pairs_in, value_of, map_of, key_place, place_below, found, found_below, found_there}
use Rattle.wv_schema.specs.Table.{Row, Kind, AList, AMap, Texts, TextMap, needs, may_have, within, below, in_map, in_map_if}
use Rattle.wv_schema.specs.Judging.{row_fault, first_fault, found_fault, kind_fault, when_not, are_texts, list_fault, map_fault, rows_fault, items_fault, no_text_fault}
use Rattle.wv_schema.specs.Values.{list_at, map_at, all_pairs, items_found}
use Rattle.wv_schema.specs.Schema.{Fails, Gives}

-- a fault that is first stays first
pub stops : (e : SchemaFault) (d r : Option SchemaFault) → Fails e d → Fails e (option_or d r)
stops (Missing p) d r h = ap (λ x. option_or x r) h
stops (WrongKind p) d r h = ap (λ x. option_or x r) h
stops (BadValue p) d r h = ap (λ x. option_or x r) h
stops Version d r h = ap (λ x. option_or x r) h
stops (Shape n) d r h = ap (λ x. option_or x r) h
stops Entries d r h = ap (λ x. option_or x r) h
stops OutOfMemory d r h = tt

-- one that comes behind what is met
pub later : (e : SchemaFault) (d r : Option SchemaFault) → d ≡ None → Fails e r → Fails e (option_or d r)
later e d r h k = subst (λ x. Fails e (option_or x r)) (sym h) k

pub both : (d r : Option SchemaFault) → d ≡ None → r ≡ None → option_or d r ≡ None
both d r h k = ap (λ x. option_or x r) h ∙ k

pub fails_along : (e : SchemaFault) (d r : Option SchemaFault) → d ≡ r → Fails e d → Fails e r
fails_along e d r h k = subst (λ x. Fails e x) h k

pub first_append : (at : List ℕ) (ps : List Pair) (xs ys : List Row) → first_fault at ps (xs ++ ys) ≡ option_or (first_fault at ps xs) (first_fault at ps ys)
unfolding first_fault
first_append at ps [] ys = refl
first_append at ps (x ∷ xs) ys = ap (λ r. option_or (row_fault at ps x) r) (first_append at ps xs ys) ∙ regroup (row_fault at ps x) (first_fault at ps xs) (first_fault at ps ys)
  where
    regroup : (a b c : Option SchemaFault) → option_or a (option_or b c) ≡ option_or (option_or a b) c
    regroup None b c = refl
    regroup (Some f) b c = refl

pub first_more : (at : List ℕ) (ps : List Pair) (x : Row) (xs : List Row) → first_fault at ps (x ∷ xs) ≡ option_or (row_fault at ps x) (first_fault at ps xs)
unfolding first_fault
first_more at ps x xs = refl

pub first_end : (at : List ℕ) (ps : List Pair) → first_fault at ps [] ≡ None
unfolding first_fault
first_end at ps = refl

-- rows below a key are those of the map that stands there
below_there : (at k : List ℕ) (ps qs : List Pair) (row : Row) → map_of k ps ≡ Some qs → row_fault at ps (below k row) ≡ row_fault (key_place at k) qs row
unfolding row_fault
below_there at k ps qs row e =
    ap (λ o. found_fault row.is_needed row.kind (place_below (key_place at k) row.above row.key) (found_below (λ xs. found row.above row.key xs) o)) e

within_there : (at k : List ℕ) (ps qs : List Pair) (rows : List Row) → map_of k ps ≡ Some qs → first_fault at ps (within k rows) ≡ first_fault (key_place at k) qs rows
unfolding first_fault
within_there at k ps qs [] e = refl
within_there at k ps qs (row ∷ rows) e =
    ap (λ d. option_or d (first_fault at ps (within k rows))) (below_there at k ps qs row e)
    ∙ ap (λ d. option_or (row_fault (key_place at k) qs row) d) (within_there at k ps qs rows e)

below_none : (at k : List ℕ) (ps : List Pair) (row : Row) → map_of k ps ≡ None → row_fault at ps (below k row) ≡ None
unfolding row_fault
below_none at k ps row e =
    ap (λ o. found_fault row.is_needed row.kind (place_below (key_place at k) row.above row.key) (found_below (λ xs. found row.above row.key xs) o)) e
    ∙ nowhere row.is_needed
  where
    nowhere : (b : Bool) → found_fault b row.kind (place_below (key_place at k) row.above row.key) Nowhere ≡ None
    nowhere true = refl
    nowhere false = refl

-- rows below an absent map aren't judged
pub within_none : (at k : List ℕ) (ps : List Pair) (rows : List Row) → map_of k ps ≡ None → first_fault at ps (within k rows) ≡ None
unfolding first_fault
within_none at k ps [] e = refl
within_none at k ps (row ∷ rows) e = both _ _ (below_none at k ps row e) (within_none at k ps rows e)

-- a map that is there
pub inside : (at k : List ℕ) (ps qs : List Pair) (rows : List Row) → row_fault at ps (needs k AMap) ≡ None → map_of k ps ≡ Some qs → first_fault at ps (in_map k rows) ≡ first_fault (key_place at k) qs rows
inside at k ps qs rows h e =
    first_more at ps (needs k AMap) (within k rows) ∙ ap (λ d. option_or d (first_fault at ps (within k rows))) h ∙ within_there at k ps qs rows e

pub inside_if : (at k : List ℕ) (ps qs : List Pair) (rows : List Row) → row_fault at ps (may_have k AMap) ≡ None → map_of k ps ≡ Some qs → first_fault at ps (in_map_if k rows) ≡ first_fault (key_place at k) qs rows
inside_if at k ps qs rows h e =
    first_more at ps (may_have k AMap) (within k rows) ∙ ap (λ d. option_or d (first_fault at ps (within k rows))) h ∙ within_there at k ps qs rows e

pub inside_none : (at k : List ℕ) (ps : List Pair) (rows : List Row) → row_fault at ps (may_have k AMap) ≡ None → map_of k ps ≡ None → first_fault at ps (in_map_if k rows) ≡ None
inside_none at k ps rows h e = first_more at ps (may_have k AMap) (within k rows) ∙ both _ _ h (within_none at k ps rows e)

pub inside_stops : (e : SchemaFault) (at k : List ℕ) (ps : List Pair) (rows : List Row) → Fails e (row_fault at ps (needs k AMap)) → Fails e (first_fault at ps (in_map k rows))
inside_stops e at k ps rows h = fails_along e _ _ (sym (first_more at ps (needs k AMap) (within k rows))) (stops e _ _ h)

pub inside_if_stops : (e : SchemaFault) (at k : List ℕ) (ps : List Pair) (rows : List Row) → Fails e (row_fault at ps (may_have k AMap)) → Fails e (first_fault at ps (in_map_if k rows))
inside_if_stops e at k ps rows h = fails_along e _ _ (sym (first_more at ps (may_have k AMap) (within k rows))) (stops e _ _ h)

pub map_at_there : (k : List ℕ) (ps qs : List Pair) → map_of k ps ≡ Some qs → map_at k ps ≡ qs
unfolding map_at
map_at_there k ps qs e = ap (λ o. unwrap_or o []) e

-- what the fields of a map give is what the rows below its key give
pub given_inside : {X : Type 0} (r : Result X SchemaFault) (f : List Pair → X) (at k place : List ℕ) (ps qs : List Pair) (rows : List Pair → List Row) → place ≡ key_place at k →
    row_fault at ps (needs k AMap) ≡ None → map_of k ps ≡ Some qs → Gives (λ x. x) r (first_fault place qs (rows qs)) (f qs) → Gives (λ x. x) r (first_fault at ps (in_map k (rows (map_at k ps)))) (f (map_at k ps))
given_inside r f at k place ps qs rows p h e g =
    subst (λ y. Gives (λ x. x) r (first_fault at ps (in_map k (rows y))) (f y)) (sym (map_at_there k ps qs e))
    (subst (λ d. Gives (λ x. x) r d (f qs)) (ap (λ a. first_fault a qs (rows qs)) p ∙ sym (inside at k ps qs (rows qs) h e)) g)

pub inside_if_later : (e : SchemaFault) (at k place : List ℕ) (ps qs : List Pair) (rows : List Row) → place ≡ key_place at k → row_fault at ps (may_have k AMap) ≡ None → map_of k ps ≡ Some qs →
    Fails e (first_fault place qs rows) → Fails e (first_fault at ps (in_map_if k rows))
inside_if_later e at k place ps qs rows p h i g = fails_along e _ _ (ap (λ a. first_fault a qs rows) p ∙ sym (inside_if at k ps qs rows h i)) g

pub inside_if_met : (at k place : List ℕ) (ps qs : List Pair) (rows : List Row) → place ≡ key_place at k → row_fault at ps (may_have k AMap) ≡ None → map_of k ps ≡ Some qs →
    first_fault place qs rows ≡ None → first_fault at ps (in_map_if k rows) ≡ None
inside_if_met at k place ps qs rows p h i g = inside_if at k ps qs rows h i ∙ ap (λ a. first_fault a qs rows) (sym p) ∙ g

-- a list of texts
texts_by : (path : List ℕ) (o : Option Tree) → found_fault true AList path (found_there o) ≡ None → found_fault true Texts path (found_there o) ≡ items_fault no_text_fault path 0 (items_found (found_there o))
texts_by path None e = absurd (cc e)
texts_by path (Some (Text v)) e = absurd (cc e)
texts_by path (Some (List' s row)) e = refl
texts_by path (Some (Map' s row)) e = absurd (cc e)

pub texts_there : (at k : List ℕ) (ps : List Pair) → row_fault at ps (needs k AList) ≡ None → row_fault at ps (needs k Texts) ≡ items_fault no_text_fault (key_place at k) 0 (list_at k ps)
unfolding row_fault list_at
texts_there at k ps h = texts_by (key_place at k) (value_of k ps) h

texts_stop_by : (e : SchemaFault) (path : List ℕ) (o : Option Tree) → Fails e (found_fault true AList path (found_there o)) → Fails e (found_fault true Texts path (found_there o))
texts_stop_by e path None h = h
texts_stop_by e path (Some (Text v)) h = h
texts_stop_by e path (Some (List' s row)) h = none e h
  where
    none : (e : SchemaFault) → Fails e None → Fails e (found_fault true Texts path (found_there (Some (List' s row))))
    none (Missing p) h = absurd (cc h)
    none (WrongKind p) h = absurd (cc h)
    none (BadValue p) h = absurd (cc h)
    none Version h = absurd (cc h)
    none (Shape n) h = absurd (cc h)
    none Entries h = absurd (cc h)
    none OutOfMemory h = tt
texts_stop_by e path (Some (Map' s row)) h = h

pub texts_stop : (e : SchemaFault) (at k : List ℕ) (ps : List Pair) → Fails e (row_fault at ps (needs k AList)) → Fails e (row_fault at ps (needs k Texts))
unfolding row_fault
texts_stop e at k ps h = texts_stop_by e (key_place at k) (value_of k ps) h

pub given_texts : {X : Type 0} (r : Result X SchemaFault) (f : List Tree → X) (at k place : List ℕ) (ps : List Pair) (items : List Tree) → place ≡ key_place at k →
    row_fault at ps (needs k AList) ≡ None → items ≡ list_at k ps → Gives (λ x. x) r (items_fault no_text_fault place 0 items) (f items) → Gives (λ x. x) r (row_fault at ps (needs k Texts)) (f (list_at k ps))
given_texts r f at k place ps items p h i g =
    subst (λ d. Gives (λ x. x) r d (f (list_at k ps))) (sym (texts_there at k ps h))
    (subst (λ y. Gives (λ x. x) r (items_fault no_text_fault (key_place at k) 0 y) (f y)) i
    (subst (λ a. Gives (λ x. x) r (items_fault no_text_fault a 0 items) (f items)) p g))

-- a map of texts
text_map_stop_by : (e : SchemaFault) (path : List ℕ) (o : Option Tree) → Fails e (found_fault true AMap path (found_there o)) → Fails e (found_fault true TextMap path (found_there o))
text_map_stop_by e path None h = h
text_map_stop_by e path (Some (Text v)) h = h
text_map_stop_by e path (Some (List' s row)) h = h
text_map_stop_by e path (Some (Map' s row)) h = none e h
  where
    none : (e : SchemaFault) → Fails e None → Fails e (found_fault true TextMap path (found_there (Some (Map' s row))))
    none (Missing p) h = absurd (cc h)
    none (WrongKind p) h = absurd (cc h)
    none (BadValue p) h = absurd (cc h)
    none Version h = absurd (cc h)
    none (Shape n) h = absurd (cc h)
    none Entries h = absurd (cc h)
    none OutOfMemory h = tt

pub text_map_stop : (e : SchemaFault) (at k : List ℕ) (ps : List Pair) → Fails e (row_fault at ps (needs k AMap)) → Fails e (row_fault at ps (needs k TextMap))
unfolding row_fault
text_map_stop e at k ps h = text_map_stop_by e (key_place at k) (value_of k ps) h

text_map_by : (path : List ℕ) (o : Option Tree) (qs : List Pair) → option_and_then pairs_in o ≡ Some qs → found_fault true TextMap path (found_there o) ≡ when_not (are_texts qs) (WrongKind path)
text_map_by path None qs e = absurd (cc e)
text_map_by path (Some t) qs e = ap (map_fault path) e

pub text_map_there : (at k : List ℕ) (ps qs : List Pair) → map_of k ps ≡ Some qs → row_fault at ps (needs k TextMap) ≡ when_not (are_texts qs) (WrongKind (key_place at k))
unfolding row_fault map_of
text_map_there at k ps qs e = text_map_by (key_place at k) (value_of k ps) qs e

pub given_text_map : {X : Type 0} (r : Result X SchemaFault) (f : List Pair → X) (at k place : List ℕ) (ps qs : List Pair) → place ≡ key_place at k →
    map_of k ps ≡ Some qs → Gives (λ x. x) r (when_not (are_texts qs) (WrongKind place)) (f qs) → Gives (λ x. x) r (row_fault at ps (needs k TextMap)) (f (map_at k ps))
given_text_map r f at k place ps qs p e g =
    subst (λ y. Gives (λ x. x) r (row_fault at ps (needs k TextMap)) (f y)) (sym (map_at_there k ps qs e))
    (subst (λ d. Gives (λ x. x) r d (f qs)) (ap (λ a. when_not (are_texts qs) (WrongKind a)) p ∙ sym (text_map_there at k ps qs e)) g)

-- a map that an item should be
pub given_pairs : {X : Type 0} (r : Result X SchemaFault) (at : List ℕ) (t : Tree) (ps : List Pair) (rows : List Pair → List Row) (f : List Pair → X) → Some ps ≡ pairs_in t →
    Gives (λ x. x) r (first_fault at ps (rows ps)) (f ps) → Gives (λ x. x) r (rows_fault at rows (pairs_in t)) (f (all_pairs t))
unfolding all_pairs
given_pairs r at t ps rows f e g = subst (λ o. Gives (λ x. x) r (rows_fault at rows o) (f (unwrap_or o []))) e g

pub no_pairs : (fault : SchemaFault) (at : List ℕ) (t : Tree) (rows : List Pair → List Row) → None ≡ pairs_in t → Fails fault (Some (WrongKind at)) → Fails fault (rows_fault at rows (pairs_in t))
no_pairs fault at t rows e h = subst (λ o. Fails fault (rows_fault at rows o)) e h

pub given_after : {X : Type 0} (r : Result X SchemaFault) (d rest : Option SchemaFault) (v : X) → d ≡ None → Gives (λ x. x) r rest v → Gives (λ x. x) r (option_or d rest) v
given_after r d rest v e g = subst (λ o. Gives (λ x. x) r (option_or o rest) v) (sym e) g
