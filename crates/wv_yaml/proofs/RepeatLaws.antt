-- A tree's maps have two equal keys exactly where the test says so.
use Rattle.std.proofs.Common.{◌≡◌, ℕ, List, [], ◌∷◌, ◌++◌, Bool, true, false, ◌||◌, sym, ◌∙◌, inl, inr, ◌⊎◌}
use Rattle.std.specs.List.{list_any}
use Rattle.std.proofs.lemmas.Slice.Eq.{bytes_eq-Decides}
use Rattle.wv_yaml.specs.declared.tree.Tree.{Tree, Text, List', Map', Row_of-Tree, end_of-Tree, more_of-Tree, Row_of-Pair, end_of-Pair, more_of-Pair, items-the_row-Pair}
use Rattle.wv_yaml.specs.declared.tree.Pair.{Pair}
use Rattle.wv_yaml.specs.Repeats.{HasKey, Repeats, ItemRepeats, PairRepeats, has_key_of, repeats_after, repeats, item_repeats, value_repeats}
use Rattle.std.proofs.lemmas.Bool.{or_cases, or_left, or_right}

-- a test of some element, one element more being last
any_pushed : {X : Type 0} (f : X → Bool) (xs : List X) (x : X) → list_any f (xs ++ x ∷ []) ≡ true → (list_any f xs ≡ true) ⊎ (f x ≡ true)
any_pushed f [] x e = elim (or_cases (f x) false e) [ inl h ↦ inr h | inr h ↦ absurd (cc) ]
any_pushed f (y ∷ xs) x e =
    elim (or_cases (f y) _ e) [ inl h ↦ inl (or_left (f y) _ h) | inr h ↦ elim (any_pushed f xs x h) [ inl g ↦ inl (or_right (f y) _ g) | inr g ↦ inr g ] ]

any_old : {X : Type 0} (f : X → Bool) (xs : List X) (x : X) → list_any f xs ≡ true → list_any f (xs ++ x ∷ []) ≡ true
any_old f [] x e = absurd (cc)
any_old f (y ∷ xs) x e = elim (or_cases (f y) _ e) [ inl h ↦ or_left (f y) _ h | inr h ↦ or_right (f y) _ (any_old f xs x h) ]

any_new : {X : Type 0} (f : X → Bool) (xs : List X) (x : X) → f x ≡ true → list_any f (xs ++ x ∷ []) ≡ true
any_new f [] x e = or_left (f x) false e
any_new f (y ∷ xs) x e = or_right (f y) _ (any_new f xs x e)

-- one of the pairs has this key
abbrev AnyKey : List ℕ → List Pair → Type 0
AnyKey k [] = ⊥
AnyKey k (p ∷ ps) = (p.key ≡ k) ⊎ AnyKey k ps

-- two of the pairs have one key
abbrev KeysTwice : List Pair → Type 0
KeysTwice [] = ⊥
KeysTwice (p ∷ ps) = AnyKey p.key ps ⊎ KeysTwice ps

-- a key of the pairs was seen
abbrev Meets : List Pair → List Pair → Type 0
Meets seen [] = ⊥
Meets seen (p ∷ ps) = (list_any (has_key_of p.key) seen ≡ true) ⊎ Meets seen ps

meets_more : (seen : List Pair) (p : Pair) (ps : List Pair) → Meets (seen ++ p ∷ []) ps → Meets seen ps ⊎ AnyKey p.key ps
meets_more seen p [] h = absurd h
meets_more seen p (q ∷ qs) (inl h) =
    elim (any_pushed (has_key_of q.key) seen p h) [ inl e ↦ inl (inl e) | inr e ↦ inr (inl (sym ((bytes_eq-Decides p.key q.key).0 e))) ]
meets_more seen p (q ∷ qs) (inr h) = elim (meets_more seen p qs h) [ inl m ↦ inl (inr m) | inr a ↦ inr (inr a) ]

meets_old : (seen : List Pair) (p : Pair) (ps : List Pair) → Meets seen ps → Meets (seen ++ p ∷ []) ps
meets_old seen p [] h = absurd h
meets_old seen p (q ∷ qs) (inl h) = inl (any_old (has_key_of q.key) seen p h)
meets_old seen p (q ∷ qs) (inr h) = inr (meets_old seen p qs h)

meets_new : (seen : List Pair) (p : Pair) (ps : List Pair) → AnyKey p.key ps → Meets (seen ++ p ∷ []) ps
meets_new seen p [] h = absurd h
meets_new seen p (q ∷ qs) (inl e) = inl (any_new (has_key_of q.key) seen p ((bytes_eq-Decides p.key q.key).1 (sym e)))
meets_new seen p (q ∷ qs) (inr h) = inr (meets_new seen p qs h)

after_true : (seen ps : List Pair) → repeats_after seen ps ≡ true → Meets seen ps ⊎ KeysTwice ps
after_true seen [] e = absurd (cc)
after_true seen (p ∷ ps) e = elim (or_cases _ _ e) [ inl a ↦ inl (inl a) | inr b ↦ further (after_true (seen ++ p ∷ []) ps b) ]
  where
    further : Meets (seen ++ p ∷ []) ps ⊎ KeysTwice ps → Meets seen (p ∷ ps) ⊎ KeysTwice (p ∷ ps)
    further (inl m) = elim (meets_more seen p ps m) [ inl h ↦ inl (inr h) | inr a ↦ inr (inl a) ]
    further (inr k) = inr (inr k)

after_back : (seen ps : List Pair) → Meets seen ps ⊎ KeysTwice ps → repeats_after seen ps ≡ true
after_back seen [] (inl h) = absurd h
after_back seen [] (inr h) = absurd h
after_back seen (p ∷ ps) (inl (inl a)) = or_left _ _ a
after_back seen (p ∷ ps) (inl (inr m)) = or_right (list_any (has_key_of p.key) seen) _ (after_back (seen ++ p ∷ []) ps (inl (meets_old seen p ps m)))
after_back seen (p ∷ ps) (inr (inl a)) = or_right (list_any (has_key_of p.key) seen) _ (after_back (seen ++ p ∷ []) ps (inl (meets_new seen p ps a)))
after_back seen (p ∷ ps) (inr (inr k)) = or_right (list_any (has_key_of p.key) seen) _ (after_back (seen ++ p ∷ []) ps (inr k))

none_seen : (ps : List Pair) → Meets [] ps → ⊥
none_seen [] h = h
none_seen (p ∷ ps) (inl e) = absurd (cc)
none_seen (p ∷ ps) (inr h) = none_seen ps h

-- the pairs of a map as a row and as a list
key_there : {m : _} (row : Row_of-Pair m) (k : List ℕ) → HasKey k row → AnyKey k (items-the_row-Pair _ row)
key_there end_of-Pair k h = absurd h
key_there (more_of-Pair l v rest) k (inl e) = inl e
key_there (more_of-Pair l v rest) k (inr h) = inr (key_there rest k h)

key_back : {m : _} (row : Row_of-Pair m) (k : List ℕ) → AnyKey k (items-the_row-Pair _ row) → HasKey k row
key_back end_of-Pair k h = absurd h
key_back (more_of-Pair l v rest) k (inl e) = inl e
key_back (more_of-Pair l v rest) k (inr h) = inr (key_back rest k h)

-- one of the values repeats a key
abbrev ValueRepeats : {m : _} → Row_of-Pair m → Type 0
ValueRepeats end_of-Pair = ⊥
ValueRepeats (more_of-Pair k v rest) = Repeats v ⊎ ValueRepeats rest

pair_parts : {m : _} (row : Row_of-Pair m) → PairRepeats row → KeysTwice (items-the_row-Pair _ row) ⊎ ValueRepeats row
pair_parts end_of-Pair h = absurd h
pair_parts (more_of-Pair k v rest) (inl h) = inl (inl (key_there rest k h))
pair_parts (more_of-Pair k v rest) (inr (inl h)) = inr (inl h)
pair_parts (more_of-Pair k v rest) (inr (inr h)) = elim (pair_parts rest h) [ inl a ↦ inl (inr a) | inr b ↦ inr (inr b) ]

keys_in : {m : _} (row : Row_of-Pair m) → KeysTwice (items-the_row-Pair _ row) → PairRepeats row
keys_in end_of-Pair h = absurd h
keys_in (more_of-Pair k v rest) (inl h) = inl (key_back rest k h)
keys_in (more_of-Pair k v rest) (inr h) = inr (inr (keys_in rest h))

values_in : {m : _} (row : Row_of-Pair m) → ValueRepeats row → PairRepeats row
values_in end_of-Pair h = absurd h
values_in (more_of-Pair k v rest) (inl h) = inr (inl h)
values_in (more_of-Pair k v rest) (inr h) = inr (inr (values_in rest h))

map_true : {m : _} (row : Row_of-Pair m) → (value_repeats row ≡ true → ValueRepeats row) → (repeats_after [] (items-the_row-Pair _ row) || value_repeats row) ≡ true → PairRepeats row
map_true row values e =
    elim (or_cases _ _ e) [
      | inl a ↦ elim (after_true [] (items-the_row-Pair _ row) a) [ inl m ↦ absurd (none_seen _ m) | inr k ↦ keys_in row k ]
      | inr b ↦ values_in row (values b)
    ]

map_back : {m : _} (row : Row_of-Pair m) → (ValueRepeats row → value_repeats row ≡ true) → PairRepeats row → (repeats_after [] (items-the_row-Pair _ row) || value_repeats row) ≡ true
map_back row values h =
    elim (pair_parts row h) [
      | inl k ↦ or_left _ _ (after_back [] (items-the_row-Pair _ row) (inr k))
      | inr v ↦ or_right (repeats_after [] (items-the_row-Pair _ row)) _ (values v)
    ]

mutual
  unfolding repeats

  pub repeats_true : (t : Tree) → repeats t ≡ true → Repeats t
  repeats_true (Text v) e = absurd (cc)
  repeats_true (List' s row) e = items_true row e
  repeats_true (Map' s row) e = map_true row (values_true row) e

  items_true : {m : _} (row : Row_of-Tree m) → item_repeats row ≡ true → ItemRepeats row
  items_true end_of-Tree e = absurd (cc)
  items_true (more_of-Tree t rest) e = elim (or_cases _ _ e) [ inl a ↦ inl (repeats_true t a) | inr b ↦ inr (items_true rest b) ]

  values_true : {m : _} (row : Row_of-Pair m) → value_repeats row ≡ true → ValueRepeats row
  values_true end_of-Pair e = absurd (cc)
  values_true (more_of-Pair k v rest) e = elim (or_cases _ _ e) [ inl a ↦ inl (repeats_true v a) | inr b ↦ inr (values_true rest b) ]

mutual
  unfolding repeats

  repeats_back : (t : Tree) → Repeats t → repeats t ≡ true
  repeats_back (Text v) h = absurd h
  repeats_back (List' s row) h = items_back row h
  repeats_back (Map' s row) h = map_back row (values_back row) h

  items_back : {m : _} (row : Row_of-Tree m) → ItemRepeats row → item_repeats row ≡ true
  items_back end_of-Tree h = absurd h
  items_back (more_of-Tree t rest) (inl h) = or_left _ _ (repeats_back t h)
  items_back (more_of-Tree t rest) (inr h) = or_right (repeats t) _ (items_back rest h)

  values_back : {m : _} (row : Row_of-Pair m) → ValueRepeats row → value_repeats row ≡ true
  values_back end_of-Pair h = absurd h
  values_back (more_of-Pair k v rest) (inl h) = or_left _ _ (repeats_back v h)
  values_back (more_of-Pair k v rest) (inr h) = or_right (repeats v) _ (values_back rest h)

pub repeats_false : (t : Tree) → repeats t ≡ false → Repeats t → ⊥
repeats_false t e h = let two : true ≡ false = sym (repeats_back t h) ∙ e in absurd (cc)
