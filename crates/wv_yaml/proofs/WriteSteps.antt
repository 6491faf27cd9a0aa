-- What the writer appends, item by item and pair by pair.
use Rattle.std.proofs.Common.{◌≡◌, ℕ, suc, ◌+◌, ◌<◌, List, [], ◌∷◌, ◌++◌, length, drop, get_or, Bool, true, false, refl, sym, ap, ◌∙◌, subst, cond, append_assoc, arith, not, drop-cons, add-one, ◌==◌}
use Rattle.std.proofs.lemmas.Bool.{eqb-true}
use mathlib.Core.Former.{Count}
use Rattle.std.specs.List.{AllByRecursion}
use Rattle.wv_yaml.specs.declared.tree.Tree.{Tree, Text, List', Map', Row_of-Tree, end_of-Tree, more_of-Tree, Row_of-Pair, end_of-Pair, more_of-Pair, items-the_row-Tree, items-the_row-Pair}
use Rattle.wv_yaml.specs.declared.tree.Pair.{Pair}
use Rattle.wv_yaml.specs.declared.tree.Tree.TheVariants as tree
use Rattle.yaml_lines.specs.Marks.{is_end}
use Rattle.wv_yaml.specs.Canon.{form, items_form, pairs_form, items_bytes, pairs_bytes, has_items, has_pairs, is_inline, lead, after_colon, key_text, is_place, Fits, ItemsFit, PairsFit, PairFits, text_form, bytes_are}
use Rattle.wv_yaml.proofs.TreeRows.{items_of_list, pairs_of_map}

items_rows : {m : _} (row : Row_of-Tree m) (n : ℕ) (first : Bool) → items_form n first row ≡ items_bytes n first (items-the_row-Tree _ row)
unfolding form
items_rows end_of-Tree n first = refl
items_rows (more_of-Tree t rest) n first = ap (λ xs. lead n first ++ (45 ∷ 32 ∷ (form (n + 2) false t ++ xs))) (items_rows rest n false)

pairs_rows : {m : _} (row : Row_of-Pair m) (n : ℕ) (first : Bool) → pairs_form n first row ≡ pairs_bytes n first (items-the_row-Pair _ row)
unfolding form
pairs_rows end_of-Pair n first = refl
pairs_rows (more_of-Pair k v rest) n first =
    ap (λ xs. lead n first ++ (key_text k ++ (58 ∷ (after_colon (n + 2) (is_inline v) ++ (form (n + 2) (is_place k) v ++ xs))))) (pairs_rows rest n false)

some_items : {m : _} (row : Row_of-Tree m) → has_items row ≡ not (is_end (items-the_row-Tree _ row))
some_items end_of-Tree = refl
some_items (more_of-Tree t rest) = refl

some_pairs : {m : _} (row : Row_of-Pair m) → has_pairs row ≡ not (is_end (items-the_row-Pair _ row))
some_pairs end_of-Pair = refl
some_pairs (more_of-Pair k v rest) = refl

abbrev pub row_of_items : Tree → (m : Count) × Row_of-Tree m
row_of_items (Text v) = (_, end_of-Tree)
row_of_items (List' s row) = (_, row)
row_of_items (Map' s row) = (_, end_of-Tree)

abbrev pub row_of_pairs : Tree → (m : Count) × Row_of-Pair m
row_of_pairs (Text v) = (_, end_of-Pair)
row_of_pairs (List' s row) = (_, end_of-Pair)
row_of_pairs (Map' s row) = (_, row)

items_there : (xs : List Tree) → has_items (row_of_items (tree.List xs)).1 ≡ not (is_end xs)
items_there xs = some_items {m = (row_of_items (tree.List xs)).0} (row_of_items (tree.List xs)).1 ∙ ap (λ (ys : List Tree). not (is_end ys)) (items_of_list xs)

pairs_there : (ps : List Pair) → has_pairs (row_of_pairs (tree.Map ps)).1 ≡ not (is_end ps)
pairs_there ps = some_pairs {m = (row_of_pairs (tree.Map ps)).0} (row_of_pairs (tree.Map ps)).1 ∙ ap (λ (ys : List Pair). not (is_end ys)) (pairs_of_map ps)

-- the form of a list and of a map
pub list_form : (n : ℕ) (bare : Bool) (xs : List Tree) → form n bare (tree.List xs) ≡ cond (not (is_end xs)) (items_bytes n true xs) (91 ∷ 93 ∷ 10 ∷ [])
unfolding form
list_form n bare xs =
    ap (λ (b : Bool). cond b (items_form n true (row_of_items (tree.List xs)).1) (91 ∷ 93 ∷ 10 ∷ [])) (items_there xs)
    ∙ ap (λ (ys : List ℕ). cond (not (is_end xs)) ys (91 ∷ 93 ∷ 10 ∷ []))
    (items_rows {m = (row_of_items (tree.List xs)).0} (row_of_items (tree.List xs)).1 n true ∙ ap (items_bytes n true) (items_of_list xs))

pub map_form : (n : ℕ) (bare : Bool) (ps : List Pair) → form n bare (tree.Map ps) ≡ cond (not (is_end ps)) (pairs_bytes n true ps) (123 ∷ 125 ∷ 10 ∷ [])
unfolding form
map_form n bare ps =
    ap (λ (b : Bool). cond b (pairs_form n true (row_of_pairs (tree.Map ps)).1) (123 ∷ 125 ∷ 10 ∷ [])) (pairs_there ps)
    ∙ ap (λ (ys : List ℕ). cond (not (is_end ps)) ys (123 ∷ 125 ∷ 10 ∷ []))
    (pairs_rows {m = (row_of_pairs (tree.Map ps)).0} (row_of_pairs (tree.Map ps)).1 n true ∙ ap (pairs_bytes n true) (pairs_of_map ps))

double_not : (b : Bool) → not (not b) ≡ b
double_not true = refl
double_not false = refl

pub list_inline : (xs : List Tree) → is_inline (tree.List xs) ≡ is_end xs
list_inline xs = ap not (items_there xs) ∙ double_not (is_end xs)

pub map_inline : (ps : List Pair) → is_inline (tree.Map ps) ≡ is_end ps
map_inline ps = ap not (pairs_there ps) ∙ double_not (is_end ps)

pub end_by : {X : Type 0} (xs : List X) (b : Bool) → b ≡ (length xs == 0) → b ≡ is_end xs
end_by [] b e = e
end_by (x ∷ xs) b e = e ∙ more (length xs)
  where
    more : (n : ℕ) → (suc n == 0) ≡ false
    more n = false_of (suc n == 0) (λ h. absurd (no_zero n (eqb-true (suc n) 0 h)))
      where
        no_zero : (n : ℕ) → suc n ≡ 0 → ⊥
        no_zero n h = omega arith

        false_of : (b : Bool) → (b ≡ true → ⊥) → b ≡ false
        false_of true h = absurd (h refl)
        false_of false h = refl

-- collections that fit
items_fit : {m : _} (row : Row_of-Tree m) (e : ℕ) → ItemsFit e row → AllByRecursion (λ t. Fits e t) (items-the_row-Tree _ row)
items_fit end_of-Tree e w = tt
items_fit (more_of-Tree t rest) e w = (w.0, items_fit rest e w.1)

pairs_fit : {m : _} (row : Row_of-Pair m) (e : ℕ) → PairsFit e row → AllByRecursion (λ p. PairFits e p) (items-the_row-Pair _ row)
pairs_fit end_of-Pair e w = tt
pairs_fit (more_of-Pair k v rest) e w = ((w.0, w.1.0), pairs_fit rest e w.1.1)

pub list_fits : (xs : List Tree) (d : ℕ) → Fits d (tree.List xs) → (e : ℕ) × (d ≡ suc e) × AllByRecursion (λ t. Fits e t) xs
list_fits xs d w = (w.0, w.1, subst (λ ys. AllByRecursion (λ t. Fits w.0 t) ys) (items_of_list xs) (items_fit {m = (row_of_items (tree.List xs)).0} (row_of_items (tree.List xs)).1 w.0 w.2))

pub map_fits : (ps : List Pair) (d : ℕ) → Fits d (tree.Map ps) → (e : ℕ) × (d ≡ suc e) × AllByRecursion (λ p. PairFits e p) ps
map_fits ps d w = (w.0, w.1, subst (λ ys. AllByRecursion (λ p. PairFits w.0 p) ys) (pairs_of_map ps) (pairs_fit {m = (row_of_pairs (tree.Map ps)).0} (row_of_pairs (tree.Map ps)).1 w.0 w.2))

-- one item more
pub item_out : (n : ℕ) (first : Bool) (xs : List Tree) (i : ℕ) (t : Tree) (o1 o2 o3 o4 : List ℕ) → i < length xs → t ≡ get_or xs i t →
    o2 ≡ o1 ++ lead n first → o3 ≡ o2 ++ (45 ∷ 32 ∷ []) → o4 ≡ o3 ++ form (n + 2) false t →
    o4 ++ items_bytes n false (drop (i + 1) xs) ≡ o1 ++ items_bytes n first (drop i xs)
item_out n first xs i t o1 o2 o3 o4 lt m a b c =
    let W : List ℕ = form (n + 2) false t in
    let R : List ℕ = items_bytes n false (drop (i + 1) xs) in
    let here : drop i xs ≡ t ∷ drop (i + 1) xs = drop-cons xs i t lt ∙ ap (λ x. x ∷ drop (suc i) xs) (sym m) ∙ ap (λ k. t ∷ drop k xs) (sym (add-one i)) in
    ap (λ x. x ++ R) (c ∙ ap (λ x. x ++ W) (b ∙ ap (λ x. x ++ (45 ∷ 32 ∷ [])) a))
    ∙ append_assoc ((o1 ++ lead n first) ++ (45 ∷ 32 ∷ [])) W R ∙ append_assoc (o1 ++ lead n first) (45 ∷ 32 ∷ []) (W ++ R) ∙ append_assoc o1 (lead n first) (45 ∷ 32 ∷ (W ++ R))
    ∙ ap (λ ys. o1 ++ items_bytes n first ys) (sym here)

pub list_out : (n : ℕ) (bare : Bool) (xs slice : List Tree) (t : Tree) → slice ≡ xs → t ≡ tree.List xs → is_end xs ≡ false → items_bytes n true slice ≡ form n bare t
list_out n bare xs slice t s h e =
    ap (items_bytes n true) s ∙ sym (ap (form n bare) h ∙ list_form n bare xs ∙ ap (λ (b : Bool). cond (not b) (items_bytes n true xs) (91 ∷ 93 ∷ 10 ∷ [])) e)

pub list_empty : (n : ℕ) (bare : Bool) (xs : List Tree) (t : Tree) → t ≡ tree.List xs → is_end xs ≡ true → form n bare t ≡ 91 ∷ 93 ∷ 10 ∷ []
list_empty n bare xs t h e = ap (form n bare) h ∙ list_form n bare xs ∙ ap (λ (b : Bool). cond (not b) (items_bytes n true xs) (91 ∷ 93 ∷ 10 ∷ [])) e

pub map_out : (n : ℕ) (bare : Bool) (ps slice : List Pair) (t : Tree) → slice ≡ ps → t ≡ tree.Map ps → is_end ps ≡ false → pairs_bytes n true slice ≡ form n bare t
map_out n bare ps slice t s h e =
    ap (pairs_bytes n true) s ∙ sym (ap (form n bare) h ∙ map_form n bare ps ∙ ap (λ (b : Bool). cond (not b) (pairs_bytes n true ps) (123 ∷ 125 ∷ 10 ∷ [])) e)

pub map_empty : (n : ℕ) (bare : Bool) (ps : List Pair) (t : Tree) → t ≡ tree.Map ps → is_end ps ≡ true → form n bare t ≡ 123 ∷ 125 ∷ 10 ∷ []
map_empty n bare ps t h e = ap (form n bare) h ∙ map_form n bare ps ∙ ap (λ (b : Bool). cond (not b) (pairs_bytes n true ps) (123 ∷ 125 ∷ 10 ∷ [])) e

pub text_out : (n : ℕ) (bare : Bool) (v : List ℕ) (t : Tree) (out mid new : List ℕ) → t ≡ Text v → mid ≡ out ++ text_form bare v → new ≡ mid ++ (10 ∷ []) → new ≡ out ++ form n bare t
unfolding form
text_out n bare v t out mid new h a b =
    b ∙ ap (λ xs. xs ++ (10 ∷ [])) a ∙ append_assoc out (text_form bare v) (10 ∷ []) ∙ ap (λ (x : Tree). out ++ form n bare x) (sym h)

pub none_left : {X : Type 0} (xs : List X) (n : ℕ) → n ≡ length xs → n ≡ 0 → is_end xs ≡ true
none_left [] n e h = refl
none_left (x ∷ xs) n e h = absurd (omega (arith, e, h))

pub some_here : {X : Type 0} (xs : List X) (n : ℕ) → n ≡ length xs → (n ≡ 0 → ⊥) → is_end xs ≡ false
some_here [] n e h = absurd (h e)
some_here (x ∷ xs) n e h = refl

pub longer : (xs ys : List ℕ) → 0 < length xs → length ys ≡ 0 → bytes_are xs ys ≡ false
longer [] ys h e = absurd (omega arith)
longer (x ∷ xs) [] h e = refl
longer (x ∷ xs) (y ∷ ys) h e = absurd (omega (arith, e))
