-- What is written has texts and keys in UTF-8, item by item and pair by pair.
use Rattle.std.proofs.Common.{◌≡◌, ℕ, suc, ◌+◌, ◌<◌, List, [], ◌∷◌, length, drop, get_or, true, sym, ap, ◌∙◌, subst, OnOk, Result, Ok, Err, drop-cons, add-one, true≢false}
use Rattle.std.specs.List.{AllByRecursion}
use Rattle.wv_yaml.specs.declared.tree.Tree.{Tree, Row_of-Tree, end_of-Tree, more_of-Tree, Row_of-Pair, end_of-Pair, more_of-Pair, items-the_row-Tree, items-the_row-Pair}
use Rattle.wv_yaml.specs.declared.tree.Pair.{Pair}
use Rattle.wv_yaml.specs.declared.tree.Tree.TheVariants as tree
use Rattle.yaml_lines.specs.Marks.{is_end}
use Rattle.wv_yaml.specs.Canon.{InUtf8, ItemsInUtf8, PairsInUtf8, PairInUtf8}
use Rattle.wv_yaml.proofs.TreeRows.{items_of_list, pairs_of_map}
use Rattle.wv_yaml.proofs.WriteSteps.{row_of_items, row_of_pairs}

items_utf8 : {m : _} (row : Row_of-Tree m) → AllByRecursion (λ t. InUtf8 t) (items-the_row-Tree _ row) → ItemsInUtf8 row
items_utf8 end_of-Tree h = tt
items_utf8 (more_of-Tree t rest) h = (h.0, items_utf8 rest h.1)

pairs_utf8 : {m : _} (row : Row_of-Pair m) → AllByRecursion (λ p. PairInUtf8 p) (items-the_row-Pair _ row) → PairsInUtf8 row
pairs_utf8 end_of-Pair h = tt
pairs_utf8 (more_of-Pair k v rest) h = (h.0.0, (h.0.1, pairs_utf8 rest h.1))

pub list_utf8 : (t : Tree) (xs : List Tree) → t ≡ tree.List xs → AllByRecursion (λ u. InUtf8 u) xs → InUtf8 t
list_utf8 t xs e h =
    subst (λ u. InUtf8 u) (sym e)
    (items_utf8 {m = (row_of_items (tree.List xs)).0} (row_of_items (tree.List xs)).1 (subst (λ ys. AllByRecursion (λ u. InUtf8 u) ys) (sym (items_of_list xs)) h))

pub map_utf8 : (t : Tree) (ps : List Pair) → t ≡ tree.Map ps → AllByRecursion (λ p. PairInUtf8 p) ps → InUtf8 t
map_utf8 t ps e h =
    subst (λ u. InUtf8 u) (sym e)
    (pairs_utf8 {m = (row_of_pairs (tree.Map ps)).0} (row_of_pairs (tree.Map ps)).1 (subst (λ qs. AllByRecursion (λ p. PairInUtf8 p) qs) (sym (pairs_of_map ps)) h))

pub none_of : {X : Type 0} (P : X → Type 0) (xs : List X) → is_end xs ≡ true → AllByRecursion P xs
none_of P [] e = tt
none_of P (x ∷ xs) e = absurd (true≢false (sym e))

pub on_ok : {X E : Type 0} (P Q : Type 0) (r : Result X E) → (P → Q) → OnOk r P → OnOk r Q
on_ok P Q (Ok x) f h = f h
on_ok P Q (Err e) f h = tt

-- one element more
pub one_more : {X : Type 0} (P : X → Type 0) (xs : List X) (i : ℕ) (x : X) → i < length xs → x ≡ get_or xs i x → P x → (AllByRecursion P (drop i xs) → AllByRecursion P xs) →
    AllByRecursion P (drop (i + 1) xs) → AllByRecursion P xs
one_more P xs i x lt m p f h =
    let here : drop i xs ≡ x ∷ drop (i + 1) xs = drop-cons xs i x lt ∙ ap (λ y. y ∷ drop (suc i) xs) (sym m) ∙ ap (λ k. x ∷ drop k xs) (sym (add-one i)) in
    f (subst (AllByRecursion P) (sym here) (p, h))
