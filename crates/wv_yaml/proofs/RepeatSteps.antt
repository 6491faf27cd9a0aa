-- Where the code looks for repeated keys.
use Rattle.std.proofs.Common.{◌≡◌, ℕ, suc, ◌+◌, ◌<◌, List, [], ◌∷◌, ◌++◌, length, take, drop, get_or, Bool, true, false, ◌||◌, refl, sym, ap, ◌∙◌, drop-cons, add-one}
use Rattle.std.specs.List.{list_any}
use Rattle.std.proofs.lemmas.List.{take_more}
use Rattle.wv_yaml.specs.declared.tree.Tree.{Tree, Text, Row_of-Tree, end_of-Tree, more_of-Tree, Row_of-Pair, end_of-Pair, more_of-Pair, items-the_row-Tree, items-the_row-Pair}
use Rattle.wv_yaml.specs.declared.tree.Tree.TheVariants as tree
use Rattle.wv_yaml.specs.declared.tree.Pair.{Pair}
use Rattle.wv_yaml.specs.Repeats.{has_key_of, repeats_after, repeats, item_repeats, value_repeats, items_repeat, values_repeat}
use Rattle.wv_yaml.proofs.TreeRows.{items_of_list, pairs_of_map}
use Rattle.wv_yaml.proofs.WriteSteps.{row_of_items, row_of_pairs}

split_at : (ps : List Pair) (i : ℕ) (p : Pair) → i < length ps → p ≡ get_or ps i p → drop i ps ≡ p ∷ drop (i + 1) ps
split_at ps i p lt is = drop-cons ps i p lt ∙ ap (λ x. x ∷ drop (suc i) ps) (sym is) ∙ ap (λ k. p ∷ drop k ps) (sym (add-one i))

taken_more : (ps : List Pair) (i : ℕ) (p : Pair) → i < length ps → p ≡ get_or ps i p → take (i + 1) ps ≡ take i ps ++ p ∷ []
taken_more ps i p lt is = take_more ps i p lt ∙ ap (λ x. take i ps ++ x ∷ []) (sym is)

-- a key that was seen
pub found_before : (ps : List Pair) (i : ℕ) (p : Pair) → i < length ps → p ≡ get_or ps i p → list_any (has_key_of p.key) (take i ps) ≡ true → repeats_after (take i ps) (drop i ps) ≡ true
found_before ps i p lt is e = ap (repeats_after (take i ps)) (split_at ps i p lt is) ∙ ap (λ b. b || repeats_after (take i ps ++ p ∷ []) (drop (i + 1) ps)) e

-- one that was not
pub none_before : (ps : List Pair) (i : ℕ) (p : Pair) → i < length ps → p ≡ get_or ps i p → list_any (has_key_of p.key) (take i ps) ≡ false →
    repeats_after (take (i + 1) ps) (drop (i + 1) ps) ≡ repeats_after (take i ps) (drop i ps)
none_before ps i p lt is e =
    ap (λ xs. repeats_after xs (drop (i + 1) ps)) (taken_more ps i p lt is)
    ∙ sym (ap (repeats_after (take i ps)) (split_at ps i p lt is) ∙ ap (λ b. b || repeats_after (take i ps ++ p ∷ []) (drop (i + 1) ps)) e)

-- the test over one pair more
pub any_more : (f : Pair → Bool) (ps : List Pair) (i : ℕ) (p : Pair) → i < length ps → p ≡ get_or ps i p → list_any f (take (i + 1) ps) ≡ (f p || list_any f (take i ps))
any_more f ps i p lt is = ap (list_any f) (taken_more ps i p lt is) ∙ pushed (take i ps)
  where
    swapped : (a b c : Bool) → (a || (b || c)) ≡ (b || (a || c))
    swapped true true c = refl
    swapped true false c = refl
    swapped false b c = refl

    pushed : (xs : List Pair) → list_any f (xs ++ p ∷ []) ≡ (f p || list_any f xs)
    pushed [] = refl
    pushed (x ∷ xs) = ap (λ b. f x || b) (pushed xs) ∙ swapped (f x) (f p) (list_any f xs)

items_row : {m : _} (row : Row_of-Tree m) → item_repeats row ≡ items_repeat (items-the_row-Tree _ row)
unfolding repeats
items_row end_of-Tree = refl
items_row (more_of-Tree t rest) = ap (λ b. repeats t || b) (items_row rest)

values_row : {m : _} (row : Row_of-Pair m) → value_repeats row ≡ values_repeat (items-the_row-Pair _ row)
unfolding repeats
values_row end_of-Pair = refl
values_row (more_of-Pair k v rest) = ap (λ b. repeats v || b) (values_row rest)

pub text_repeats : (v : List ℕ) → repeats (tree.Text v) ≡ false
unfolding repeats
text_repeats v = refl

pub list_repeats : (xs : List Tree) → repeats (tree.List xs) ≡ items_repeat xs
unfolding repeats
list_repeats xs = items_row {m = (row_of_items (tree.List xs)).0} (row_of_items (tree.List xs)).1 ∙ ap items_repeat (items_of_list xs)

pub map_repeats : (ps : List Pair) → repeats (tree.Map ps) ≡ (repeats_after [] ps || values_repeat ps)
unfolding repeats
map_repeats ps =
    ap (λ (qs : List Pair). repeats_after [] qs || value_repeats (row_of_pairs (tree.Map ps)).1) (pairs_of_map ps)
    ∙ ap (λ b. repeats_after [] ps || b) (values_row {m = (row_of_pairs (tree.Map ps)).0} (row_of_pairs (tree.Map ps)).1 ∙ ap values_repeat (pairs_of_map ps))
