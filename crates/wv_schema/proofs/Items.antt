-- Items that are judged one after another.
use Rattle.std.proofs.Common.{◌≡◌, ℕ, ◌+◌, ◌<◌, List, [], ◌∷◌, ◌++◌, length, take, drop, get_or, map, Option, None, sym, ap, ◌∙◌}
use Rattle.std.specs.Option.{option_or}
use Rattle.std.proofs.lemmas.List.{take_more, map_push}
use Rattle.wv_yaml.specs.declared.tree.Tree.{Tree}
use Rattle.wv_schema.specs.declared.fault.SchemaFault.{SchemaFault}
use Rattle.wv_schema.specs.Paths.{item_place}
use Rattle.wv_schema.specs.Judging.{items_fault}
use Rattle.wv_schema.proofs.Finding.{split_at}

pub items_split : (f : List ℕ → Tree → Option SchemaFault) (at : List ℕ) (xs : List Tree) (i : ℕ) (x : Tree) → i < length xs → x ≡ get_or xs i x →
    items_fault f at i (drop i xs) ≡ option_or (f (item_place at i) x) (items_fault f at (i + 1) (drop (i + 1) xs))
items_split f at xs i x lt is = ap (items_fault f at i) (split_at xs i x lt is)

-- an item without a fault
pub items_pass : (f : List ℕ → Tree → Option SchemaFault) (at place : List ℕ) (xs : List Tree) (i : ℕ) (x : Tree) → i < length xs → x ≡ get_or xs i x → place ≡ item_place at i → f place x ≡ None →
    items_fault f at (i + 1) (drop (i + 1) xs) ≡ items_fault f at i (drop i xs)
items_pass f at place xs i x lt is p h =
    sym (items_split f at xs i x lt is ∙ ap (λ d. option_or d (items_fault f at (i + 1) (drop (i + 1) xs))) (ap (λ a. f a x) (sym p) ∙ h))

pub taken_more : {X : Type 0} (xs : List X) (i : ℕ) (x : X) → i < length xs → x ≡ get_or xs i x → take (i + 1) xs ≡ take i xs ++ x ∷ []
taken_more xs i x lt is = take_more xs i x lt ∙ ap (λ y. take i xs ++ y ∷ []) (sym is)

pub mapped_more : {X Y : Type 0} (f : X → Y) (xs : List X) (i : ℕ) (x : X) → i < length xs → x ≡ get_or xs i x → map f (take (i + 1) xs) ≡ map f (take i xs) ++ f x ∷ []
mapped_more f xs i x lt is = ap (map f) (taken_more xs i x lt is) ∙ map_push f (take i xs) x
