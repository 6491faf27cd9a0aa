-- Repeated keys.
use Rattle.std.specs.Prelude.{◌≡◌, ℕ, List, [], ◌∷◌, ◌++◌, Bool, false, ◌||◌, ◌⊎◌, bytes_eq}
use Rattle.std.specs.List.{list_any}
use Rattle.wv_yaml.specs.declared.tree.Tree.{Tree, Text, List', Map', Row_of-Tree, end_of-Tree, more_of-Tree, Row_of-Pair, end_of-Pair, more_of-Pair, items-the_row-Pair}
use Rattle.wv_yaml.specs.declared.tree.Pair.{Pair}

abbrev mutual
  -- one of the keys is this one
  pub HasKey : {m : _} → List ℕ → Row_of-Pair m → Type 0
  HasKey k end_of-Pair = ⊥
  HasKey k (more_of-Pair l v rest) = (l ≡ k) ⊎ HasKey k rest

abbrev mutual
  -- one of the tree's maps has two equal keys
  pub Repeats : Tree → Type 0
  Repeats (Text v) = ⊥
  Repeats (List' s row) = ItemRepeats row
  Repeats (Map' s row) = PairRepeats row

  -- a key comes twice in an item
  pub ItemRepeats : {m : _} → Row_of-Tree m → Type 0
  ItemRepeats end_of-Tree = ⊥
  ItemRepeats (more_of-Tree t rest) = Repeats t ⊎ ItemRepeats rest

  -- a key comes twice, among these pairs or in a value
  pub PairRepeats : {m : _} → Row_of-Pair m → Type 0
  PairRepeats end_of-Pair = ⊥
  PairRepeats (more_of-Pair k v rest) = HasKey k rest ⊎ (Repeats v ⊎ PairRepeats rest)

-- The same as tests.

abbrev pub has_key_of : List ℕ → Pair → Bool
has_key_of k p = bytes_eq p.key k

-- a key of these pairs stands among those before it, or among pairs that were seen
abbrev pub repeats_after : List Pair → List Pair → Bool
repeats_after seen [] = false
repeats_after seen (p ∷ ps) = list_any (has_key_of p.key) seen || repeats_after (seen ++ (p ∷ [])) ps

unfoldable mutual
  pub repeats : Tree → Bool
  repeats (Text v) = false
  repeats (List' s row) = item_repeats row
  repeats (Map' s row) = repeats_after [] (items-the_row-Pair _ row) || value_repeats row

  pub item_repeats : {m : _} → Row_of-Tree m → Bool
  item_repeats end_of-Tree = false
  item_repeats (more_of-Tree t rest) = repeats t || item_repeats rest

  pub value_repeats : {m : _} → Row_of-Pair m → Bool
  value_repeats end_of-Pair = false
  value_repeats (more_of-Pair k v rest) = repeats v || value_repeats rest

-- the same of the items of a list and the pairs of a map
abbrev pub items_repeat : List Tree → Bool
items_repeat [] = false
items_repeat (t ∷ ts) = repeats t || items_repeat ts

abbrev pub values_repeat : List Pair → Bool
values_repeat [] = false
values_repeat (p ∷ ps) = repeats p.value || values_repeat ps
