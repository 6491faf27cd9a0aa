-- What stands in a tree, by keys, and how its place is written.
use Rattle.std.specs.Prelude.{ℕ, List, [], ◌∷◌, ◌++◌, Option, Some, None, option_and_then, if◌then◌else◌, codes, decimal}
use Rattle.std.specs.Str.{bytes_eq}
use Rattle.wv_yaml.specs.declared.tree.Tree.{Tree, Text, List', Map', items-the_row-Tree, items-the_row-Pair}
use Rattle.wv_yaml.specs.declared.tree.Pair.{Pair}

-- a tree as a text, as the items of a list, as the pairs of a map
abbrev pub text_in : Tree → Option (List ℕ)
text_in (Text v) = Some v
text_in (List' s row) = None
text_in (Map' s row) = None

-- the items, if it is a list
abbrev pub items_in : Tree → Option (List Tree)
items_in (Text v) = None
items_in (List' s row) = Some (items-the_row-Tree _ row)
items_in (Map' s row) = None

-- the pairs, if it is a map
abbrev pub pairs_in : Tree → Option (List Pair)
pairs_in (Text v) = None
pairs_in (List' s row) = None
pairs_in (Map' s row) = Some (items-the_row-Pair _ row)

-- the value of a key
abbrev pub value_of : List ℕ → List Pair → Option Tree
value_of k [] = None
value_of k (p ∷ ps) = if bytes_eq p.key k then Some p.value else value_of k ps

-- the pairs of the map that stands at a key
unfoldable pub map_of : List ℕ → List Pair → Option (List Pair)
map_of k ps = option_and_then pairs_in (value_of k ps)

-- What stands at a key below these maps: nothing, because one of the maps isn't there; nothing in the last of them; or a tree.
pub data Found : Type 0 where
  Nowhere : Found
  Lacking : Found
  There : Tree → Found

-- it is there, or the map around it lacks it
abbrev pub found_there : Option Tree → Found
found_there None = Lacking
found_there (Some t) = There t

-- what is found in a map, if there is the map
abbrev pub found_below : (List Pair → Found) → Option (List Pair) → Found
found_below inside None = Nowhere
found_below inside (Some ps) = inside ps

-- the value of a key below these keys
abbrev pub found : List (List ℕ) → List ℕ → List Pair → Found
found [] key ps = found_there (value_of key ps)
found (k ∷ above) key ps = found_below (λ qs. found above key qs) (map_of k ps)

-- `at.key` and `at[n]`
abbrev pub key_place : List ℕ → List ℕ → List ℕ
key_place at key = at ++ codes "." ++ key

-- the path of an item
abbrev pub item_place : List ℕ → ℕ → List ℕ
item_place at n = at ++ codes "[" ++ decimal n ++ codes "]"

-- the path of a key below these keys
abbrev pub place_below : List ℕ → List (List ℕ) → List ℕ → List ℕ
place_below at [] key = key_place at key
place_below at (k ∷ above) key = place_below (key_place at k) above key
