-- The items of a list and the pairs of a map, as lists.
use Rattle.std.proofs.Common.{◌≡◌, List, [], refl, sym, ap, ◌∙◌}
use Rattle.wv_yaml.specs.declared.tree.Tree.{Tree, Text, List', Map', items-the_row-Tree, items-the_row-Pair, items_shown-the_row-Tree-0, items_hidden-the_row-Tree-0, items_shown-the_row-Pair-1, items_hidden-the_row-Pair-1, roll-Tree, roll-out-Tree}
use Rattle.wv_yaml.specs.declared.tree.Pair.{Pair}
use Rattle.wv_yaml.specs.declared.tree.Tree.TheVariants as tree
use Rattle.wv_yaml.specs.declared.tree.Tree.TheVariants.{outs-List', outs-Map', rolls-List, rolls-Map}

abbrev pub items_of : Tree → List Tree
items_of (Text v) = []
items_of (List' s row) = items-the_row-Tree _ row
items_of (Map' s row) = []

abbrev pub pairs_of : Tree → List Pair
pairs_of (Text v) = []
pairs_of (List' s row) = []
pairs_of (Map' s row) = items-the_row-Pair _ row

-- the tree again, with its items as a list
abbrev pub relisted : Tree → Tree
relisted (Text v) = Text v
relisted (List' s row) = tree.List (items-the_row-Tree _ row)
relisted (Map' s row) = tree.Map (items-the_row-Pair _ row)

pub relisted_is : (t : Tree) → relisted t ≡ t
relisted_is (Text v) = refl
relisted_is (List' s row) =
    ap tree.List (sym (items_shown-the_row-Tree-0 s row)) ∙ sym (rolls-List _) ∙ ap roll-Tree (sym (outs-List' s row)) ∙ roll-out-Tree (List' s row)
relisted_is (Map' s row) =
    ap tree.Map (sym (items_shown-the_row-Pair-1 s row)) ∙ sym (rolls-Map _) ∙ ap roll-Tree (sym (outs-Map' s row)) ∙ roll-out-Tree (Map' s row)

pub items_of_list : (xs : List Tree) → items_of (tree.List xs) ≡ xs
items_of_list xs = items_hidden-the_row-Tree-0 xs

pub pairs_of_map : (ps : List Pair) → pairs_of (tree.Map ps) ≡ ps
pairs_of_map ps = items_hidden-the_row-Pair-1 ps
