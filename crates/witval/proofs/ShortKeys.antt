-- A witness that is read of a tree has short keys, since they are keys of the tree; so has one with some of its invariants.
use Rattle.std.proofs.Common.{◌≤◌, ◌+◌, ℕ, List, [], ◌∷◌, length, map, Bool, true, false, Option, Some, None, IfSome, Ok, codes, sym, subst}
use Rattle.std.specs.Prelude.{unwrap_or, option_and_then, if◌then◌else◌}
use Rattle.std.specs.List.{AllByRecursion}
use Rattle.std.specs.Str.{bytes_eq, chars}
use Rattle.wv_schema.specs.Paths.{map_of, pairs_in, value_of}
use Rattle.wv_schema.specs.Schema.{IsAnswer}
use Rattle.wv_schema.specs.Values.{all_items, all_pairs, entry_by, entry_in, hash_in, map_at, metadata_in, witness_in}
use Rattle.wv_schema.specs.declared.witness.Entry.{Entry}
use Rattle.wv_schema.specs.declared.witness.Witness.{Witness}
use Rattle.wv_yaml.specs.Canon.{Fits, ItemsFit, PairsFit}
use Rattle.wv_yaml.specs.Document.{max_depth}
use Rattle.wv_yaml.specs.declared.tree.Tree.{Tree, Text, List', Map', Row_of-Tree, end_of-Tree, more_of-Tree, Row_of-Pair, end_of-Pair, more_of-Pair, items-the_row-Tree, items-the_row-Pair}
use Rattle.wv_yaml.specs.declared.tree.Pair.{Pair}
use Rattle.yaml_scalars.specs.Tokens.{max_key}
use Rattle.witval.specs.Weeding.{claims_of, kept_entries, kept_in}
use Rattle.witval.specs.inside.Keys.{AreShort, HasShortKeys, IsShort}

abbrev FitsSome : Tree → Type 0
FitsSome t = (e : ℕ) × Fits e t

-- a pair with a short key, and a value that fits
abbrev IsFit : Pair → Type 0
IsFit p = (length (chars p.key) ≤ max_key) × FitsSome p.value

abbrev AreFit : List Pair → Type 0
AreFit ps = AllByRecursion IsFit ps

row_fits : {m : _} (row : Row_of-Pair m) (e : ℕ) → PairsFit e row → AreFit (items-the_row-Pair _ row)
row_fits end_of-Pair e h = tt
row_fits (more_of-Pair k v rest) e h = ((h.0, (e, h.1.0)), row_fits rest e h.1.1)

pairs_fit : (t : Tree) (e : ℕ) → Fits e t → AreFit (unwrap_or (pairs_in t) [])
pairs_fit (Text v) e h = tt
pairs_fit (List' s row) e h = tt
pairs_fit (Map' s row) e h = row_fits row h.0 h.2

all_fit : (t : Tree) (e : ℕ) → Fits e t → AreFit (all_pairs t)
unfolding all_pairs
all_fit t e h = pairs_fit t e h

either_fits : (b : Bool) (t : Tree) (o : Option Tree) → FitsSome t → IfSome o FitsSome → IfSome (if b then Some t else o) FitsSome
either_fits true t o h k = h
either_fits false t o h k = k

-- what stands at a key of such a map
value_fits : (key : List ℕ) (ps : List Pair) → AreFit ps → IfSome (value_of key ps) FitsSome
value_fits key [] h = tt
value_fits key (p ∷ ps) h = either_fits (bytes_eq p.key key) p.value (value_of key ps) h.0.1 (value_fits key ps h.1)

found_fits : (o : Option Tree) → IfSome o FitsSome → AreFit (unwrap_or (option_and_then pairs_in o) [])
found_fits None h = tt
found_fits (Some t) h = pairs_fit t h.0 h.1

map_fits : (key : List ℕ) (ps : List Pair) → AreFit ps → AreFit (map_at key ps)
unfolding map_at map_of
map_fits key ps h = found_fits (value_of key ps) (value_fits key ps h)

hashes_short : (ps : List Pair) → AreFit ps → AllByRecursion IsShort (map hash_in ps)
hashes_short [] h = tt
hashes_short (p ∷ ps) h = (h.0.0, hashes_short ps h.1)

metadata_short : (ps : List Pair) → AreFit ps → AllByRecursion IsShort (metadata_in ps).input_hashes
unfolding metadata_in
metadata_short ps h =
    let task : AreFit (map_at (codes "task") ps) = map_fits (codes "task") ps h in
    hashes_short _ (map_fits (codes "input_file_hashes") (map_at (codes "task") ps) task)

entry_short : (t : Tree) (e : ℕ) → Fits e t → AreShort (entry_in t)
unfolding entry_in entry_by
entry_short t e h = metadata_short _ (map_fits (codes "metadata") (all_pairs t) (all_fit t e h))

row_short : {m : _} (row : Row_of-Tree m) (e : ℕ) → ItemsFit e row → AllByRecursion AreShort (map entry_in (items-the_row-Tree _ row))
row_short end_of-Tree e h = tt
row_short (more_of-Tree t rest) e h = (entry_short t e h.0, row_short rest e h.1)

tree_short : (t : Tree) (e : ℕ) → Fits e t → AllByRecursion AreShort (map entry_in (all_items t))
tree_short (Text v) e h = tt
tree_short (List' s row) e h = row_short row h.0 h.2
tree_short (Map' s row) e h = tt

witness_short : (t : Tree) (e : ℕ) → Fits e t → HasShortKeys (witness_in t)
unfolding witness_in
witness_short t e h = tree_short t e h

-- the witness that is read of a tree which fits
pub read_short : (t : Tree) (w : Witness) → Fits max_depth t → IsAnswer t (Ok w) → HasShortKeys w
read_short t w h answer = subst HasShortKeys (sym answer.1) (witness_short t max_depth h)

entries_short : (i : ℕ) (ns : List ℕ) (es : List Entry) → AllByRecursion AreShort es → AllByRecursion AreShort (kept_entries i ns es)
entries_short i ns [] h = tt
entries_short i ns (e ∷ es) h = (h.0, entries_short (i + claims_of e.content) ns es h.1)

pub kept_short : (ns : List ℕ) (w : Witness) → HasShortKeys w → HasShortKeys (kept_in ns w)
kept_short ns w h = entries_short 1 ns w.entries h
