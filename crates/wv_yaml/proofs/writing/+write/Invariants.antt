use Rattle.std.proofs.Common.{◌≡◌, ◌+◌, ◌*◌, ◌++◌, drop, true}
use Rattle.std.specs.List.{AllByRecursion}
use Rattle.std.specs.String.{string_bytes}
use Rattle.wv_yaml.specs.Canon.{items_bytes, pairs_bytes, InUtf8, PairInUtf8}
use Rattle.wv_yaml.proofs.writing.+write.Given as goal

abbrev pub decreases-write_value : goal.decreases-write_value
decreases-write_value l = 2 * l.depth

abbrev pub decreases-write_items : goal.decreases-write_items
decreases-write_items l = 2 * l.depth + 1

abbrev pub decreases-write_pairs : goal.decreases-write_pairs
decreases-write_pairs l = 2 * l.depth + 1

abbrev pub invariant-write_items-loop-item : goal.invariant-write_items-loop-item
invariant-write_items-loop-item l = record {
  text : string_bytes l.out ++ items_bytes l.column l.is_first (drop l.item-index l.items) ≡ string_bytes l.fn.out ++ items_bytes l.column true l.items;
  utf8 : AllByRecursion (λ t. InUtf8 t) (drop l.item-index l.items) → AllByRecursion (λ t. InUtf8 t) l.items;
}

abbrev pub invariant-write_pairs-loop-pair : goal.invariant-write_pairs-loop-pair
invariant-write_pairs-loop-pair l = record {
  text : string_bytes l.out ++ pairs_bytes l.column l.is_first (drop l.pair-index l.pairs) ≡ string_bytes l.fn.out ++ pairs_bytes l.column true l.pairs;
  utf8 : AllByRecursion (λ p. PairInUtf8 p) (drop l.pair-index l.pairs) → AllByRecursion (λ p. PairInUtf8 p) l.pairs;
}
