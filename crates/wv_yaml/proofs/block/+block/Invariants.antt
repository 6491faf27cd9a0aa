use Rattle.std.proofs.Common.{◌≡◌, ◌+◌, ◌*◌, length, true, All}
use Rattle.yaml_lines.specs.Line.{IsSmall}
use Rattle.wv_yaml.specs.Block.{is_item, is_pair, item, pair, block}
use Rattle.wv_yaml.specs.Inline.{key_bytes, inline}
use Rattle.yaml_scalars.proofs.TokenSteps.{together}
use Rattle.wv_yaml.proofs.Entries.{entries_from}
use Rattle.wv_yaml.proofs.block.+block.Given as goal

abbrev pub decreases-below_of : goal.decreases-below_of
decreases-below_of l = 8 * l.depth + 1

abbrev pub decreases-block_of : goal.decreases-block_of
decreases-block_of l = 8 * l.depth

abbrev pub decreases-entry_value : goal.decreases-entry_value
decreases-entry_value l = 8 * l.depth + 2

abbrev pub decreases-item_of : goal.decreases-item_of
decreases-item_of l = 8 * l.depth + 3

abbrev pub decreases-mapping_of : goal.decreases-mapping_of
decreases-mapping_of l = 8 * l.depth + 4

abbrev pub decreases-pair_of_lines : goal.decreases-pair_of_lines
decreases-pair_of_lines l = 8 * l.depth + 3

abbrev pub decreases-pair_value : goal.decreases-pair_value
decreases-pair_value l = 8 * l.depth + 2

abbrev pub decreases-sequence_of : goal.decreases-sequence_of
decreases-sequence_of l = 8 * l.depth + 4

abbrev pub invariant-mapping_of-loop-pairs : goal.invariant-mapping_of-loop-pairs
invariant-mapping_of-loop-pairs l =
    let f = pair (inline l.depth) key_bytes (block inline key_bytes l.depth) in
    record {
      here : is_pair l.indent l.head ≡ true;
      column : IsSmall l.head;
      columns : All IsSmall l.left;
      same : together l.pairs (entries_from (is_pair l.indent) (f l.indent) l.head l.left) ≡ entries_from (is_pair l.first.indent) (f l.first.indent) l.first l.rest;
    }

abbrev pub decreases-mapping_of-loop-pairs : goal.decreases-mapping_of-loop-pairs
decreases-mapping_of-loop-pairs l = length l.left

abbrev pub invariant-sequence_of-loop-items : goal.invariant-sequence_of-loop-items
invariant-sequence_of-loop-items l =
    let f = item (inline l.depth) key_bytes (block inline key_bytes l.depth) in
    record {
      here : is_item l.indent l.head ≡ true;
      column : IsSmall l.head;
      columns : All IsSmall l.left;
      same : together l.items (entries_from (is_item l.indent) (f l.indent) l.head l.left) ≡ entries_from (is_item l.first.indent) (f l.first.indent) l.first l.rest;
    }

abbrev pub decreases-sequence_of-loop-items : goal.decreases-sequence_of-loop-items
decreases-sequence_of-loop-items l = length l.left
