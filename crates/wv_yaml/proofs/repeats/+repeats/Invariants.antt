use Rattle.std.proofs.Common.{◌≡◌, drop}
use Rattle.wv_yaml.specs.Repeats.{items_repeat, values_repeat}
use Rattle.wv_yaml.proofs.repeats.+repeats.Given as goal

abbrev pub invariant-do_items_repeat-loop-item : goal.invariant-do_items_repeat-loop-item
invariant-do_items_repeat-loop-item l = items_repeat (drop l.item-index l.items) ≡ items_repeat l.items

abbrev pub invariant-do_values_repeat-loop-pair : goal.invariant-do_values_repeat-loop-pair
invariant-do_values_repeat-loop-pair l = values_repeat (drop l.pair-index l.pairs) ≡ values_repeat l.pairs
