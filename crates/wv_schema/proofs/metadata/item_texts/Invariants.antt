use Rattle.std.proofs.Common.{◌≡◌, take, drop, map}
use Rattle.wv_schema.specs.Judging.{items_fault, no_text_fault}
use Rattle.wv_schema.specs.Values.{text_or_empty}
use Rattle.wv_schema.proofs.metadata.item_texts.Given as goal

abbrev pub invariant-loop-index : goal.invariant-loop-index
invariant-loop-index l = record {
  met : items_fault no_text_fault l.at l.index (drop l.index l.items) ≡ items_fault no_text_fault l.at 0 l.items;
  so_far : l.texts ≡ map text_or_empty (take l.index l.items);
}
