use Rattle.std.proofs.Common.{◌≡◌, [], take, drop, map}
use Rattle.wv_schema.specs.Judging.{items_fault}
use Rattle.wv_schema.specs.Values.{entry_in}
use Rattle.wv_schema.specs.Schema.{entry_fault}
use Rattle.wv_schema.proofs.entry.entries_of.Given as goal

abbrev pub invariant-loop-index : goal.invariant-loop-index
invariant-loop-index l = record {
  met : items_fault entry_fault [] l.index (drop l.index l.items) ≡ items_fault entry_fault [] 0 l.items;
  so_far : l.entries ≡ map entry_in (take l.index l.items);
}
