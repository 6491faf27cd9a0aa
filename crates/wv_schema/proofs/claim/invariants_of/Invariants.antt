use Rattle.std.proofs.Common.{◌≡◌, [], take, drop, map}
use Rattle.wv_schema.specs.Judging.{items_fault}
use Rattle.wv_schema.specs.Values.{claim_in}
use Rattle.wv_schema.specs.Schema.{claim_fault}
use Rattle.wv_schema.proofs.claim.invariants_of.Given as goal

abbrev pub invariant-loop-index : goal.invariant-loop-index
invariant-loop-index l = record {
  met : items_fault claim_fault l.at l.index (drop l.index l.items) ≡ items_fault claim_fault l.at 0 l.items;
  so_far : l.invariants ≡ map claim_in (take l.index l.items);
}
