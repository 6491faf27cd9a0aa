use Rattle.std.proofs.Common.{◌≡◌, take, drop, map}
use Rattle.wv_schema.specs.Judging.{are_texts}
use Rattle.wv_schema.specs.Values.{hash_in}
use Rattle.wv_schema.proofs.metadata.hashes_of.Given as goal

abbrev pub invariant-loop-pair : goal.invariant-loop-pair
invariant-loop-pair l = record {
  met : are_texts (drop l.pair-index l.pairs) ≡ are_texts l.pairs;
  so_far : l.hashes ≡ map hash_in (take l.pair-index l.pairs);
}
