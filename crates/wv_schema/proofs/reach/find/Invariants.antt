use Rattle.std.proofs.Common.{◌≡◌, drop}
use Rattle.wv_schema.specs.Paths.{value_of}
use Rattle.wv_schema.proofs.reach.find.Given as goal

abbrev pub invariant-loop-pair : goal.invariant-loop-pair
invariant-loop-pair l = value_of l.key (drop l.pair-index l.pairs) ≡ value_of l.key l.pairs
