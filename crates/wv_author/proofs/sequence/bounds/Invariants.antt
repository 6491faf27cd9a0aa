use Rattle.std.proofs.Common.{◌≡◌, ◌<◌, ◌^◌}
use Rattle.wv_author.specs.Sequence.{bounds, sequence}
use Rattle.wv_author.proofs.sequence.bounds.Given as goal

abbrev pub invariant-loop : goal.invariant-loop
invariant-loop l = record {
  so_far : l.all.items ≡ bounds l.number l.counter;
  last : l.last ≡ sequence l.number l.counter;
  small : l.last < 2 ^ 31;
}
