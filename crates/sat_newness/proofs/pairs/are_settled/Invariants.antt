use Rattle.sat_newness.specs.Clauses.{clauses_of}
use Rattle.sat_newness.specs.Pairs.{ArePairs, AreSettledTo}
use Rattle.sat_newness.proofs.pairs.are_settled.Given as goal

abbrev pub invariant-loop-place : goal.invariant-loop-place
invariant-loop-place l = record {
  held : ArePairs (clauses_of l.given l.chains) l.pairs;
  settled : AreSettledTo l.table (clauses_of l.given l.chains) l.place;
}
