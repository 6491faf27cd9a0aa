use Rattle.std.proofs.Common.{◌≡◌, length}
use Rattle.sat_newness.specs.Kept.{IsNewLog}
use Rattle.sat_newness.proofs.newness.learn_new.Given as goal

abbrev pub invariant-loop : goal.invariant-loop
invariant-loop l = record {
  log : IsNewLog l.cnf.clauses l.chains l.pairs.items;
  counted : length l.chains ≡ l.counter;
}
