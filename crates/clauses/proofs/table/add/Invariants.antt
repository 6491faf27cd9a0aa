use Rattle.std.proofs.Common.{◌≡◌, ◌++◌, drop, length}
use Rattle.std.specs.Prelude.{map, unsigned_abs}
use Rattle.clauses.specs.Table.{written}
use Rattle.clauses.proofs.table.add.Given as goal

abbrev pub invariant-loop-y : goal.invariant-loop-y
invariant-loop-y l = record {
  cells : written l.cells (drop l.y-index l.clause) ≡ written l.initial.cells l.clause;
  touched : l.touched.items ++ map unsigned_abs (drop l.y-index l.clause) ≡ l.initial.touched.items ++ map unsigned_abs l.clause;
  many : length l.cells ≡ length l.initial.cells;
}
