use Rattle.std.proofs.Common.{◌≡◌, ◌+◌, drop}
use Rattle.c_meaning.specs.Duties.{number_among}
use Rattle.sym_invariants.proofs.numbers.index_of.Given as goal

-- all before the index are others
abbrev pub invariant-loop-index : goal.invariant-loop-index
invariant-loop-index l = number_among l.duty l.duties ≡ l.index + number_among l.duty (drop l.index l.duties)
