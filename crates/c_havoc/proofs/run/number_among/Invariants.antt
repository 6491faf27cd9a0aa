use Rattle.std.proofs.Common.{◌≡◌, ◌+◌, suc, drop}
use Rattle.c_meaning.specs.Duties.{number_among}
use Rattle.c_havoc.proofs.run.number_among.Given as goal

-- none so far
abbrev pub invariant-loop-other : goal.invariant-loop-other
invariant-loop-other l = record {
  number : l.number ≡ suc l.other-index;
  left : number_among l.duty l.duties ≡ l.other-index + number_among l.duty (drop l.other-index l.duties);
}
