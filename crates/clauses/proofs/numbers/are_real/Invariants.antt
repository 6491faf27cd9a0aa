use Rattle.std.proofs.Common.{take}
use Rattle.std.specs.List.{All}
use Rattle.clauses.specs.Clause.{IsNumber}
use Rattle.clauses.proofs.numbers.are_real.Given as goal

abbrev pub invariant-loop-x : goal.invariant-loop-x
invariant-loop-x l = All IsNumber (take l.x-index l.numbers)
