use Rattle.clauses.specs.Marks.{Numbered}
use Rattle.clauses.proofs.numbering.number_nodes.Given as goal

abbrev pub invariant-loop-at : goal.invariant-loop-at
invariant-loop-at l = Numbered l.flags l.net l.numbers.items l.at l.variables
