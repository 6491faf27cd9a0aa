use Rattle.std.proofs.Common.{◌++◌, ℕ, List, reverse}
use Rattle.way_names.specs.Scopes.{IsScope, height}
use Rattle.way_names.proofs.scope.names_in.Given as goal

-- the names so far, from the last to the first, stand behind those of the scope that is left
abbrev pub invariant-loop-scope : goal.invariant-loop-scope
invariant-loop-scope l = (rest : List ℕ) × IsScope l.scopes l.scope rest × IsScope l.scopes l.initial.scope (rest ++ reverse l.names.items)

abbrev pub decreases-loop-scope : goal.decreases-loop-scope
decreases-loop-scope l = height l.scope
