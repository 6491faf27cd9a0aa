-- The clauses that a log rests on.
use Rattle.std.specs.Prelude.{List, ◌++◌, ℤ}
use Rattle.clauses.specs.declared.log.Chain.{Chain}
use Rattle.clauses.specs.Log.{given}

-- the given clauses, then those that the chains give
abbrev pub clauses_of : List (List ℤ) → List Chain → List (List ℤ)
clauses_of clauses chains = clauses ++ given chains
