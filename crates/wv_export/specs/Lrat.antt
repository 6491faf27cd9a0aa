-- A log as LRAT: a line for each chain, with the clause that it gives and the clauses that unit propagation meets, in their order.
use Rattle.std.specs.Prelude.{ℕ, ◌+◌, List, [], ◌∷◌, ◌++◌, codes, decimal}
use Rattle.std.specs.List.{flat_map}
use Rattle.clauses.specs.declared.log.Chain.{Chain}
use Rattle.clauses.specs.declared.log.Resolve.{Resolve}
use Rattle.wv_export.specs.Dimacs.{number_text}

-- the number of a clause
abbrev pub hint_text : ℕ → List ℕ
hint_text clause = decimal clause ++ codes " "

-- the clauses of resolutions, the last one first
unfoldable pub hints_text : List Resolve → List ℕ
hints_text [] = []
hints_text (step ∷ steps) = hints_text steps ++ hint_text step.with

-- the number of the clause, the clause, and its chain from its end to its start
abbrev pub lrat_line : ℕ → Chain → List ℕ
lrat_line number chain = hint_text number ++ flat_map number_text chain.gives ++ codes "0 " ++ hints_text chain.steps ++ hint_text chain.start ++ codes "0\n"

-- the lines of chains in a row, the first of this number
unfoldable pub lrat_lines : ℕ → List Chain → List ℕ
lrat_lines number [] = []
lrat_lines number (chain ∷ chains) = lrat_line number chain ++ lrat_lines (number + 1) chains

-- the whole text, over this many clauses
abbrev pub lrat_text : ℕ → List Chain → List ℕ
lrat_text clauses chains = lrat_lines (clauses + 1) chains
