-- Worked texts.
use Rattle.std.specs.Prelude.{◌≡◌, List, [], ◌∷◌, ℤ, pos, negsuc, codes, refl}
use Rattle.std.specs.Fmt.{digits}
use Rattle.clauses.specs.declared.log.Chain.{Chain}
use Rattle.wv_export.specs.Dimacs.{dimacs_text}
use Rattle.wv_export.specs.Lrat.{lrat_text, lrat_lines, hints_text}

-- 1 or 2, 1 or not 2, not 1
abbrev pub three_clauses : List (List ℤ)
three_clauses = (pos 1 ∷ pos 2 ∷ []) ∷ (negsuc 1 ∷ pos 1 ∷ []) ∷ (negsuc 0 ∷ []) ∷ []

-- 1, of the first two
abbrev pub first_chain : Chain
first_chain = record { start = 1; steps = record { with = 2; on = 2 } ∷ []; gives = pos 1 ∷ [] }

-- nothing, of 1 and its opposite
abbrev pub last_chain : Chain
last_chain = record { start = 4; steps = record { with = 3; on = 1 } ∷ []; gives = [] }

-- the same from the first clause on
abbrev pub one_chain : Chain
one_chain = record { start = 1; steps = record { with = 2; on = 2 } ∷ record { with = 3; on = 1 } ∷ []; gives = [] }

pub no_clauses : dimacs_text 0 [] ≡ codes "p cnf 0 0\n"
unfolding dimacs_text digits
no_clauses = refl

pub clauses_shown : dimacs_text 2 three_clauses ≡ codes "p cnf 2 3\n1 2 0\n-2 1 0\n-1 0\n"
unfolding dimacs_text digits
clauses_shown = refl

pub two_lines : lrat_text 3 (first_chain ∷ last_chain ∷ []) ≡ codes "4 1 0 2 1 0\n5 0 3 4 0\n"
unfolding lrat_lines hints_text digits
two_lines = refl

pub last_first : lrat_text 3 (one_chain ∷ []) ≡ codes "4 0 3 2 1 0\n"
unfolding lrat_lines hints_text digits
last_first = refl
