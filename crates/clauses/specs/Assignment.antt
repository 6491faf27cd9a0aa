-- When an assignment makes clauses true.
use Rattle.std.specs.Prelude.{ℕ, ◌+◌, Bool, true, false, not, ◌&&◌, ◌||◌, List, [], ◌∷◌, ℤ, pos, negsuc}

-- a number, the assignment telling the values of variables
abbrev pub number_holds : (ℕ → Bool) → ℤ → Bool
number_holds v (pos n) = v n
number_holds v (negsuc n) = not (v (n + 1))

-- a clause holds by one of its numbers
abbrev pub clause_holds : (ℕ → Bool) → List ℤ → Bool
clause_holds v [] = false
clause_holds v (x ∷ xs) = number_holds v x || clause_holds v xs

-- each clause holds
unfoldable pub all_hold : (ℕ → Bool) → List (List ℤ) → Bool
all_hold v [] = true
all_hold v (c ∷ cs) = clause_holds v c && all_hold v cs
