-- Flags at the places of numbers.
use Rattle.std.specs.Prelude.{◌≡◌, ℕ, Bool, true, false, cond, List, [], ◌∷◌, slice_index_or}

-- the numbers at whose places no flag is set
abbrev pub unflagged : List Bool → List ℕ → List ℕ
unflagged flags [] = []
unflagged [] (n ∷ ns) = n ∷ ns
unflagged (flag ∷ flags) (n ∷ ns) = cond flag (unflagged flags ns) (n ∷ unflagged flags ns)

-- the flag at a place is set
abbrev pub IsSet : List Bool → ℕ → Type 0
IsSet flags k = slice_index_or flags k false ≡ true
