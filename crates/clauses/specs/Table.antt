-- Tables of the numbers of a clause: the cell of a variable holds its number in the clause, or 0.
use Rattle.std.specs.Prelude.{◌≡◌, ◌≢◌, ◌↔◌, ℕ, ◌<◌, Bool, List, [], ◌∷◌, length, slice_index_or, slice_set, ℤ, pos, neg_ℤ, unsigned_abs}
use Rattle.std.specs.List.{All, Contains}
use Rattle.std.specs.Bool.{MatchBool}
use Rattle.clauses.specs.declared.log.Chain.{Chain}
use Rattle.clauses.specs.Log.{Resolvent, AreSame, IsRight}

abbrev pub cell : List ℤ → ℤ → ℤ
cell cells x = slice_index_or cells (unsigned_abs x) (pos 0)

-- the variable of a number has a cell
abbrev pub Fits : List ℤ → ℤ → Type 0
Fits cells x = unsigned_abs x < length cells

-- the table holds the opposite of no number of the clause
abbrev pub AreApart : List ℤ → List ℤ → Type 0
AreApart cells clause = All (λ y. cell cells y ≡ neg_ℤ y → ⊥) clause

-- it holds each number of the clause
abbrev pub AreHeld : List ℤ → List ℤ → Type 0
AreHeld cells clause = All (λ y. Fits cells y × (cell cells y ≡ y)) clause

-- the cells of the variables are 0
abbrev pub AreBlank : List ℤ → List ℕ → Type 0
AreBlank cells variables = All (λ n. slice_index_or cells n (pos 0) ≡ pos 0) variables

-- the numbers of a clause put in
abbrev pub written : List ℤ → List ℤ → List ℤ
written cells [] = cells
written cells (y ∷ ys) = written (slice_set cells (unsigned_abs y) y) ys

-- and taken out
abbrev pub erased : List ℤ → List ℤ → List ℤ
erased cells [] = cells
erased cells (y ∷ ys) = erased (slice_set cells (unsigned_abs y) (pos 0)) ys

-- the table holds a number
abbrev pub IsIn : List ℤ → ℤ → Type 0
IsIn cells x = (0 < unsigned_abs x) × (cell cells x ≡ x)

abbrev pub IsClear : List ℤ → Type 0
IsClear cells = (n : ℕ) → slice_index_or cells n (pos 0) ≡ pos 0

-- the table holds exactly the numbers of a clause, in the cells of their variables, all of which were touched
pub record Holds (cells : List ℤ) (touched : List ℕ) (clause : List ℤ) : Type 0 where
  pub numbers : (x : ℤ) → IsIn cells x ↔ Contains clause x
  pub covered : (n : ℕ) → slice_index_or cells n (pos 0) ≢ pos 0 → Contains touched n
  pub own : (n : ℕ) → slice_index_or cells n (pos 0) ≢ pos 0 → unsigned_abs (slice_index_or cells n (pos 0)) ≡ n

-- the clause in the table is resolved with another, exactly where they have a resolvent on this variable
abbrev pub Resolves : List ℤ → List ℕ → List ℤ → ℕ → Bool → List ℤ → List ℕ → Type 0
Resolves cells touched clause on resolved cells_after touched_after =
    (now : List ℤ) → Holds cells touched now → MatchBool resolved ((r : List ℤ) × Resolvent now clause on r × Holds cells_after touched_after r) ((r : List ℤ) → Resolvent now clause on r → ⊥)

-- whether the clause in the table is this one
abbrev pub Matches : List ℤ → List ℕ → List ℤ → Bool → List ℤ → Type 0
Matches cells touched clause same cells_after =
    (now : List ℤ) → Holds cells touched now → MatchBool same (AreSame now clause × IsClear cells_after × All (Fits cells) clause) (AreSame now clause → ⊥)

-- whether a chain is right; if so, its clause fits and the table is clear again
abbrev pub ChainJudged : List ℤ → List (List ℤ) → Chain → Bool → List ℤ → Type 0
ChainJudged cells clauses chain right cells_after = MatchBool right (IsRight clauses chain × IsClear cells_after × All (Fits cells) chain.gives) (IsRight clauses chain → ⊥)
