-- Functions called from expressions and from functions, directly or through further calls.
use Rattle.std.specs.Prelude.{◌≡◌, ◌<◌, ◌↔◌, ◌⊎◌, ℕ, Bool, List, length, Option, Some, None, IsTrue}
use Rattle.c_core.specs.Tree.{Exp, Program}
use Rattle.c_meaning.specs.Parts.{some_of, some_node, is_in, calls, fulls_of_function}

-- a call of a function of the program stands in these expressions
abbrev pub IsCalledIn : Program → List Exp → ℕ → Type 0
IsCalledIn p es f = (f < length p.functions) × IsTrue (some_of (some_node (calls f)) es)

-- directly, or in a function called from them
pub data IsCalledFrom (p : Program) (es : List Exp) : ℕ → Type 0 where
  directly : (f : ℕ) → IsCalledIn p es f → IsCalledFrom p es f
  further : (f g : ℕ) → IsCalledFrom p es f → IsCalledIn p (fulls_of_function p f) g → IsCalledFrom p es g

-- one function reaches a call of another
abbrev pub Reaches : Program → ℕ → ℕ → Type 0
Reaches p f g = IsCalledFrom p (fulls_of_function p f) g

-- a list holds the functions called from these expressions, and no others
pub record HasCalled (p : Program) (es : List Exp) (fs : List ℕ) : Type 0 where
  pub members : (f : ℕ) → IsTrue (is_in f fs) ↔ IsCalledFrom p es f

-- one of these functions, or one of which they reach a call
pub data ComesFrom (p : Program) (fs : List ℕ) : ℕ → Type 0 where
  itself : (f : ℕ) → IsTrue (is_in f fs) → ComesFrom p fs f
  calling : (f g : ℕ) → ComesFrom p fs f → IsCalledIn p (fulls_of_function p f) g → ComesFrom p fs g

-- a list holds these functions, those that they reach, and no others
pub record HasReached (p : Program) (fs all : List ℕ) : Type 0 where
  pub members : (f : ℕ) → IsTrue (is_in f all) ↔ ComesFrom p fs f

-- it is main, or main reaches it
abbrev pub IsReached : Program → ℕ → Type 0
IsReached p f = (f ≡ p.main) ⊎ Reaches p p.main f

-- a function that main reaches and that lies on a cycle of calls
pub record IsRecursion (p : Program) (f : ℕ) : Type 0 where
  pub reached : IsReached p f
  pub cycle : Reaches p f f

-- the first of these functions that lies on a cycle, none where none does
abbrev pub IsFirstOnCycle : Program → (ℕ → Bool) → Option ℕ → Type 0
IsFirstOnCycle p q None = (f : ℕ) → IsTrue (q f) → Reaches p f f → ⊥
IsFirstOnCycle p q (Some f) = IsTrue (q f) × Reaches p f f × ((g : ℕ) → g < f → IsTrue (q g) → Reaches p g g → ⊥)

-- the first of them in the order of definitions, none where main reaches no cycle
abbrev pub IsFirstRecursion : Program → Option ℕ → Type 0
IsFirstRecursion p None = (f : ℕ) → IsRecursion p f → ⊥
IsFirstRecursion p (Some f) = IsRecursion p f × ((g : ℕ) → g < f → IsRecursion p g → ⊥)
