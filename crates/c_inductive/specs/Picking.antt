-- Sets of invariants, by their numbers in witness order, from 1.
use Rattle.std.specs.Prelude.{◌≡◌, ◌≤◌, ◌<◌, ℕ, suc, nat_eq, Bool, true, cond, ◌||◌, List, [], ◌∷◌, length}
use Rattle.std.specs.List.{All, list_any}
use Rattle.c_core.specs.Scope.{is_in}
use Rattle.c_core.specs.Tree.{Program}
use Rattle.c_meaning.specs.Duties.{Placed}
use Rattle.c_meaning.specs.Parts.{numbers_from}
use Rattle.c_meaning.specs.Placing.{IsInvariant}

-- of invariants numbered from i on, those with these numbers
abbrev pub picked_from : ℕ → List ℕ → List Placed → List Placed
picked_from i ns [] = []
picked_from i ns (x ∷ xs) = cond (is_in i ns) (x ∷ picked_from (suc i) ns xs) (picked_from (suc i) ns xs)

-- the invariants with these numbers, in witness order
abbrev pub picked : List ℕ → List Placed → List Placed
picked ns I = picked_from 1 ns I

-- numbers rise, the first of them above the last before
abbrev pub Rise : ℕ → List ℕ → Type 0
Rise last [] = Unit {0}
Rise last (n ∷ ns) = (last < n) × Rise n ns

-- a set among this many invariants: numbers from 1 on that rise
pub record IsSelection (count : ℕ) (ns : List ℕ) : Type 0 where
  pub rising : Rise 0 ns
  pub within : All (λ n. n ≤ count) ns

-- each of these numbers is one of those
abbrev pub IsPartOf : List ℕ → List ℕ → Type 0
IsPartOf ms ns = (n : ℕ) → is_in n ms ≡ true → is_in n ns ≡ true

-- it has the numbers of both, and no others
pub record IsUnionOf (ms ns all : List ℕ) : Type 0 where
  pub first : IsPartOf ms all
  pub second : IsPartOf ns all
  pub no_other : (n : ℕ) → is_in n all ≡ true → is_in n ms || is_in n ns ≡ true

-- the numbers from 1 on, as many as there are invariants, are a set: that of all of them
pub record AllArePicked (I : List Placed) : Type 0 where
  pub selection : IsSelection (length I) (numbers_from 1 (length I))
  pub all : picked (numbers_from 1 (length I)) I ≡ I

-- a set has as many invariants as numbers
abbrev pub AsManyArePicked : List Placed → Type 0
AsManyArePicked I = (ns : List ℕ) → IsSelection (length I) ns → length (picked ns I) ≡ length ns

-- what is picked of a program's invariants are invariants of the program
abbrev pub PartsStayInvariants : Program → List Placed → Type 0
PartsStayInvariants p I = (ns : List ℕ) → All (IsInvariant p) I → All (IsInvariant p) (picked ns I)
