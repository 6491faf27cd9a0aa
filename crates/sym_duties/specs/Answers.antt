-- What the evaluator answers of a program with invariants: its obligations as a net, or the one reason why there are none.
use Rattle.std.specs.Prelude.{◌≡◌, ℕ, List, map, Result, Ok, Err, Some, None, slice_get}
use Rattle.c_core.specs.Tree.{Program}
use Rattle.c_core.specs.declared.tree.Function.{Function}
use Rattle.c_calls.specs.Calling.{IsFirstRecursion}
use Rattle.c_meaning.specs.Duties.{Placed}
use Rattle.sym_weight.specs.Weight.{Weight, Bits, IsTooBig}
use Rattle.sym_duties.specs.declared.fault.SymFault.{SymFault}
use Rattle.sym_duties.specs.declared.fault.SymFault.TheVariants.{Recursion, TooBig, OutOfMemory}
use Rattle.sym_duties.specs.declared.obligations.Obligations.{Obligations}
use Rattle.sym_duties.specs.Promise.{AreObligations}

-- the names of functions, in their order
abbrev pub names_of : List Function → List (List ℕ)
names_of functions = map (λ f. f.name) functions

-- the first function in the order of definitions that main reaches and that lies on a cycle of calls has this name
pub record IsNamedRecursion (p : Program) (names : List (List ℕ)) (name : List ℕ) : Type 0 where
  pub number : ℕ
  pub first : IsFirstRecursion p (Some number)
  pub named : slice_get names number ≡ Some name

-- main reaches no cycle of calls, and the program isn't too big
pub record CanBeJudged (p : Program) (I : List Placed) : Type 0 where
  pub straight : IsFirstRecursion p None
  pub fits : IsTooBig p I → ⊥

-- why there is no net; `names`: those of the program's functions
abbrev pub IsFault : Program → List (List ℕ) → List Placed → SymFault → Type 0
IsFault p names I (Recursion name) = IsNamedRecursion p names name
IsFault p names I TooBig = IsFirstRecursion p None × IsTooBig p I
IsFault p names I OutOfMemory = Unit {0}

-- the obligations, within the weight of the program and the bits that it draws; or why there are none
abbrev pub AnswersFor : Program → List (List ℕ) → List Placed → Result Obligations SymFault → Type 0
AnswersFor p names I (Ok o) = CanBeJudged p I × AreObligations p I (Weight p I) (Bits p) o
AnswersFor p names I (Err fault) = IsFault p names I fault
