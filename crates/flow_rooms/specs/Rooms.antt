-- What a machine's stacks hold at most, by the functions whose calls aren't over.
use Rattle.std.specs.Prelude.{◌≡◌, ◌⊎◌, ◌<◌, ◌≤◌, ℕ, zero, suc, ◌+◌, List, [], ◌∷◌, length, Option, Some, None, slice_get}
use Rattle.c_core.specs.Tree.{Function, Program}
use Rattle.c_meaning.specs.declared.run.Event.{Event}
use Rattle.c_meaning.specs.Cells.{Cell}
use Rattle.run_state.specs.declared.machine.CallSite.{CallSite}
use Rattle.flow_code.specs.declared.code.Action.TheVariants.{Call}
use Rattle.flow_code.specs.declared.code.Code.{Code}
use Rattle.flow_code.specs.Preparing.{op}
use Rattle.flow_code.specs.Programs.{function_code}
use Rattle.flow_laws.specs.Machines.{Control, Machine, first_control}
use Rattle.flow_laws.specs.Stepping.{On, Short, step}

-- how many operations the code of a function has, if there is one; they are as many wherever it begins
abbrev pub length_of_code : Program → Option Function → ℕ
length_of_code p None = 0
length_of_code p (Some g) = length (function_code p 0 g)

-- the same of functions by their numbers
abbrev pub length_of_codes : Program → List ℕ → ℕ
length_of_codes p [] = 0
length_of_codes p (f ∷ fs) = length_of_code p (slice_get p.functions f) + length_of_codes p fs

-- in the code of a function stands an operation that calls another; both by their numbers
pub record IsCalledIn (p : Program) (caller callee : ℕ) : Type 0 where
  pub function : Function
  pub found : slice_get p.functions caller ≡ Some function
  pub start : ℕ
  pub place : ℕ
  pub steps : ℕ
  pub arguments : ℕ
  pub site : CallSite
  pub operation : slice_get (function_code p start function) place ≡ Some (op steps (Call callee arguments site))

-- from a function on, each next one is called in the code of the one before
abbrev pub CallsOn : Program → ℕ → List ℕ → Type 0
CallsOn p f [] = Unit {0}
CallsOn p f (g ∷ gs) = IsCalledIn p f g × CallsOn p g gs

-- a chain of calls: `main` first
abbrev pub IsChain : Program → List ℕ → Type 0
IsChain p [] = ⊥
IsChain p (f ∷ fs) = (f ≡ p.main) × CallsOn p f fs

-- the functions whose calls aren't over where a control is: one for each frame, and the one that it is in; what its stacks hold at most, with
-- two values and one scope more
pub record HasRoom (p : Program) (k : Control) : Type 0 where
  pub functions : List ℕ
  pub chain : IsChain p functions
  pub frames : length functions ≡ suc (length k.frames)
  pub stack : length k.stack + 2 ≤ length_of_codes p functions + length_of_codes p functions
  pub scopes : length k.scopes < length_of_codes p functions

module _ (c : Code) (S : Type 0) (after : Event → List Cell → S → S) where
  -- in n turns machines come from the start to a control: in each an operation is done, or steps are wanting for it; between two of them the
  -- state of the run may change in any way
  abbrev pub ComesTo : ℕ → Control → Type 0
  ComesTo zero k = k ≡ first_control c
  ComesTo (suc n) k = (m : Machine S) × (y : Machine S) × ComesTo n m.control × ((step c S after m ≡ On y) ⊎ (step c S after m ≡ Short y)) × (y.control ≡ k)

-- what nobody sees
abbrev pub unseen : Event → List Cell → Unit {0} → Unit {0}
unseen e cs x = tt

-- each control that machines of a code come to
abbrev pub HasRooms : Program → Code → Type 0
HasRooms p c = (n : ℕ) (k : Control) → ComesTo c (Unit {0}) unseen n k → HasRoom p k

-- the functions of each chain are so few, and their code is so short, that it stands in the program's
pub record IsBounded (p : Program) (c : Code) : Type 0 where
  pub count : (fs : List ℕ) → IsChain p fs → length fs ≤ length p.functions
  pub code : (fs : List ℕ) → IsChain p fs → length_of_codes p fs ≤ length c.ops

-- what the stacks of a control hold then: there is room for two values, one scope and one call more
pub record HoldsAtMost (c : Code) (k : Control) : Type 0 where
  pub frames : length k.frames < length c.functions
  pub stack : length k.stack + 2 ≤ length c.ops + length c.ops
  pub scopes : length k.scopes < length c.ops
