-- A symbolic state follows the judged runs under all inputs.
--
-- A part of a program takes each run that is here, from whatever values are left to draw, to where the definition takes it: on, with
-- a value; or to its end. It says so for all lists of values from which the sites' draws can be taken, so that for every
-- list some inputs are found site by site. A run that isn't here stays as it is, whatever the part does.
use Rattle.std.specs.Prelude.{◌≡◌, ℕ, Bool, ℤ, List, [], ◌∷◌, length, Option, Some, None}
use Rattle.c_core.specs.Tree.{Program}
use Rattle.c_core.specs.Types.{fit}
use Rattle.c_core.specs.declared.number.DataModel.{DataModel}
use Rattle.c_core.specs.declared.number.IntType.{IntType}
use Rattle.c_meaning.specs.declared.run.Draw.{Draw}
use Rattle.c_meaning.specs.declared.run.Duty.{Duty}
use Rattle.c_meaning.specs.Run.{first_value, other_values, or_zero}
use Rattle.c_meaning.specs.Acts.{Res, Go, Stop}
use Rattle.c_meaning.specs.Havoc.{Stopped}
use Rattle.sym_meaning.specs.Mode.{JudgedState}
use Rattle.circuits.specs.declared.net.Bit.{Bit}
use Rattle.circuits.specs.declared.net.NetNode.{NetNode}
use Rattle.circuits.specs.Numbers.{typed, AreTyped}
use Rattle.sym_state.specs.declared.state.Sym.{Sym}
use Rattle.sym_state.specs.Standing.{Stand, stand, IsState, Added, Moves, IsHere, IsOver}

-- the state of the judged run, with these values left to draw
abbrev pub left_of : Stand → List ℤ → JudgedState
left_of s vs = record { cells = s.cells; values = vs; draws = s.draws; completed = s.completed }

-- these draws take their values from the front of a list, and leave the rest; past its end a draw is 0
abbrev pub Taken : DataModel → List Draw → List ℤ → List ℤ → Type 0
Taken m [] vs rest = vs ≡ rest
Taken m (d ∷ ds) vs rest = (fit m d.ty (or_zero (first_value vs)) ≡ d.value) × Taken m ds (other_values vs) rest

-- what a part does: a part of a run's state under inputs, and the result
abbrev pub Deed : Type 0 → Type 0
Deed A = (ℕ → Bool) → JudgedState → Res Stopped JudgedState A

module _ (ds : List Duty) where
  -- where the judged run goes on, so does the run here, in the same state and with a value that is S; where it ends, so does the run here
  abbrev pub Came : {A : Type 0} → (A → Type 0) → Stand → List ℤ → Res Stopped JudgedState A → Type 0
  Came S new rest (Go a s) = IsHere (length ds) new × (s ≡ left_of new rest) × S a
  Came S new rest (Stop e s) = IsOver ds e new × (s.values ≡ rest) × (s.draws ≡ new.draws)

  -- for all inputs: what the part does from here, to a value that is S
  pub record Follows {A : Type 0} (p : Program) (ands inputs : ℕ) (old new : Sym) (S : (ℕ → Bool) → A → Type 0) (deed : Deed A) : Type 0 where
    pub fits : IsState p new
    pub added : Added ands inputs old.net new.net
    pub level : length new.cells.items ≡ length old.cells.items
    pub result : new.result ≡ old.result
    pub moves : (v : ℕ → Bool) → Moves (stand p v old) (stand p v new)
    pub does : (v : ℕ → Bool) → IsHere (length ds) (stand p v old) → (vs rest : List ℤ) → Taken p.model (moves v).more vs rest
        → Came (S v) (stand p v new) rest (deed v (left_of (stand p v old) vs))

-- as many bits of the net as the type is wide; a void expression has none
abbrev pub AreOf : DataModel → Option IntType → List NetNode → List Bit → Type 0
AreOf m None net bits = Unit {0}
AreOf m (Some ty) net bits = AreTyped m ty net bits

-- the bits' number under inputs is the value; of a void expression nothing is asked
abbrev pub IsNumber : DataModel → Option IntType → List NetNode → List Bit → (ℕ → Bool) → ℤ → Type 0
IsNumber m None net bits v z = Unit {0}
IsNumber m (Some ty) net bits v z = z ≡ typed m ty v net bits

-- an expression: its bits, in its type, are its value
pub record Evaluates (ds : List Duty) (p : Program) (ands inputs : ℕ) (old new : Sym) (ty : Option IntType) (bits : List Bit) (deed : Deed ℤ) : Type 0 where
  pub bits_in : AreOf p.model ty new.net bits
  pub follows : Follows ds p ands inputs old new (IsNumber p.model ty new.net bits) deed
