-- Steps of a machine.
use Rattle.std.specs.Prelude.{◌≡◌, ℕ, zero, suc, ◌+◌, ◌-◌, nat_le, cond, List, Option, Some, None, slice_get}
use Rattle.c_meaning.specs.declared.run.End.{End}
use Rattle.c_meaning.specs.declared.run.End.TheVariants.{Ended, Spent}
use Rattle.c_meaning.specs.declared.run.Event.{Event}
use Rattle.c_meaning.specs.Cells.{Cell}
use Rattle.c_meaning.specs.Acts.{Res, Go, Stop}
use Rattle.c_meaning.specs.Run.{State}
use Rattle.flow_code.specs.declared.code.Op.{Op}
use Rattle.flow_code.specs.declared.code.Code.{Code}
use Rattle.flow_laws.specs.Machines.{Control, Machine}
use Rattle.flow_laws.specs.Acting.{acted}

-- what operations come to: the machine goes on, it has too few steps for the next one, or the run ends
pub data Turn (S : Type 0) : Type 0 where
  On : Machine S → Turn S
  Short : Machine S → Turn S
  Over : End → State S → Turn S

-- what follows, where the machine goes on
abbrev pub onward : {S : Type 0} → Turn S → (Machine S → Turn S) → Turn S
onward (On m) f = f m
onward (Short m) f = Short m
onward (Over e s) f = Over e s

-- the run: it goes on, or it ends; where steps are wanting it is spent
abbrev pub outcome : {S : Type 0} → Turn S → Res End (State S) (Unit {0})
outcome (On m) = Go tt m.run
outcome (Short m) = Stop Spent m.run
outcome (Over e s) = Stop e s

-- behind an action
abbrev pub moved : {S : Type 0} → Res End (State S) Control → Turn S
moved (Go k s) = On (record { control = k; run = s })
moved (Stop e s) = Over e s

-- the steps that an operation has yet to take
abbrev pub due : {S : Type 0} → Machine S → Op → ℕ
due m o = o.steps - m.control.paid

-- all steps that are left are taken of an operation
abbrev pub paid_all : {S : Type 0} → Machine S → Machine S
paid_all m = record { control = record m.control { paid = m.control.paid + m.run.steps }; run = record m.run { steps = 0 } }

-- behind an operation that is paid
abbrev pub behind : Control → Control
behind k = record k { at = k.at + 1; paid = 0 }

module _ (c : Code) (S : Type 0) (after : Event → List Cell → S → S) where
  -- an operation takes its steps, and then acts; where they don't suffice it takes all that are left
  abbrev pub done : Machine S → Op → Turn S
  done m o = cond (nat_le (due m o) m.run.steps) (moved (acted c S after o.action (behind m.control) (record m.run { steps = m.run.steps - due m o }))) (Short (paid_all m))

  -- the operation at an address, if there is one
  abbrev pub done_if : Machine S → Option Op → Turn S
  -- no code goes there
  done_if m None = Over Ended m.run
  done_if m (Some o) = done m o

  -- one operation
  abbrev pub step : Machine S → Turn S
  step m = done_if m (slice_get c.ops m.control.at)

  -- n operations
  abbrev pub steps : ℕ → Machine S → Turn S
  steps zero m = On m
  steps (suc n) m = onward (step m) (steps n)

  -- some number of operations leads from a machine to another
  pub record Reaches (m k : Machine S) : Type 0 where
    pub count : ℕ
    pub is : steps count m ≡ On k

  -- some number of operations leads from a machine to an end of the run, in this state
  pub record Ends (m : Machine S) (e : End) (s : State S) : Type 0 where
    pub count : ℕ
    pub is : outcome (steps count m) ≡ Stop e s

  -- from a machine, a part of a run is done: the machine reaches one that stands behind the part, or comes to the part's end
  abbrev pub Does : {A : Type 0} → Machine S → Res End (State S) A → (A → State S → Machine S → Type 0) → Type 0
  Does m (Go a s) K = (y : Machine S) × Reaches m y × K a s y
  Does m (Stop e s) K = Ends m e s
