-- What a machine promises of the runs of a program.
use Rattle.std.specs.Prelude.{◌≡◌, ◌≤◌, ◌⊎◌, ℕ, suc, ◌+◌, ◌-◌, Bool, true, List, [], ◌++◌, Option, Some, None, length}
use Rattle.c_core.specs.Tree.{Program}
use Rattle.c_meaning.specs.declared.run.Choices.{Choices}
use Rattle.c_meaning.specs.declared.run.End.{End}
use Rattle.c_meaning.specs.declared.run.End.TheVariants.{Spent}
use Rattle.c_meaning.specs.declared.run.Event.{Event}
use Rattle.c_meaning.specs.Cells.{Cell}
use Rattle.c_meaning.specs.Run.{Moment, Moments, State, Run}
use Rattle.c_meaning.specs.Watching.{seen_after}
use Rattle.run_state.specs.declared.machine.Halt.{Halt}
use Rattle.run_state.specs.declared.machine.Halt.TheVariants.{Ends as HaltEnds, NoMemory}
use Rattle.flow_code.specs.declared.code.Code.{Code}
use Rattle.flow_laws.specs.Machines.{Machine, first_machine, with_steps}
use Rattle.flow_laws.specs.Runs.{Sight, noted}
use Rattle.flow_laws.specs.Stepping.{Turn, Short, Over, steps, Ends}
use Rattle.flow_machine.specs.Rooms.{IsReached, IsReserved}
use Rattle.flow_machine.specs.Views.{control_of, machine_of}
use Rattle.flow_rooms.specs.Paces.{IsPaced, IsInOrder}
use Rattle.flow_machine.specs.declared.control.Control.{Control as Here}
use Rattle.flow_machine.specs.declared.control.Running.{Running}

-- what contracts see of a machine: its code, its choices, the sum of the numbers handed to `advance`, its rooms, whether a `reserve` has answered Ok,
-- and whether no `advance` has answered want of memory
pub record Held : Type 0 where
  pub code : Code
  pub choices : Choices
  pub sum : ℕ
  pub cells : ℕ
  pub draws : ℕ
  pub reserved : Bool
  pub whole : Bool

-- a watcher that saw the run with n steps has seen what follows in the run with m
pub record Follows (p : Program) (c : Choices) (n m : ℕ) {S : Type 0} (after : Event → List Cell → S → S) (old new : S) : Type 0 where
  pub more : List Moment
  pub continues : Moments p c m ≡ Moments p c n ++ more
  pub seen : new ≡ seen_after after old more

-- a run that had n steps went on to m: the end is that of the run with m steps, and the watcher has seen what came since
pub record Advances (p : Program) (c : Choices) (n m : ℕ) {S : Type 0} (after : Event → List Cell → S → S) (old new : S) (e : End) : Type 0 where
  pub end : e ≡ (Run p c m).end
  pub follows : Follows p c n m after old new

-- f n is what n operations come to. Where they ended with e, the machine is `Short` of steps behind some number of them, and e is `Spent`, or the run is
-- `Over` with e, in the state of m; out of memory, `Fronts.antt` says what its watcher has seen
abbrev pub Halts : {S : Type 0} → Halt → Machine S → (ℕ → Turn S) → Type 0
Halts (HaltEnds e) m f = (n : ℕ) × (((f n ≡ Short m) × (e ≡ Spent)) ⊎ (f n ≡ Over e m.run))
Halts NoMemory m f = Unit {0}

module _ (c : Code) where
  -- before the first operation, with nothing told
  abbrev pub first : Choices → ℕ → Machine (List Sight)
  first choices n = first_machine c (List Sight) [] choices n

  -- behind some operations the first does what the second does from here on
  pub record Leads (a b : Machine (List Sight)) : Type 0 where
    pub count : ℕ
    pub alike : (n : ℕ) → steps c (List Sight) noted (count + suc n) a ≡ steps c (List Sight) noted (suc n) b

  -- nothing was done yet, or the run with this budget is spent in this state
  abbrev pub IsSpent : Choices → ℕ → State (List Sight) → Type 0
  IsSpent choices sum s = ((sum ≡ 0) × (s ≡ (first choices 0).run)) ⊎ Ends c (List Sight) noted (first choices sum) Spent s

  -- a machine that goes on: it took all the steps that it was given, and with each budget more it goes on as the machine that had that
  -- budget from the start
  pub record Waits (choices : Choices) (sum taken : ℕ) (m : Machine (List Sight)) : Type 0 where
    pub all : taken ≡ sum
    pub none : m.run.steps ≡ 0
    pub spent : IsSpent choices sum m.run
    pub goes_on : (d : ℕ) → Leads (first choices (sum + d)) (with_steps d m)

  -- a run that has ended, as with each larger budget
  pub record HasEnded (choices : Choices) (sum taken : ℕ) (e : End) (s : State (List Sight)) : Type 0 where
    pub within : taken ≤ sum
    pub ends : (d : ℕ) → Ends c (List Sight) noted (first choices (sum + d)) e (record s { steps = sum + d - taken })

  -- a machine at rest, after budgets of this sum, of which so many steps were taken
  abbrev pub Rests : Choices → ℕ → ℕ → Option End → Machine (List Sight) → Type 0
  Rests choices sum taken None m = Waits choices sum taken m
  Rests choices sum taken (Some e) m = HasEnded choices sum taken e m.run

  -- a machine of Rust at rest, behind events that somebody may have noted
  pub record IsAtRest (choices : Choices) (sum taken : ℕ) (ended : Option End) (k : Here) (r : Running) : Type 0 where
    pub told : List Sight
    pub rests : Rests choices sum taken ended (machine_of k r told)

-- a machine of Rust between calls: its code is paced; unless memory was wanting it is at rest, and where the run goes on it is in order, stands where
-- machines of the code come to, and counts its draws; where room was reserved there is as much
pub record IsSound (c : Code) (choices : Choices) (sum taken : ℕ) (ended : Option End) (reserved whole : Bool) (k : Here) (r : Running) : Type 0 where
  pub paced : IsPaced c
  pub at_rest : whole ≡ true → IsAtRest c choices sum taken ended k r
  pub in_order : whole ≡ true → ended ≡ None → IsInOrder c (machine_of {S = Unit {0}} k r tt)
  pub reached : whole ≡ true → ended ≡ None → IsReached c (control_of k)
  pub counted : whole ≡ true → ended ≡ None → r.unfixed ≤ length r.draws.items
  pub room : reserved ≡ true → IsReserved c k
