-- Room in which a machine of Rust takes no memory.
use Rattle.std.specs.Prelude.{◌≡◌, ◌≤◌, ◌<◌, ℕ, suc, ◌+◌, List, [], length, vec_len, vec_capacity, Result, IfErr}
use Rattle.c_meaning.specs.declared.run.Choices.{Choices}
use Rattle.c_meaning.specs.declared.run.End.{End}
use Rattle.c_meaning.specs.Acts.{Res, Go, Stop}
use Rattle.c_meaning.specs.Run.{State}
use Rattle.run_state.specs.declared.machine.Halt.{Halt}
use Rattle.run_state.specs.declared.machine.Halt.TheVariants.{Ends, NoMemory}
use Rattle.flow_code.specs.declared.code.Code.{Code}
use Rattle.flow_laws.specs.Machines.{Control, Machine, first_machine}
use Rattle.flow_laws.specs.Runs.{Sight, noted}
use Rattle.flow_laws.specs.Stepping.{Turn, On, Short, Over, steps}
use Rattle.flow_rooms.specs.Rooms.{ComesTo, unseen}
use Rattle.flow_machine.specs.declared.control.Control.{Control as Here}
use Rattle.flow_machine.specs.declared.control.Running.{Running}

-- the run has an end, and no memory was wanting
abbrev pub IsEnd : Halt → Type 0
IsEnd (Ends e) = Unit {0}
IsEnd NoMemory = ⊥

-- the answer isn't that memory was wanting
abbrev pub Lasts : {A : Type 0} → Result A Halt → Type 0
Lasts r = IfErr r IsEnd

-- the stacks have room for what one action may push: two values, a scope, a call
pub record HasSpare (k : Here) : Type 0 where
  pub stack : vec_len k.stack + 2 ≤ vec_capacity k.stack
  pub scopes : vec_len k.scopes < vec_capacity k.scopes
  pub frames : vec_len k.frames < vec_capacity k.frames

-- at most as many draws took no choice as there were draws
abbrev pub IsCounted : Running → Type 0
IsCounted r = r.unfixed ≤ vec_len r.draws

-- the stacks have at least the room that they had
abbrev pub KeepsStacks : Here → Here → Type 0
KeepsStacks old new = (vec_capacity old.stack ≤ vec_capacity new.stack) × (vec_capacity old.scopes ≤ vec_capacity new.scopes) × (vec_capacity old.frames ≤ vec_capacity new.frames)

-- cells and draws have at least the room that they had
abbrev pub KeepsRooms : Running → Running → Type 0
KeepsRooms old new = (old.memory.room ≤ new.memory.room) × (vec_capacity old.draws ≤ vec_capacity new.draws)

-- there are at most so many cells and draws
abbrev pub IsWithin : {S : Type 0} → ℕ → ℕ → State S → Type 0
IsWithin cells draws s = (length s.cells ≤ cells) × (length s.draws ≤ draws)

-- there are at most so many where a part goes on
abbrev pub GoesWithin : {S A : Type 0} → ℕ → ℕ → Res End (State S) A → Type 0
GoesWithin cells draws (Go a s) = IsWithin cells draws s
GoesWithin cells draws (Stop e s) = Unit {0}

-- there are at most so many where a machine goes on
abbrev pub TurnsWithin : {S : Type 0} → ℕ → ℕ → Turn S → Type 0
TurnsWithin cells draws (On m) = IsWithin cells draws m.run
TurnsWithin cells draws (Short m) = Unit {0}
TurnsWithin cells draws (Over e s) = Unit {0}

-- the same with the room that there is for them
abbrev pub GoesInRoom : {S A : Type 0} → Running → Res End (State S) A → Type 0
GoesInRoom r x = GoesWithin r.memory.room (vec_capacity r.draws) x

abbrev pub TurnsInRoom : {S : Type 0} → Running → Turn S → Type 0
TurnsInRoom r t = TurnsWithin r.memory.room (vec_capacity r.draws) t

-- the stacks of a machine of Rust have room for those of a control, and for what one action more may push
pub record HoldsWithin (k : Here) (l : Control) : Type 0 where
  pub stack : length l.stack + 2 ≤ vec_capacity k.stack
  pub scopes : length l.scopes < vec_capacity k.scopes
  pub frames : length l.frames < vec_capacity k.frames

-- f n is what n operations come to: wherever the machine then goes on, its stacks fit what k has room for, with room for one action more, and
-- at most as many draws took no choice as there were; behind at least one operation its cells and draws are within the rooms of r
pub record StaysWithin {S : Type 0} (k : Here) (r : Running) (f : ℕ → Turn S) : Type 0 where
  pub stacks : (n : ℕ) (m : Machine S) → f n ≡ On m → HoldsWithin k m.control
  pub counted : (n : ℕ) (m : Machine S) → f n ≡ On m → m.run.unfixed ≤ length m.run.draws
  pub rooms : (n : ℕ) (m : Machine S) → f (suc n) ≡ On m → IsWithin r.memory.room (vec_capacity r.draws) m.run

-- a machine of Rust has as much room on its stacks as runs of a code without recursion take
pub record IsReserved (c : Code) (k : Here) : Type 0 where
  pub stack : length c.ops + length c.ops ≤ vec_capacity k.stack
  pub scopes : length c.ops ≤ vec_capacity k.scopes
  pub frames : length c.functions ≤ vec_capacity k.frames

-- machines of a code come to a control
abbrev pub IsReached : Code → Control → Type 0
IsReached c k = (n : ℕ) × ComesTo c (Unit {0}) unseen n k

-- with a budget of n steps: after any number of operations behind which the machine goes on and has at most so many steps left, at most
-- `cells` cells live (active calls are none of them) and at most `draws` draws were made
abbrev pub NeedsAtMost : Code → Choices → ℕ → ℕ → ℕ → ℕ → Type 0
NeedsAtMost c choices n left cells draws =
    (k : ℕ) (m : Machine (List Sight)) → steps c (List Sight) noted k (first_machine c (List Sight) [] choices n) ≡ On m → m.run.steps ≤ left → IsWithin cells draws m.run
