-- How many operations a machine does at most with its steps.
use Rattle.std.specs.Prelude.{◌≡◌, ◌≤◌, ◌<◌, ◌⊎◌, ℕ, ℤ, suc, ◌+◌, ◌*◌, ◌-◌, nat_lt, Bool, true, false, ◌&&◌, ◌||◌, List, [], length, Option, Some, None, slice_get}
use Rattle.c_meaning.specs.declared.run.Choices.{Choices}
use Rattle.c_meaning.specs.Run.{most_cells}
use Rattle.flow_code.specs.declared.code.Action.{Action}
use Rattle.flow_code.specs.declared.code.Action.TheVariants.{Give, Truth, Convert, Look, Operate, OperateOne, Jump, Select, Open, Input}
use Rattle.flow_code.specs.declared.code.Body.{Body}
use Rattle.flow_code.specs.declared.code.Code.{Code}
use Rattle.flow_code.specs.declared.code.Op.{Op}
use Rattle.flow_code.specs.declared.code.Then.{Then}
use Rattle.flow_code.specs.declared.code.Then.TheVariants.{Push, Drop, Skip, Branch}
use Rattle.flow_code.specs.Tables.{address_or}
use Rattle.flow_laws.specs.Machines.{Control, Machine, first_machine}
use Rattle.flow_laws.specs.Runs.{Sight, noted}
use Rattle.flow_laws.specs.Stepping.{On, steps}

-- the address to which a value may lead
abbrev pub target_in : Then → Option ℕ
target_in Push = None
target_in Drop = None
target_in (Skip way to) = Some to
target_in (Branch at way to) = Some to

-- the address of its function to which an action may lead, besides the next one, where a value is on top of the stack
abbrev pub target_of : Action → ℤ → Option ℕ
target_of (Give y x) v = target_in x.then
target_of (Truth y x) v = target_in x.then
target_of (Convert ty y x) v = target_in x.then
target_of (Look o n y spot x) v = target_in x.then
target_of (Operate o word count a b from x) v = target_in x.then
target_of (OperateOne o word a from x) v = target_in x.then
target_of (Jump to) v = Some to
target_of (Select at cases other) v = Some (address_or cases other v)
target_of (Input spot close ty x) v = target_in x.then
target_of _ v = None

-- an action opens a scope
abbrev pub opens : Action → Bool
opens Open = true
opens _ = false

-- there is an operation that takes a step
abbrev pub takes_step : Option Op → Bool
takes_step None = false
takes_step (Some o) = nat_lt 0 o.steps

-- there is an operation that opens a scope
abbrev pub opens_scope : Option Op → Bool
opens_scope None = false
opens_scope (Some o) = opens o.action

-- the operation at an address takes a step, or it opens a scope and the next one takes a step
abbrev pub takes_soon : List Op → ℕ → Bool
takes_soon ops i = takes_step (slice_get ops i) || (opens_scope (slice_get ops i) && takes_step (slice_get ops (suc i)))

-- an action leads to higher addresses only, or to operations that take a step soon; a function begins with an operation that takes one
pub record IsPaced (c : Code) : Type 0 where
  pub leads : (i j : ℕ) (o : Op) (v : ℤ) → slice_get c.ops i ≡ Some o → target_of o.action v ≡ Some j → (i < j) ⊎ (takes_soon c.ops j ≡ true)
  pub begins : (f : ℕ) (b : Body) → slice_get c.functions f ≡ Some b → takes_step (slice_get c.ops b.entry) ≡ true

-- an operation that takes a step: nothing; one that takes one soon: one; else so many
abbrev pub ahead_by : Bool → Bool → ℕ → ℕ
ahead_by true soon n = 0
ahead_by false true n = 1
ahead_by false false n = n

-- from an address on, in so many calls: at most so many operations are done before one that takes a step, or before the run ends
abbrev pub ahead_at : Code → ℕ → ℕ → ℕ
ahead_at c i d = ahead_by (takes_step (slice_get c.ops i)) (takes_soon c.ops i) (d * (length c.ops + 3) + (length c.ops - i + 2))

-- the same of a machine
abbrev pub ahead : Code → Control → ℕ
ahead c k = ahead_at c k.at (length k.frames)

-- more than are done between two steps, since there is a most of calls
abbrev pub pace : Code → ℕ
pace c = (most_cells + 1) * (length c.ops + 3)

-- a number that each operation lowers
abbrev pub still : {S : Type 0} → Code → Machine S → ℕ
still c m = m.run.steps * pace c + ahead c m.control

-- an operation that takes a step isn't paid yet; the machine has noted the calls that are active, which aren't too many
pub record IsInOrder {S : Type 0} (c : Code) (m : Machine S) : Type 0 where
  pub unpaid : (o : Op) → slice_get c.ops m.control.at ≡ Some o → 0 < o.steps → m.control.paid < o.steps
  pub noted : m.run.active ≡ length m.control.frames
  pub few : m.run.active ≤ most_cells

-- a machine that k operations lead to from the first one has done at most so many as n steps pay
pub record IsWithinPace (c : Code) : Type 0 where
  pub within : (choices : Choices) (n k : ℕ) (m : Machine (List Sight)) → steps c (List Sight) noted k (first_machine c (List Sight) [] choices n) ≡ On m → k ≤ (n + 1) * pace c
