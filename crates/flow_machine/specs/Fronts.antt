-- What a watcher has seen where memory ran out.
use Rattle.std.specs.Prelude.{◌≡◌, ℕ, suc, ℤ, List, [], ◌∷◌, ◌++◌, Option, Result, IfErr}
use Rattle.c_core.specs.Tree.{Program}
use Rattle.c_meaning.specs.declared.run.Choices.{Choices}
use Rattle.c_meaning.specs.declared.run.End.{End}
use Rattle.c_meaning.specs.declared.run.Event.{Event}
use Rattle.c_meaning.specs.Acts.{Res, Go, Stop}
use Rattle.c_meaning.specs.Cells.{Cell}
use Rattle.c_meaning.specs.Run.{Moment, Told, Moments, State}
use Rattle.run_state.specs.Fronts.{SawFront}
use Rattle.run_state.specs.declared.machine.Halt.{Halt}
use Rattle.run_state.specs.declared.machine.Halt.TheVariants.{Ends, NoMemory}
use Rattle.flow_code.specs.declared.code.Action.{Action}
use Rattle.flow_code.specs.declared.code.Code.{Code}
use Rattle.flow_laws.specs.Acting.{acted, left_by}
use Rattle.flow_laws.specs.Machines.{Control, Machine}
use Rattle.flow_laws.specs.declared.frame.Frame.{Frame}
use Rattle.flow_laws.specs.Stepping.{Turn, On, Short, Over, step, steps}

-- where memory ran out, this is so
abbrev pub IfBroken : Halt → Type 0 → Type 0
IfBroken (Ends e) P = Unit {0}
IfBroken NoMemory P = P

-- where a part ran out of memory, this is so
abbrev pub OnBroken : {A : Type 0} → Result A Halt → Type 0 → Type 0
OnBroken r P = IfErr r (λ h. IfBroken h P)

-- who keeps each event as a moment, the latest last
abbrev pub kept : Event → List Cell → List Moment → List Moment
kept e cs ms = ms ++ Told e cs ∷ []

-- what such a watcher has kept after a part
abbrev pub kept_by : {A : Type 0} → Res End (State (List Moment)) A → List Moment
kept_by (Go a s) = s.seen
kept_by (Stop e s) = s.seen

-- what it has kept after operations
abbrev pub kept_in : Turn (List Moment) → List Moment
kept_in (On m) = m.run.seen
kept_in (Short m) = m.run.seen
kept_in (Over e s) = s.seen

module _ (c : Code) where
  -- the events of an action
  abbrev pub events_of : Action → Control → State (List Moment) → List Moment
  events_of a k s = kept_by (acted c (List Moment) kept a k s)

  -- the events of the way out of a function
  abbrev pub events_leaving : List Frame → Option ℤ → Control → State (List Moment) → List Moment
  events_leaving fs v k s = kept_by (left_by c (List Moment) kept fs v k s)

  -- the events of the next operation
  abbrev pub events_next : Machine (List Moment) → List Moment
  events_next m = kept_in (step c (List Moment) kept m)

  -- the events of n operations
  abbrev pub events_in : Machine (List Moment) → ℕ → List Moment
  events_in m n = kept_in (steps c (List Moment) kept n m)

-- f n are the events of n operations: after some of them the next one ran out of memory, and from x on a front of their events and of its own was seen
abbrev pub SawSome : {S : Type 0} → (Event → List Cell → S → S) → (ℕ → List Moment) → S → S → Type 0
SawSome after f x y = (n : ℕ) × SawFront after (f (suc n)) x y

-- a run that had n steps ran out of memory on its way to m: of the moments that follow the watcher has seen a front, and no more
pub record BreaksOff (p : Program) (c : Choices) (n m : ℕ) {S : Type 0} (after : Event → List Cell → S → S) (old new : S) : Type 0 where
  pub more : List Moment
  pub continues : Moments p c m ≡ Moments p c n ++ more
  pub front : SawFront after more old new
