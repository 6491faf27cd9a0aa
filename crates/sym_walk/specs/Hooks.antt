-- What a walk does where runs have an event, in any mode.
use Rattle.std.specs.Prelude.{ℕ, Bool, false, List, Option, Some, None}
use Rattle.c_core.specs.Tree.{Program}
use Rattle.c_core.specs.declared.number.IntType.{IntType}
use Rattle.c_core.specs.declared.number.Spot.{Spot}
use Rattle.c_meaning.specs.declared.run.Event.TheVariants as event
use Rattle.circuits.specs.declared.net.Bit.{Bit}
use Rattle.circuits.specs.Net.{holds}
use Rattle.circuits.specs.Numbers.{typed}
use Rattle.seek_passes.specs.declared.event.SymEvent.{SymEvent}
use Rattle.seek_passes.specs.declared.event.SymEvent.TheVariants.{At, Enter, Return, Branch, Select}
use Rattle.seek_passes.specs.Event.{event_in}
use Rattle.seek_passes.specs.Passing.{CanTell}
use Rattle.sym_flow.specs.Calling.{value_given}
use Rattle.sym_meaning.specs.Mode.{Mode}
use Rattle.sym_state.specs.declared.state.Sym.{Sym}
use Rattle.sym_state.specs.Following.{Follows}
use Rattle.sym_state.specs.Standing.{Turned}
use Rattle.sym_state.specs.Telling.{telling}

-- a function of this result gave a value: a void one gives none
abbrev pub has_given : Option IntType → Bool → Bool
has_given None gave = false
has_given (Some ty) gave = gave

module _ (p : Program) (W : Mode) where
  -- a statement at a place is about to be done
  abbrev pub Begins : Spot → Sym → Sym → Type 0
  Begins spot old new = Follows W.duties p (W.scale.statement spot) 0 old new (λ v u. Unit {0}) (λ v. W.here spot)

  -- and-nodes of an event
  abbrev pub event_cost : SymEvent → ℕ
  event_cost (At spot) = W.scale.statement spot
  event_cost (Enter close) = W.scale.enters close
  event_cost (Return close ty bits gave) = W.scale.returns close
  event_cost (Branch spot truth) = W.scale.test spot
  event_cost (Select spot ty value arms cases none) = W.scale.test spot

  -- it can be told from a state
  abbrev pub IsReady : SymEvent → Sym → Type 0
  IsReady e s = CanTell p e s (event_cost e)

  -- it is told
  abbrev pub IsTold : SymEvent → Sym → Sym → Type 0
  IsTold e old new = Turned p (event_cost e) 0 old new (λ v. telling W (event_in p old.net e v))

  -- a call of a function of this result came back: with the value of the bits where the other bit is true
  abbrev pub ComesBack : Spot → Option IntType → IntType → List Bit → Bit → Sym → Sym → Type 0
  ComesBack close result ty bits gave old new = Turned p (W.scale.returns close) 0 old new
      (λ v. telling W (event.Return close (value_given result (holds v old.net gave) (typed p.model ty v old.net bits))))
