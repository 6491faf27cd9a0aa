-- Events of symbolic runs: which event each run gives, by the bits that its circuit has.
use Rattle.std.specs.Prelude.{◌≡◌, ℕ, Bool, true, false, not, ℤ, List, map, Option, Some, None}
use Rattle.std.specs.List.{list_any}
use Rattle.c_core.specs.Tree.{Program}
use Rattle.c_core.specs.Typing.{labels_in}
use Rattle.c_core.specs.View.{switch_view}
use Rattle.c_core.specs.declared.number.DataModel.{DataModel}
use Rattle.c_core.specs.declared.number.IntType.{IntType}
use Rattle.c_core.specs.declared.tree.Arm.{Arm}
use Rattle.c_meaning.specs.declared.run.Event.{Event as RunEvent}
use Rattle.c_meaning.specs.declared.run.Event.TheVariants as event
use Rattle.c_meaning.specs.declared.run.Way.TheVariants.{Truth}
use Rattle.c_meaning.specs.Run.{is_case, way_for}
use Rattle.circuits.specs.declared.net.Bit.{Bit}
use Rattle.circuits.specs.declared.net.NetNode.{NetNode}
use Rattle.circuits.specs.Net.{holds, IsIn}
use Rattle.circuits.specs.Numbers.{typed, AreIn, AreTyped}
use Rattle.seek_passes.specs.declared.event.SymEvent.{SymEvent}
use Rattle.seek_passes.specs.declared.event.SymEvent.TheVariants.{At, Enter, Return, Branch, Select}

-- the value, where one is given
abbrev pub given_if : Bool → ℤ → Option ℤ
given_if true z = Some z
given_if false z = None

-- bits that say arm by arm whether a value is its constant
abbrev pub AreCasesOf : List NetNode → List Bit → List Arm → ((ℕ → Bool) → ℤ) → Type 0
AreCasesOf net cases arms z =
    (v : ℕ → Bool) → map (holds v net) cases ≡ map (is_case (z v)) (labels_in (switch_view arms))

-- a bit that says whether it is none of the constants
abbrev pub IsNoneOf : List NetNode → Bit → List Arm → ((ℕ → Bool) → ℤ) → Type 0
IsNoneOf net none arms z =
    (v : ℕ → Bool) → holds v net none ≡ not (list_any (is_case (z v)) (labels_in (switch_view arms)))

-- a value of a switch, and the bits that say which arm it takes
pub record IsSelection (m : DataModel) (net : List NetNode) (ty : IntType) (value : List Bit) (arms : List Arm)
    (cases : List Bit) (none : Bit) : Type 0 where
  pub value_in : AreTyped m ty net value
  pub cases_in : AreIn net cases
  pub none_in : IsIn net none
  pub cases_are : AreCasesOf net cases arms (λ v. typed m ty v net value)
  pub none_is : IsNoneOf net none arms (λ v. typed m ty v net value)

-- what comes back from a call: a value of a type, and a bit that says where it is given
pub record IsReturned (m : DataModel) (net : List NetNode) (ty : IntType) (bits : List Bit) (gave : Bit) : Type 0 where
  pub bits_in : AreTyped m ty net bits
  pub gave_in : IsIn net gave

module _ (p : Program) (net : List NetNode) where
  -- the event of the run under inputs
  abbrev pub event_in : SymEvent → (ℕ → Bool) → RunEvent
  event_in (At spot) v = event.At spot
  event_in (Enter close) v = event.Enter close
  event_in (Return close ty bits gave) v =
      event.Return close (given_if (holds v net gave) (typed p.model ty v net bits.now.bits))
  event_in (Branch spot truth) v = event.Branch spot (Truth (holds v net truth))
  event_in (Select spot ty value arms cases none) v =
      event.Branch spot (way_for (typed p.model ty v net value.now.bits) (labels_in (switch_view arms.now)))

  -- its bits are bits of the net, and say what they are to say
  abbrev pub IsEvent : SymEvent → Type 0
  IsEvent (At spot) = Unit {0}
  IsEvent (Enter close) = Unit {0}
  IsEvent (Return close ty bits gave) = IsReturned p.model net ty bits.now.bits gave
  IsEvent (Branch spot truth) = IsIn net truth
  IsEvent (Select spot ty value arms cases none) = IsSelection p.model net ty value.now.bits arms.now cases.now none
