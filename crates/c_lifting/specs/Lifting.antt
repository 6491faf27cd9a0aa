-- What holds of every run of a program all of whose obligations hold.
use Rattle.std.specs.Prelude.{◌≡◌, ◌≤◌, ℕ, Bool, true, false, List, length, IsTrue}
use Rattle.std.specs.List.{All}
use Rattle.c_core.specs.Tree.{Program}
use Rattle.c_core.specs.declared.number.Spot.{Spot}
use Rattle.c_meaning.specs.declared.run.Choices.{Choices}
use Rattle.c_meaning.specs.declared.run.End.TheVariants.{Violated}
use Rattle.c_meaning.specs.Cells.{Cell}
use Rattle.c_meaning.specs.Value.{holds}
use Rattle.c_meaning.specs.Duties.{Placed, Duties}
use Rattle.c_meaning.specs.Havoc.{stands, ObligationHolds}
use Rattle.c_meaning.specs.Run.{Moment, Told, Here, Head, Run, Moments}

-- I: the invariants in witness order
module _ (p : Program) (I : List Placed) where
  -- all obligations hold, numbered from 1 on
  abbrev pub EveryObligationHolds : Type 0
  EveryObligationHolds = (number : ℕ) → 1 ≤ number → number ≤ length (Duties p I) → ObligationHolds p I number

  -- an invariant holds in these cells, if it is one of this place, at its loop or at its statement
  abbrev pub HoldsAt : Bool → Spot → Placed → List Cell → Type 0
  HoldsAt at_loop spot x cs = IsTrue (stands p I at_loop spot x) → IsTrue (holds p x.test cs)

  -- all invariants of this place hold in these cells
  abbrev pub AllHold : Bool → Spot → List Cell → Type 0
  AllHold at_loop spot cs = All (λ x. HoldsAt at_loop spot x cs) I

  -- location invariants hold each time their statement is about to be done, loop invariants each time the head is reached
  abbrev pub IsLifted : Moment → Type 0
  IsLifted (Told e cs) = Unit {0}
  IsLifted (Here spot cs) = AllHold false spot cs
  IsLifted (Head spot l arrived now) = AllHold true spot now

  -- of every run, whatever its choices and its budget of steps
  pub record Lifted : Type 0 where
    pub never_violated : (c : Choices) (N : ℕ) (spot : Spot) → (Run p c N).end ≡ Violated spot → ⊥
    pub invariants : (c : Choices) (N : ℕ) → All IsLifted (Moments p c N)
