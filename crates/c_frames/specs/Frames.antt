-- What a loop leaves as it was.
use Rattle.std.specs.Prelude.{◌≡◌, ◌⊎◌, ◌<◌, ℕ, false, List, [], ◌∷◌, Option, Some, None, IsTrue}
use Rattle.c_core.specs.Tree.{Stm, Stmt, Program}
use Rattle.c_core.specs.declared.number.IntType.{IntType}
use Rattle.c_core.specs.declared.number.Spot.{Spot}
use Rattle.c_meaning.specs.Cells.{Key, Cell, live}
use Rattle.c_meaning.specs.Objects.{size_of_object}
use Rattle.c_meaning.specs.Parts.{is_in}
use Rattle.c_meaning.specs.Changed.{changed_by}
use Rattle.c_meaning.specs.Meaning.{Loop}
use Rattle.c_meaning.specs.Acts.{Go, Next}
use Rattle.c_meaning.specs.Exec.{turn}
use Rattle.c_meaning.specs.Fitting.{calls_in}
use Rattle.c_meaning.specs.Run.{Moment, Told, Here, Head, State, real}
use Rattle.c_calls.specs.Loops.{loop_of}

module _ (p : Program) (changed : List ℕ) where
  -- a cell of one of these objects
  abbrev pub IsCellOf : Key → Type 0
  IsCellOf k = IsTrue (is_in k.object changed) × (k.index < size_of_object p k.object)

  -- the cells now are those before, in their places and under their names; another value stands only in a name's innermost cell, and only of these objects
  abbrev pub SameBut : List Cell → List Cell → Type 0
  SameBut [] [] = Unit {0}
  SameBut [] (now ∷ later) = ⊥
  SameBut (before ∷ behind) [] = ⊥
  SameBut (before ∷ behind) (now ∷ later) = (now.key ≡ before.key) × ((now.value ≡ before.value) ⊎ (IsCellOf before.key × (live before.key behind ≡ false))) × SameBut behind later

-- at a loop's head the cells are those at its arrival, but for what the loop changes
abbrev pub IsFramed : Program → Moment → Type 0
IsFramed p (Told e cs) = Unit {0}
IsFramed p (Here spot cs) = Unit {0}
IsFramed p (Head at l arrived now) = SameBut p (changed_by p l) arrived now

-- a turn of a loop at a place that comes back to the head, with calls at most n deep, leaves the cells as they were, but for what the loop changes
abbrev pub IsFramedTurn : Program → Spot → Loop → Type 0
IsFramedTurn p at l = (n : ℕ) (result : Option IntType) (s t : State (List Moment))
    → turn p (real p (List Moment) (λ x xs. x ∷ xs)) (calls_in p (real p (List Moment) (λ x xs. x ∷ xs)) n) result at l s ≡ Go Next t → SameBut p (changed_by p l) s.cells t.cells

abbrev pub IfLoop : Program → Spot → Option Loop → Type 0
IfLoop p at None = Unit {0}
IfLoop p at (Some l) = IsFramedTurn p at l

-- if the statement is a loop
abbrev pub TurnsAreFramed : Program → Stm → Type 0
TurnsAreFramed p (Stmt at f) = IfLoop p at (loop_of f)
