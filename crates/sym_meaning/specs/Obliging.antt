-- The mode of obligations: invariants are tested at their statements, loops are cut at their heads, and each violation
-- fails the obligation of its full expression. No segments are followed.
use Rattle.std.specs.Prelude.{◌≡◌, ℕ, zero, suc, ℤ, Bool, true, false, cond, not, ◌&&◌, List, [], ◌∷◌, Some, None}
use Rattle.c_core.specs.Tree.{Program}
use Rattle.c_core.specs.declared.number.Spot.{Spot}
use Rattle.c_meaning.specs.declared.run.DrawKind.TheVariants.{Havoc as AHavocDraw}
use Rattle.c_meaning.specs.declared.run.DutyKind.{DutyKind}
use Rattle.c_meaning.specs.declared.run.DutyKind.TheVariants.{Location, Entry, Kept, Property as PropertyKind}
use Rattle.c_meaning.specs.Objects.{type_of_object, size_of_object}
use Rattle.c_meaning.specs.Meaning.{Loop}
use Rattle.c_meaning.specs.Acts.{Res, Go, Stop, Flow, Next, Broken, Again, Gave, bind}
use Rattle.c_meaning.specs.Acts as acts
use Rattle.c_meaning.specs.Havoc.{Stopped, Passes, Dismisses, Fails, Left, stands, havoc_in}
use Rattle.c_meaning.specs.Value.{holds}
use Rattle.c_meaning.specs.Changed.{changed_by}
use Rattle.c_meaning.specs.Duties.{Placed, duty, Duties}
use Rattle.sym_scale.specs.Obliged.{obliged}
use Rattle.sym_meaning.specs.Mode.{JudgedState, cells_judged, with_cells_judged, Act, Mode}
use Rattle.sym_meaning.specs.Judged.{draw, judged_in}

infixr 20 ◌>>=◌
infixr 20 ◌>>◌
-- one part, then the one that its result calls for
abbrev ◌>>=◌ : {A B : Type 0} → Act A → (A → Act B) → Act B
◌>>=◌ m f = λ s. bind (m s) f

-- one part, then another
abbrev ◌>>◌ : {A B : Type 0} → Act A → Act B → Act B
◌>>◌ m f = λ s. bind (m s) (λ _. f)

-- I: the invariants in witness order
module _ (p : Program) (I : List Placed) where
  -- the invariants of a place are tested in turn, from number i on
  abbrev pub test_from : ℕ → List Placed → Bool → Spot → DutyKind → Act (Unit {0})
  test_from i [] at_loop spot kind = λ s. Go tt s
  test_from i (x ∷ xs) at_loop spot kind = λ s.
      cond (stands p I at_loop spot x && not (holds p x.test s.cells))
      (Stop (Fails (duty spot kind (Some i))) s)
      (test_from (suc i) xs at_loop spot kind s)

  -- a run goes on only where the loop's invariants hold
  abbrev pub assume_all : List Placed → Spot → Act (Unit {0})
  assume_all [] spot = λ s. Go tt s
  assume_all (x ∷ xs) spot = λ s.
      cond (stands p I true spot x && not (holds p x.test s.cells)) (Stop Dismisses s) (assume_all xs spot s)

  -- this many cells of an object from an index on draw in turn
  abbrev pub redraw_cells : Spot → ℕ → ℕ → ℕ → Act (Unit {0})
  redraw_cells spot o i zero = λ s. Go tt s
  redraw_cells spot o i (suc n) = do
    v ← draw p AHavocDraw spot (type_of_object p o)
    acts.write Stopped JudgedState cells_judged with_cells_judged (record { object = o; index = i }) v
    redraw_cells spot o (suc i) n

  -- all cells of these objects draw, in order
  abbrev pub redraw : Spot → List ℕ → Act (Unit {0})
  redraw spot [] = λ s. Go tt s
  redraw spot (o ∷ os) = redraw_cells spot o 0 (size_of_object p o) >> redraw spot os

  -- after the one turn: at the head the invariants are tested once more
  abbrev pub close : Spot → Flow → Act Flow
  close spot Next = test_from 0 I true spot Kept >> (λ s. Stop Passes s)
  close spot Broken = λ s. Go Next s
  close spot Again = λ s. Go Again s
  close spot (Gave v) = λ s. Go (Gave v) s

  -- a loop: its invariants are tested on arrival, what it changes is drawn, the invariants are assumed, and one turn is
  -- taken
  abbrev pub loop : Spot → Loop → Act Flow → Act Flow
  loop spot l turn = do
    test_from 0 I true spot Entry
    redraw spot (changed_by p l)
    assume_all I spot
    flow ← turn
    close spot flow

  abbrev pub obliging : Mode
  obliging = record {
    duties = Duties p I;
    scale = obliged p I;
    duty_at = λ at. duty at.full PropertyKind None;
    counts = λ e cells completed. true;
    here = λ spot. test_from 0 I false spot Location;
    next = λ e cells completed. completed;
    loop = λ spot l turn. loop spot l (turn true);
  }

-- a judged run that follows no segments, as a havoc run
abbrev pub as_havoc : {A : Type 0} → Res Stopped JudgedState A → Res Stopped Left A
as_havoc (Go a s) = Go a (record { cells = s.cells; values = s.values; draws = s.draws })
as_havoc (Stop e s) = Stop e (record { cells = s.cells; values = s.values; draws = s.draws })

-- in the mode of obligations the judged run is the havoc run
abbrev pub IsHavocRun : Program → List Placed → ℕ → List ℤ → List Bool → Type 0
IsHavocRun p I n w before = as_havoc (judged_in p (obliging p I) n w before) ≡ havoc_in p I n w
