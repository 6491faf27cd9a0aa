-- What is judged of a program on a circuit: a mode.
--
-- The runs that a circuit follows take no steps and need no room, and draw their values in turn. What else they do is a
-- mode's: what a statement does before it is done, what another event does, where a violation ends a run, and what a
-- loop does of its turn.
use Rattle.std.specs.Prelude.{ℤ, Bool, List}
use Rattle.c_core.specs.declared.number.Spot.{Spot}
use Rattle.c_meaning.specs.declared.run.Draw.{Draw}
use Rattle.c_meaning.specs.declared.run.Duty.{Duty}
use Rattle.c_meaning.specs.declared.run.Event.{Event}
use Rattle.c_meaning.specs.Cells.{Cell}
use Rattle.c_meaning.specs.Meaning.{Where, Loop}
use Rattle.c_meaning.specs.Acts.{Res, Flow}
use Rattle.c_meaning.specs.Havoc.{Stopped}
use Rattle.sym_scale.specs.Scale.{Scale}

-- the live cells, the values left to draw, the draws made, which numbers of segments are completed
pub record JudgedState : Type 0 where
  pub cells : List Cell
  pub values : List ℤ
  pub draws : List Draw
  pub completed : List Bool

-- the live cells of a state
abbrev pub cells_judged : JudgedState → List Cell
cells_judged s = s.cells

-- a state with these cells
abbrev pub with_cells_judged : List Cell → JudgedState → JudgedState
with_cells_judged cs s = record s { cells = cs }

-- what a part does from a state: a result and a state, or an end
abbrev pub Act : Type 0 → Type 0
Act A = JudgedState → Res Stopped JudgedState A

-- a statement; where it is the turn of a loop it is told whether it may begin the loop's body, and no other is asked
abbrev pub Turn : Type 0
Turn = Bool → Act Flow

pub record Mode : Type 0 where
  -- what runs may fail at, each with a bit of the circuit
  pub duties : List Duty
  -- what it adds to the weights of a program's parts
  pub scale : Scale
  -- what a violation in a full expression fails at
  pub duty_at : Where → Duty
  -- whether a violation fails there; else it ends the run and nothing fails
  pub counts : Event → List Cell → List Bool → Bool
  -- a statement about to be done
  pub here : Spot → Act (Unit {0})
  -- which numbers of segments are completed after any other event, by those before it
  pub next : Event → List Cell → List Bool → List Bool
  -- a loop, of its turn
  pub loop : Spot → Loop → Turn → Act Flow
