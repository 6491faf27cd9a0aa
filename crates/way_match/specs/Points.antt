-- The waypoints of a violation witness, bound to the places and the typed expressions of a program.
use Rattle.std.specs.Prelude.{ℕ, List, Option}
use Rattle.c_core.specs.Tree.{Exp}
use Rattle.c_core.specs.declared.number.Spot.{Spot}
use Rattle.c_core.specs.declared.number.BinOp.{BinOp}
use Rattle.c_meaning.specs.declared.run.Way.{Way}

-- where a target lies: at a place, or at every suitable place of a line
pub data Aim : Type 0 where
  At : Spot → Aim
  Line : ℕ → Aim

-- `\result op constant`; the constant holds no names
pub record ReturnTest : Type 0 where
  pub op : BinOp
  pub constant : Exp

-- a bound waypoint: its place, and what it asks of the event there
pub data Point : Type 0 where
  -- an assumption at a statement
  Assume : Spot → Exp → Point
  Target : Aim → Point
  -- a function is entered, or returns, at the closing parenthesis of a call
  Enter : Spot → Point
  Return : Spot → Option ReturnTest → Point
  -- a branching takes this way
  Branch : Spot → Way → Point

-- the waypoints to avoid until the one to follow is passed
pub record BoundSegment : Type 0 where
  pub avoids : List Point
  pub follow : Point
