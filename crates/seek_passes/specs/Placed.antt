-- What a waypoint asks of the events of a place, if it asks anything of them.
use Rattle.std.specs.Prelude.{◌≡◌, ℤ, Bool, true, false, List, Option, Some, None}
use Rattle.c_core.specs.Tree.{Exp, Program}
use Rattle.c_core.specs.Parts.{same_spot}
use Rattle.c_core.specs.declared.number.Spot.{Spot}
use Rattle.c_meaning.specs.Cells.{Cell}
use Rattle.c_meaning.specs.declared.run.Event.TheVariants as event
use Rattle.c_meaning.specs.declared.run.Way.{Way}
use Rattle.way_match.specs.Points.{Point, Assume, Return, ReturnTest}
use Rattle.way_match.specs.Passing.{passes, same_way}

-- an assumption there
abbrev pub IsAssumed : Point → Spot → Exp → Type 0
IsAssumed x at test = (spot : Spot) × (x ≡ Assume spot test) × (same_spot spot at ≡ true)

-- no statement there passes it
abbrev pub NoneAssumed : Point → Spot → Type 0
NoneAssumed x at = (p : Program) (cells : List Cell) → passes p x (event.At at) cells ≡ false

-- a return there, with its constraint
abbrev pub IsCameBack : Point → Spot → Option ReturnTest → Type 0
IsCameBack x at test = (close : Spot) × (x ≡ Return close test) × (same_spot close at ≡ true)

-- no call that comes back there passes it
abbrev pub NoneCameBack : Point → Spot → Type 0
NoneCameBack x at =
    (p : Program) (given : Option ℤ) (cells : List Cell) → passes p x (event.Return at given) cells ≡ false

-- the way that is taken is the one that is asked for, if one is
abbrev pub asks : Option Way → Way → Bool
asks None taken = false
asks (Some way) taken = same_way way taken
