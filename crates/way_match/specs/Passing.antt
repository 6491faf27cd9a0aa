-- The events of a run that pass a waypoint.
use Rattle.std.specs.Prelude.{ℤ, Bool, true, false, List, [], ◌∷◌, Option, Some, None, ◌&&◌, ◌||◌, nat_eq}
use Rattle.std.specs.Ordering.{int_eq}
use Rattle.c_core.specs.Types.{fit, common_of}
use Rattle.c_core.specs.Operators.{apply_of}
use Rattle.c_core.specs.Tree.{Exp, Program}
use Rattle.c_core.specs.Places.{call_at}
use Rattle.c_core.specs.declared.number.IntType.{IntType}
use Rattle.c_core.specs.declared.number.IntType.TheVariants.{Int}
use Rattle.c_core.specs.declared.number.DataModel.{DataModel}
use Rattle.c_core.specs.declared.number.BinOp.{BinOp}
use Rattle.c_core.specs.declared.number.Done.{Done}
use Rattle.c_core.specs.declared.number.Spot.{Spot}
use Rattle.c_meaning.specs.declared.run.Event.{Event}
use Rattle.c_meaning.specs.declared.run.Event.TheVariants as event
use Rattle.c_meaning.specs.declared.run.Way.{Way}
use Rattle.c_meaning.specs.declared.run.Way.TheVariants.{Truth, Case, Default}
use Rattle.c_meaning.specs.Cells.{Cell}
use Rattle.c_meaning.specs.Objects.{type_of}
use Rattle.c_core.specs.Parts.{same_spot}
use Rattle.c_meaning.specs.Value.{and_then, wrapping, value_of, is_true, holds}
use Rattle.way_match.specs.Points.{Aim, At, Line, ReturnTest, Point, Assume, Target, Enter, Return, Branch}

-- a target names the place
abbrev pub aims : Aim → Spot → Bool
aims (At spot) at = same_spot spot at
aims (Line line) at = nat_eq line at.line

-- the same of a place that may be absent
abbrev pub aims_if : Aim → Option Spot → Bool
aims_if aim None = false
aims_if aim (Some at) = aims aim at

-- an operator on values of two types, both converted to their common type (C11 6.3.1.8)
abbrev pub compared : DataModel → BinOp → IntType → ℤ → IntType → ℤ → Done
compared m op a x b y = apply_of m op (common_of m a b) (fit m (common_of m a b) x) (fit m (common_of m a b) y)

-- the value of an expression without names, if it is defined
abbrev pub constant_of : Program → Exp → Option ℤ
constant_of p e = value_of p e []

-- a returned value of a type meets the constraint; one that is undefined isn't met
abbrev pub meets : Program → ReturnTest → IntType → ℤ → Bool
meets p t ty v = is_true (and_then (constant_of p t.constant) (λ w. wrapping (compared p.model t.op ty v (type_of t.constant) w)))

-- the type of a call's value; `int` where there is no call, and a bound return is always at one
abbrev pub type_of_call : Option Exp → IntType
type_of_call None = Int
type_of_call (Some e) = type_of e

-- a call that came back to its closing parenthesis meets the constraint, if there is one; no value meets none
abbrev pub meets_at : Program → Spot → Option ReturnTest → Option ℤ → Bool
meets_at p close None v = true
meets_at p close (Some t) None = false
meets_at p close (Some t) (Some v) = meets p t (type_of_call (call_at p close)) v

-- both are true, or both false
abbrev pub same_truth : Bool → Bool → Bool
same_truth true way = way
same_truth false true = false
same_truth false false = true

-- the way that was taken is the one that the waypoint states
abbrev pub same_way : Way → Way → Bool
same_way (Truth a) (Truth b) = same_truth a b
same_way (Case a) (Case b) = int_eq a b
same_way Default Default = true
same_way _ _ = false

-- the event passes the waypoint, in the memory of its moment
abbrev pub passes : Program → Point → Event → List Cell → Bool
passes p (Assume spot test) (event.At at) cells = same_spot spot at && holds p test cells
passes p (Target aim) (event.Fail statement full call) cells = aims aim statement || (aims aim full || aims_if aim call)
passes p (Enter close) (event.Enter at) cells = same_spot close at
passes p (Return close test) (event.Return at v) cells = same_spot close at && meets_at p close test v
passes p (Branch spot way) (event.Branch at taken) cells = same_spot spot at && same_way way taken
passes p _ _ cells = false

-- the event passes one of the waypoints
abbrev pub passes_any : Program → List Point → Event → List Cell → Bool
passes_any p [] e cells = false
passes_any p (x ∷ xs) e cells = passes p x e cells || passes_any p xs e cells

-- two segments may share an event only where both follow an assumption
abbrev pub is_assumption : Point → Bool
is_assumption (Assume spot test) = true
is_assumption _ = false
