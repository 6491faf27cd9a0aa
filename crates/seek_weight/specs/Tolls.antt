-- What the segments of a witness weigh wherever an event may pass their waypoints.
use Rattle.std.specs.Prelude.{ℕ, ◌+◌, ◌*◌, Bool, false, cond, List, [], ◌∷◌, ◌++◌, length, Some}
use Rattle.c_core.specs.Places.{call_at}
use Rattle.c_core.specs.Tree.{Program}
use Rattle.c_core.specs.declared.number.Spot.{Spot}
use Rattle.c_core.specs.declared.number.IntType.{IntType}
use Rattle.c_core.specs.Parts.{same_spot}
use Rattle.c_meaning.specs.Objects.{type_of}
use Rattle.way_match.specs.Points.{ReturnTest, Point, Assume, Enter, Return, Branch, BoundSegment}
use Rattle.way_match.specs.Passing.{type_of_call}
use Rattle.sym_weight.specs.Table.{expression_weight, operation}
use Rattle.sym_weight.specs.Sum.{expression}
use Rattle.sym_weight.specs.Weight.{weighing}

-- what gives events: a statement; a controlling expression or the test of `?:`; a call
pub data Happening : Type 0 where
  AStatement ATest ACall : Happening

-- the waypoints of a witness
abbrev pub points_of : List BoundSegment → List Point
points_of [] = []
points_of (s ∷ ss) = s.avoids ++ s.follow ∷ points_of ss

module _ (p : Program) where
  -- `\result op E`: a comparison of a node with E
  abbrev pub return_weight : ReturnTest → IntType → ℕ
  return_weight t ty =
      2 * expression_weight + (operation p.model t.op ty (type_of t.constant) + expression p (weighing (λ f. 0)) t.constant)

  -- the constraint of a waypoint, if it has one that is an expression
  abbrev pub constraint_weight : Point → ℕ
  constraint_weight (Assume at test) = expression p (weighing (λ f. 0)) test
  constraint_weight (Return close (Some t)) = return_weight t (type_of_call (call_at p close))
  constraint_weight _ = 0

  -- an event there may pass the waypoint; a target is placed nowhere
  abbrev pub is_placed : Happening → Spot → Point → Bool
  is_placed AStatement at (Assume spot test) = same_spot spot at
  is_placed ATest at (Branch spot way) = same_spot spot at
  is_placed ACall at (Enter close) = same_spot close at
  is_placed ACall at (Return close test) = same_spot close at
  is_placed _ at _ = false

  -- 64 and the constraint for each waypoint that is placed there
  abbrev pub placed_weight : Happening → Spot → List Point → ℕ
  placed_weight h at [] = 0
  placed_weight h at (x ∷ xs) = cond (is_placed h at x) (64 + constraint_weight x) 0 + placed_weight h at xs

-- 128, and 64 for each waypoint of the witness
abbrev pub passage : List BoundSegment → ℕ
passage ss = 128 + 64 * length (points_of ss)

-- each time that something there is done
abbrev pub toll : Program → List BoundSegment → Happening → Spot → ℕ
toll p ss h at = passage ss + placed_weight p h at (points_of ss)
