-- How many and-nodes an event costs, by what its place pays for the segments of a witness.
use Rattle.std.specs.Prelude.{ℕ, ◌+◌, ◌*◌, ◌≤◌, cond, List, [], ◌∷◌, length, Option, Some, None}
use Rattle.c_core.specs.Tree.{Program}
use Rattle.c_core.specs.Places.{call_at}
use Rattle.c_core.specs.Types.{width_of, common_of}
use Rattle.c_core.specs.declared.number.DataModel.{DataModel}
use Rattle.c_core.specs.declared.number.IntType.{IntType}
use Rattle.c_core.specs.declared.number.Spot.{Spot}
use Rattle.c_core.specs.declared.tree.Arm.{Arm}
use Rattle.circuits.specs.declared.bits.Bits.{Bits}
use Rattle.circuits.specs.declared.net.Bit.{Bit}
use denote.Ref.{Bor}
use Rattle.c_meaning.specs.Objects.{type_of}
use Rattle.way_match.specs.Points.{ReturnTest, Point, BoundSegment}
use Rattle.way_match.specs.Passing.{type_of_call}
use Rattle.seek_weight.specs.Tolls.{Happening, AStatement, ATest, ACall, constraint_weight, is_placed, toll}
use Rattle.seek_passes.specs.declared.event.SymEvent.{SymEvent}
use Rattle.seek_passes.specs.declared.event.SymEvent.TheVariants.{At, Enter, Return, Branch, Select}

-- of a comparison with a constant in a type: its truth value as an `int`, the bit of that, and whether it is defined
abbrev pub comparison_cost : DataModel → IntType → ℕ
comparison_cost m ty = 16 * width_of m ty + 33

module _ (p : Program) where
  -- of a constraint on the value of the call that ends there
  abbrev pub test_cost : Spot → ReturnTest → ℕ
  test_cost close t = comparison_cost p.model (common_of p.model (type_of_call (call_at p close)) (type_of t.constant))

  -- if there is one: a node more that says whether there is a value
  abbrev pub test_cost_if : Spot → Option ReturnTest → ℕ
  test_cost_if close None = 0
  test_cost_if close (Some t) = 1 + test_cost close t

  -- of the bit of a waypoint at events of a place: nothing where it isn't placed there
  abbrev pub placed_cost : Happening → Spot → Point → ℕ
  placed_cost h at x = cond (is_placed p h at x) (65 + constraint_weight p x) 0

  -- of the bit of a waypoint: only an expression costs anything
  abbrev pub point_weight : SymEvent → Point → ℕ
  point_weight (At spot) x = placed_cost AStatement spot x
  point_weight (Return close ty bits gave) x = placed_cost ACall close x
  point_weight _ x = 0

  -- of the bit that says whether one of these is passed: a node more for each
  abbrev pub any_weight : SymEvent → List Point → ℕ
  any_weight e [] = 0
  any_weight e (x ∷ xs) = 1 + point_weight e x + any_weight e xs

  -- of the bits of a segment
  abbrev pub segment_weight : SymEvent → BoundSegment → ℕ
  segment_weight e s = any_weight e s.avoids + point_weight e s.follow

  -- of the bits of all segments
  abbrev pub segments_weight : SymEvent → List BoundSegment → ℕ
  segments_weight e [] = 0
  segments_weight e (s ∷ ss) = segment_weight e s + segments_weight e ss

  -- 8 more for each segment, for what the event completes
  abbrev pub told_weight : SymEvent → List BoundSegment → ℕ
  told_weight e ss = segments_weight e ss + 8 * length ss

-- what the events of a place cost is paid by its toll: a statement and a test give one event, a call gives two
pub record IsPaid (p : Program) (ss : List BoundSegment) : Type 0 where
  pub statement : (spot : Spot) → told_weight p (At spot) ss ≤ toll p ss AStatement spot
  pub test : (spot : Spot) (truth : Bit) → told_weight p (Branch spot truth) ss ≤ toll p ss ATest spot
  pub switch : (spot : Spot) (ty : IntType) (value : Bor Bits) (arms : Bor (List Arm))
      (cases : Bor (List Bit)) (none : Bit)
      → told_weight p (Select spot ty value arms cases none) ss ≤ toll p ss ATest spot
  pub call : (close : Spot) (ty : IntType) (bits : Bor Bits) (gave : Bit)
      → told_weight p (Enter close) ss + told_weight p (Return close ty bits gave) ss ≤ toll p ss ACall close
