-- The segments of a violation witness that fixes what a run draws: each input comes back with its value, then the property is violated.
use Rattle.std.specs.Prelude.{◌≡◌, ℕ, suc, ◌-◌, ◌^◌, ℤ, pos, negsuc, Bool, false, cond, not, nat_lt, List, [], ◌∷◌, ◌++◌, map, Option, Some, None, Result, Ok, Err, codes, decimal}
use Rattle.c_core.specs.Types.{is_zero}
use Rattle.c_core.specs.Tree.{Program}
use Rattle.c_core.specs.declared.number.Spot.{Spot}
use Rattle.author_runs.specs.Returning.{CameBack, returns_in, violated_at}
use Rattle.c_meaning.specs.Run.{Moment, Run, Moments}
use Rattle.c_meaning.specs.declared.run.Choices.TheVariants.{InTurn}
use Rattle.c_meaning.specs.declared.run.Draw.{Draw}
use Rattle.c_meaning.specs.declared.run.DrawKind.{DrawKind}
use Rattle.c_meaning.specs.declared.run.DrawKind.TheVariants.{Input, Cell, Havoc}
use Rattle.c_meaning.specs.declared.run.End.{End}
use Rattle.c_meaning.specs.declared.run.End.TheVariants.{Violated}
use Rattle.c_meaning.specs.declared.run.Run.{Run as Made}
use Rattle.wv_schema.specs.declared.witness.Constraint.{Constraint}
use Rattle.wv_schema.specs.declared.witness.Location.{Location}
use Rattle.wv_schema.specs.declared.witness.Segment.{Segment}
use Rattle.wv_schema.specs.declared.witness.WayKind.{WayKind}
use Rattle.wv_schema.specs.declared.witness.WayKind.TheVariants.{Target, FunctionReturn}
use Rattle.wv_author.specs.declared.authoring.AuthorFault.{AuthorFault}
use Rattle.wv_author.specs.declared.authoring.AuthorFault.TheVariants.{NotViolated, CellValue, OutOfMemory}

-- ---- values

-- a constant expression of C with this value, which its type holds (C11 6.4.4.1): 2^63 and above take a suffix, and there is no
-- constant whose negation is -2^63
abbrev pub constant_text : ℤ → List ℕ
constant_text (pos n) = decimal n ++ cond (nat_lt n (2 ^ 63)) [] (codes "ULL")
constant_text (negsuc n) = cond (nat_lt n (2 ^ 63 - 1)) (codes "-" ++ decimal (suc n)) (codes "-9223372036854775807 - 1")

-- an input call comes back with this value
unfoldable pub result_text : ℤ → List ℕ
result_text v = codes "\\result == " ++ constant_text v

-- ---- places

-- a place in a file
abbrev pub located : List ℕ → Spot → Location
located file spot = record { file_name = Some file; line = spot.line; column = Some spot.column; function = None }

-- ---- segments

-- a waypoint to follow, and none to avoid
abbrev pub following : WayKind → Location → Option Constraint → Segment
following kind location constraint = record { avoids = []; follow = record { kind = kind; location = location; constraint = constraint } }

-- the input call that ends there comes back with this value
abbrev pub returning : List ℕ → ℤ → Spot → Segment
returning file v close = following FunctionReturn (located file close) (Some (record { value = result_text v; format = Some (codes "c_expression") }))

-- the property is violated in the statement that begins there
abbrev pub violating : List ℕ → Spot → Segment
violating file statement = following Target (located file statement) None

-- the segment of an input that comes back
abbrev pub returning_of : List ℕ → CameBack → Segment
returning_of file b = returning file b.value b.close

-- the segment of a violation
abbrev pub target_of : List ℕ → Option Spot → List Segment
target_of file None = []
target_of file (Some statement) = violating file statement ∷ []

-- the segments of a run in which the property is violated: a segment for each input that comes back, then that of the violation
abbrev pub segments_of_run : Program → List ℕ → List Moment → List Segment
segments_of_run p file xs = map (returning_of file) (returns_in p xs) ++ target_of file (violated_at xs)

-- ---- answers

-- a cell without initializer drew something else than 0, which no waypoint fixes
abbrev pub is_free_by : DrawKind → ℤ → Bool
is_free_by Input v = false
is_free_by Cell v = not (is_zero v)
is_free_by Havoc v = not (is_zero v)

-- the place of the first such draw
abbrev pub first_free : List Draw → Option Spot
first_free [] = None
first_free (d ∷ ds) = cond (is_free_by d.from d.value) (Some d.spot) (first_free ds)

-- the run that takes these values in turn
abbrev pub RunOf : Program → List ℤ → ℕ → Made
RunOf p vs N = Run p (InTurn vs) N

-- what it comes by
abbrev pub MomentsOf : Program → List ℤ → ℕ → List Moment
MomentsOf p vs N = Moments p (InTurn vs) N

-- the run ends in a violation
abbrev pub IsViolated : End → Type 0
IsViolated e = (spot : Spot) × (e ≡ Violated spot)

-- the segments of the run that takes these values: it violates the property, and its cells without initializer hold 0
pub record IsAuthored (p : Program) (file : List ℕ) (vs : List ℤ) (N : ℕ) (segments : List Segment) : Type 0 where
  pub violated : IsViolated (RunOf p vs N).end
  pub fixed : first_free (RunOf p vs N).draws ≡ None
  pub written : segments ≡ segments_of_run p file (MomentsOf p vs N)

-- the run doesn't violate the property: this is its end
pub record IsNotViolated (p : Program) (vs : List ℤ) (N : ℕ) (e : End) : Type 0 where
  pub end : e ≡ (RunOf p vs N).end
  pub unviolated : IsViolated e → ⊥

-- the run violates it, but at this place a cell drew something else than 0
pub record IsFree (p : Program) (vs : List ℤ) (N : ℕ) (spot : Spot) : Type 0 where
  pub violated : IsViolated (RunOf p vs N).end
  pub free : first_free (RunOf p vs N).draws ≡ Some spot

-- what is answered for values: the segments, or why there are none
abbrev pub Authors : Program → List ℕ → List ℤ → ℕ → Result (List Segment) AuthorFault → Type 0
Authors p file vs N (Ok segments) = IsAuthored p file vs N segments
Authors p file vs N (Err (NotViolated e)) = IsNotViolated p vs N e
Authors p file vs N (Err (CellValue spot)) = IsFree p vs N spot
Authors p file vs N (Err OutOfMemory) = Unit {0}
