-- The segments of a demo's violation witness, bound to its program, and the verdict that confirms them.
use Rattle.std.specs.Prelude.{◌≡◌, ℕ, pos, List, [], ◌∷◌, Some}
use Rattle.c_core.specs.declared.number.BinOp.TheVariants.{Eq}
use Rattle.c_core.specs.declared.number.Spot.{Spot}
use Rattle.c_meaning.specs.declared.verdict.Verdict.{Verdict}
use Rattle.c_meaning.specs.declared.verdict.Verdict.TheVariants.{ViolationConfirmed}
use Rattle.c_meaning.specs.Replay.{values_of}
use Rattle.demo_laws.specs.Lines.{spot}
use Rattle.way_match.specs.Points.{At, Target, Return, BoundSegment}
use Rattle.demo_run.specs.Typed.{constant}

-- an input call that ends there comes back with n; the constant has a place in its own text
abbrev pub gives : ℕ → Spot → Spot → BoundSegment
gives n at close = record { avoids = []; follow = Return close (Some (record { op = Eq; constant = constant n at })) }

-- the violation happens in the statement there
abbrev pub violates : Spot → BoundSegment
violates at = record { avoids = []; follow = Target (At at) }

-- the input comes back with n, then the violation happens
abbrev pub segments_at : ℕ → Spot → Spot → Spot → List BoundSegment
segments_at n at close target = gives n at close ∷ violates target ∷ []

-- `\result == n` at the input of line 284, then the call of line 286
abbrev pub demo_segments : ℕ → Spot → List BoundSegment
demo_segments n at = segments_at n at (spot 284 33) (spot 286 5)

-- a verdict confirms the violation and shows n as the one value that was drawn
abbrev pub Confirms : ℕ → Verdict → Type 0
Confirms n (ViolationConfirmed draws positions) = values_of draws ≡ pos n ∷ []
Confirms n _ = ⊥
