-- What comes back of the inputs that a run draws, and where a run violates the property.
use Rattle.std.specs.Prelude.{◌≡◌, ℕ, ℤ, Bool, true, cond, List, [], ◌∷◌, ◌++◌, map, Option, Some, None, is_some}
use Rattle.std.specs.List.{filter_map, list_all}
use Rattle.c_core.specs.Tree.{Exp, Expr, Node, Call, Program}
use Rattle.c_core.specs.Parts.{same_spot, exps_of_program}
use Rattle.c_core.specs.Places.{InputCall, aim_fits, first_some, input_at}
use Rattle.c_core.specs.declared.number.Spot.{Spot}
use Rattle.c_core.specs.declared.tree.Callee.{Callee}
use Rattle.c_core.specs.declared.tree.Callee.TheVariants.{Input as InputFunction}
use Rattle.c_meaning.specs.Cells.{Cell}
use Rattle.c_meaning.specs.Run.{Moment, Told, Here, Head, Run, Moments}
use Rattle.c_meaning.specs.declared.run.Choices.{Choices}
use Rattle.c_meaning.specs.declared.run.Draw.{Draw}
use Rattle.c_meaning.specs.declared.run.DrawKind.{DrawKind}
use Rattle.c_meaning.specs.declared.run.DrawKind.TheVariants.{Input}
use Rattle.c_meaning.specs.declared.run.End.TheVariants.{Violated}
use Rattle.c_meaning.specs.declared.run.Event.{Event}
use Rattle.c_meaning.specs.declared.run.Event.TheVariants.{Return, Fail}

-- ---- ends of input calls

-- an input call ends at this parenthesis
abbrev pub end_by : Callee → Spot → Option Spot
end_by (InputFunction ty) close = Some close
end_by _ close = None

-- the closing parenthesis of an input call
abbrev pub end_of_node : Node → Option Spot
end_of_node (Call callee es close) = end_by callee close
end_of_node _ = None

-- the same of an input call that begins there
abbrev pub end_from : Spot → Exp → Option Spot
end_from start (Expr spot ty n) = cond (same_spot spot start) (end_of_node n) None

-- where the input call that begins there ends
abbrev pub end_of_input : Program → Spot → Option Spot
end_of_input p start = first_some (map (end_from start) (exps_of_program p))

-- ---- inputs

-- an input that came back: the closing parenthesis of its call, the call, the value
pub record CameBack : Type 0 where
  pub close : Spot
  pub call : InputCall
  pub value : ℤ

-- an input call came back with this value, where one ends there
abbrev pub back_at : Spot → ℤ → Option InputCall → Option CameBack
back_at close v None = None
back_at close v (Some call) = Some (record { close = close; call = call; value = v })

-- the input that an event brings back, if it does
abbrev pub back_by : Program → Event → Option CameBack
back_by p (Return close (Some v)) = back_at close v (input_at p close)
back_by p _ = None

-- the same of a moment
abbrev pub back_in : Program → Moment → Option CameBack
back_in p (Told e cells) = back_by p e
back_in p (Here spot cells) = None
back_in p (Head at l arrived cells) = None

-- the inputs that come back among moments, in their order
abbrev pub returns_in : Program → List Moment → List CameBack
returns_in p ms = filter_map (back_in p) ms

-- what a draw of a call that ends there comes back as
abbrev pub drawn_to : Draw → Option Spot → Option CameBack
drawn_to d None = None
drawn_to d (Some close) = Some (record { close = close; call = record { spot = d.spot; ty = d.ty }; value = d.value })

-- what a draw comes back as, if it is an input
abbrev pub came_of : Program → DrawKind → Draw → Option CameBack
came_of p Input d = drawn_to d (end_of_input p d.spot)
came_of p _ d = None

-- the inputs among draws, in their order
abbrev pub inputs_in : Program → List Draw → List CameBack
inputs_in p ds = filter_map (λ d. came_of p d.from d) ds

-- there is an end, if it is an input's
abbrev pub ends_by : DrawKind → Option Spot → Bool
ends_by Input close = is_some close
ends_by _ close = true

-- an input has the end of its call
abbrev pub has_end : Program → Draw → Bool
has_end p d = ends_by d.from (end_of_input p d.spot)

-- the inputs that a run draws are those that come back, each at the end of its call
pub record InputsComeBack (p : Program) (c : Choices) (N : ℕ) : Type 0 where
  pub returned : returns_in p (Moments p c N) ≡ inputs_in p (Run p c N).draws
  pub ended : list_all (has_end p) (Run p c N).draws ≡ true

-- ---- violations

-- the statement of the violation that an event reports, or else of one reported before
abbrev pub violated_in : Event → Option Spot → Option Spot
violated_in (Fail statement full call) before = Some statement
violated_in _ before = before

-- the statement of the last violation among moments
abbrev pub violated_among : Option Spot → List Moment → Option Spot
violated_among before [] = before
violated_among before (Told e cells ∷ xs) = violated_among (violated_in e before) xs
violated_among before (Here spot cells ∷ xs) = violated_among before xs
violated_among before (Head at l arrived cells ∷ xs) = violated_among before xs

-- the statement in which a run violates the property
abbrev pub violated_at : List Moment → Option Spot
violated_at xs = violated_among None xs

-- the last of these moments is a violation in this statement, and no other is one
pub record FailsLast (ms : List Moment) (statement : Spot) : Type 0 where
  pub before : List Moment
  pub full : Spot
  pub call : Option Spot
  pub cells : List Cell
  pub last : ms ≡ before ++ Told (Fail statement full call) cells ∷ []
  pub only : violated_at before ≡ None

-- moments end in a violation, in a statement at which a target may stand
pub record IsViolatedIn (p : Program) (ms : List Moment) (statement : Spot) : Type 0 where
  pub fails : FailsLast ms statement
  pub violated : violated_at ms ≡ Some statement
  pub aim : aim_fits p statement.line (Some statement.column) ≡ true

-- a run that violates the property ends with that, in a statement
abbrev pub ViolationsEndRuns : Program → Choices → ℕ → Type 0
ViolationsEndRuns p c N = (spot : Spot) → (Run p c N).end ≡ Violated spot
    → (statement : Spot) × IsViolatedIn p (Moments p c N) statement
