-- Violation witnesses bound to the places and the typed expressions of a program. A waypoint passes four tests, in this order: its
-- place exists; its expression is in the grammar; its names are in scope, and a `\result` constraint isn't at a call of a void
-- function; its expression types. A branching passes them where its place exists and its value is a way there: an integer or `default`
-- at a switch, `true` or `false` elsewhere; another value fails as an expression does. The least waypoint that fails a test is
-- reported, by the first that it fails.
use Rattle.std.specs.Prelude.{◌≡◌, ◌⊎◌, ℕ, Bool, true, false, cond, is_some, List, [], ◌∷◌, ◌++◌, Option, Some, None, Result, Ok, Err}
use Rattle.std.specs.List.{flat_map}
use Rattle.c_core.specs.Tree.{Exp, Expr, Program}
use Rattle.c_core.specs.Places.{place_at, aim_fits, call_at}
use Rattle.c_core.specs.declared.number.BinOp.{BinOp}
use Rattle.c_core.specs.declared.number.Spot.{Spot}
use Rattle.c_core.specs.declared.place.PlaceKind.{PlaceKind}
use Rattle.c_core.specs.declared.place.PlaceKind.TheVariants as place
use Rattle.c_parser.specs.Tree as raw
use Rattle.c_parser.specs.Witness.{IsWitnessExpression, IsResultTest}
use Rattle.c_meaning.specs.declared.run.Way.{Way}
use Rattle.way_names.specs.Visible.{names_at}
use Rattle.way_constraint.specs.Constraints.{IsTyped, IsMistyped, entries, in_scope}
use Rattle.wv_schema.specs.declared.witness.WayKind.{WayKind}
use Rattle.wv_schema.specs.declared.witness.WayKind.TheVariants.{Assumption, Target, FunctionEnter, FunctionReturn, Branching}
use Rattle.wv_schema.specs.declared.witness.Location.{Location}
use Rattle.wv_schema.specs.declared.witness.Constraint.{Constraint}
use Rattle.wv_schema.specs.declared.witness.Waypoint.{Waypoint}
use Rattle.wv_schema.specs.declared.witness.Segment.{Segment}
use Rattle.wv_schema.specs.declared.witness.Content.{Content}
use Rattle.wv_schema.specs.declared.witness.Content.TheVariants.{Violation, Invariants}
use Rattle.wv_schema.specs.declared.witness.Entry.{Entry}
use Rattle.wv_schema.specs.declared.witness.Witness.{Witness}
use Rattle.way_match.specs.Points as point
use Rattle.way_match.specs.Points.{Point, ReturnTest, BoundSegment}
use Rattle.way_match.specs.View.{segments_view}
use Rattle.way_match.specs.declared.point.Bound.{Bound}
use Rattle.way_bind.specs.declared.fault.Unbound.{Unbound}
use Rattle.way_bind.specs.declared.fault.Unbound.TheVariants.{NoPlace, Expression, Scope, OutOfMemory}
use Rattle.way_bind.specs.declared.fault.BindFault.{BindFault}
use Rattle.way_bind.specs.InOrder.{Each, AllBound, TellsLeast}
use Rattle.way_bind.specs.Ways.{way_at}

-- ---- the parts of a waypoint

-- the place that a location names
unfoldable pub place_named : Program → PlaceKind → Location → Option Spot
place_named p kind v = place_at p kind v.line v.column

-- a target may lie at the location
unfoldable pub is_suitable : Program → Location → Bool
is_suitable p v = aim_fits p v.line v.column

-- the text of a constraint; the schema leaves no assumption and no branching without one
abbrev pub text_of : Option Constraint → List ℕ
text_of None = []
text_of (Some v) = v.value

-- where a target lies
abbrev pub aim_of : ℕ → Option ℕ → point.Aim
aim_of line None = point.Line line
aim_of line (Some column) = point.At (record { line = line; column = column })

-- a call with a type isn't void
abbrev pub has_value : Option Exp → Bool
has_value None = false
has_value (Some (Expr spot ty node)) = is_some ty

-- the call that ends there has a value
unfoldable pub is_valued : Program → Spot → Bool
is_valued p close = has_value (call_at p close)

-- ---- expressions

-- the one expression that a text spells
pub record IsExpressionOf (text : List ℕ) (e : raw.Exp) : Type 0 where
  pub spelled : IsWitnessExpression text e
  pub only : (u : raw.Exp) → IsWitnessExpression text u → u ≡ e

-- the one comparison of `\result` with a constant that a text spells
pub record IsTestOf (text : List ℕ) (op : BinOp) (e : raw.Exp) : Type 0 where
  pub spelled : IsResultTest text op e
  pub only : (q : BinOp) (u : raw.Exp) → IsResultTest text q u → (q ≡ op) × (u ≡ e)

-- the grammar comes first, then the names, then the types
abbrev pub BindsExpression : Program → List ℕ → List ℕ → Result Exp Unbound → Type 0
BindsExpression p names text (Ok test) = (e : raw.Exp) × IsExpressionOf text e × IsTyped p.model (entries p.objects names) e test
BindsExpression p names text (Err NoPlace) = ⊥
BindsExpression p names text (Err Expression) =
    ((e : raw.Exp) → IsWitnessExpression text e → ⊥)
    ⊎ ((e : raw.Exp) × IsExpressionOf text e × IsMistyped p.model (entries p.objects names) e)
BindsExpression p names text (Err Scope) = (e : raw.Exp) × IsExpressionOf text e × (in_scope (entries p.objects names) e ≡ false)
BindsExpression p names text (Err OutOfMemory) = Unit {0}

-- the same for `\result op E`, at a call that has a value or has none; E sees no names
abbrev pub BindsTest : Program → Bool → List ℕ → Result ReturnTest Unbound → Type 0
BindsTest p valued text (Ok t) =
    (e : raw.Exp) × IsTestOf text t.op e × (valued ≡ true) × IsTyped p.model (entries p.objects []) e t.constant
BindsTest p valued text (Err NoPlace) = ⊥
BindsTest p valued text (Err Expression) =
    ((op : BinOp) (e : raw.Exp) → IsResultTest text op e → ⊥)
    ⊎ ((op : BinOp) × (e : raw.Exp) × IsTestOf text op e × (valued ≡ true) × IsMistyped p.model (entries p.objects []) e)
BindsTest p valued text (Err Scope) =
    (op : BinOp) × (e : raw.Exp) × IsTestOf text op e × ((valued ≡ false) ⊎ (in_scope (entries p.objects []) e ≡ false))
BindsTest p valued text (Err OutOfMemory) = Unit {0}

-- ---- waypoints

-- an answer as contracts see what it holds
abbrev pub seen : {A B : Type 0} → (A → B) → Result A Unbound → Result B Unbound
seen view (Ok a) = Ok (view a)
seen view (Err lack) = Err lack

-- what an answer is made into
abbrev pub Makes : {A B : Type 0} → (Result A Unbound → Type 0) → (A → B) → Result B Unbound → Type 0
Makes {A} {B} test make (Ok x) = (a : A) × test (Ok a) × (x ≡ make a)
Makes {A} {B} test make (Err lack) = test (Err lack)

-- where its place isn't there, no other test is made
abbrev pub WherePlaced : {A : Type 0} → Option Spot → (Spot → Result A Unbound → Type 0) → Result A Unbound → Type 0
WherePlaced {A} None binds answer = answer ≡ Err NoPlace
WherePlaced {A} (Some spot) binds answer = binds spot answer

-- an expression at a place of a kind reads the names that are visible there
abbrev pub BindsThere : {A : Type 0} → Program → PlaceKind → List ℕ → (Spot → Exp → A) → Spot → Result A Unbound → Type 0
BindsThere {A} p kind text make spot answer = Makes (BindsExpression p (names_at p kind spot) text) (make spot) answer

-- an assumption reads the names that are visible at its statement
abbrev pub BindsAssumption : Program → List ℕ → Spot → Result Point Unbound → Type 0
BindsAssumption p text = BindsThere p place.Statement text point.Assume

-- a return with a constraint on `\result`
abbrev pub BindsTested : Program → List ℕ → Spot → Result Point Unbound → Type 0
BindsTested p text close answer = Makes (BindsTest p (is_valued p close) text) (λ t. point.Return close (Some t)) answer

-- without a constraint every return passes
abbrev pub BindsReturn : Program → Option Constraint → Spot → Result Point Unbound → Type 0
BindsReturn p None close answer = answer ≡ Ok (point.Return close None)
BindsReturn p (Some v) close answer = BindsTested p v.value close answer

-- an entry into a function needs its place alone; it has no constraint
abbrev pub BindsEntry : Spot → Result Point Unbound → Type 0
BindsEntry close answer = answer ≡ Ok (point.Enter close)

-- a branching there takes this way, if there is one
abbrev pub branching_by : Spot → Option Way → Result Point Unbound
branching_by spot None = Err Expression
branching_by spot (Some way) = Ok (point.Branch spot way)

-- a branching needs its place, and states a way there
abbrev pub BindsBranching : Program → List ℕ → Spot → Result Point Unbound → Type 0
BindsBranching p text spot answer = answer ≡ branching_by spot (way_at p spot text)

-- a target is bound where one may lie
abbrev pub target_at : Program → Location → Result Point Unbound
target_at p v = cond (is_suitable p v) (Ok (point.Target (aim_of v.line v.column))) (Err NoPlace)

-- by the type of the waypoint
abbrev pub BindsKind : Program → WayKind → Location → Option Constraint → Result Point Unbound → Type 0
BindsKind p Assumption at v answer = WherePlaced (place_named p place.Statement at) (BindsAssumption p (text_of v)) answer
BindsKind p Target at v answer = answer ≡ target_at p at
BindsKind p FunctionEnter at v answer = WherePlaced (place_named p place.CallEnd at) BindsEntry answer
BindsKind p FunctionReturn at v answer = WherePlaced (place_named p place.CallEnd at) (BindsReturn p v) answer
BindsKind p Branching at v answer = WherePlaced (place_named p place.Branch at) (BindsBranching p (text_of v)) answer

-- a waypoint is bound to a point, or this is the first test that it fails
abbrev pub BindsPoint : Program → Waypoint → Result Point Unbound → Type 0
BindsPoint p v answer = BindsKind p v.kind v.location v.constraint answer

-- ---- witnesses

-- the segments of a violation sequence
abbrev pub segments_in : Content → List Segment
segments_in (Violation segments) = segments
segments_in (Invariants list) = []

-- they are the only entry of their witness
abbrev pub segments_among : List Entry → List Segment
segments_among (e ∷ []) = segments_in e.content
segments_among _ = []

-- the segments of a witness; none where it is no single violation sequence
abbrev pub segments_of : Witness → List Segment
segments_of w = segments_among w.entries

-- waypoints in document order: in each segment those to avoid, then the one to follow
abbrev pub waypoints_of : Segment → List Waypoint
waypoints_of s = s.avoids ++ s.follow ∷ []

-- the waypoints of all segments, as they are numbered in refusals
abbrev pub waypoints_in : List Segment → List Waypoint
waypoints_in ss = flat_map waypoints_of ss

-- each is bound to its point
abbrev pub AreBound : Program → List Waypoint → List Point → Type 0
AreBound p vs xs = AllBound (BindsPoint p) vs xs

-- a segment is bound: its avoids, and its follow
abbrev pub IsBoundTo : Program → Segment → BoundSegment → Type 0
IsBoundTo p s b = AreBound p s.avoids b.avoids × BindsPoint p s.follow (Ok b.follow)

-- segment by segment
abbrev pub AreBoundTo : Program → List Segment → List BoundSegment → Type 0
AreBoundTo p ss bs = Each (IsBoundTo p) ss bs

-- a fault tells the least waypoint that isn't bound
abbrev pub Tells : Program → ℕ → List Waypoint → BindFault → Type 0
Tells p first vs f = TellsLeast (BindsPoint p) first vs f

-- the witness is bound, or its least waypoint that isn't is reported, by its number from 1
abbrev pub Binds : Program → Witness → Result Bound BindFault → Type 0
Binds p w (Ok bound) = AreBoundTo p (segments_of w) (segments_view bound)
Binds p w (Err f) = Tells p 1 (waypoints_in (segments_of w)) f
