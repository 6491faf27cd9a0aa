-- The rules of the schema, of a witness as a value.
use Rattle.std.specs.Prelude.{◌≡◌, ℕ, ◌≤◌, ◌||◌, List, [], ◌∷◌, true, Option, Some, None, codes}
use Rattle.wv_schema.specs.declared.witness.WayKind.{WayKind}
use Rattle.wv_schema.specs.declared.witness.WayKind.TheVariants.{Assumption, Target, FunctionEnter, FunctionReturn, Branching}
use Rattle.wv_schema.specs.declared.witness.Location.{Location}
use Rattle.wv_schema.specs.declared.witness.Constraint.{Constraint}
use Rattle.wv_schema.specs.declared.witness.Waypoint.{Waypoint}
use Rattle.wv_schema.specs.declared.witness.Segment.{Segment}
use Rattle.wv_schema.specs.declared.witness.Invariant.{Invariant}
use Rattle.wv_schema.specs.declared.witness.Content.{Content}
use Rattle.wv_schema.specs.declared.witness.Content.TheVariants.{Violation, Invariants}
use Rattle.wv_schema.specs.declared.witness.Entry.{Entry}
use Rattle.wv_schema.specs.declared.witness.Witness.{Witness}
use Rattle.wv_schema.specs.Table.{formats, ways}
use Rattle.wv_schema.specs.Judging.{is_among, is_integer}
use Rattle.wv_schema.specs.Shapes.{entries_fault}

abbrev pub IsCount : ℕ → Type 0
IsCount n = (1 ≤ n) × (n ≤ 9999999)

abbrev pub IsCountIf : Option ℕ → Type 0
IsCountIf None = Unit {0}
IsCountIf (Some n) = IsCount n

abbrev pub IsLocation : Location → Type 0
IsLocation v = IsCount v.line × IsCountIf v.column

abbrev pub IsFormat : Option (List ℕ) → Type 0
IsFormat None = Unit {0}
IsFormat (Some text) = is_among formats text ≡ true

-- `true`, `false`, `default`, or an integer
abbrev pub IsWay : Constraint → Type 0
IsWay v = ((is_among ways v.value || is_integer v.value) ≡ true) × (v.format ≡ None)

-- which constraints a waypoint of this type may have
abbrev pub Constrained : WayKind → Option Constraint → Type 0
Constrained Assumption None = ⊥
Constrained Assumption (Some v) = IsFormat v.format
Constrained Target v = v ≡ None
Constrained FunctionEnter v = v ≡ None
Constrained FunctionReturn None = Unit {0}
Constrained FunctionReturn (Some v) = IsFormat v.format
Constrained Branching None = ⊥
Constrained Branching (Some v) = IsWay v

abbrev pub IsWaypoint : Waypoint → Type 0
IsWaypoint v = IsLocation v.location × Constrained v.kind v.constraint

abbrev pub IsTarget : Waypoint → Type 0
IsTarget v = v.kind ≡ Target

-- avoids are waypoints other than targets
abbrev pub AreAvoids : List Waypoint → Type 0
AreAvoids [] = Unit {0}
AreAvoids (v ∷ vs) = (IsWaypoint v × (IsTarget v → ⊥)) × AreAvoids vs

-- the final segment and it alone follows a target
abbrev pub AreSegments : List Segment → Type 0
AreSegments [] = ⊥
AreSegments (v ∷ []) = AreAvoids v.avoids × IsWaypoint v.follow × IsTarget v.follow
AreSegments (v ∷ w ∷ vs) = (AreAvoids v.avoids × IsWaypoint v.follow × (IsTarget v.follow → ⊥)) × AreSegments (w ∷ vs)

abbrev pub AreInvariants : List Invariant → Type 0
AreInvariants [] = Unit {0}
AreInvariants (v ∷ vs) = (IsLocation v.location × IsFormat v.format) × AreInvariants vs

abbrev pub IsContent : Content → Type 0
IsContent (Violation segments) = AreSegments segments
IsContent (Invariants invariants) = AreInvariants invariants

abbrev pub AreEntries : List Entry → Type 0
AreEntries [] = Unit {0}
AreEntries (v ∷ vs) = ((v.metadata.format_version ≡ codes "2.0") × IsContent v.content) × AreEntries vs

-- the witness meets the schema
abbrev pub MeetsSchema : Witness → Type 0
MeetsSchema v = AreEntries v.entries × (entries_fault v.entries ≡ None)
