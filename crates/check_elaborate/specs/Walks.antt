-- What the checker holds while it goes through a source, in the words of the rules.
use Rattle.std.specs.Prelude.{◌≡◌, ℕ, Bool, List, [], ◌∷◌, ◌++◌, map, take, drop, Option, Some, None}
use Rattle.std.specs.declared.boxed.Box.{Box}
use Rattle.std.specs.declared.alloc.Global.{Global}
use Rattle.c_core.specs.Tree as t
use Rattle.c_core.specs.View.{stmt_view}
use Rattle.c_core.specs.declared.number.DataModel.{DataModel}
use Rattle.c_core.specs.declared.number.Spot.{Spot}
use Rattle.c_core.specs.declared.tree.Label.{Label as ArmLabel}
use Rattle.c_core.specs.declared.tree.Stmt.{Stmt}
use Rattle.c_parser.specs.Tree as raw
use Rattle.c_parser.specs.Tree.{exps}
use Rattle.check_rules.specs.declared.fault.Refusal.{Refusal}
use Rattle.check_rules.specs.declared.sizes.Sizes.{Sizes}
use Rattle.check_rules.specs.declared.sizes.Sizes.TheVariants.{Scalar, Array, Table}
use Rattle.check_rules.specs.Kept.{Kept, kept_of_parts}
use Rattle.check_rules.specs.Names.{Entry}
use Rattle.check_rules.specs.Scopes.{Scope, scope, seen, size_of}
use Rattle.check_rules.specs.Parts.{Part, Declaring, ArmLabelling, parts_of, parts_of_label, bodies_of}
use Rattle.check_rules.specs.Noting.{noted_parts}
use Rattle.check_scope.specs.Sources.{items_of}
use Rattle.check_rules.specs.Parts as part
use Rattle.check_elaborate.specs.declared.label.Label.{Label}
use Rattle.check_elaborate.specs.declared.context.Context.{Context}
use Rattle.check_elaborate.specs.declared.walk.Walk.{Walk}
use Rattle.check_elaborate.specs.Items.{kept_views}

abbrev pub items_in : Context → List raw.Item
items_in context = items_of context.functions.now

-- the names of the functions with a body
abbrev pub bodies_in : Context → List (List ℕ)
bodies_in context = bodies_of (items_in context)

abbrev pub scope_at : Walk → Scope
scope_at walk = scope walk.table.outer walk.table.inner walk.objects

-- the first refusal so far, and the full expressions that were kept
pub record Found : Type 0 where
  pub best : Option Refusal
  pub kept : List Kept

abbrev pub found : Option Refusal → List Kept → Found
found best kept = record { best = best; kept = kept }

abbrev pub found_at : Walk → Found
found_at walk = found walk.best (kept_views walk.kept)

-- with these parts gone through
abbrev pub with_parts : DataModel → List raw.Item → Found → List Part → Found
with_parts m items f ps = found (noted_parts m items f.best ps) (f.kept ++ kept_of_parts m (bodies_of items) ps)

-- these parts were gone through: what is refused of them was noted, and what is kept of them was kept
abbrev pub IsNoted : Context → Walk → Walk → List Part → Type 0
IsNoted context old new ps = (found_at new ≡ with_parts context.model (items_in context) (found_at old) ps)

-- what is refused of these parts was noted
abbrev pub IsJudged : Context → Walk → Walk → List Part → Type 0
IsJudged context old new ps = (new.best ≡ noted_parts context.model (items_in context) old.best ps)

-- the innermost scope has ended, and of the names around this many stand outside the one that goes on
abbrev pub cut : ℕ → Scope → Scope
cut outside s = scope (take outside s.outer) (drop outside s.outer) s.objects

-- with one size more; a third says nothing
abbrev pub with_size : Sizes → Option ℕ → Sizes
with_size Scalar a = Array a
with_size (Array a) b = Table a b
with_size (Table a b) c = Table a b

-- these sizes, and then those of more expressions
abbrev pub sizes_from : DataModel → List (List ℕ) → List Entry → Sizes → List raw.Exp → Sizes
sizes_from m bodies es stated [] = stated
sizes_from m bodies es stated (e ∷ sizes) = sizes_from m bodies es (with_size stated (size_of m bodies es e)) sizes

abbrev pub dims_in : Sizes → ℕ
dims_in Scalar = 0
dims_in (Array a) = 1
dims_in (Table a b) = 2

-- the parts of a declared name before its initializer
abbrev pub declarator : Bool → Scope → raw.Declared → List Part
declarator fixed s d = parts_of (seen s) (exps d.sizes) ++ Declaring fixed s d ∷ []

-- the parts of the label of an arm: itself, its constant
abbrev pub labelling : List (Option ArmLabel) → Option ArmLabel → Spot → List Entry → raw.ArmLabel → List Part
labelling before label spot es l = ArmLabelling before label spot ∷ parts_of_label es l

-- a second arm, where there is one
abbrev pub else_of : Option (Box Stmt Global) → t.Else
else_of None = t.NoElse
else_of (Some b) = t.OrElse (stmt_view b.value)

abbrev pub label : List ℕ → Spot → part.Label
label name spot = record { name = name; spot = spot }

abbrev pub labels_seen : List Label → List part.Label
labels_seen labels = map (λ l. label l.name.now l.spot) labels
