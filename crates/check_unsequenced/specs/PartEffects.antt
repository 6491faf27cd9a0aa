-- The parts of a source as effects of its typed trees.
use Rattle.std.specs.Prelude.{◌≡◌, ℕ, Bool, true, false, List, [], ◌∷◌, length, map, Option, Some, None, slice_get}
use Rattle.std.specs.List.{flat_map}
use Rattle.c_core.specs.Tree as t
use Rattle.c_core.specs.declared.number.DataModel.{DataModel}
use Rattle.c_core.specs.declared.tree.Object.{Object}
use Rattle.c_parser.specs.Tree as raw
use Rattle.check_rules.specs.Names as kind
use Rattle.check_rules.specs.Names.{Kind, Entry, named}
use Rattle.check_rules.specs.Scopes.{outermost}
use Rattle.check_rules.specs.Typed.{no_object, typed}
use Rattle.check_rules.specs.Parts.{Value, Target, Effect as ForEffect, Role, Part, Expression, bodies_of}
use Rattle.check_rules.specs.Order.{IsBody, parts_of_bodies}
use Rattle.check_sequencing.specs.declared.effect.Effect.{Effect}
use Rattle.check_sequencing.specs.Typed.{own}

-- the object of this number has this storage
abbrev pub HasStorage : Bool → Option Object → Type 0
HasStorage fixed None = ⊥
HasStorage fixed (Some o) = (o.fixed ≡ fixed)

-- what a word stands for is in the list of objects
abbrev pub IsListed : List Object → Option Kind → Type 0
IsListed objects (Some (kind.Object n ty dims fixed)) = HasStorage fixed (slice_get objects n)
IsListed objects _ = (no_object ≡ no_object)

-- so it is for all words
abbrev pub AreListed : List Object → List Entry → Type 0
AreListed objects es = (x : List ℕ) → IsListed objects (named es x)

abbrev pub IsListedPart : List Object → Part → Type 0
IsListedPart objects (Expression es r e) = AreListed objects es
IsListedPart objects _ = (no_object ≡ no_object)

pub data AreListedParts (objects : List Object) : List Part → Type 0 where
  NoPart : AreListedParts objects []
  OnePart : {p : Part} {ps : List Part} → IsListedPart objects p → AreListedParts objects ps → AreListedParts objects (p ∷ ps)

abbrev pub is_stored : Role → Bool
is_stored Target = true
is_stored Value = false
is_stored ForEffect = false

abbrev pub node_of : t.Exp → t.Node
node_of (t.Expr p ty n) = n

module _ (m : DataModel) (items : List raw.Item) (objects : List Object) where
  -- this many functions have a body
  abbrev pub count : ℕ
  count = length (bodies_of items)

  -- what a part does by itself
  abbrev pub effects_of_part : Part → List Effect
  effects_of_part (Expression es r e) = own objects count (is_stored r) (node_of (typed m (bodies_of items) es e))
  effects_of_part _ = []

  abbrev pub effects_of_parts : List Part → List Effect
  effects_of_parts ps = flat_map effects_of_part ps

  -- what the functions' bodies do
  abbrev pub effects_of_bodies : List (List Effect)
  effects_of_bodies = map effects_of_parts (parts_of_bodies m (bodies_of items) outermost items)

  -- the objects of all bodies are in the list, and the number of no object is none of theirs
  pub record IsObjectList : Type 0 where
    pub absent : slice_get objects no_object ≡ None
    pub bodies : (k : ℕ) (ps : List Part) → IsBody m items k ps → AreListedParts objects ps
