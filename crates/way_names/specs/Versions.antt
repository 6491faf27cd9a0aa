-- Maps from keys to objects, of which every version stays: trees over the bits of keys.
use Rattle.std.specs.Prelude.{◌≡◌, ◌<◌, ◌≤◌, ◌^◌, ◌%◌, ◌/◌, ℕ, zero, suc, nat_eq, Bool, true, false, cond, List, ◌++◌, map, Option, Some, None, length, slice_get}
use Rattle.std.specs.Option.{option_flatten}
use Rattle.c_core.specs.declared.number.Spot.{Spot}
use Rattle.c_core.specs.declared.tree.Object.{Object}
use Rattle.way_names.specs.Keys.{has_key, last_of}
use Rattle.way_names.specs.Scopes.{height}
use Rattle.way_names.specs.declared.versions.Node.{Node}
use Rattle.way_names.specs.declared.versions.Versions.{Versions}

abbrev pub is_odd : ℕ → Bool
is_odd key = nat_eq (key % 2) 1

-- the half of a node for odd or for even keys
abbrev pub half : Bool → Option Node → Option ℕ
half odd None = None
half odd (Some node) = cond odd node.odd node.even

-- the half of a tree
abbrev pub half_of : List Node → Bool → Option ℕ → Option ℕ
half_of nodes odd None = None
half_of nodes odd (Some number) = half odd (slice_get nodes number)

-- what a tree over this many bits has for a key
abbrev pub found_in : List Node → ℕ → Option ℕ → ℕ → Option ℕ
found_in nodes zero at key = at
found_in nodes (suc bits) at key = found_in nodes bits (half_of nodes (is_odd key) at) (key / 2)

-- with one half and the other
abbrev pub node_of : Bool → Option ℕ → Option ℕ → Node
node_of true this other = record { even = other; odd = this }
node_of false this other = record { even = this; odd = other }

abbrev pub IsThere : List Node → Option ℕ → Type 0
IsThere nodes None = Unit {0}
IsThere nodes (Some number) = number < length nodes

-- all its nodes are there
abbrev pub Stands : List Node → ℕ → Option ℕ → Type 0
Stands nodes zero at = Unit {0}
Stands nodes (suc bits) at = IsThere nodes at × Stands nodes bits (half_of nodes false at) × Stands nodes bits (half_of nodes true at)

-- a tree that has an object more, for the keys of a test
pub record Puts (old new : List Node) (bits : ℕ) (at : Option ℕ) (test : ℕ → Bool) (object : ℕ) (put : Option ℕ) : Type 0 where
  pub grown : (more : List Node) × (new ≡ old ++ more)
  pub stands : Stands new bits put
  pub found : (key : ℕ) → key < 2 ^ bits → found_in new bits put key ≡ cond (test key) (Some object) (found_in old bits at key)

-- the version of a scope; that of the outermost has nothing
abbrev pub version_of : List (Option ℕ) → Option ℕ → Option ℕ
version_of roots None = None
version_of roots (Some number) = option_flatten (slice_get roots number)

-- what it has for a key
abbrev pub look : Versions → Option ℕ → ℕ → Option ℕ
look v scope key = found_in v.nodes.items v.bits (version_of v.roots.items scope) key

abbrev pub AllStand : Versions → Type 0
AllStand v = (scope : Option ℕ) → Stands v.nodes.items v.bits (version_of v.roots.items scope)

-- a version more, with what that of its outer scope has and an object
pub record AddsObject (objects : List Object) (old new : Versions) (outer : Option ℕ) (object : ℕ) : Type 0 where
  pub bits : new.bits ≡ old.bits
  pub count : length new.roots.items ≡ suc (length old.roots.items)
  pub stand : AllStand new
  pub kept : (scope : Option ℕ) → height scope ≤ length old.roots.items → (key : ℕ) → key < length objects → look new scope key ≡ look old scope key
  pub added : (key : ℕ) → key < length objects → look new (Some (length old.roots.items)) key ≡ cond (has_key objects key object) (Some object) (look old outer key)

-- it has for each key the last of these objects that has this key
abbrev pub Finds : List Object → Versions → Option ℕ → List ℕ → Type 0
Finds objects v scope names = (key : ℕ) → key < length objects → look v scope key ≡ last_of (has_key objects key) names

-- the number of the last of n
abbrev pub behind : ℕ → Option ℕ
behind zero = None
behind (suc n) = Some n

-- the numbers of objects beside the places of their declarations
abbrev pub numbers_of : List (Spot × ℕ) → List ℕ
numbers_of statics = map (λ s. s.1) statics
