-- Ways kept as chains of nodes, each with the place of the one before.
use Rattle.std.specs.Prelude.{◌≡◌, ℕ, zero, suc, ◌<◌, ◌≤◌, List, [], ◌∷◌, ◌++◌, length, Option, Some, None, slice_index_or}
use Rattle.way_match.specs.declared.states.Node.{Node}
use mathlib.Core.HLevel.{×_prop, Unit-prop}
use native.Mathlib.Bridge.{le_prop}

abbrev pub node_at : List Node → ℕ → Node
node_at ns at = slice_index_or ns at (record { event = 0; previous = 0 })

-- the positions of k segments, last first
abbrev pub chain : List Node → ℕ → ℕ → List ℕ
chain ns zero at = []
chain ns (suc k) at = (node_at ns at).event ∷ chain ns k (node_at ns at).previous

abbrev pub Held : List Node → ℕ → ℕ → Type 0
Held ns zero at = Unit {0}
Held ns (suc k) at = (at < length ns) × Held ns k (node_at ns at).previous

abbrev pub way_of : List Node → ℕ → Option ℕ → Option (List ℕ)
way_of ns k None = None
way_of ns k (Some at) = Some (chain ns k at)

abbrev pub IsHeld : List Node → ℕ → Option ℕ → Type 0
IsHeld ns k None = Unit {0}
IsHeld ns k (Some at) = Held ns k at

abbrev pub ways_of : List Node → ℕ → List (Option ℕ) → List (Option (List ℕ))
ways_of ns k [] = []
ways_of ns k (w ∷ ws) = way_of ns k w ∷ ways_of ns (suc k) ws

abbrev pub AreHeld : List Node → ℕ → List (Option ℕ) → Type 0
AreHeld ns k [] = Unit {0}
AreHeld ns k (w ∷ ws) = IsHeld ns k w × AreHeld ns (suc k) ws

-- of k segments, a way of one fewer
abbrev pub came_of : List Node → ℕ → Option ℕ → Option (List ℕ)
came_of ns zero c = None
came_of ns (suc k) c = way_of ns k c

abbrev pub IsFrom : List Node → ℕ → Option ℕ → Type 0
IsFrom ns zero None = Unit {0}
IsFrom ns zero (Some c) = ⊥
IsFrom ns (suc k) c = IsHeld ns k c

-- nodes are only added
abbrev pub Grown : List Node → List Node → Type 0
Grown ns ms = (xs : List Node) × (ms ≡ ns ++ xs)

-- no state from that number on is live
abbrev pub IsBlank : ℕ → List (Option ℕ) → Type 0
IsBlank from live = (k : ℕ) → from ≤ k → slice_index_or live k None ≡ None

-- a state of held chains is a fact, with one proof at most
Held-prop : (ns : List Node) (k at : ℕ) → IsProp (Held ns k at)
Held-prop ns zero at = Unit-prop
Held-prop ns (suc k) at = ×_prop le_prop (Held-prop ns k (node_at ns at).previous)

IsHeld-prop : (ns : List Node) (k : ℕ) (w : Option ℕ) → IsProp (IsHeld ns k w)
IsHeld-prop ns k None = Unit-prop
IsHeld-prop ns k (Some at) = Held-prop ns k at

pub AreHeld-prop : (ns : List Node) (k : ℕ) (ws : List (Option ℕ)) → IsProp (AreHeld ns k ws)
AreHeld-prop ns k [] = Unit-prop
AreHeld-prop ns k (w ∷ ws) = ×_prop (IsHeld-prop ns k w) (AreHeld-prop ns (suc k) ws)
