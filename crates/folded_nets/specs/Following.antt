-- A net that follows another one: copies of the first nodes of a net.
use Rattle.std.specs.Prelude.{◌≡◌, ℕ, ◌+◌, ◌<◌, ◌≤◌, Bool, false, not, ◌&&◌, List, ◌++◌, length, take, slice_index_or}
use Rattle.std.specs.List.{All}
use Rattle.circuits.specs.declared.net.Bit.{Bit}
use Rattle.circuits.specs.declared.net.NetNode.{NetNode}
use Rattle.circuits.specs.Net.{holds, count_inputs, IsIn, Means}
use Rattle.folded_nets.specs.declared.pairs.Apart.{Apart}
use Rattle.folded_nets.specs.declared.folded.FoldedNet.{FoldedNet}

-- the value of a node
abbrev pub node_holds : (ℕ → Bool) → List NetNode → ℕ → Bool
node_holds v net at = holds v net (record { node = at; negated = false })

-- no inputs make a bit true
abbrev pub IsNever : List NetNode → Bit → Type 0
IsNever net b = (v : ℕ → Bool) → holds v net b ≡ false

-- the copy of such a bit's node: a constant
abbrev pub never_true : Bit → Bit
never_true b = record { node = 0; negated = not b.negated }

-- two bits of a net that are never true together
pub record AreApart (net : List NetNode) (p : Apart) : Type 0 where
  pub left : IsIn net p.left
  pub right : IsIn net p.right
  pub never : (v : ℕ → Bool) → (holds v net p.left && holds v net p.right) ≡ false

-- so are all pairs that are kept in mind
abbrev pub AreAllApart : FoldedNet → Type 0
AreAllApart f = All (AreApart f.net) f.apart.items

-- under all inputs a copy has the value of the node of a number
abbrev pub IsCopy : List NetNode → List NetNode → ℕ → Bit → Type 0
IsCopy old net at copy = Means net copy (λ v. node_holds v old at)

-- the first nodes of a net are copied, inputs as inputs in their order, and no node as more than one
pub record Follows (old : List NetNode) (f : FoldedNet) : Type 0 where
  pub some : 0 < length f.copies.items
  pub many : length f.copies.items ≤ length old
  pub small : length f.net ≤ length f.copies.items
  pub inputs : count_inputs f.net ≡ count_inputs (take (length f.copies.items) old)
  pub copied : (at : ℕ) (d : Bit) → at < length f.copies.items → IsCopy old f.net at (slice_index_or f.copies.items at d)
  pub apart : AreAllApart f

-- ---- on the way

-- the same copies, and the same pairs
pub record SameBut (f g : FoldedNet) : Type 0 where
  pub copies : g.copies ≡ f.copies
  pub apart : g.apart ≡ f.apart

-- the same but for pairs
pub record IsBut (f g : FoldedNet) : Type 0 where
  pub net : g.net ≡ f.net
  pub copies : g.copies ≡ f.copies
  pub apart : AreAllApart g

-- the copy of the next node, which is at most one more node
pub record IsNextOf (old : List NetNode) (f g : FoldedNet) (copy : Bit) : Type 0 where
  pub same : SameBut f g
  pub more : List NetNode
  pub is : g.net ≡ f.net ++ more
  pub few : length more ≤ 1
  pub inputs : count_inputs g.net ≡ count_inputs (take (length f.copies.items + 1) old)
  pub copied : IsCopy old g.net (length f.copies.items) copy
