-- Which nodes a bit depends on.
use Rattle.std.specs.Prelude.{◌≡◌, ℕ, List, slice_get, Some}
use Rattle.circuits.specs.declared.net.Bit.{Bit}
use Rattle.circuits.specs.declared.net.NetNode.{NetNode}
use Rattle.circuits.specs.declared.net.NetNode.TheVariants.{And}

-- a bit reaches its own node, and what the arguments of a reached and-node stand on
pub data Reaches (net : List NetNode) (b : Bit) : ℕ → Type 0 where
  own : Reaches net b b.node
  left : (at : ℕ) (x y : Bit) → Reaches net b at → slice_get net at ≡ Some (And x y) → Reaches net b x.node
  right : (at : ℕ) (x y : Bit) → Reaches net b at → slice_get net at ≡ Some (And x y) → Reaches net b y.node
