-- Bits of a net that no inputs make true.
use Rattle.std.specs.Prelude.{◌≡◌, ℕ, ◌+◌, ◌*◌, ◌≤◌, Bool, List, length, take}
use Rattle.circuits.specs.declared.net.Bit.{Bit}
use Rattle.circuits.specs.declared.net.NetNode.{NetNode}
use Rattle.circuits.specs.Numbers.{digit}
use Rattle.bit_answers.specs.Deciding.{IsNeverTrue}
use Rattle.wv_weed.specs.Numbers.{IsSet}

-- the place of a bit's flag: two for each node, one for its value and one for the opposite
abbrev pub flag_place : Bit → ℕ
flag_place b = 2 * b.node + digit b.negated

-- a flag for each bit, set only where no inputs make the bit true
pub record AreNever (net : List NetNode) (flags : List Bool) : Type 0 where
  pub many : length flags ≡ 2 * length net
  pub never : (b : Bit) → IsSet flags (flag_place b) → IsNeverTrue net b

-- the first n nodes of both nets are the same
pub record AreShared (one other : List NetNode) (n : ℕ) : Type 0 where
  pub in_one : n ≤ length one
  pub in_other : n ≤ length other
  pub same : take n one ≡ take n other
