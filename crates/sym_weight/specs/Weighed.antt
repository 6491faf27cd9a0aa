-- What is said of a program: how much it weighs, or that it is too big.
use Rattle.std.specs.Prelude.{◌≡◌, nat_le, ◌&&◌, cond, List, Option, Some, None}
use Rattle.c_core.specs.Tree.{Program}
use Rattle.c_meaning.specs.Duties.{Placed}
use Rattle.sym_weight.specs.declared.totals.Total.{Total}
use Rattle.sym_weight.specs.Weight.{Weight, Bits, Chain, IsTooBig, most_calls, most_weight}

-- not too big, and its numbers
pub record IsWeighed (p : Program) (I : List Placed) (t : Total) : Type 0 where
  pub fits : IsTooBig p I → ⊥
  pub weight : t.weight ≡ Weight p I
  pub bits : t.bits ≡ Bits p
  pub chain : t.chain ≡ Chain p

abbrev pub Weighs : Program → List Placed → Option Total → Type 0
Weighs p I None = IsTooBig p I
Weighs p I (Some t) = IsWeighed p I t

-- within the limits
abbrev pub judged : Total → Option Total
judged t = cond (nat_le t.chain most_calls && nat_le t.weight most_weight) (Some t) None
