-- What those who build circuits by parts rest on.
use Rattle.std.specs.Prelude.{ℕ, ◌<◌, ◌≤◌, List, Option}
use Rattle.c_core.specs.Tree.{Expr, Call, Exps, Program}
use Rattle.c_core.specs.declared.number.IntType.{IntType}
use Rattle.c_core.specs.declared.number.Spot.{Spot}
use Rattle.c_core.specs.declared.tree.Callee.TheVariants.{Defined}
use Rattle.c_meaning.specs.Duties.{Placed}
use Rattle.sym_weight.specs.Sum.{expression}
use Rattle.sym_weight.specs.Weight.{Weight, Bits, weighing, weight_in, bits_in}

-- no more bits are drawn than the program weighs, and so in each function
pub record DrawsAreLight (p : Program) (I : List Placed) : Type 0 where
  pub whole : Bits p ≤ Weight p I
  pub function : (n f : ℕ) → bits_in p n f ≤ weight_in p I n f

-- a call weighs more than the function's body, unfolded as deep
abbrev pub CallsOutweigh : Program → List Placed → Type 0
CallsOutweigh p I = (n f : ℕ) (spot close : Spot) (ty : Option IntType) (es : Exps)
    → weight_in p I n f < expression p (weighing (weight_in p I n)) (Expr spot ty (Call (Defined f) es close))
