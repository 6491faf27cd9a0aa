-- What the circuit of an operator gives, and how many and-nodes it may add.
use Rattle.std.specs.Prelude.{◌≡◌, ℕ, ◌*◌, ◌^◌, Bool, true, false, ℤ, cond, List}
use Rattle.c_core.specs.Types.{width_of}
use Rattle.c_core.specs.declared.number.DataModel.{DataModel}
use Rattle.c_core.specs.declared.number.IntType.{IntType}
use Rattle.c_core.specs.declared.number.IntType.TheVariants.{Bool as BoolType, Int}
use Rattle.c_core.specs.Operators.{is_comparison}
use Rattle.c_core.specs.declared.number.BinOp.{BinOp}
use Rattle.c_core.specs.declared.number.BinOp.TheVariants.{Add, Sub, Mul, Div, Rem, Shl, Shr, And, Xor, Or}
use Rattle.c_core.specs.declared.number.UnOp.{UnOp}
use Rattle.c_core.specs.declared.number.UnOp.TheVariants.{Plus, Neg, BitNot, Not}
use Rattle.c_core.specs.declared.number.Done.{Done}
use Rattle.c_core.specs.declared.number.Done.TheVariants.{Value, Overflow, Undefined}
use Rattle.circuits.specs.declared.net.NetNode.{NetNode}
use Rattle.circuits.specs.declared.bits.Outcome.{Outcome}
use Rattle.circuits.specs.Net.{holds, IsIn}
use Rattle.circuits.specs.Numbers.{typed, AreTyped}

abbrev pub overflowed : Done → Bool
overflowed (Value r) = false
overflowed (Overflow r) = true
overflowed Undefined = false

abbrev pub undefined : Done → Bool
undefined (Value r) = false
undefined (Overflow r) = false
undefined Undefined = true

-- the value is the one that is given, if one is
abbrev pub HasValue : Done → ℤ → Type 0
HasValue (Value r) z = z ≡ r
HasValue (Overflow r) z = z ≡ r
HasValue Undefined z = Unit {0}

-- the value in a type, the overflow and the undefined bit are those of the operator, for all inputs
pub record Gives (m : DataModel) (ty : IntType) (net : List NetNode) (o : Outcome) (done : (ℕ → Bool) → Done) : Type 0 where
  pub value : AreTyped m ty net o.value.bits
  pub overflow : IsIn net o.overflow
  pub undefined_in : IsIn net o.undefined
  pub value_is : (v : ℕ → Bool) → HasValue (done v) (typed m ty v net o.value.bits)
  pub overflow_is : (v : ℕ → Bool) → holds v net o.overflow ≡ overflowed (done v)
  pub undefined_is : (v : ℕ → Bool) → holds v net o.undefined ≡ undefined (done v)

-- a conversion asks of each digit whether it is 0, or moves the digits alone
abbrev pub conversion_cost : DataModel → IntType → IntType → ℕ
conversion_cost m BoolType BoolType = 0
conversion_cost m from BoolType = width_of m from
conversion_cost m from to = 0

-- the type of an operator of one number: `!` gives an `int`
abbrev pub one_type : UnOp → IntType → IntType
one_type Plus ty = ty
one_type Neg ty = ty
one_type BitNot ty = ty
one_type Not ty = Int

-- and-nodes of an operator of one number
abbrev pub one_cost : DataModel → UnOp → IntType → ℕ
one_cost m Plus ty = 0
one_cost m Neg ty = 16 * width_of m ty
one_cost m BitNot ty = 4 * width_of m ty
one_cost m Not ty = width_of m ty

-- the type of an operator of two numbers: a comparison gives an `int`
abbrev pub binary_type : BinOp → IntType → IntType
binary_type op ty = cond (is_comparison op) Int ty

-- and-nodes of an operator of two numbers; the last line is that of the comparisons
abbrev pub binary_cost : DataModel → BinOp → IntType → ℕ
binary_cost m Add ty = 16 * width_of m ty
binary_cost m Sub ty = 16 * width_of m ty
binary_cost m Mul ty = 32 * width_of m ty ^ 2
binary_cost m Div ty = 32 * width_of m ty ^ 2
binary_cost m Rem ty = 32 * width_of m ty ^ 2
binary_cost m Shl ty = 64 * width_of m ty
binary_cost m Shr ty = 64 * width_of m ty
binary_cost m And ty = 4 * width_of m ty
binary_cost m Xor ty = 4 * width_of m ty
binary_cost m Or ty = 4 * width_of m ty
binary_cost m _ ty = 16 * width_of m ty
