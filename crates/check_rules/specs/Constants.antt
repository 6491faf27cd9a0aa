-- Types of integer constants (C11 6.4.4.1p5), and values of constant expressions (C11 6.6).
use Rattle.std.specs.Prelude.{ℕ, Bool, true, false, cond, ◌&&◌, ℤ, pos, List, [], ◌∷◌, drop, Option, Some, None}
use Rattle.std.specs.List.{flat_map}
use Rattle.c_core.specs.Types.{in_range, fit, is_zero, number_of, promote_of}
use Rattle.c_core.specs.Operators.{apply_of, apply_one_of, type_for, right_type_for}
use Rattle.c_core.specs.Tree.{Exp, Expr, Node, Const, Var, Index, Unary, Cast, Step, Binary, Logic, Choose, Comma, Assign, Call}
use Rattle.c_core.specs.Parts.{type_of, every_exp}
use Rattle.c_core.specs.Typing.{has_value}
use Rattle.c_core.specs.declared.number.IntType.{IntType}
use Rattle.c_core.specs.declared.number.IntType.TheVariants.{Int, UInt, Long, ULong, LongLong, ULongLong}
use Rattle.c_core.specs.declared.number.DataModel.{DataModel}
use Rattle.c_core.specs.declared.number.BinOp.{BinOp}
use Rattle.c_core.specs.declared.number.Done.{Done}
use Rattle.c_parser.specs.Signs.{◌>>=◌}
use Rattle.c_core.specs.declared.number.Done.TheVariants.{Value, Overflow, Undefined}

-- a signed type and its unsigned partner
pub record Pair : Type 0 where
  pub signed : IntType
  pub unsigned : IntType

-- by rank; each letter `l` of a suffix leaves out the lowest that is left
abbrev pub ranks : List Pair
ranks = record { signed = Int; unsigned = UInt } ∷ record { signed = Long; unsigned = ULong } ∷ record { signed = LongLong; unsigned = ULongLong } ∷ []

-- the types of one rank that a constant may have: decimal, with a `u`
abbrev pub of_rank : Bool → Bool → Pair → List IntType
of_rank decimal true pair = pair.unsigned ∷ []
of_rank true false pair = pair.signed ∷ []
of_rank false false pair = pair.signed ∷ pair.unsigned ∷ []

-- the first type that holds the value (C11 6.4.4.1p5)
abbrev pub first_that_holds : DataModel → ℕ → List IntType → Option IntType
first_that_holds m v [] = None
first_that_holds m v (ty ∷ tys) = cond (in_range m ty (pos v)) (Some ty) (first_that_holds m v tys)

-- the first type of its list that holds the value
abbrev pub constant_type : DataModel → ℕ → Bool → Bool → ℕ → Option IntType
constant_type m v decimal unsigned longs = first_that_holds m v (flat_map (of_rank decimal unsigned) (drop longs ranks))

-- void counts as `int` where a value is needed
abbrev pub valued : Option IntType → IntType
valued None = Int
valued (Some ty) = ty

-- no name, call, step or assignment
abbrev pub is_constant_node : Node → Bool
is_constant_node (Var o) = false
is_constant_node (Index o i) = false
is_constant_node (Step op a) = false
is_constant_node (Assign op a b) = false
is_constant_node (Call callee es close) = false
is_constant_node _ = true

-- the expression's own node may stand in a constant
abbrev pub is_constant_part : Exp → Bool
is_constant_part (Expr spot ty n) = is_constant_node n

-- the value, where it is defined and doesn't overflow
abbrev pub outcome : Done → Option ℤ
outcome (Value v) = Some v
outcome (Overflow v) = None
outcome Undefined = None

-- fitted to a type; void leaves it as it is
abbrev pub converted : DataModel → Option IntType → ℤ → ℤ
converted m None v = v
converted m (Some ty) v = fit m ty v

-- both: `&&`; the value of its left side decides whether the right one counts
abbrev pub joined : Bool → Bool → Option ℤ → Option ℤ
joined true true right = Some (pos 0)
joined true false right = right >>= λ v. Some (number_of (cond (is_zero v) false true))
joined false true right = right >>= λ v. Some (number_of (cond (is_zero v) false true))
joined false false right = Some (pos 1)

module _ (m : DataModel) where
  -- the operands of an operator are converted to the type in which it computes
  abbrev pub computed : BinOp → IntType → IntType → IntType → ℤ → ℤ → Option ℤ
  computed op ty a b x y = outcome (apply_of m op ty (fit m ty x) (fit m (right_type_for op ty b) y))

  -- the value of an expression of constants; none where it overflows or is undefined
  abbrev mutual
    pub value_of : Exp → Option ℤ
    value_of (Expr spot ty n) = value_of_node ty n

    pub value_of_node : Option IntType → Node → Option ℤ
    value_of_node ty (Const v) = Some v
    value_of_node ty (Unary op a) = value_of a >>= λ x. outcome (apply_one_of m op (promote_of (valued (type_of a))) (fit m (promote_of (valued (type_of a))) x))
    value_of_node ty (Cast a) = value_of a >>= λ x. Some (converted m ty x)
    value_of_node ty (Binary op a b) = value_of a >>= λ x. value_of b >>= λ y.
        computed op (type_for m op (valued (type_of a)) (valued (type_of b))) (valued (type_of a)) (valued (type_of b)) x y
    value_of_node ty (Logic both a b) = value_of a >>= λ x. joined both (is_zero x) (value_of b)
    value_of_node ty (Choose mark e a b) = value_of e >>= λ x. cond (is_zero x) (value_of b) (value_of a) >>= λ y. Some (converted m ty y)
    value_of_node ty (Comma a b) = value_of a >>= λ x. value_of b
    value_of_node ty _ = None

  -- the value of a constant expression; void is none
  abbrev pub constant : Exp → Option ℤ
  constant e = cond (has_value e && every_exp is_constant_part e) (value_of e) None
