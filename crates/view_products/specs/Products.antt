-- The products, quotients and remainders of two values that aren't constants.
use Rattle.std.specs.Prelude.{Bool, true, false, not, ◌&&◌, cond, List, [], ◌∷◌, Option, Some, None}
use Rattle.std.specs.List.{flat_map}
use Rattle.c_core.specs.Tree.{Exp, Expr, Node, Const, Unary, Cast, Binary, Assign, Program}
use Rattle.c_core.specs.Parts.{exps_of, exps_of_program}
use Rattle.c_core.specs.declared.number.BinOp.{BinOp}
use Rattle.c_core.specs.declared.number.BinOp.TheVariants.{Mul, Div, Rem}
use Rattle.c_core.specs.declared.number.Spot.{Spot}
use Rattle.c_meaning.specs.Duties.{Placed}

-- a constant, or what operators make of constants
abbrev mutual
  pub is_constant : Exp → Bool
  is_constant (Expr spot ty n) = is_constant_node n

  pub is_constant_node : Node → Bool
  is_constant_node (Const v) = true
  is_constant_node (Unary op a) = is_constant a
  is_constant_node (Cast a) = is_constant a
  is_constant_node (Binary op a b) = is_constant a && is_constant b
  is_constant_node _ = false

-- `*`, `/` and `%`
abbrev pub multiplies : BinOp → Bool
multiplies Mul = true
multiplies Div = true
multiplies Rem = true
multiplies _ = false

-- `*=`, `/=` and `%=`
abbrev pub multiplies_in_place : Option BinOp → Bool
multiplies_in_place None = false
multiplies_in_place (Some op) = multiplies op

-- a product, quotient or remainder of two values that aren't constants; what is assigned to is none
abbrev pub is_product : Node → Bool
is_product (Binary op a b) = multiplies op && (not (is_constant a) && not (is_constant b))
is_product (Assign op a b) = multiplies_in_place op && not (is_constant b)
is_product _ = false

-- the place of an expression that is one
abbrev pub own_product : Exp → List Spot
own_product (Expr spot ty n) = cond (is_product n) (spot ∷ []) []

-- the places of those among some expressions
abbrev pub products_among : List Exp → List Spot
products_among es = flat_map own_product es

-- of those in an expression, itself among them
abbrev pub products_in : Exp → List Spot
products_in e = products_among (exps_of e)

-- of those in the bodies of a program
abbrev pub products_of_program : Program → List Spot
products_of_program p = products_among (exps_of_program p)

-- of those in invariants
abbrev pub products_of_invariants : List Placed → List Spot
products_of_invariants xs = flat_map (λ x. products_in x.test) xs
