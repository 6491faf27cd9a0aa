-- The full expressions and the calls of a program as Rust values, and the calls in an expression.
use Rattle.std.specs.Prelude.{List, [], ◌∷◌, ◌++◌, Option, Some, None, map}
use denote.Ref.{Bor}
use Rattle.c_core.specs.Tree.{Exp, Node, Const, Var, Index, Unary, Cast, Step, Binary, Logic, Choose, Comma, Assign, Call, Exps, NoExp, MoreExp}
use Rattle.c_core.specs.Tree as t
use Rattle.c_core.specs.View.{expr_view}
use Rattle.c_core.specs.declared.number.Spot.{Spot}
use Rattle.c_core.specs.declared.tree.Expr.{Expr}

abbrev pub fulls_view : List (Bor Expr) → List Exp
fulls_view es = map (λ e. expr_view e.now) es

abbrev pub end_view : Spot × Bor Expr → Spot × Exp
end_view c = (c.0, expr_view c.1.now)

abbrev pub ends_view : List (Spot × Bor Expr) → List (Spot × Exp)
ends_view cs = map end_view cs

-- what a walk takes from a full expression that it takes whole
abbrev pub alone : Exp → List Exp
alone e = e ∷ []

abbrev pub list_if : {A : Type 0} → Option A → List A
list_if None = []
list_if (Some a) = a ∷ []

abbrev pub call_by : Exp → Node → Option (Spot × Exp)
call_by e (Call callee es close) = Some (close, e)
call_by e _ = None

-- a call, under the place of its closing parenthesis
abbrev pub call_of : Exp → Option (Spot × Exp)
call_of (t.Expr spot ty n) = call_by (t.Expr spot ty n) n

-- the calls in an expression, an expression before its parts
abbrev mutual
  pub calls_of : Exp → List (Spot × Exp)
  calls_of (t.Expr spot ty n) = list_if (call_by (t.Expr spot ty n) n) ++ calls_in n

  pub calls_in : Node → List (Spot × Exp)
  calls_in (Const v) = []
  calls_in (Var o) = []
  calls_in (Index o is) = calls_in_arguments is
  calls_in (Unary op a) = calls_of a
  calls_in (Cast a) = calls_of a
  calls_in (Step op a) = calls_of a
  calls_in (Binary op a b) = calls_of a ++ calls_of b
  calls_in (Logic both a b) = calls_of a ++ calls_of b
  calls_in (Choose mark e a b) = calls_of e ++ calls_of a ++ calls_of b
  calls_in (Comma a b) = calls_of a ++ calls_of b
  calls_in (Assign op a b) = calls_of a ++ calls_of b
  calls_in (Call callee es close) = calls_in_arguments es

  pub calls_in_arguments : Exps → List (Spot × Exp)
  calls_in_arguments NoExp = []
  calls_in_arguments (MoreExp e es) = calls_of e ++ calls_in_arguments es
