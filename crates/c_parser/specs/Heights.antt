-- The height of a statement or expression: one more than the greatest height of its parts.
use Rattle.std.specs.Prelude.{ℕ, suc, max, List, [], ◌∷◌, Option, Some, None}
use Rattle.c_parser.specs.Tree.{Exp, Expr, Node, Number, Char, Var, Index, Unary, Cast, Step, Binary, Logic, Choose, Comma, Assign, Call, Exps, NoExp, MoreExp, exps, Init, Absent, One, Many, Rows, Declared, First, NoFirst, FirstExp, FirstDeclared, Stm, Stmt, Form, Empty, Do, Declare, Block, If, While, DoWhile, For, Break, Continue, Return, Label, Switch, Else, NoElse, OrElse, ArmLabel, Case, Default, Stms, NoStm, MoreStm, MoreCase}

abbrev mutual
  -- how high the tree of an expression is
  pub height : Exp → ℕ
  height (Expr p n) = suc (height_in n)

  -- the greatest height of its parts
  pub height_in : Node → ℕ
  height_in (Number v decimal unsigned longs) = 0
  height_in (Char v) = 0
  height_in (Var x p) = 0
  height_in (Index x p es) = heights es
  height_in (Unary op e) = height e
  height_in (Cast to e) = height e
  height_in (Step op e) = height e
  height_in (Binary op a b) = max (height a) (height b)
  height_in (Logic both a b) = max (height a) (height b)
  height_in (Choose mark e a b) = max (height e) (max (height a) (height b))
  height_in (Comma a b) = max (height a) (height b)
  height_in (Assign op a b) = max (height a) (height b)
  height_in (Call f p es close) = heights es

  -- the height of the highest of these
  pub heights : Exps → ℕ
  heights NoExp = 0
  heights (MoreExp e es) = max (height e) (heights es)

-- the height of the one that there is
abbrev pub height_if : Option Exp → ℕ
height_if None = 0
height_if (Some e) = height e

-- the height of the highest value of rows
abbrev pub height_of_rows : List Exps → ℕ
height_of_rows [] = 0
height_of_rows (row ∷ rows) = max (heights row) (height_of_rows rows)

-- the height of an initializer's highest value
abbrev pub height_of_init : Init → ℕ
height_of_init Absent = 0
height_of_init (One e) = height e
height_of_init (Many es) = heights es
height_of_init (Rows rows) = height_of_rows rows

-- sizes and initializers
abbrev pub height_of_declared : List Declared → ℕ
height_of_declared [] = 0
height_of_declared (d ∷ ds) = max (max (heights (exps d.sizes)) (height_of_init d.init)) (height_of_declared ds)

-- the height of the first part of `for (`
abbrev pub height_of_first : First → ℕ
height_of_first NoFirst = 0
height_of_first (FirstExp e) = height e
height_of_first (FirstDeclared ds) = height_of_declared ds

-- the height of a case constant
abbrev pub height_of_label : ArmLabel → ℕ
height_of_label (Case e) = height e
height_of_label Default = 0

abbrev mutual
  -- how high the tree of a statement is
  pub height_of : Stm → ℕ
  height_of (Stmt p f) = suc (height_in_form f)

  -- the height of a statement's highest part
  pub height_in_form : Form → ℕ
  height_in_form Empty = 0
  height_in_form (Do e) = height e
  height_in_form (Declare ds) = height_of_declared ds
  height_in_form (Block b) = height_of_block b
  height_in_form (If e s o) = max (height e) (max (height_of s) (height_of_else o))
  height_in_form (While e s) = max (height e) (height_of s)
  height_in_form (DoWhile s e) = max (height_of s) (height e)
  height_in_form (For i e u s) = max (height_of_first i) (max (height_if e) (max (height_if u) (height_of s)))
  height_in_form Break = 0
  height_in_form Continue = 0
  height_in_form (Return e) = height_if e
  height_in_form (Label x s) = height_of s
  height_in_form (Switch e b) = max (height e) (height_of_block b)

  -- the height of the second arm
  pub height_of_else : Else → ℕ
  height_of_else NoElse = 0
  height_of_else (OrElse s) = height_of s

  -- the height of the highest statement of a block, or of the arms of a `switch` with their constants
  pub height_of_block : Stms → ℕ
  height_of_block NoStm = 0
  height_of_block (MoreStm s b) = max (height_of s) (height_of_block b)
  height_of_block (MoreCase p l b) = max (height_of_label l) (height_of_block b)
