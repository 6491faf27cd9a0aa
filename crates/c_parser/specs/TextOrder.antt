-- The places of a source's parts in the order of its text.
use Rattle.std.specs.Prelude.{Bool, cond, List, [], ◌∷◌, ◌++◌, Option, Some, None, map}
use Rattle.c_core.specs.Operators.{is_prefix}
use Rattle.c_core.specs.TextOrder.{rises, whole}
use Rattle.c_core.specs.declared.number.Spot.{Spot}
use Rattle.c_tokens.specs.declared.token.Token.{Token}
use Rattle.c_parser.specs.Tree.{Exp, Expr, Node, Number, Char, Var, Index, Unary, Cast, Step, Binary, Logic, Choose, Comma, Assign, Call, Exps, NoExp, MoreExp, exps, Init, Absent, One, Many, Rows, Declared, First, NoFirst, FirstExp, FirstDeclared, Stm, Stmt, Form, Empty, Do, Declare, Block, If, While, DoWhile, For, Break, Continue, Return, Label, Switch, Else, NoElse, OrElse, ArmLabel, Case, Default, Stms, NoStm, MoreStm, MoreCase, Param, Item, Function, Prototype, Global, Closed}

abbrev mutual
  -- the places in an expression, in the order of the text
  pub spots_of : Exp → List Spot
  spots_of (Expr p n) = spots_of_node p n

  -- the places in an expression by its node
  pub spots_of_node : Spot → Node → List Spot
  spots_of_node p (Number v decimal unsigned longs) = p ∷ []
  spots_of_node p (Char v) = p ∷ []
  spots_of_node p (Var x w) = p ∷ []
  spots_of_node p (Index x w es) = p ∷ spots_of_all es
  spots_of_node p (Unary op a) = p ∷ spots_of a
  spots_of_node p (Cast to a) = p ∷ spots_of a
  spots_of_node p (Step op a) = cond (is_prefix op) (p ∷ spots_of a) (whole p (spots_of a))
  spots_of_node p (Binary op a b) = whole p (spots_of a) ++ spots_of b
  spots_of_node p (Logic both a b) = whole p (spots_of a) ++ spots_of b
  spots_of_node p (Choose mark e a b) = whole p (spots_of e) ++ mark ∷ spots_of a ++ spots_of b
  spots_of_node p (Comma a b) = whole p (spots_of a) ++ spots_of b
  spots_of_node p (Assign op a b) = whole p (spots_of a) ++ spots_of b
  spots_of_node p (Call f w es close) = p ∷ spots_of_all es ++ close ∷ []

  -- the places in arguments, in the order of the text
  pub spots_of_all : Exps → List Spot
  spots_of_all NoExp = []
  spots_of_all (MoreExp e es) = spots_of e ++ spots_of_all es

-- the places in it, where there is one
abbrev pub spots_if : Option Exp → List Spot
spots_if None = []
spots_if (Some e) = spots_of e

-- the places in rows
abbrev pub spots_of_rows : List Exps → List Spot
spots_of_rows [] = []
spots_of_rows (row ∷ rows) = spots_of_all row ++ spots_of_rows rows

-- the places in an initializer
abbrev pub spots_of_init : Init → List Spot
spots_of_init Absent = []
spots_of_init (One e) = spots_of e
spots_of_init (Many es) = spots_of_all es
spots_of_init (Rows rows) = spots_of_rows rows

-- the places of declared names, in their sizes and initializers
abbrev pub spots_of_declared : List Declared → List Spot
spots_of_declared [] = []
spots_of_declared (d ∷ ds) = d.spot ∷ spots_of_all (exps d.sizes) ++ spots_of_init d.init ++ spots_of_declared ds

-- the places in the first part of `for (`
abbrev pub spots_of_first : First → List Spot
spots_of_first NoFirst = []
spots_of_first (FirstExp e) = spots_of e
spots_of_first (FirstDeclared ds) = spots_of_declared ds

-- the places in a case constant
abbrev pub spots_of_label : ArmLabel → List Spot
spots_of_label (Case e) = spots_of e
spots_of_label Default = []

abbrev mutual
  -- the places in a statement, in the order of the text
  pub spots_of_statement : Stm → List Spot
  spots_of_statement (Stmt p f) = spots_of_form p f

  -- the places in a statement by its form
  pub spots_of_form : Spot → Form → List Spot
  spots_of_form p Empty = p ∷ []
  spots_of_form p (Do e) = whole p (spots_of e)
  spots_of_form p (Declare ds) = p ∷ spots_of_declared ds
  spots_of_form p (Block b) = p ∷ spots_of_block b
  spots_of_form p (If e s o) = p ∷ spots_of e ++ spots_of_statement s ++ spots_of_else o
  spots_of_form p (While e s) = p ∷ spots_of e ++ spots_of_statement s
  spots_of_form p (DoWhile s e) = p ∷ spots_of_statement s ++ spots_of e
  spots_of_form p (For i e u s) = p ∷ spots_of_first i ++ spots_if e ++ spots_if u ++ spots_of_statement s
  spots_of_form p Break = p ∷ []
  spots_of_form p Continue = p ∷ []
  spots_of_form p (Return e) = p ∷ spots_if e
  spots_of_form p (Label w s) = p ∷ spots_of_statement s
  spots_of_form p (Switch e b) = p ∷ spots_of e ++ spots_of_block b

  -- the places in the second arm
  pub spots_of_else : Else → List Spot
  spots_of_else NoElse = []
  spots_of_else (OrElse s) = spots_of_statement s

  -- the places in the statements of a block, or in the arms of a `switch`
  pub spots_of_block : Stms → List Spot
  spots_of_block NoStm = []
  spots_of_block (MoreStm s b) = spots_of_statement s ++ spots_of_block b
  spots_of_block (MoreCase p l b) = p ∷ spots_of_label l ++ spots_of_block b

-- the places of parameters
abbrev pub spots_of_params : List Param → List Spot
spots_of_params xs = map (λ x. x.spot) xs

-- the places in an item, in the order of the text
abbrev pub spots_of_item : Item → List Spot
spots_of_item (Function p w result xs s) = p ∷ spots_of_params xs ++ spots_of_statement s
spots_of_item (Prototype p w result types) = p ∷ []
spots_of_item (Global ds) = spots_of_declared ds
spots_of_item (Closed p w) = p ∷ []

-- the places in items
abbrev pub spots_of_items : List Item → List Spot
spots_of_items [] = []
spots_of_items (x ∷ xs) = spots_of_item x ++ spots_of_items xs

-- each token stands before the next
abbrev pub tokens_rise : List Token → Bool
tokens_rise ts = rises (map (λ t. t.spot) ts)
