-- What holds of each source.
use Rattle.std.specs.Prelude.{nat_le, length, Bool, true, false, ◌&&◌, List, [], ◌∷◌, Option, Some, None, IsTrue}
use Rattle.std.specs.List.{list_all}
use Rattle.c_core.specs.Types.{fits_signed}
use Rattle.c_core.specs.Typing.{is_assignment}
use Rattle.c_core.specs.TextOrder.{rises}
use Rattle.c_tokens.specs.declared.token.Token.{Token}
use Rattle.c_tokens.specs.declared.token.TokenKind.{TokenKind}
use Rattle.c_tokens.specs.declared.token.TokenKind.TheVariants as kind
use Rattle.c_parser.specs.Tree.{Exp, Expr, Node, Number, Char, Var, Index, Unary, Cast, Step, Binary, Logic, Choose, Comma, Assign, Call, Exps, NoExp, MoreExp, exps, Init, Absent, One, Many, Rows, Declared, First, NoFirst, FirstExp, FirstDeclared, Stm, Stmt, Form, Empty, Do, Declare, Block, If, While, DoWhile, For, Break, Continue, Return, Label, Switch, Else, NoElse, OrElse, ArmLabel, Case, Default, Stms, NoStm, MoreStm, MoreCase, Item, Function, Prototype, Global, Closed}
use Rattle.c_parser.specs.TextOrder.{spots_of_items, tokens_rise}

-- ---- every node of every expression

abbrev mutual
  -- each node of an expression, its own first
  pub every_node : (Node → Bool) → Exp → Bool
  every_node q (Expr p n) = q n && every_part q n

  -- each node of a node's parts
  pub every_part : (Node → Bool) → Node → Bool
  every_part q (Number v decimal unsigned longs) = true
  every_part q (Char v) = true
  every_part q (Var x p) = true
  every_part q (Index x p es) = every_argument q es
  every_part q (Unary op a) = every_node q a
  every_part q (Cast to a) = every_node q a
  every_part q (Step op a) = every_node q a
  every_part q (Binary op a b) = every_node q a && every_node q b
  every_part q (Logic both a b) = every_node q a && every_node q b
  every_part q (Choose mark e a b) = every_node q e && (every_node q a && every_node q b)
  every_part q (Comma a b) = every_node q a && every_node q b
  every_part q (Assign op a b) = every_node q a && every_node q b
  every_part q (Call f p es close) = every_argument q es

  -- each node of arguments
  pub every_argument : (Node → Bool) → Exps → Bool
  every_argument q NoExp = true
  every_argument q (MoreExp e es) = every_node q e && every_argument q es

-- each node, where there is an expression
abbrev pub every_if : (Node → Bool) → Option Exp → Bool
every_if q None = true
every_if q (Some e) = every_node q e

-- each node of rows
abbrev pub every_in_rows : (Node → Bool) → List Exps → Bool
every_in_rows q [] = true
every_in_rows q (row ∷ rows) = every_argument q row && every_in_rows q rows

-- each node of an initializer
abbrev pub every_in_init : (Node → Bool) → Init → Bool
every_in_init q Absent = true
every_in_init q (One e) = every_node q e
every_in_init q (Many es) = every_argument q es
every_in_init q (Rows rows) = every_in_rows q rows

-- each node of the sizes and initializers of declared names
abbrev pub every_in_declared : (Node → Bool) → List Declared → Bool
every_in_declared q [] = true
every_in_declared q (d ∷ ds) = every_argument q (exps d.sizes) && (every_in_init q d.init && every_in_declared q ds)

-- each node of the first part of `for (`
abbrev pub every_in_first : (Node → Bool) → First → Bool
every_in_first q NoFirst = true
every_in_first q (FirstExp e) = every_node q e
every_in_first q (FirstDeclared ds) = every_in_declared q ds

-- each node of a case constant
abbrev pub every_in_label : (Node → Bool) → ArmLabel → Bool
every_in_label q (Case e) = every_node q e
every_in_label q Default = true

abbrev mutual
  -- each node of a statement
  pub every_in_statement : (Node → Bool) → Stm → Bool
  every_in_statement q (Stmt p f) = every_in_form q f

  -- each node of a statement by its form
  pub every_in_form : (Node → Bool) → Form → Bool
  every_in_form q Empty = true
  every_in_form q (Do e) = every_node q e
  every_in_form q (Declare ds) = every_in_declared q ds
  every_in_form q (Block b) = every_in_block q b
  every_in_form q (If e s o) = every_node q e && (every_in_statement q s && every_in_else q o)
  every_in_form q (While e s) = every_node q e && every_in_statement q s
  every_in_form q (DoWhile s e) = every_in_statement q s && every_node q e
  every_in_form q (For i e u s) = every_in_first q i && (every_if q e && (every_if q u && every_in_statement q s))
  every_in_form q Break = true
  every_in_form q Continue = true
  every_in_form q (Return e) = every_if q e
  every_in_form q (Label w s) = every_in_statement q s
  every_in_form q (Switch e b) = every_node q e && every_in_block q b

  -- each node of the second arm
  pub every_in_else : (Node → Bool) → Else → Bool
  every_in_else q NoElse = true
  every_in_else q (OrElse s) = every_in_statement q s

  -- each node of the statements of a block, or of the arms of a `switch`
  pub every_in_block : (Node → Bool) → Stms → Bool
  every_in_block q NoStm = true
  every_in_block q (MoreStm s b) = every_in_statement q s && every_in_block q b
  every_in_block q (MoreCase p l b) = every_in_label q l && every_in_block q b

-- each node of an item
abbrev pub every_in_item : (Node → Bool) → Item → Bool
every_in_item q (Function p w result xs s) = every_in_statement q s
every_in_item q (Prototype p w result types) = true
every_in_item q (Global ds) = every_in_declared q ds
every_in_item q (Closed p w) = true

-- ---- where declarations stand

-- each declaration in it stands directly in a block (C11 6.8.2p1), and none in an arm of a `switch`;
-- `in_block`: so does the statement itself
abbrev mutual
  pub nests : Bool → Stm → Bool
  nests in_block (Stmt p f) = form_nests in_block f

  pub form_nests : Bool → Form → Bool
  form_nests in_block Empty = true
  form_nests in_block (Do e) = true
  form_nests in_block (Declare ds) = in_block
  form_nests in_block (Block b) = block_nests true b
  form_nests in_block (If e s o) = nests false s && else_nests o
  form_nests in_block (While e s) = nests false s
  form_nests in_block (DoWhile s e) = nests false s
  form_nests in_block (For i e u s) = nests false s
  form_nests in_block Break = true
  form_nests in_block Continue = true
  form_nests in_block (Return e) = true
  form_nests in_block (Label w s) = nests false s
  form_nests in_block (Switch e b) = block_nests false b

  pub else_nests : Else → Bool
  else_nests NoElse = true
  else_nests (OrElse s) = nests false s

  -- the statements of a block, or those of the arms of a `switch`
  pub block_nests : Bool → Stms → Bool
  block_nests in_block NoStm = true
  block_nests in_block (MoreStm s b) = nests in_block s && block_nests in_block b
  block_nests in_block (MoreCase p l b) = block_nests in_block b

-- a body is a block (C11 6.9.1p1)
abbrev pub is_block : Stm → Bool
is_block (Stmt p (Block b)) = true
is_block (Stmt p f) = false

-- the body of a function is a block
abbrev pub has_block : Item → Bool
has_block (Function p w result xs s) = is_block s
has_block (Prototype p w result types) = true
has_block (Global ds) = true
has_block (Closed p w) = true

-- each declaration of the body stands directly in a block
abbrev pub item_nests : Item → Bool
item_nests (Function p w result xs s) = nests false s
item_nests (Prototype p w result types) = true
item_nests (Global ds) = true
item_nests (Closed p w) = true

-- ---- declared names

-- an array states one or two sizes, a scalar none
abbrev pub sizes_fit : Declared → Bool
sizes_fit d = nat_le (length d.sizes) 2

-- each name that is declared in the first part of `for (`
abbrev pub every_declared_first : (Declared → Bool) → First → Bool
every_declared_first q NoFirst = true
every_declared_first q (FirstExp e) = true
every_declared_first q (FirstDeclared ds) = list_all q ds

abbrev mutual
  -- each name that is declared in a statement
  pub every_declared : (Declared → Bool) → Stm → Bool
  every_declared q (Stmt p f) = every_declared_form q f

  -- each name that is declared in a statement by its form
  pub every_declared_form : (Declared → Bool) → Form → Bool
  every_declared_form q Empty = true
  every_declared_form q (Do e) = true
  every_declared_form q (Declare ds) = list_all q ds
  every_declared_form q (Block b) = every_declared_block q b
  every_declared_form q (If e s o) = every_declared q s && every_declared_else q o
  every_declared_form q (While e s) = every_declared q s
  every_declared_form q (DoWhile s e) = every_declared q s
  every_declared_form q (For i e u s) = every_declared_first q i && every_declared q s
  every_declared_form q Break = true
  every_declared_form q Continue = true
  every_declared_form q (Return e) = true
  every_declared_form q (Label w s) = every_declared q s
  every_declared_form q (Switch e b) = every_declared_block q b

  -- each name that is declared in the second arm
  pub every_declared_else : (Declared → Bool) → Else → Bool
  every_declared_else q NoElse = true
  every_declared_else q (OrElse s) = every_declared q s

  -- each name that is declared in the statements of a block, or in the arms of a `switch`
  pub every_declared_block : (Declared → Bool) → Stms → Bool
  every_declared_block q NoStm = true
  every_declared_block q (MoreStm s b) = every_declared q s && every_declared_block q b
  every_declared_block q (MoreCase p l b) = every_declared_block q b

-- each name that is declared in an item
abbrev pub every_declared_item : (Declared → Bool) → Item → Bool
every_declared_item q (Function p w result xs s) = every_declared q s
every_declared_item q (Prototype p w result types) = true
every_declared_item q (Global ds) = list_all q ds
every_declared_item q (Closed p w) = true

-- ---- constants and assignments

-- a suffix has at most two letters `l` (C11 6.4.4.1), and a character a value of `int` (C11 6.4.4.4)
abbrev pub constant_fits : Node → Bool
constant_fits (Number v decimal unsigned longs) = nat_le longs 2
constant_fits (Char v) = fits_signed 32 v
constant_fits _ = true

-- an assignment is `=`, or computes with an operator that is no comparison (C11 6.5.16)
abbrev pub assignment_fits : Node → Bool
assignment_fits (Assign op a b) = is_assignment op
assignment_fits _ = true

-- the invariant of a source
pub record IsFormed (xs : List Item) : Type 0 where
  -- each function's body is a block
  pub bodies : IsTrue (list_all has_block xs)
  -- each declaration in it stands directly in a block
  pub nested : IsTrue (list_all item_nests xs)
  -- a declared name has at most two sizes
  pub sizes : IsTrue (list_all (every_declared_item sizes_fit) xs)
  pub constants : IsTrue (list_all (every_in_item constant_fits) xs)
  pub assignments : IsTrue (list_all (every_in_item assignment_fits) xs)
  -- the places of its parts follow the order of the text
  pub in_order : IsTrue (rises (spots_of_items xs))

-- ---- the tokens of a source

abbrev pub kind_fits : TokenKind → Bool
kind_fits (kind.Number v decimal unsigned longs) = nat_le longs 2
kind_fits (kind.Char v) = fits_signed 32 v
kind_fits _ = true

abbrev pub constants_fit : List Token → Bool
constants_fit ts = list_all (λ (t : Token). kind_fits t.kind) ts

-- tokens in the order of their text, whose constants fit
pub record AreOrderly (ts : List Token) : Type 0 where
  pub rise : IsTrue (tokens_rise ts)
  pub constants : IsTrue (constants_fit ts)
