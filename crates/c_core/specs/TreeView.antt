-- A Rust tree as a pure tree: no boxes and no shapes.
use Rattle.std.specs.Prelude.{ℕ, List, [], ◌∷◌, Option, Some, None}
use Rattle.c_core.specs.Tree as t
use Rattle.c_core.specs.declared.number.DataModel.{DataModel}
use Rattle.c_core.specs.declared.number.Property.{Property}
use Rattle.c_core.specs.declared.tree.Object.{Object}
use Rattle.c_core.specs.declared.tree.Start.{Start}
use Rattle.c_core.specs.declared.tree.Expr.{Expr}
use Rattle.c_core.specs.declared.tree.Node.{Node, Row_of-Expr, end_of-Expr, more_of-Expr}
use Rattle.c_core.specs.declared.tree.Node.TheVariants.{Const, Var, Index', Unary', Cast', Step', Logic', Comma', Binary', Choose', Assign', Call'}
use Rattle.c_core.specs.declared.tree.Init.{Init}
use Rattle.c_core.specs.declared.tree.Init.TheVariants.{Absent, One, Many, Rows}
use Rattle.c_core.specs.declared.tree.Row.{Row}
use Rattle.c_core.specs.declared.tree.First.{First}
use Rattle.c_core.specs.declared.tree.First.TheVariants.{Absent as NoFirst, Expr as FirstExpr, Declare as FirstDeclare}
use Rattle.c_core.specs.declared.tree.Declared.{Declared}
use Rattle.c_core.specs.declared.tree.Stmt.{Stmt}
use Rattle.c_core.specs.declared.tree.Arm.{Arm, Arm'}
use Rattle.c_core.specs.declared.tree.Form.{Form, Row_of-Stmt, end_of-Stmt, more_of-Stmt, Row_of-Arm, end_of-Arm, more_of-Arm, Held-Form-If-2, None', Some'}
use Rattle.c_core.specs.declared.tree.Form.TheVariants.{Empty, Expr as Only, Declare, Block', If', While', Do', For', Break, Continue, Return, Label', Switch'}
use Rattle.c_core.specs.declared.tree.Function.{Function}

abbrev mutual
  -- a node as the tree of definitions
  pub node_view : Node → t.Node
  node_view (Const v) = t.Const v
  node_view (Var o) = t.Var o
  node_view (Index' o shape row) = t.Index o (row_view row)
  node_view (Unary' op b s ty n) = t.Unary op (t.Expr s ty (node_view n))
  node_view (Cast' b s ty n) = t.Cast (t.Expr s ty (node_view n))
  node_view (Step' op b s ty n) = t.Step op (t.Expr s ty (node_view n))
  node_view (Logic' both b s ty n b' s' ty' n') = t.Logic both (t.Expr s ty (node_view n)) (t.Expr s' ty' (node_view n'))
  node_view (Comma' b s ty n b' s' ty' n') = t.Comma (t.Expr s ty (node_view n)) (t.Expr s' ty' (node_view n'))
  node_view (Binary' op b s ty n b' s' ty' n') = t.Binary op (t.Expr s ty (node_view n)) (t.Expr s' ty' (node_view n'))
  node_view (Choose' mark b s ty n b' s' ty' n' b'' s'' ty'' n'') =
      t.Choose mark (t.Expr s ty (node_view n)) (t.Expr s' ty' (node_view n')) (t.Expr s'' ty'' (node_view n''))
  node_view (Assign' op b s ty n b' s' ty' n') = t.Assign op (t.Expr s ty (node_view n)) (t.Expr s' ty' (node_view n'))
  node_view (Call' callee shape row close) = t.Call callee (row_view row) close

  -- the arguments of a call, or the indexes of an element, in their order
  pub row_view : {m : _} → Row_of-Expr m → t.Exps
  row_view end_of-Expr = t.NoExp
  row_view (more_of-Expr s ty n row) = t.MoreExp (t.Expr s ty (node_view n)) (row_view row)

-- an expression as the tree of definitions
abbrev pub expr_view : Expr → t.Exp
expr_view e = t.Expr e.spot e.ty (node_view e.node)

-- expressions in their order
abbrev pub exprs_view : List Expr → t.Exps
exprs_view [] = t.NoExp
exprs_view (e ∷ es) = t.MoreExp (expr_view e) (exprs_view es)

-- one, where there is one
abbrev pub expr_view_if : Option Expr → Option t.Exp
expr_view_if None = None
expr_view_if (Some e) = Some (expr_view e)

-- rows in their order
abbrev pub rows_view : List Row → List t.Exps
rows_view [] = []
rows_view (row ∷ rows) = exprs_view row.values ∷ rows_view rows

-- an initializer as the tree of definitions
abbrev pub init_view : Init → t.Init
init_view Absent = t.Absent
init_view (One e) = t.One (expr_view e)
init_view (Many es) = t.Many (exprs_view es)
init_view (Rows rows) = t.Rows (rows_view rows)

-- declared names in their order
abbrev pub names_view : List Declared → t.Names
names_view [] = t.NoName
names_view (d ∷ ds) = t.MoreName d.spot d.object (init_view d.init) (names_view ds)

-- the first part of `for (`
abbrev pub first_view : First → t.First
first_view NoFirst = t.NoFirst
first_view (FirstExpr e) = t.FirstExp (expr_view e)
first_view (FirstDeclare ds) = t.FirstNames (names_view ds)

-- statements, and then others
abbrev pub joined : t.Stms → t.Stms → t.Stms
joined t.NoStm c = c
joined (t.MoreStm s b) c = t.MoreStm s (joined b c)
joined (t.MoreCase spot l b) c = t.MoreCase spot l (joined b c)

abbrev mutual
  -- a form of statement as the tree of definitions
  pub form_view : Form → t.Form
  form_view Empty = t.Empty
  form_view (Only e) = t.Do (expr_view e)
  form_view (Declare ds) = t.Declare (names_view ds)
  form_view (Block' shape row) = t.Block (block_view row)
  form_view (If' test b s f second) = t.If (expr_view test) (t.Stmt s (form_view f)) (else_view second)
  form_view (While' test b s f) = t.While (expr_view test) (t.Stmt s (form_view f))
  form_view (Do' b s f test) = t.DoWhile (t.Stmt s (form_view f)) (expr_view test)
  form_view (For' first test step b s f) = t.For (first_view first) (expr_view_if test) (expr_view_if step) (t.Stmt s (form_view f))
  form_view Break = t.Break
  form_view Continue = t.Continue
  form_view (Return e) = t.Return (expr_view_if e)
  form_view (Label' b s f) = t.Label (t.Stmt s (form_view f))
  form_view (Switch' test shape row) = t.Switch (expr_view test) (arms_view row)

  -- the statements of a block in their order
  pub block_view : {m : _} → Row_of-Stmt m → t.Stms
  block_view end_of-Stmt = t.NoStm
  block_view (more_of-Stmt s f row) = t.MoreStm (t.Stmt s (form_view f)) (block_view row)

  -- the arms of a `switch` in their order
  pub arms_view : {m : _} → Row_of-Arm m → t.Stms
  arms_view end_of-Arm = t.NoStm
  arms_view (more_of-Arm a row) = arm_view a (arms_view row)

  -- an arm's label and its statements, and then others
  pub arm_view : Arm → t.Stms → t.Stms
  arm_view (Arm' s label shape body) rest = t.MoreCase s label (joined (block_view body) rest)

  -- the second arm, where there is one
  pub else_view : Held-Form-If-2 → t.Else
  else_view None' = t.NoElse
  else_view (Some' b s f) = t.OrElse (t.Stmt s (form_view f))

-- a statement as the tree of definitions
abbrev pub stmt_view : Stmt → t.Stm
stmt_view s = t.Stmt s.spot (form_view s.form)

abbrev pub stmts_view : List Stmt → t.Stms
stmts_view [] = t.NoStm
stmts_view (s ∷ ss) = t.MoreStm (stmt_view s) (stmts_view ss)

-- arms in their order
abbrev pub switch_view : List Arm → t.Stms
switch_view [] = t.NoStm
switch_view (a ∷ rest) = arm_view a (switch_view rest)

-- a function as the one of definitions
abbrev pub function_view : Function → t.Function
function_view f = record { result = f.result; params = f.params; body = stmt_view f.body }

-- functions in their order
abbrev pub functions_view : List Function → List t.Function
functions_view [] = []
functions_view (f ∷ fs) = function_view f ∷ functions_view fs

-- a program by its parts
abbrev pub program_of : DataModel → Property → List Object → List Start → List Function → ℕ → t.Program
program_of model property objects starts functions main = record {
  model = model;
  property = property;
  objects = objects;
  starts = starts;
  functions = functions_view functions;
  main = main;
}
