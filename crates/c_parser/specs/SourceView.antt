-- Declarations, statements and items of the parser as pure trees.
use Rattle.std.specs.Prelude.{List, [], ◌∷◌, map, Option, Some, None}
use Rattle.std.specs.Option.{option_map}
use Rattle.std.specs.declared.boxed.Box.{Box}
use Rattle.std.specs.declared.alloc.Global.{Global}
use Rattle.c_parser.specs.Tree as t
use Rattle.c_parser.specs.Tree.{exps, joined}
use Rattle.c_parser.specs.View.{expr_view, exprs_view}
use Rattle.c_parser.specs.declared.tree.RawDeclared.{RawDeclared}
use Rattle.c_parser.specs.declared.tree.RawInit.{RawInit}
use Rattle.c_parser.specs.declared.tree.RawInit.TheVariants.{Absent, One, Many, Rows}
use Rattle.c_parser.specs.declared.tree.RawRow.{RawRow}
use Rattle.c_parser.specs.declared.tree.RawFirst.{RawFirst}
use Rattle.c_parser.specs.declared.tree.RawFirst.TheVariants.{Absent as NoFirst, Expr as FirstExpr, Declare as FirstDeclare}
use Rattle.c_parser.specs.declared.tree.RawStmt.{RawStmt}
use Rattle.c_parser.specs.declared.tree.RawLabel.{RawLabel}
use Rattle.c_parser.specs.declared.tree.RawLabel.TheVariants.{Case, Default}
use Rattle.c_parser.specs.declared.tree.RawArm.{RawArm, RawArm'}
use Rattle.c_parser.specs.declared.tree.RawForm.{RawForm, Row_of-RawStmt, end_of-RawStmt, more_of-RawStmt, Row_of-RawArm, end_of-RawArm, more_of-RawArm, Held-RawForm-If-2, None', Some'}
use Rattle.c_parser.specs.declared.tree.RawForm.TheVariants.{Empty, Expr as Only, Declare, Block', If', While', Do', For', Break, Continue, Return, Label', Switch'}
use Rattle.c_parser.specs.declared.item.RawParam.{RawParam}
use Rattle.c_parser.specs.declared.item.Item.{Item}
use Rattle.c_parser.specs.declared.item.Item.TheVariants as item

-- the values of a row
abbrev pub values_view : RawRow → t.Exps
values_view row = exps (exprs_view row.values)

-- an initializer as the tree of definitions
abbrev pub init_view : RawInit → t.Init
init_view Absent = t.Absent
init_view (One e) = t.One (expr_view e)
init_view (Many es) = t.Many (exps (exprs_view es))
init_view (Rows rows) = t.Rows (map values_view rows)

-- a declared name as the tree of definitions
abbrev pub declared_view : RawDeclared → t.Declared
declared_view d = record { spot = d.spot; name = d.name; ty = d.ty; sizes = exprs_view d.sizes; init = init_view d.init }

-- the first part of `for (`
abbrev pub first_view : RawFirst → t.First
first_view NoFirst = t.NoFirst
first_view (FirstExpr e) = t.FirstExp (expr_view e)
first_view (FirstDeclare ds) = t.FirstDeclared (map declared_view ds)

-- the label of an arm as the one of definitions
abbrev pub label_view : RawLabel → t.ArmLabel
label_view (Case e) = t.Case (expr_view e)
label_view Default = t.Default

abbrev mutual
  -- a form of statement as the tree of definitions
  pub form_view : RawForm → t.Form
  form_view Empty = t.Empty
  form_view (Only e) = t.Do (expr_view e)
  form_view (Declare ds) = t.Declare (map declared_view ds)
  form_view (Block' shape row) = t.Block (block_view row)
  form_view (If' test b s f second) = t.If (expr_view test) (t.Stmt s (form_view f)) (else_view second)
  form_view (While' test b s f) = t.While (expr_view test) (t.Stmt s (form_view f))
  form_view (Do' b s f test) = t.DoWhile (t.Stmt s (form_view f)) (expr_view test)
  form_view (For' first test step b s f) = t.For (first_view first) (option_map expr_view test) (option_map expr_view step) (t.Stmt s (form_view f))
  form_view Break = t.Break
  form_view Continue = t.Continue
  form_view (Return e) = t.Return (option_map expr_view e)
  form_view (Label' name b s f) = t.Label name (t.Stmt s (form_view f))
  form_view (Switch' test shape row) = t.Switch (expr_view test) (arms_view row)

  -- the statements of a block in their order
  pub block_view : {m : _} → Row_of-RawStmt m → t.Stms
  block_view end_of-RawStmt = t.NoStm
  block_view (more_of-RawStmt s f row) = t.MoreStm (t.Stmt s (form_view f)) (block_view row)

  -- the arms of a `switch` in their order
  pub arms_view : {m : _} → Row_of-RawArm m → t.Stms
  arms_view end_of-RawArm = t.NoStm
  arms_view (more_of-RawArm a row) = arm_view a (arms_view row)

  -- an arm's label and its statements, and then others
  pub arm_view : RawArm → t.Stms → t.Stms
  arm_view (RawArm' s label shape body) rest = t.MoreCase s (label_view label) (joined (block_view body) rest)

  -- the second arm, where there is one
  pub else_view : Held-RawForm-If-2 → t.Else
  else_view None' = t.NoElse
  else_view (Some' b s f) = t.OrElse (t.Stmt s (form_view f))

-- a statement as the tree of definitions
abbrev pub stmt_view : RawStmt → t.Stm
stmt_view s = t.Stmt s.spot (form_view s.form)

-- arms in their order
abbrev pub switch_view : List RawArm → t.Stms
switch_view [] = t.NoStm
switch_view (a ∷ rest) = arm_view a (switch_view rest)

abbrev pub else_if : Option (Box RawStmt Global) → t.Else
else_if None = t.NoElse
else_if (Some b) = t.OrElse (stmt_view b.value)

-- a parameter as the one of definitions
abbrev pub param_view : RawParam → t.Param
param_view p = record { spot = p.spot; name = p.name; ty = p.ty }

-- an item as the one of definitions
abbrev pub item_view : Item → t.Item
item_view (item.Function p w result params body) = t.Function p w result (map param_view params) (stmt_view body)
item_view (item.Prototype p w result params) = t.Prototype p w result params
item_view (item.Global ds) = t.Global (map declared_view ds)
item_view (item.Closed p w) = t.Closed p w

abbrev pub item_if : Option Item → Option t.Item
item_if i = option_map item_view i
