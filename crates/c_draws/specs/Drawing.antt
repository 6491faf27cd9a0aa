-- Where a program draws: what a drawn value can stand for.
use Rattle.std.specs.Prelude.{ℕ, cond, List, [], ◌∷◌, ◌++◌, map, Option, Some, None, slice_get}
use Rattle.std.specs.List.{flat_map, Contains}
use Rattle.c_core.specs.Tree.{Exp, Expr, Node, Const, Var, Index, Unary, Cast, Step, Binary, Logic, Choose, Comma, Assign, Call, Exps, NoExp, MoreExp, Init, Absent, One, Many, Rows, Names, NoName, MoreName, First, NoFirst, FirstExp, FirstNames, Stm, Stmt, Form, Empty, Do, Declare, Block, If, While, DoWhile, For, Break, Continue, Return, Label, Switch, Else, NoElse, OrElse, Stms, NoStm, MoreStm, MoreCase, Function, Program}
use Rattle.c_core.specs.declared.number.IntType.{IntType}
use Rattle.c_core.specs.declared.number.Spot.{Spot}
use Rattle.c_core.specs.declared.tree.Callee.{Callee}
use Rattle.c_core.specs.declared.tree.Callee.TheVariants.{Input}
use Rattle.c_calls.specs.Calling.{IsReached}
use Rattle.c_calls.specs.Loops.{loop_of, changed_if}
use Rattle.c_core.specs.Scope.{is_fixed}
use Rattle.c_meaning.specs.Objects.{type_of_object}
use Rattle.c_meaning.specs.declared.run.DrawKind.{DrawKind}
use Rattle.c_meaning.specs.declared.run.DrawKind.TheVariants.{Input as AnInput, Cell as ACell, Havoc as AChange}
use Rattle.c_draws.specs.declared.places.DrawPlace.{DrawPlace}

-- a place from its parts
abbrev pub place : Spot → IntType → DrawKind → DrawPlace
place spot ty from = record { spot = spot; ty = ty; from = from }

-- ---- what draws: an input call, in the type of its value
abbrev pub input_by : Spot → Callee → List DrawPlace
input_by spot (Input ty) = place spot ty AnInput ∷ []
input_by spot _ = []

-- of a node at a place
abbrev pub own_input : Spot → Node → List DrawPlace
own_input spot (Call callee es close) = input_by spot callee
own_input spot _ = []

-- the cells of an automatic object, where its name is declared without initializer
abbrev pub cells_by : Program → Spot → ℕ → Init → List DrawPlace
cells_by p spot o Absent = cond (is_fixed p o) [] (place spot (type_of_object p o) ACell ∷ [])
cells_by p spot o _ = []

-- the cells of an object, at a loop that changes it
abbrev pub change : Program → Spot → ℕ → DrawPlace
change p spot o = place spot (type_of_object p o) AChange

-- of all objects in Changed(loop), where the statement is a loop
abbrev pub changes_of : Program → Spot → Form → List DrawPlace
changes_of p spot f = map (change p spot) (changed_if p (loop_of f))

-- ---- the places of expressions and statements, in the order of the text; what a loop changes comes before its parts
abbrev mutual
  -- the input calls in an expression, itself among them
  pub inputs_of : Exp → List DrawPlace
  inputs_of (Expr spot ty n) = own_input spot n ++ inputs_in n

  -- those in the parts of a node
  pub inputs_in : Node → List DrawPlace
  inputs_in (Const v) = []
  inputs_in (Var o) = []
  inputs_in (Index o is) = inputs_of_arguments is
  inputs_in (Unary op a) = inputs_of a
  inputs_in (Cast a) = inputs_of a
  inputs_in (Step op a) = inputs_of a
  inputs_in (Binary op a b) = inputs_of a ++ inputs_of b
  inputs_in (Logic both a b) = inputs_of a ++ inputs_of b
  inputs_in (Choose mark e a b) = inputs_of e ++ inputs_of a ++ inputs_of b
  inputs_in (Comma a b) = inputs_of a ++ inputs_of b
  inputs_in (Assign op a b) = inputs_of a ++ inputs_of b
  inputs_in (Call callee es close) = inputs_of_arguments es

  -- of arguments, or of the values of a list
  pub inputs_of_arguments : Exps → List DrawPlace
  inputs_of_arguments NoExp = []
  inputs_of_arguments (MoreExp e es) = inputs_of e ++ inputs_of_arguments es

-- of an expression that may be left out
abbrev pub inputs_if : Option Exp → List DrawPlace
inputs_if None = []
inputs_if (Some e) = inputs_of e

-- of an initializer
abbrev pub inputs_of_init : Init → List DrawPlace
inputs_of_init Absent = []
inputs_of_init (One e) = inputs_of e
inputs_of_init (Many es) = inputs_of_arguments es
inputs_of_init (Rows rows) = flat_map inputs_of_arguments rows

module _ (p : Program) where
  -- of declared names: the cells of each, then its initializer
  abbrev pub draws_of_names : Names → List DrawPlace
  draws_of_names NoName = []
  draws_of_names (MoreName spot o i ns) = cells_by p spot o i ++ inputs_of_init i ++ draws_of_names ns

  -- of the first part of `for (`
  abbrev pub draws_of_first : First → List DrawPlace
  draws_of_first NoFirst = []
  draws_of_first (FirstExp e) = inputs_of e
  draws_of_first (FirstNames ns) = draws_of_names ns

  abbrev mutual
    -- of a statement and of those in it
    pub draws_of_statement : Stm → List DrawPlace
    draws_of_statement (Stmt spot f) = changes_of p spot f ++ draws_of_form f

    -- of the parts of a form
    pub draws_of_form : Form → List DrawPlace
    draws_of_form Empty = []
    draws_of_form (Do e) = inputs_of e
    draws_of_form (Declare ns) = draws_of_names ns
    draws_of_form (Block b) = draws_of_block b
    draws_of_form (If e a b) = inputs_of e ++ draws_of_statement a ++ draws_of_else b
    draws_of_form (While e b) = inputs_of e ++ draws_of_statement b
    draws_of_form (DoWhile b e) = draws_of_statement b ++ inputs_of e
    draws_of_form (For i e s b) = draws_of_first i ++ inputs_if e ++ inputs_if s ++ draws_of_statement b
    draws_of_form Break = []
    draws_of_form Continue = []
    draws_of_form (Return e) = inputs_if e
    draws_of_form (Label b) = draws_of_statement b
    draws_of_form (Switch e b) = inputs_of e ++ draws_of_block b

    -- of the second arm of `if`
    pub draws_of_else : Else → List DrawPlace
    draws_of_else NoElse = []
    draws_of_else (OrElse b) = draws_of_statement b

    -- of the statements of a block
    pub draws_of_block : Stms → List DrawPlace
    draws_of_block NoStm = []
    draws_of_block (MoreStm s b) = draws_of_statement s ++ draws_of_block b
    draws_of_block (MoreCase spot l b) = draws_of_block b

  -- ---- of a function's body
  abbrev pub draws_if : Option Function → List DrawPlace
  draws_if None = []
  draws_if (Some f) = draws_of_statement f.body

  -- of the function of a number
  abbrev pub draws_of_function : ℕ → List DrawPlace
  draws_of_function f = draws_if (slice_get p.functions f)

  -- main, or a function that main reaches, draws there
  pub record IsDrawn (x : DrawPlace) : Type 0 where
    pub function : ℕ
    pub reached : IsReached p function
    pub there : Contains (draws_of_function function) x
