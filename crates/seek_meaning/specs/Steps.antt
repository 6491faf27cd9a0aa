-- Steps that are enough for each run within a bound: each part's own steps, a loop's as often as its turns allow, a
-- call's as deep as calls may be.
use Rattle.std.specs.Prelude.{◌≡◌, ◌<◌, ℕ, zero, suc, ◌+◌, List, [], ◌∷◌, length, Option, Some, None, slice_get}
use Rattle.c_core.specs.Tree.{Exp, Expr, Node, Const, Var, Index, Unary, Cast, Step, Binary, Logic, Choose, Comma, Assign, Call, Exps, NoExp, MoreExp, Init, Absent, One, Many, Rows, Names, NoName, MoreName, First, NoFirst, FirstExp, FirstNames, Stm, Stmt, Form, Empty, Do, Declare, Block, If, While, DoWhile, For, Break, Continue, Return, Label, Switch, Else, NoElse, OrElse, Stms, NoStm, MoreStm, MoreCase, Function, Program}
use Rattle.c_core.specs.declared.tree.Callee.{Callee}
use Rattle.c_core.specs.declared.tree.Callee.TheVariants.{Defined}
use Rattle.c_meaning.specs.declared.run.End.TheVariants.{Spent, Deep}
use Rattle.c_meaning.specs.declared.run.Choices.{Choices}
use Rattle.c_meaning.specs.Objects.{size_of_object}
use Rattle.c_meaning.specs.Run.{most_cells, first_cells}
use Rattle.seek_meaning.specs.Bounded.{Within, bounded_end, WholeBounded}

-- a step for each parameter
abbrev pub parameters : Option Function → ℕ
parameters None = 0
parameters (Some f) = length f.params

-- r bodies of a loop, each with its test, and a last test
abbrev pub turns : ℕ → ℕ → ℕ → ℕ
turns zero test rest = test
turns (suc r) test rest = (test + rest) + turns r test rest

-- k: the bound
module _ (p : Program) (k : ℕ) where
  -- body: the steps of a function's body, by its number
  module _ (body : ℕ → ℕ) where
    abbrev pub called : Callee → ℕ
    called (Defined f) = parameters (slice_get p.functions f) + body f
    called _ = 0

    abbrev mutual
      -- a step, then its operands
      pub expression : Exp → ℕ
      expression (Expr spot ty n) = suc (operands n)

      -- the parts of a node; both arms of `?:`, of which one is evaluated
      pub operands : Node → ℕ
      operands (Const v) = 0
      operands (Var o) = 0
      operands (Index o is) = arguments is
      operands (Unary op a) = expression a
      operands (Cast a) = expression a
      operands (Step op a) = target a
      operands (Binary op a b) = expression a + expression b
      operands (Logic both a b) = expression a + expression b
      operands (Choose mark e a b) = expression e + (expression a + expression b)
      operands (Comma a b) = expression a + expression b
      operands (Assign op a b) = target a + expression b
      operands (Call callee es close) = arguments es + called callee

      -- what an assignment or a step puts its value into: a step, and its indexes
      pub target : Exp → ℕ
      target (Expr spot ty n) = suc (indexes_of n)

      -- the indexes of an element
      pub indexes_of : Node → ℕ
      indexes_of (Index o is) = arguments is
      indexes_of _ = 0

      -- the arguments of a call, or indexes
      pub arguments : Exps → ℕ
      arguments NoExp = 0
      arguments (MoreExp e es) = expression e + arguments es

    -- an expression that may be left out
    abbrev pub expression_if : Option Exp → ℕ
    expression_if None = 0
    expression_if (Some e) = expression e

    -- the values of rows
    abbrev pub rows_of : List Exps → ℕ
    rows_of [] = 0
    rows_of (es ∷ rows) = arguments es + rows_of rows

    -- the values of an initializer
    abbrev pub initial : Init → ℕ
    initial Absent = 0
    initial (One e) = expression e
    initial (Many es) = arguments es
    initial (Rows rows) = rows_of rows

    -- a step for each cell, then the initializer
    abbrev pub declared : Names → ℕ
    declared NoName = 0
    declared (MoreName spot o i ns) = size_of_object p o + (initial i + declared ns)

    -- the first part of `for (`
    abbrev pub first : First → ℕ
    first NoFirst = 0
    first (FirstExp e) = expression e
    first (FirstNames ns) = declared ns

    abbrev mutual
      -- a step, then its form
      pub statement : Stm → ℕ
      statement (Stmt at f) = suc (form f)

      -- both arms of `if`, of which one is done; all arms of a switch
      pub form : Form → ℕ
      form Empty = 0
      form (Do e) = expression e
      form (Declare ns) = declared ns
      form (Block b) = statements b
      form (If e a b) = expression e + (statement a + otherwise b)
      form (While e b) = turns k (expression e) (statement b)
      form (DoWhile b e) = turns k (expression e) (statement b)
      form (For i e s b) = first i + turns k (expression_if e) (expression_if s + statement b)
      form Break = 0
      form Continue = 0
      form (Return e) = expression_if e
      form (Label b) = statement b
      form (Switch e b) = expression e + statements b

      -- the arm behind `else`
      pub otherwise : Else → ℕ
      otherwise NoElse = 0
      otherwise (OrElse b) = statement b

      -- the statements of a block, or those of the arms of a switch
      pub statements : Stms → ℕ
      statements NoStm = 0
      statements (MoreStm s b) = statement s + statements b
      statements (MoreCase spot l b) = statements b

    -- the body of a function, where there is one
    abbrev pub function_of : Option Function → ℕ
    function_of None = 0
    function_of (Some f) = statement f.body

  -- the body of a function, by its number, with calls at most n deep
  abbrev pub steps_in : ℕ → ℕ → ℕ
  steps_in zero f = function_of (λ g. 0) (slice_get p.functions f)
  steps_in (suc n) f = function_of (λ g. steps_in n g) (slice_get p.functions f)

-- of main, with calls at most k deep
abbrev pub StepsWithin : Program → ℕ → ℕ
StepsWithin p k = steps_in p k k p.main

-- where a run with the bound is spent, it had fewer steps; where it has no room, its steps and the cells of static
-- storage are more than may live at once
pub record IsShort (p : Program) (k : ℕ) (c : Choices) (N : ℕ) : Type 0 where
  pub steps : bounded_end (WholeBounded p k c N) ≡ Within Spent → N < StepsWithin p k
  pub room : bounded_end (WholeBounded p k c N) ≡ Within Deep → most_cells < length (first_cells p) + N
