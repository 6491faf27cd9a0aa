-- What the parts of a program cost on a circuit by a scale, in and-nodes or in bits that are drawn: the weights of
-- `sym_weight`, with what a mode adds to them.
use Rattle.std.specs.Prelude.{ℕ, zero, suc, ◌+◌, ◌*◌, cond, List, [], ◌∷◌, Option, Some, None, slice_get}
use Rattle.c_core.specs.Tree.{Exp, Expr, Node, Const, Var, Index, Unary, Cast, Step, Binary, Logic, Choose, Comma, Assign, Call, Exps, NoExp, MoreExp, Init, Absent, One, Many, Rows, Names, NoName, MoreName, First, NoFirst, FirstExp, FirstNames, Stm, Stmt, Form, Empty, Do, Declare, Block, If, While, DoWhile, For, Break, Continue, Return, Label, Switch, Else, NoElse, OrElse, Stms, NoStm, MoreStm, MoreCase, Function, Program}
use Rattle.c_core.specs.Typing.{labels_in}
use Rattle.c_core.specs.declared.number.IntType.{IntType}
use Rattle.c_core.specs.declared.number.Spot.{Spot}
use Rattle.c_core.specs.declared.tree.Callee.{Callee}
use Rattle.c_core.specs.declared.tree.Callee.TheVariants.{Defined, Exit}
use Rattle.c_meaning.specs.Changed.{changed_by}
use Rattle.c_meaning.specs.Duties.{node_may_overflow}
use Rattle.c_meaning.specs.Meaning.{WhileLoop, DoLoop, ForLoop}
use Rattle.c_meaning.specs.Objects.{type_of, type_of_object}
use Rattle.sym_weight.specs.Table.{statement_weight, expression_weight, tested, stored, returned, params_of, passed, passed_to_exit, bits_of_object, node_work, node_bits, chooses}
use Rattle.sym_scale.specs.Scale.{Scale}

-- what is counted
pub record Cost : Type 0 where
  -- of something of this weight that draws this many bits
  pub part : ℕ → ℕ → ℕ
  -- besides, of what has an event at a place
  pub statement : Spot → ℕ
  pub test : Spot → ℕ
  pub call : Spot → ℕ
  pub body : ℕ
  pub risk : ℕ
  -- of a loop
  pub head : Spot → List ℕ → ℕ
  pub turns : ℕ → ℕ → ℕ
  -- of a call of a function after its arguments, by the weight of its parameters and its number
  pub calling : ℕ → ℕ → ℕ

module _ (p : Program) (C : Cost) where
  -- what a call does after its arguments
  abbrev pub called : Callee → Exps → ℕ
  called (Defined f) es = C.calling (passed p (params_of (slice_get p.functions f)) es) f
  called Exit es = C.part (passed_to_exit p.model es) 0
  called _ es = 0

  abbrev mutual
    -- an expression: what its node does, and its operands
    pub expression : Exp → ℕ
    expression (Expr spot ty n) =
        C.part (expression_weight + node_work p ty n) (node_bits p n) + (cond (node_may_overflow p.model n) C.risk 0 + operands n)

    -- the parts of a node
    pub operands : Node → ℕ
    operands (Const v) = 0
    operands (Var o) = 0
    operands (Index o is) = arguments is
    operands (Unary op a) = expression a
    operands (Cast a) = expression a
    operands (Step op a) = target a
    operands (Binary op a b) = expression a + expression b
    operands (Logic both a b) = expression a + expression b
    operands (Choose mark e a b) = C.test mark + (expression e + (expression a + expression b))
    operands (Comma a b) = expression a + expression b
    operands (Assign op a b) = target a + expression b
    operands (Call callee es close) = C.call close + (arguments es + called callee es)

    -- what an assignment or a step puts its value into: a node, and its indexes
    pub target : Exp → ℕ
    target (Expr spot ty n) = C.part expression_weight 0 + indexes_of n

    -- the indexes of an element
    pub indexes_of : Node → ℕ
    indexes_of (Index o is) = arguments is
    indexes_of _ = 0

    -- the arguments of a call, or indexes
    pub arguments : Exps → ℕ
    arguments NoExp = 0
    arguments (MoreExp e es) = expression e + arguments es

  -- an expression that may be left out
  abbrev pub expression_if : Option Exp → ℕ
  expression_if None = 0
  expression_if (Some e) = expression e

  -- the controlling expression of the statement at a place
  abbrev pub control : Spot → Exp → ℕ
  control at e = C.test at + (expression e + C.part (tested p.model e) 0)

  -- that of `for` may be left out
  abbrev pub control_if : Spot → Option Exp → ℕ
  control_if at None = 0
  control_if at (Some e) = control at e

  -- a value of an initializer
  abbrev pub initial : ℕ → Exp → ℕ
  initial o e = expression e + C.part (stored p.model (type_of e) (type_of_object p o)) 0

  -- the values of a list
  abbrev pub initials : ℕ → Exps → ℕ
  initials o NoExp = 0
  initials o (MoreExp e es) = initial o e + initials o es

  -- the values of rows
  abbrev pub row_initials : ℕ → List Exps → ℕ
  row_initials o [] = 0
  row_initials o (es ∷ rows) = initials o es + row_initials o rows

  -- a declared object: its cells, which are drawn where it has no initializer, and the values of its initializer
  abbrev pub initialised : ℕ → Init → ℕ
  initialised o Absent = C.part (4 * bits_of_object p o) (bits_of_object p o)
  initialised o (One e) = C.part (4 * bits_of_object p o) 0 + initial o e
  initialised o (Many es) = C.part (4 * bits_of_object p o) 0 + initials o es
  initialised o (Rows rows) = C.part (4 * bits_of_object p o) 0 + row_initials o rows

  -- the objects of a declaration
  abbrev pub declared : Names → ℕ
  declared NoName = 0
  declared (MoreName spot o i ns) = initialised o i + declared ns

  -- the declaration in `for (` is no statement
  abbrev pub first : First → ℕ
  first NoFirst = 0
  first (FirstExp e) = expression e
  first (FirstNames ns) = declared ns

  -- a value returned from a function of this result
  abbrev pub given : Option IntType → Option Exp → ℕ
  given result None = 0
  given result (Some e) = expression e + C.part (returned p.model result (type_of e)) 0

  -- in a function of this result
  module _ (result : Option IntType) where
    abbrev mutual
      pub statement : Stm → ℕ
      statement (Stmt at f) = C.part statement_weight 0 + (C.statement at + form at f)

      -- a statement without what each statement counts
      pub form : Spot → Form → ℕ
      form at Empty = 0
      form at (Do e) = expression e
      form at (Declare ns) = declared ns
      form at (Block b) = statements b
      form at (If e a b) = control at e + (statement a + otherwise b)
      form at (While e b) = C.head at (changed_by p (WhileLoop e b)) + C.turns (control at e) (statement b)
      form at (DoWhile b e) = C.head at (changed_by p (DoLoop b e)) + C.turns (control at e) (statement b)
      form at (For i e s b) =
          first i + (C.head at (changed_by p (ForLoop e s b)) + C.turns (control_if at e) (expression_if s + statement b))
      form at Break = 0
      form at Continue = 0
      form at (Return e) = given result e
      form at (Label b) = statement b
      form at (Switch e b) =
          C.test at + (expression e + (C.part (chooses p.model (type_of e) (labels_in b)) 0 + statements b))

      -- the arm after `else`
      pub otherwise : Else → ℕ
      otherwise NoElse = 0
      otherwise (OrElse b) = statement b

      -- the statements of a block, or those of the arms of a switch
      pub statements : Stms → ℕ
      statements NoStm = 0
      statements (MoreStm s b) = statement s + statements b
      statements (MoreCase spot l b) = statements b

    -- a function's body is a statement that has no event
    abbrev pub function_body : Stm → ℕ
    function_body (Stmt at f) = C.part statement_weight 0 + (C.body + form at f)

  -- the body of a function, where there is one
  abbrev pub function_of : Option Function → ℕ
  function_of None = 0
  function_of (Some f) = function_body f.result f.body

  -- the body of a function, by its number
  abbrev pub function : ℕ → ℕ
  function f = function_of (slice_get p.functions f)

-- and-nodes, with what a call of a function costs after its arguments
abbrev pub nodes_by : Scale → (ℕ → ℕ → ℕ) → Cost
nodes_by S calling = record {
  part = λ weight bits. weight;
  statement = S.statement;
  test = S.test;
  call = λ close. S.enters close + S.returns close;
  body = S.body;
  risk = S.risk;
  head = S.head;
  turns = λ test rest. S.turns test (S.turn + rest);
  calling = calling;
}

-- drawn bits, with those that a call of a function draws after its arguments
abbrev pub bits_by : Scale → (ℕ → ℕ) → Cost
bits_by S drawing = record {
  part = λ weight bits. bits;
  statement = λ at. 0;
  test = λ at. 0;
  call = λ close. 0;
  body = 0;
  risk = 0;
  head = λ at changed. S.drawn changed;
  turns = S.turns;
  calling = λ weight f. drawing f;
}

module _ (p : Program) (S : Scale) where
  -- a call of a function, whose parameters weigh this, with calls at most n deep
  abbrev pub nodes_in : ℕ → ℕ → ℕ → ℕ
  nodes_in zero weight f = S.deep weight
  nodes_in (suc n) weight f = weight + function p (nodes_by S (nodes_in n)) f

  -- the bits that a function's body draws, with calls unfolded at most n deep
  abbrev pub bits_in : ℕ → ℕ → ℕ
  bits_in zero f = 0
  bits_in (suc n) f = function p (bits_by S (bits_in n)) f

  -- and-nodes of parts in which calls are at most n deep, and drawn bits
  abbrev pub nodes : ℕ → Cost
  nodes n = nodes_by S (nodes_in n)

  abbrev pub bits : ℕ → Cost
  bits n = bits_by S (bits_in n)
