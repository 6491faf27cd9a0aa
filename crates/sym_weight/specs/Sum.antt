-- What a program sums up to, part by part: each loop's parts once, calls by what stands for the bodies of the functions.
use Rattle.std.specs.Prelude.{ℕ, ◌+◌, ◌*◌, Bool, false, true, List, [], ◌∷◌, Option, Some, None, slice_get}
use Rattle.c_core.specs.Tree.{Exp, Expr, Node, Const, Var, Index, Unary, Cast, Step, Binary, Logic, Choose, Comma, Assign, Call, Exps, NoExp, MoreExp, Init, Absent, One, Many, Rows, Names, NoName, MoreName, First, NoFirst, FirstExp, FirstNames, Stm, Stmt, Form, Empty, Do, Declare, Block, If, While, DoWhile, For, Break, Continue, Return, Label, Switch, Else, NoElse, OrElse, Stms, NoStm, MoreStm, MoreCase, Function, Program}
use Rattle.c_core.specs.Typing.{labels_in}
use Rattle.c_core.specs.declared.number.IntType.{IntType}
use Rattle.c_core.specs.declared.number.Spot.{Spot}
use Rattle.c_core.specs.declared.tree.Callee.{Callee}
use Rattle.c_core.specs.declared.tree.Callee.TheVariants.{Defined, Exit}
use Rattle.c_meaning.specs.Meaning.{WhileLoop, DoLoop, ForLoop}
use Rattle.c_meaning.specs.Changed.{changed_by}
use Rattle.c_meaning.specs.Objects.{type_of, type_of_object}
use Rattle.sym_weight.specs.Table.{statement_weight, expression_weight, tested, stored, returned, params_of, passed, passed_to_exit, bits_of_object, bits_of_objects, node_work, node_bits, chooses}

-- amounts, and how they are put together
pub record Sum : Type 1 where
  pub Amount : Type 0
  pub none : Amount
  pub both : Amount → Amount → Amount
  -- something of this weight that draws this many bits
  pub part : ℕ → ℕ → Amount
  -- a call of this function, by its number, goes through the function's body
  pub body : ℕ → Amount

module _ (p : Program) (S : Sum) where
  -- what a call does after its arguments: they are put into the parameters, and the body is gone through
  abbrev pub called : Callee → Exps → S.Amount
  called (Defined f) es = S.both (S.part (passed p (params_of (slice_get p.functions f)) es) 0) (S.body f)
  called Exit es = S.part (passed_to_exit p.model es) 0
  called _ es = S.none

  abbrev mutual
    -- an expression: what its node does, and its operands
    pub expression : Exp → S.Amount
    expression (Expr spot ty n) = S.both (S.part (expression_weight + node_work p ty n) (node_bits p n)) (operands n)

    -- the parts of a node
    pub operands : Node → S.Amount
    operands (Const v) = S.none
    operands (Var o) = S.none
    operands (Index o is) = arguments is
    operands (Unary op a) = expression a
    operands (Cast a) = expression a
    operands (Step op a) = target a
    operands (Binary op a b) = S.both (expression a) (expression b)
    operands (Logic k a b) = S.both (expression a) (expression b)
    operands (Choose mark e a b) = S.both (expression e) (S.both (expression a) (expression b))
    operands (Comma a b) = S.both (expression a) (expression b)
    operands (Assign op a b) = S.both (target a) (expression b)
    operands (Call callee es close) = S.both (arguments es) (called callee es)

    -- what an assignment or a step puts its value into: a node, and its indexes
    pub target : Exp → S.Amount
    target (Expr spot ty n) = S.both (S.part expression_weight 0) (indexes_of n)

    -- the indexes of an element
    pub indexes_of : Node → S.Amount
    indexes_of (Index o is) = arguments is
    indexes_of _ = S.none

    -- the arguments of a call, or indexes
    pub arguments : Exps → S.Amount
    arguments NoExp = S.none
    arguments (MoreExp e es) = S.both (expression e) (arguments es)

  -- an expression that may be left out
  abbrev pub expression_if : Option Exp → S.Amount
  expression_if None = S.none
  expression_if (Some e) = expression e

  -- a controlling expression
  abbrev pub control : Exp → S.Amount
  control e = S.both (expression e) (S.part (tested p.model e) 0)

  -- a controlling expression that may be left out: that of `for`
  abbrev pub control_if : Option Exp → S.Amount
  control_if None = S.none
  control_if (Some e) = control e

  -- a value of an initializer
  abbrev pub initial : ℕ → Exp → S.Amount
  initial o e = S.both (expression e) (S.part (stored p.model (type_of e) (type_of_object p o)) 0)

  -- the values of a list
  abbrev pub initials : ℕ → Exps → S.Amount
  initials o NoExp = S.none
  initials o (MoreExp e es) = S.both (initial o e) (initials o es)

  -- the values of rows
  abbrev pub row_initials : ℕ → List Exps → S.Amount
  row_initials o [] = S.none
  row_initials o (es ∷ rows) = S.both (initials o es) (row_initials o rows)

  -- a declared object: its cells, which are drawn where it has no initializer, and the values of its initializer
  abbrev pub initialised : ℕ → Init → S.Amount
  initialised o Absent = S.part (4 * bits_of_object p o) (bits_of_object p o)
  initialised o (One e) = S.both (S.part (4 * bits_of_object p o) 0) (initial o e)
  initialised o (Many es) = S.both (S.part (4 * bits_of_object p o) 0) (initials o es)
  initialised o (Rows rows) = S.both (S.part (4 * bits_of_object p o) 0) (row_initials o rows)

  -- the objects of a declaration
  abbrev pub declared : Names → S.Amount
  declared NoName = S.none
  declared (MoreName spot o i ns) = S.both (initialised o i) (declared ns)

  -- the declaration in `for (` is no statement
  abbrev pub first : First → S.Amount
  first NoFirst = S.none
  first (FirstExp e) = expression e
  first (FirstNames ns) = declared ns

  -- a value returned from a function of this result
  abbrev pub given : Option IntType → Option Exp → S.Amount
  given result None = S.none
  given result (Some e) = S.both (expression e) (S.part (returned p.model result (type_of e)) 0)

  -- at_place: what the invariants weigh that stand at a loop (true) or a statement (false) at a place
  module _ (at_place : Bool → Spot → ℕ) where
    -- the head of a loop that changes these objects: its invariants are tested on arrival, assumed, and tested after the turn; each cell is drawn
    abbrev pub head : Spot → List ℕ → S.Amount
    head at changed = S.part (3 * at_place true at + 4 * bits_of_objects p changed) (bits_of_objects p changed)

    -- in a function of this result
    module _ (result : Option IntType) where
      abbrev mutual
        -- a statement, with the invariants that stand at it
        pub statement : Stm → S.Amount
        statement (Stmt at f) = S.both (S.part (statement_weight + at_place false at) 0) (form at f)

        -- a statement without what each statement weighs
        pub form : Spot → Form → S.Amount
        form at Empty = S.none
        form at (Do e) = expression e
        form at (Declare ns) = declared ns
        form at (Block b) = statements b
        form at (If e a b) = S.both (control e) (S.both (statement a) (otherwise b))
        form at (While e b) = S.both (head at (changed_by p (WhileLoop e b))) (S.both (control e) (statement b))
        form at (DoWhile b e) = S.both (head at (changed_by p (DoLoop b e))) (S.both (statement b) (control e))
        form at (For i e s b) = S.both (first i) (S.both (head at (changed_by p (ForLoop e s b))) (S.both (control_if e) (S.both (expression_if s) (statement b))))
        form at Break = S.none
        form at Continue = S.none
        form at (Return e) = given result e
        form at (Label b) = statement b
        form at (Switch e b) = S.both (expression e) (S.both (S.part (chooses p.model (type_of e) (labels_in b)) 0) (statements b))

        -- the arm after `else`
        pub otherwise : Else → S.Amount
        otherwise NoElse = S.none
        otherwise (OrElse b) = statement b

        -- the statements of a block, or those of the arms of a switch
        pub statements : Stms → S.Amount
        statements NoStm = S.none
        statements (MoreStm s b) = S.both (statement s) (statements b)
        statements (MoreCase spot l b) = statements b

      -- a function's body is no place of an invariant
      abbrev pub function_body : Stm → S.Amount
      function_body (Stmt at f) = S.both (S.part statement_weight 0) (form at f)

    -- the body of a function, where there is one
    abbrev pub function_of : Option Function → S.Amount
    function_of None = S.none
    function_of (Some f) = function_body f.result f.body

    -- the body of a function, by its number
    abbrev pub function : ℕ → S.Amount
    function f = function_of (slice_get p.functions f)
