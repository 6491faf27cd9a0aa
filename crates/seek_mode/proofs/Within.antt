-- By the scale of runs that seek no part costs more than it weighs, and none draws more bits.
use Rattle.std.proofs.Common.{◌≡◌, ℕ, zero, suc, ◌+◌, ◌*◌, ◌≤◌, Bool, true, false, cond, List, [], ◌∷◌, refl, ap, arith, Option, Some, None, slice_get}
use Rattle.std.proofs.Math.Nat.{mul-le-mul_left}
use Rattle.c_core.specs.Tree.{Exp, Expr, Node, Const, Var, Index, Unary, Cast, Step, Binary, Logic, Choose, Comma, Assign, Call, Exps, NoExp, MoreExp, Init, Absent, One, Many, Rows, Names, NoName, MoreName, First, NoFirst, FirstExp, FirstNames, Stm, Stmt, Form, Empty, Do, Declare, Block, If, While, DoWhile, For, Break, Continue, Return, Label, Switch, Else, NoElse, OrElse, Stms, NoStm, MoreStm, MoreCase, Function, Program}
use Rattle.c_core.specs.Typing.{labels_in}
use Rattle.c_core.specs.declared.number.IntType.{IntType}
use Rattle.c_core.specs.declared.number.Spot.{Spot}
use Rattle.c_core.specs.declared.tree.Callee.{Callee}
use Rattle.c_core.specs.declared.tree.Callee.TheVariants.{Defined, Exit, Input, ReachError, Abort}
use Rattle.c_meaning.specs.Changed.{changed_by}
use Rattle.c_meaning.specs.Duties.{node_may_overflow}
use Rattle.c_meaning.specs.Meaning.{ForLoop}
use Rattle.c_meaning.specs.Objects.{type_of, type_of_object}
use Rattle.sym_weight.specs.Table.{statement_weight, expression_weight, tested, stored, returned, passed_to_exit, bits_of_object, node_work, node_bits, chooses}
use Rattle.seek_weight.specs.SeekWeight as weight
use Rattle.seek_weight.specs.SeekWeight.{Count, count_in, weights}
use Rattle.seek_weight.specs.Tolls.{AStatement, ATest, ACall}
use Rattle.sym_scale.specs.Cost as cost
use Rattle.sym_scale.specs.Cost.{Cost, nodes_by, bits_by, nodes_in, bits_in}
use Rattle.way_match.specs.Points.{BoundSegment}
use Rattle.seek_mode.specs.SeekingScale.{kept, sought, CostsAtMost}

-- what is counted of one is within the other, with this much to spare of each statement
record IsWithin (k spare : ℕ) (C : Cost) (W : Count) : Type 0 where
  part : (w b : ℕ) → C.part w b ≡ W.part w b
  statement : (at : Spot) → C.statement at + spare ≤ W.toll AStatement at
  test : (at : Spot) → C.test at ≤ W.toll ATest at
  call : (close : Spot) → C.call close ≤ W.toll ACall close
  body : C.body ≤ W.passage
  risk : C.risk ≤ W.risk
  head : (at : Spot) (os : List ℕ) → C.head at os ≡ 0
  turns : (t r : ℕ) → C.turns t r ≡ suc k * t + k * (spare + r)

more_turns : (k a b c d : ℕ) → a ≤ c → b ≤ d → suc k * a + k * b ≤ suc k * c + k * d
more_turns k a b c d h g = omega (arith, mul-le-mul_left (suc k) h, mul-le-mul_left k g)

risked : (b : Bool) (i j : ℕ) → i ≤ j → cond b i 0 ≤ cond b j 0
risked true i j h = h
risked false i j h = omega arith

module _ (p : Program) (k spare : ℕ) (C : Cost) (W : Count) (w : ℕ → ℕ → ℕ) (h : IsWithin k spare C W) (calls : (weight f : ℕ) → C.calling weight f ≤ w weight f) where
  called : (callee : Callee) (es : Exps) → cost.called p C callee es ≤ weight.called p W k w callee es
  called (Defined f) es = calls _ f
  called Exit es = omega (arith, h.part (passed_to_exit p.model es) 0)
  called (Input ty) es = omega arith
  called ReachError es = omega arith
  called Abort es = omega arith

  mutual
    expression : (e : Exp) → cost.expression p C e ≤ weight.expression p W k w e
    expression (Expr spot ty n) = omega (arith, operands n, h.part (expression_weight + node_work p ty n) (node_bits p n), risked (node_may_overflow p.model n) C.risk W.risk h.risk)

    operands : (n : Node) → cost.operands p C n ≤ weight.operands p W k w n
    operands (Const v) = omega arith
    operands (Var o) = omega arith
    operands (Index o is) = arguments is
    operands (Unary op a) = expression a
    operands (Cast a) = expression a
    operands (Step op a) = target a
    operands (Binary op a b) = omega (arith, expression a, expression b)
    operands (Logic both a b) = omega (arith, expression a, expression b)
    operands (Choose mark e a b) = omega (arith, h.test mark, expression e, expression a, expression b)
    operands (Comma a b) = omega (arith, expression a, expression b)
    operands (Assign op a b) = omega (arith, target a, expression b)
    operands (Call callee es close) = omega (arith, h.call close, arguments es, called callee es)

    target : (e : Exp) → cost.target p C e ≤ weight.target p W k w e
    target (Expr spot ty n) = omega (arith, h.part expression_weight 0, indexes_of n)

    indexes_of : (n : Node) → cost.indexes_of p C n ≤ weight.indexes_of p W k w n
    indexes_of (Const v) = omega arith
    indexes_of (Var o) = omega arith
    indexes_of (Index o is) = arguments is
    indexes_of (Unary op a) = omega arith
    indexes_of (Cast a) = omega arith
    indexes_of (Step op a) = omega arith
    indexes_of (Binary op a b) = omega arith
    indexes_of (Logic both a b) = omega arith
    indexes_of (Choose mark e a b) = omega arith
    indexes_of (Comma a b) = omega arith
    indexes_of (Assign op a b) = omega arith
    indexes_of (Call callee es close) = omega arith

    arguments : (es : Exps) → cost.arguments p C es ≤ weight.arguments p W k w es
    arguments NoExp = omega arith
    arguments (MoreExp e es) = omega (arith, expression e, arguments es)

  expression_if : (e : Option Exp) → cost.expression_if p C e ≤ weight.expression_if p W k w e
  expression_if None = omega arith
  expression_if (Some e) = expression e

  control : (at : Spot) (e : Exp) → cost.control p C at e ≤ weight.control p W k w at e
  control at e = omega (arith, h.test at, expression e, h.part (tested p.model e) 0)

  control_if : (at : Spot) (e : Option Exp) → cost.control_if p C at e ≤ weight.control_if p W k w at e
  control_if at None = omega arith
  control_if at (Some e) = control at e

  initial : (o : ℕ) (e : Exp) → cost.initial p C o e ≤ weight.initial p W k w o e
  initial o e = omega (arith, expression e, h.part (stored p.model (type_of e) (type_of_object p o)) 0)

  initials : (o : ℕ) (es : Exps) → cost.initials p C o es ≤ weight.initials p W k w o es
  initials o NoExp = omega arith
  initials o (MoreExp e es) = omega (arith, initial o e, initials o es)

  row_initials : (o : ℕ) (rows : List Exps) → cost.row_initials p C o rows ≤ weight.row_initials p W k w o rows
  row_initials o [] = omega arith
  row_initials o (es ∷ rows) = omega (arith, initials o es, row_initials o rows)

  initialised : (o : ℕ) (i : Init) → cost.initialised p C o i ≤ weight.initialised p W k w o i
  initialised o Absent = omega (arith, h.part (4 * bits_of_object p o) (bits_of_object p o))
  initialised o (One e) = omega (arith, h.part (4 * bits_of_object p o) 0, initial o e)
  initialised o (Many es) = omega (arith, h.part (4 * bits_of_object p o) 0, initials o es)
  initialised o (Rows rows) = omega (arith, h.part (4 * bits_of_object p o) 0, row_initials o rows)

  declared : (ns : Names) → cost.declared p C ns ≤ weight.declared p W k w ns
  declared NoName = omega arith
  declared (MoreName spot o i ns) = omega (arith, initialised o i, declared ns)

  first : (i : First) → cost.first p C i ≤ weight.first p W k w i
  first NoFirst = omega arith
  first (FirstExp e) = expression e
  first (FirstNames ns) = declared ns

  given : (result : Option IntType) (e : Option Exp) → cost.given p C result e ≤ weight.given p W k w result e
  given result None = omega arith
  given result (Some e) = omega (arith, expression e, h.part (returned p.model result (type_of e)) 0)

  looped : (at : Spot) (os : List ℕ) (a b c d : ℕ) → a ≤ c → spare + b ≤ d → C.head at os + C.turns a b ≤ weight.turns p W k w c d
  looped at os a b c d i j = omega (arith, h.head at os, h.turns a b, more_turns k a (spare + b) c d i j)

  module _ (result : Option IntType) where
    mutual
      statement : (s : Stm) → spare + cost.statement p C result s ≤ weight.statement p W k w result s
      statement (Stmt at f) = omega (arith, h.part statement_weight 0, h.statement at, form at f)

      form : (at : Spot) (f : Form) → cost.form p C result at f ≤ weight.form p W k w result at f
      form at Empty = omega arith
      form at (Do e) = expression e
      form at (Declare ns) = declared ns
      form at (Block b) = statements b
      form at (If e a b) = omega (arith, control at e, statement a, otherwise b)
      form at (While e b) = looped at _ (cost.control p C at e) (cost.statement p C result b) (weight.control p W k w at e) (weight.statement p W k w result b) (control at e) (statement b)
      form at (DoWhile b e) = looped at _ (cost.control p C at e) (cost.statement p C result b) (weight.control p W k w at e) (weight.statement p W k w result b) (control at e) (statement b)
      form at (For i e s b) =
          let rest : spare + (cost.expression_if p C s + cost.statement p C result b) ≤ weight.expression_if p W k w s + weight.statement p W k w result b = omega (arith, expression_if s, statement b) in
          let all = looped at (changed_by p (ForLoop e s b)) (cost.control_if p C at e) (cost.expression_if p C s + cost.statement p C result b) (weight.control_if p W k w at e) (weight.expression_if p W k w s + weight.statement p W k w result b) (control_if at e) rest in
          omega (arith, first i, all)
      form at Break = omega arith
      form at Continue = omega arith
      form at (Return e) = given result e
      form at (Label b) = omega (arith, statement b)
      form at (Switch e b) = omega (arith, h.test at, expression e, h.part (chooses p.model (type_of e) (labels_in b)) 0, statements b)

      otherwise : (b : Else) → cost.otherwise p C result b ≤ weight.otherwise p W k w result b
      otherwise NoElse = omega arith
      otherwise (OrElse b) = omega (arith, statement b)

      statements : (b : Stms) → cost.statements p C result b ≤ weight.statements p W k w result b
      statements NoStm = omega arith
      statements (MoreStm s b) = omega (arith, statement s, statements b)
      statements (MoreCase spot l b) = statements b

    function_body : (s : Stm) → cost.function_body p C result s ≤ weight.function_body p W k w result s
    function_body (Stmt at f) = omega (arith, h.part statement_weight 0, h.body, form at f)

  function_of : (o : Option Function) → cost.function_of p C o ≤ weight.function_of p W k w o
  function_of None = omega arith
  function_of (Some f) = function_body f.result f.body

module _ (p : Program) (ss : List BoundSegment) (k : ℕ) where
  nodes_within : (calling : ℕ → ℕ → ℕ) → IsWithin k kept (nodes_by (sought p ss k) calling) (weights p ss)
  nodes_within calling = record {
    part = λ w b. refl;
    statement = λ at. omega arith;
    test = λ at. omega arith;
    call = λ close. omega arith;
    body = omega arith;
    risk = omega arith;
    head = λ at os. refl;
    turns = λ t r. refl;
  }

  bits_within : (drawing : ℕ → ℕ) → IsWithin k 0 (bits_by (sought p ss k) drawing) weight.bits
  bits_within drawing = record {
    part = λ w b. refl;
    statement = λ at. omega arith;
    test = λ at. omega arith;
    call = λ close. omega arith;
    body = omega arith;
    risk = omega arith;
    head = λ at os. refl;
    turns = λ t r. let e : r ≡ 0 + r = omega arith in ap (λ z. suc k * t + k * z) e;
  }

  -- the functions that are called, one depth deeper each
  nodes_at_most : (n f : ℕ) → cost.function p (cost.nodes p (sought p ss k) n) f ≤ count_in p (weights p ss) k n f
  nodes_at_most zero f = function_of p k kept (nodes_by (sought p ss k) (nodes_in p (sought p ss k) zero)) (weights p ss) (λ params g. 0) (nodes_within (nodes_in p (sought p ss k) zero)) (λ w g. omega arith) (slice_get p.functions f)
  nodes_at_most (suc n) f =
      function_of p k kept (nodes_by (sought p ss k) (nodes_in p (sought p ss k) (suc n))) (weights p ss) (λ params g. params + count_in p (weights p ss) k n g) (nodes_within (nodes_in p (sought p ss k) (suc n))) (λ w g. omega (arith, nodes_at_most n g)) (slice_get p.functions f)

  bits_at_most : (n f : ℕ) → cost.function p (cost.bits p (sought p ss k) n) f ≤ count_in p weight.bits k n f
  bits_at_most zero f = function_of p k 0 (bits_by (sought p ss k) (bits_in p (sought p ss k) zero)) weight.bits (λ params g. 0) (bits_within (bits_in p (sought p ss k) zero)) (λ w g. omega arith) (slice_get p.functions f)
  bits_at_most (suc n) f =
      function_of p k 0 (bits_by (sought p ss k) (bits_in p (sought p ss k) (suc n))) weight.bits (λ params g. 0 + count_in p weight.bits k n g) (bits_within (bits_in p (sought p ss k) (suc n))) (λ w g. omega (arith, bits_at_most n g)) (slice_get p.functions f)

pub costs_at_most : (p : Program) (ss : List BoundSegment) (k n f : ℕ) → CostsAtMost p ss k n f
costs_at_most p ss k n f = record { nodes = nodes_at_most p ss k n f; bits = bits_at_most p ss k n f }
