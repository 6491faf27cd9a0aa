-- By the scale of obligations each part costs what it weighs, and draws the bits that it draws.
use Rattle.std.proofs.Common.{◌≡◌, ℕ, zero, suc, ◌+◌, ◌*◌, cond, Bool, true, false, List, [], ◌∷◌, refl, arith, Option, Some, None, slice_get}
use Rattle.c_core.specs.Tree.{Exp, Expr, Node, Const, Var, Index, Unary, Cast, Step, Binary, Logic, Choose, Comma, Assign, Call, Exps, NoExp, MoreExp, Init, Absent, One, Many, Rows, Names, NoName, MoreName, First, NoFirst, FirstExp, FirstNames, Stm, Stmt, Form, Empty, Do, Declare, Block, If, While, DoWhile, For, Break, Continue, Return, Label, Switch, Else, NoElse, OrElse, Stms, NoStm, MoreStm, MoreCase, Function, Program}
use Rattle.c_core.specs.declared.number.IntType.{IntType}
use Rattle.c_core.specs.declared.number.Spot.{Spot}
use Rattle.c_core.specs.declared.tree.Callee.{Callee}
use Rattle.c_core.specs.declared.tree.Callee.TheVariants.{Defined, Exit, Input, ReachError, Abort}
use Rattle.c_meaning.specs.Duties.{Placed, node_may_overflow}
use Rattle.sym_weight.specs.Sum as sum
use Rattle.sym_weight.specs.Sum.{Sum}
use Rattle.sym_weight.specs.Table.{bits_of_objects, statement_weight}
use Rattle.sym_weight.specs.Weight as weights
use Rattle.sym_weight.specs.Weight.{weight_in, placed_weight, nowhere}
use Rattle.sym_scale.specs.Cost as cost
use Rattle.sym_scale.specs.Cost.{Cost, nodes_in, bits_in}
use Rattle.sym_scale.specs.Obliged.{obliged, CostsItsWeight}

no_risk : (b : Bool) → ◌≡◌ {A = ℕ} (cond b 0 0) 0
no_risk true = refl
no_risk false = refl

-- ---- and-nodes and bits alike
-- part: of what a part counts, its weight or its bits; f: what a call counts after its arguments; g: what a body does
module _ (p : Program) (part : ℕ → ℕ → ℕ) (at_place : Bool → Spot → ℕ) (f : ℕ → ℕ → ℕ) (g : ℕ → ℕ) (same : (weight k : ℕ) → f weight k ≡ part weight 0 + g k)
    (turns : ℕ → ℕ → ℕ) (turned : (t r : ℕ) → turns t r ≡ t + r) (placed : (at : Spot) → part (statement_weight + at_place false at) 0 ≡ part statement_weight 0 + at_place false at) where
  abbrev C : Cost
  C = record {
    part = part;
    statement = at_place false;
    test = λ at. 0;
    call = λ close. 0;
    body = 0;
    risk = 0;
    head = λ at changed. part (3 * at_place true at + 4 * bits_of_objects p changed) (bits_of_objects p changed);
    turns = turns;
    calling = f;
  }

  abbrev S : Sum
  S = record { Amount = ℕ; none = 0; both = λ a b. a + b; part = part; body = g }

  called : (callee : Callee) (es : Exps) → cost.called p C callee es ≡ sum.called p S callee es
  called (Defined k) es = same _ k
  called Exit es = refl
  called (Input ty) es = refl
  called ReachError es = refl
  called Abort es = refl

  mutual
    expression : (e : Exp) → cost.expression p C e ≡ sum.expression p S e
    expression (Expr spot ty n) = omega (arith, operands n, no_risk (node_may_overflow p.model n))

    operands : (n : Node) → cost.operands p C n ≡ sum.operands p S n
    operands (Const v) = refl
    operands (Var o) = refl
    operands (Index o is) = arguments is
    operands (Unary op a) = expression a
    operands (Cast a) = expression a
    operands (Step op a) = target a
    operands (Binary op a b) = omega (arith, expression a, expression b)
    operands (Logic k a b) = omega (arith, expression a, expression b)
    operands (Choose mark e a b) = omega (arith, expression e, expression a, expression b)
    operands (Comma a b) = omega (arith, expression a, expression b)
    operands (Assign op a b) = omega (arith, target a, expression b)
    operands (Call callee es close) = omega (arith, arguments es, called callee es)

    target : (e : Exp) → cost.target p C e ≡ sum.target p S e
    target (Expr spot ty n) = omega (arith, indexes_of n)

    indexes_of : (n : Node) → cost.indexes_of p C n ≡ sum.indexes_of p S n
    indexes_of (Const v) = refl
    indexes_of (Var o) = refl
    indexes_of (Index o is) = arguments is
    indexes_of (Unary op a) = refl
    indexes_of (Cast a) = refl
    indexes_of (Step op a) = refl
    indexes_of (Binary op a b) = refl
    indexes_of (Logic k a b) = refl
    indexes_of (Choose mark e a b) = refl
    indexes_of (Comma a b) = refl
    indexes_of (Assign op a b) = refl
    indexes_of (Call callee es close) = refl

    arguments : (es : Exps) → cost.arguments p C es ≡ sum.arguments p S es
    arguments NoExp = refl
    arguments (MoreExp e es) = omega (arith, expression e, arguments es)

  expression_if : (e : Option Exp) → cost.expression_if p C e ≡ sum.expression_if p S e
  expression_if None = refl
  expression_if (Some e) = expression e

  control : (at : Spot) (e : Exp) → cost.control p C at e ≡ sum.control p S e
  control at e = omega (arith, expression e)

  control_if : (at : Spot) (e : Option Exp) → cost.control_if p C at e ≡ sum.control_if p S e
  control_if at None = refl
  control_if at (Some e) = control at e

  initials : (o : ℕ) (es : Exps) → cost.initials p C o es ≡ sum.initials p S o es
  initials o NoExp = refl
  initials o (MoreExp e es) = omega (arith, expression e, initials o es)

  row_initials : (o : ℕ) (rows : List Exps) → cost.row_initials p C o rows ≡ sum.row_initials p S o rows
  row_initials o [] = refl
  row_initials o (es ∷ rows) = omega (arith, initials o es, row_initials o rows)

  initialised : (o : ℕ) (i : Init) → cost.initialised p C o i ≡ sum.initialised p S o i
  initialised o Absent = refl
  initialised o (One e) = omega (arith, expression e)
  initialised o (Many es) = omega (arith, initials o es)
  initialised o (Rows rows) = omega (arith, row_initials o rows)

  declared : (ns : Names) → cost.declared p C ns ≡ sum.declared p S ns
  declared NoName = refl
  declared (MoreName spot o i ns) = omega (arith, initialised o i, declared ns)

  first : (i : First) → cost.first p C i ≡ sum.first p S i
  first NoFirst = refl
  first (FirstExp e) = expression e
  first (FirstNames ns) = declared ns

  given : (result : Option IntType) (e : Option Exp) → cost.given p C result e ≡ sum.given p S result e
  given result None = refl
  given result (Some e) = omega (arith, expression e)

  module _ (result : Option IntType) where
    mutual
      statement : (s : Stm) → cost.statement p C result s ≡ sum.statement p S at_place result s
      statement (Stmt at k) = omega (arith, form at k, placed at)

      form : (at : Spot) (k : Form) → cost.form p C result at k ≡ sum.form p S at_place result at k
      form at Empty = refl
      form at (Do e) = expression e
      form at (Declare ns) = declared ns
      form at (Block b) = statements b
      form at (If e a b) = omega (arith, control at e, statement a, otherwise b)
      form at (While e b) = omega (arith, control at e, statement b, turned (cost.control p C at e) (cost.statement p C result b))
      form at (DoWhile b e) = omega (arith, control at e, statement b, turned (cost.control p C at e) (cost.statement p C result b))
      form at (For i e s b) =
          omega (arith, first i, control_if at e, expression_if s, statement b, turned (cost.control_if p C at e) (cost.expression_if p C s + cost.statement p C result b))
      form at Break = refl
      form at Continue = refl
      form at (Return e) = given result e
      form at (Label b) = statement b
      form at (Switch e b) = omega (arith, expression e, statements b)

      otherwise : (b : Else) → cost.otherwise p C result b ≡ sum.otherwise p S at_place result b
      otherwise NoElse = refl
      otherwise (OrElse b) = statement b

      statements : (b : Stms) → cost.statements p C result b ≡ sum.statements p S at_place result b
      statements NoStm = refl
      statements (MoreStm s b) = omega (arith, statement s, statements b)
      statements (MoreCase spot l b) = statements b

    function_body : (s : Stm) → cost.function_body p C result s ≡ sum.function_body p S at_place result s
    function_body (Stmt at k) = omega (arith, form at k)

  function_of : (o : Option Function) → cost.function_of p C o ≡ sum.function_of p S at_place o
  function_of None = refl
  function_of (Some k) = function_body k.result k.body

nodes_are_weight : (p : Program) (I : List Placed) (n weight f : ℕ) → nodes_in p (obliged p I) n weight f ≡ weight + weight_in p I n f
nodes_are_weight p I zero weight f = omega arith
nodes_are_weight p I (suc n) weight f =
    omega (arith, function_of p (λ w b. w) (placed_weight p I) (nodes_in p (obliged p I) n) (weight_in p I n) (nodes_are_weight p I n) (λ t r. t + (0 + r)) (λ t r. omega arith) (λ at. refl) (slice_get p.functions f))

bits_are_drawn : (p : Program) (I : List Placed) (n f : ℕ) → bits_in p (obliged p I) n f ≡ weights.bits_in p n f
bits_are_drawn p I zero f = refl
bits_are_drawn p I (suc n) f = function_of p (λ w b. b) nowhere (λ w k. bits_in p (obliged p I) n k) (weights.bits_in p n) (λ w k. omega (arith, bits_are_drawn p I n k)) (λ t r. t + r) (λ t r. refl) (λ at. omega arith) (slice_get p.functions f)

pub costs_its_weight : (p : Program) (I : List Placed) (n : ℕ) → CostsItsWeight p I n
costs_its_weight p I n = record { nodes = nodes_are_weight p I n; bits = bits_are_drawn p I n }
