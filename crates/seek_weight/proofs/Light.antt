-- The runs within a bound draw no more bits than they weigh, part by part.
use Rattle.std.proofs.Common.{ℕ, zero, suc, ◌+◌, ◌*◌, ◌≤◌, Bool, true, false, cond, List, [], ◌∷◌, Option, None, Some, slice_get, arith}
use Rattle.std.proofs.Math.Nat.{mul-le-mul_left}
use Rattle.c_core.specs.Types.{width_of}
use Rattle.c_core.specs.Tree.{Exp, Expr, Node, Const, Var, Index, Unary, Cast, Step, Binary, Logic, Choose, Comma, Assign, Call, Exps, NoExp, MoreExp, Init, Absent, One, Many, Rows, Names, NoName, MoreName, First, NoFirst, FirstExp, FirstNames, Stm, Stmt, Form, Empty, Do, Declare, Block, If, While, DoWhile, For, Break, Continue, Return, Label, Switch, Else, NoElse, OrElse, Stms, NoStm, MoreStm, MoreCase, Function, Program}
use Rattle.c_core.specs.declared.number.DataModel.{DataModel}
use Rattle.c_core.specs.declared.number.DataModel.TheVariants.{Ilp32, Lp64}
use Rattle.c_core.specs.declared.number.IntType.{IntType}
use Rattle.c_core.specs.declared.number.IntType.TheVariants.{Long, ULong}
use Rattle.c_core.specs.declared.number.Spot.{Spot}
use Rattle.c_core.specs.declared.tree.Callee.{Callee}
use Rattle.c_core.specs.declared.tree.Callee.TheVariants.{Defined, Input, ReachError, Abort, Exit}
use Rattle.c_meaning.specs.Duties.{node_may_overflow}
use Rattle.way_match.specs.Points.{BoundSegment}
use Rattle.sym_weight.specs.Table.{expression_weight, call_weight, callee_bits, node_work, node_bits}
use Rattle.seek_weight.specs.SeekWeight.{Count, weights, bits, called, expression, operands, target, indexes_of, arguments, expression_if, control, control_if, initial, initials, row_initials, initialised, declared, first, turns, given, statement, form, otherwise, statements, function_body, function_of, count_in, SeekWeight, SeekBits}

at_most_64 : (m : DataModel) (ty : IntType) → width_of m ty ≤ 64
at_most_64 Ilp32 Long = omega arith
at_most_64 Lp64 Long = omega arith
at_most_64 Ilp32 ULong = omega arith
at_most_64 Lp64 ULong = omega arith
at_most_64 m _ = omega arith

-- what an input call draws is less than a call weighs
light_callee : (p : Program) (callee : Callee) → callee_bits p callee ≤ expression_weight + call_weight
light_callee p (Input ty) = let w = at_most_64 p.model ty in omega arith
light_callee p _ = omega arith

light_node : (p : Program) (ty : Option IntType) (n : Node) → node_bits p n ≤ expression_weight + node_work p ty n
light_node p ty (Call callee es close) = light_callee p callee
light_node p ty _ = omega arith

light_turns : (k a b c d : ℕ) → a ≤ c → b ≤ d → suc k * a + k * b ≤ suc k * c + k * d
light_turns k a b c d h g = omega (arith, mul-le-mul_left (suc k) h, mul-le-mul_left k g)

light_both : (a b c d : ℕ) → a ≤ c → b ≤ d → a + b ≤ c + d
light_both a b c d h g = omega (arith, h, g)

module _ (p : Program) (ss : List BoundSegment) (k : ℕ) where
  abbrev W : Count
  W = weights p ss

  module _ (b w : ℕ → ℕ → ℕ) (h : (params g : ℕ) → b params g ≤ w params g) where
    light_called : (callee : Callee) (es : Exps) → called p bits k b callee es ≤ called p W k w callee es
    light_called (Defined f) es = h _ f
    light_called Exit es = omega arith
    light_called (Input ty) es = omega arith
    light_called ReachError es = omega arith
    light_called Abort es = omega arith

    light_risk : (t : Bool) → cond t 0 0 ≤ cond t 64 0
    light_risk true = omega arith
    light_risk false = omega arith

    mutual
      light_expression : (e : Exp) → expression p bits k b e ≤ expression p W k w e
      light_expression (Expr spot ty n) =
          light_both (node_bits p n) (cond (node_may_overflow p.model n) 0 0 + operands p bits k b n) (expression_weight + node_work p ty n) (cond (node_may_overflow p.model n) 64 0 + operands p W k w n) (light_node p ty n)
          (light_both (cond (node_may_overflow p.model n) 0 0) (operands p bits k b n) (cond (node_may_overflow p.model n) 64 0) (operands p W k w n) (light_risk (node_may_overflow p.model n)) (light_operands n))

      light_operands : (n : Node) → operands p bits k b n ≤ operands p W k w n
      light_operands (Const v) = omega arith
      light_operands (Var o) = omega arith
      light_operands (Index o is) = light_arguments is
      light_operands (Unary op a) = light_expression a
      light_operands (Cast a) = light_expression a
      light_operands (Step op a) = light_target a
      light_operands (Binary op x y) = omega (arith, light_expression x, light_expression y)
      light_operands (Logic both x y) = omega (arith, light_expression x, light_expression y)
      light_operands (Choose mark e x y) = omega (arith, light_expression e, light_expression x, light_expression y)
      light_operands (Comma x y) = omega (arith, light_expression x, light_expression y)
      light_operands (Assign op x y) = omega (arith, light_target x, light_expression y)
      light_operands (Call callee es close) = omega (arith, light_arguments es, light_called callee es)

      light_target : (e : Exp) → target p bits k b e ≤ target p W k w e
      light_target (Expr spot ty n) = omega (arith, light_indexes n)

      light_indexes : (n : Node) → indexes_of p bits k b n ≤ indexes_of p W k w n
      light_indexes (Index o is) = light_arguments is
      light_indexes _ = omega arith

      light_arguments : (es : Exps) → arguments p bits k b es ≤ arguments p W k w es
      light_arguments NoExp = omega arith
      light_arguments (MoreExp e es) = omega (arith, light_expression e, light_arguments es)

    light_if : (e : Option Exp) → expression_if p bits k b e ≤ expression_if p W k w e
    light_if None = omega arith
    light_if (Some e) = light_expression e

    light_control : (at : Spot) (e : Exp) → control p bits k b at e ≤ control p W k w at e
    light_control at e = omega (arith, light_expression e)

    light_control_if : (at : Spot) (e : Option Exp) → control_if p bits k b at e ≤ control_if p W k w at e
    light_control_if at None = omega arith
    light_control_if at (Some e) = light_control at e

    light_initial : (o : ℕ) (e : Exp) → initial p bits k b o e ≤ initial p W k w o e
    light_initial o e = omega (arith, light_expression e)

    light_initials : (o : ℕ) (es : Exps) → initials p bits k b o es ≤ initials p W k w o es
    light_initials o NoExp = omega arith
    light_initials o (MoreExp e es) = omega (arith, light_initial o e, light_initials o es)

    light_rows : (o : ℕ) (rows : List Exps) → row_initials p bits k b o rows ≤ row_initials p W k w o rows
    light_rows o [] = omega arith
    light_rows o (es ∷ rows) = omega (arith, light_initials o es, light_rows o rows)

    light_init : (o : ℕ) (i : Init) → initialised p bits k b o i ≤ initialised p W k w o i
    light_init o Absent = omega arith
    light_init o (One e) = omega (arith, light_initial o e)
    light_init o (Many es) = omega (arith, light_initials o es)
    light_init o (Rows rows) = omega (arith, light_rows o rows)

    light_declared : (ns : Names) → declared p bits k b ns ≤ declared p W k w ns
    light_declared NoName = omega arith
    light_declared (MoreName spot o i ns) = omega (arith, light_init o i, light_declared ns)

    light_first : (i : First) → first p bits k b i ≤ first p W k w i
    light_first NoFirst = omega arith
    light_first (FirstExp e) = light_expression e
    light_first (FirstNames ns) = light_declared ns

    light_given : (result : Option IntType) (e : Option Exp) → given p bits k b result e ≤ given p W k w result e
    light_given result None = omega arith
    light_given result (Some e) = omega (arith, light_expression e)

    module _ (result : Option IntType) where
      mutual
        light_statement : (s : Stm) → statement p bits k b result s ≤ statement p W k w result s
        light_statement (Stmt at f) = omega (arith, light_form at f)

        light_form : (at : Spot) (f : Form) → form p bits k b result at f ≤ form p W k w result at f
        light_form at Empty = omega arith
        light_form at (Do e) = light_expression e
        light_form at (Declare ns) = light_declared ns
        light_form at (Block x) = light_statements x
        light_form at (If e x y) = omega (arith, light_control at e, light_statement x, light_otherwise y)
        light_form at (While e x) = light_turns k (control p bits k b at e) (statement p bits k b result x) (control p W k w at e) (statement p W k w result x) (light_control at e) (light_statement x)
        light_form at (DoWhile x e) = light_turns k (control p bits k b at e) (statement p bits k b result x) (control p W k w at e) (statement p W k w result x) (light_control at e) (light_statement x)
        light_form at (For i e s x) =
            light_both (first p bits k b i) (turns p bits k b (control_if p bits k b at e) (expression_if p bits k b s + statement p bits k b result x)) (first p W k w i) (turns p W k w (control_if p W k w at e) (expression_if p W k w s + statement p W k w result x)) (light_first i)
            (light_turns k (control_if p bits k b at e) (expression_if p bits k b s + statement p bits k b result x) (control_if p W k w at e) (expression_if p W k w s + statement p W k w result x) (light_control_if at e)
            (light_both (expression_if p bits k b s) (statement p bits k b result x) (expression_if p W k w s) (statement p W k w result x) (light_if s) (light_statement x)))
        light_form at Break = omega arith
        light_form at Continue = omega arith
        light_form at (Return e) = light_given result e
        light_form at (Label x) = light_statement x
        light_form at (Switch e x) = omega (arith, light_expression e, light_statements x)

        light_otherwise : (x : Else) → otherwise p bits k b result x ≤ otherwise p W k w result x
        light_otherwise NoElse = omega arith
        light_otherwise (OrElse x) = light_statement x

        light_statements : (x : Stms) → statements p bits k b result x ≤ statements p W k w result x
        light_statements NoStm = omega arith
        light_statements (MoreStm s x) = omega (arith, light_statement s, light_statements x)
        light_statements (MoreCase spot l x) = light_statements x

      light_body : (s : Stm) → function_body p bits k b result s ≤ function_body p W k w result s
      light_body (Stmt at f) = omega (arith, light_form at f)

    light_function : (f : Option Function) → function_of p bits k b f ≤ function_of p W k w f
    light_function None = omega arith
    light_function (Some f) = light_body f.result f.body

  light_in : (n f : ℕ) → count_in p bits k n f ≤ count_in p W k n f
  light_in zero f = light_function (λ params g. 0) (λ params g. 0) (λ params g. omega arith) (slice_get p.functions f)
  light_in (suc n) f =
      light_function (λ params g. 0 + count_in p bits k n g) (λ params g. params + count_in p W k n g) (λ params g. let r = light_in n g in omega (arith, r)) (slice_get p.functions f)

pub bits_are_light : (p : Program) (ss : List BoundSegment) (k : ℕ) → SeekBits p k ≤ SeekWeight p ss k
bits_are_light p ss k = light_in p ss k k p.main
