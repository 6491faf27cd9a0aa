-- Two sums of one program whose amounts are related part by part are related on every part.
use Rattle.std.proofs.Common.{ℕ, ◌+◌, ◌*◌, ◌≤◌, List, [], ◌∷◌, Bool, true, false, Option, None, Some, slice_get, arith}
use Rattle.c_core.specs.Types.{width_of}
use Rattle.c_core.specs.Typing.{labels_in}
use Rattle.c_core.specs.Tree.{Exp, Expr, Node, Const, Var, Index, Unary, Cast, Step, Binary, Logic, Choose, Comma, Assign, Call, Exps, NoExp, MoreExp, Init, Absent, One, Many, Rows, Names, NoName, MoreName, First, NoFirst, FirstExp, FirstNames, Stm, Stmt, Form, Empty, Do, Declare, Block, If, While, DoWhile, For, Break, Continue, Return, Label, Switch, Else, NoElse, OrElse, Stms, NoStm, MoreStm, MoreCase, Function, Program}
use Rattle.c_core.specs.declared.number.DataModel.{DataModel}
use Rattle.c_core.specs.declared.number.DataModel.TheVariants.{Ilp32, Lp64}
use Rattle.c_core.specs.declared.number.IntType.{IntType}
use Rattle.c_core.specs.declared.number.IntType.TheVariants.{Long, ULong}
use Rattle.c_core.specs.declared.number.Spot.{Spot}
use Rattle.c_core.specs.declared.tree.Callee.{Callee}
use Rattle.c_core.specs.declared.tree.Callee.TheVariants.{Defined, Input, ReachError, Abort, Exit}
use Rattle.c_meaning.specs.Changed.{changed_by}
use Rattle.c_meaning.specs.Meaning.{WhileLoop, DoLoop, ForLoop}
use Rattle.c_meaning.specs.Objects.{type_of, type_of_object}
use Rattle.sym_weight.specs.Table.{statement_weight, expression_weight, call_weight, tested, stored, returned, passed, passed_to_exit, params_of, bits_of_object, bits_of_objects, callee_bits, node_work, node_bits, chooses}
use Rattle.sym_weight.specs.Sum.{Sum, called, expression, operands, target, indexes_of, arguments, expression_if, control, control_if, initial, initials, row_initials, initialised, declared, first, given, head, statement, form, otherwise, statements, function_body, function_of, function}

at_most_64 : (m : DataModel) (ty : IntType) → width_of m ty ≤ 64
at_most_64 Ilp32 Long = omega arith
at_most_64 Lp64 Long = omega arith
at_most_64 Ilp32 ULong = omega arith
at_most_64 Lp64 ULong = omega arith
at_most_64 m _ = omega arith

-- what an input call draws is less than a call weighs
light_callee : (p : Program) (callee : Callee) → callee_bits p callee ≤ expression_weight + call_weight
light_callee p (Input ty) = let w = at_most_64 p.model ty in omega arith
light_callee p _ = omega arith

light_node : (p : Program) (ty : Option IntType) (n : Node) → node_bits p n ≤ expression_weight + node_work p ty n
light_node p ty (Call callee es close) = light_callee p callee
light_node p ty _ = omega arith

-- amounts that are related stay so
pub record Relates (S T : Sum) (R : S.Amount → T.Amount → Type 0) : Type 0 where
  pub none : R S.none T.none
  pub both : (a b : S.Amount) (c d : T.Amount) → R a c → R b d → R (S.both a b) (T.both c d)
  pub part : (weight bits : ℕ) → bits ≤ weight → R (S.part weight bits) (T.part weight bits)
  pub body : (f : ℕ) → R (S.body f) (T.body f)

module _ (p : Program) (S T : Sum) (R : S.Amount → T.Amount → Type 0) (h : Relates S T R) where
  weighs : (weight : ℕ) → R (S.part weight 0) (T.part weight 0)
  weighs weight = h.part weight 0 (omega arith)

  draws : (bits : ℕ) → R (S.part (4 * bits) bits) (T.part (4 * bits) bits)
  draws bits = h.part (4 * bits) bits (omega arith)

  related_called : (callee : Callee) (es : Exps) → R (called p S callee es) (called p T callee es)
  related_called (Defined f) es = h.both (S.part (passed p (params_of (slice_get p.functions f)) es) 0) (S.body f) (T.part (passed p (params_of (slice_get p.functions f)) es) 0) (T.body f) (weighs _) (h.body f)
  related_called Exit es = weighs (passed_to_exit p.model es)
  related_called (Input ty) es = h.none
  related_called ReachError es = h.none
  related_called Abort es = h.none

  mutual
    pub related_expression : (e : Exp) → R (expression p S e) (expression p T e)
    related_expression (Expr spot ty n) =
        h.both (S.part (expression_weight + node_work p ty n) (node_bits p n)) (operands p S n) (T.part (expression_weight + node_work p ty n) (node_bits p n)) (operands p T n)
        (h.part (expression_weight + node_work p ty n) (node_bits p n) (light_node p ty n)) (related_operands n)

    related_operands : (n : Node) → R (operands p S n) (operands p T n)
    related_operands (Const v) = h.none
    related_operands (Var o) = h.none
    related_operands (Index o is) = related_arguments is
    related_operands (Unary op a) = related_expression a
    related_operands (Cast a) = related_expression a
    related_operands (Step op a) = related_target a
    related_operands (Binary op a b) = h.both (expression p S a) (expression p S b) (expression p T a) (expression p T b) (related_expression a) (related_expression b)
    related_operands (Logic k a b) = h.both (expression p S a) (expression p S b) (expression p T a) (expression p T b) (related_expression a) (related_expression b)
    related_operands (Choose mark e a b) =
        h.both (expression p S e) (S.both (expression p S a) (expression p S b)) (expression p T e) (T.both (expression p T a) (expression p T b)) (related_expression e)
        (h.both (expression p S a) (expression p S b) (expression p T a) (expression p T b) (related_expression a) (related_expression b))
    related_operands (Comma a b) = h.both (expression p S a) (expression p S b) (expression p T a) (expression p T b) (related_expression a) (related_expression b)
    related_operands (Assign op a b) = h.both (target p S a) (expression p S b) (target p T a) (expression p T b) (related_target a) (related_expression b)
    related_operands (Call callee es close) = h.both (arguments p S es) (called p S callee es) (arguments p T es) (called p T callee es) (related_arguments es) (related_called callee es)

    related_target : (e : Exp) → R (target p S e) (target p T e)
    related_target (Expr spot ty n) = h.both (S.part expression_weight 0) (indexes_of p S n) (T.part expression_weight 0) (indexes_of p T n) (weighs expression_weight) (related_indexes n)

    related_indexes : (n : Node) → R (indexes_of p S n) (indexes_of p T n)
    related_indexes (Index o is) = related_arguments is
    related_indexes (Const v) = h.none
    related_indexes (Var o) = h.none
    related_indexes (Unary op a) = h.none
    related_indexes (Cast a) = h.none
    related_indexes (Step op a) = h.none
    related_indexes (Binary op a b) = h.none
    related_indexes (Logic k a b) = h.none
    related_indexes (Choose mark e a b) = h.none
    related_indexes (Comma a b) = h.none
    related_indexes (Assign op a b) = h.none
    related_indexes (Call callee es close) = h.none

    related_arguments : (es : Exps) → R (arguments p S es) (arguments p T es)
    related_arguments NoExp = h.none
    related_arguments (MoreExp e es) = h.both (expression p S e) (arguments p S es) (expression p T e) (arguments p T es) (related_expression e) (related_arguments es)

  related_expression_if : (e : Option Exp) → R (expression_if p S e) (expression_if p T e)
  related_expression_if None = h.none
  related_expression_if (Some e) = related_expression e

  related_control : (e : Exp) → R (control p S e) (control p T e)
  related_control e = h.both (expression p S e) (S.part (tested p.model e) 0) (expression p T e) (T.part (tested p.model e) 0) (related_expression e) (weighs (tested p.model e))

  related_control_if : (e : Option Exp) → R (control_if p S e) (control_if p T e)
  related_control_if None = h.none
  related_control_if (Some e) = related_control e

  related_initial : (o : ℕ) (e : Exp) → R (initial p S o e) (initial p T o e)
  related_initial o e =
      h.both (expression p S e) (S.part (stored p.model (type_of e) (type_of_object p o)) 0) (expression p T e) (T.part (stored p.model (type_of e) (type_of_object p o)) 0)
      (related_expression e) (weighs (stored p.model (type_of e) (type_of_object p o)))

  related_initials : (o : ℕ) (es : Exps) → R (initials p S o es) (initials p T o es)
  related_initials o NoExp = h.none
  related_initials o (MoreExp e es) = h.both (initial p S o e) (initials p S o es) (initial p T o e) (initials p T o es) (related_initial o e) (related_initials o es)

  related_rows : (o : ℕ) (rows : List Exps) → R (row_initials p S o rows) (row_initials p T o rows)
  related_rows o [] = h.none
  related_rows o (es ∷ rows) =
      h.both (initials p S o es) (row_initials p S o rows) (initials p T o es) (row_initials p T o rows) (related_initials o es) (related_rows o rows)

  related_initialised : (o : ℕ) (i : Init) → R (initialised p S o i) (initialised p T o i)
  related_initialised o Absent = draws (bits_of_object p o)
  related_initialised o (One e) =
      h.both (S.part (4 * bits_of_object p o) 0) (initial p S o e) (T.part (4 * bits_of_object p o) 0) (initial p T o e) (weighs (4 * bits_of_object p o)) (related_initial o e)
  related_initialised o (Many es) =
      h.both (S.part (4 * bits_of_object p o) 0) (initials p S o es) (T.part (4 * bits_of_object p o) 0) (initials p T o es) (weighs (4 * bits_of_object p o)) (related_initials o es)
  related_initialised o (Rows rows) =
      h.both (S.part (4 * bits_of_object p o) 0) (row_initials p S o rows) (T.part (4 * bits_of_object p o) 0) (row_initials p T o rows) (weighs (4 * bits_of_object p o)) (related_rows o rows)

  related_declared : (ns : Names) → R (declared p S ns) (declared p T ns)
  related_declared NoName = h.none
  related_declared (MoreName spot o i ns) = h.both (initialised p S o i) (declared p S ns) (initialised p T o i) (declared p T ns) (related_initialised o i) (related_declared ns)

  related_first : (i : First) → R (first p S i) (first p T i)
  related_first NoFirst = h.none
  related_first (FirstExp e) = related_expression e
  related_first (FirstNames ns) = related_declared ns

  related_given : (result : Option IntType) (e : Option Exp) → R (given p S result e) (given p T result e)
  related_given result None = h.none
  related_given result (Some e) =
      h.both (expression p S e) (S.part (returned p.model result (type_of e)) 0) (expression p T e) (T.part (returned p.model result (type_of e)) 0)
      (related_expression e) (weighs (returned p.model result (type_of e)))

  -- with what the invariants weigh by the one and by the other
  module _ (P Q : Bool → Spot → ℕ) (here : (at : Spot) → R (S.part (statement_weight + P false at) 0) (T.part (statement_weight + Q false at) 0))
      (there : (at : Spot) (bits : ℕ) → R (S.part (3 * P true at + 4 * bits) bits) (T.part (3 * Q true at + 4 * bits) bits)) where
    related_head : (at : Spot) (os : List ℕ) → R (head p S P at os) (head p T Q at os)
    related_head at os = there at (bits_of_objects p os)

    module _ (result : Option IntType) where
      mutual
        related_statement : (s : Stm) → R (statement p S P result s) (statement p T Q result s)
        related_statement (Stmt at f) =
            h.both (S.part (statement_weight + P false at) 0) (form p S P result at f) (T.part (statement_weight + Q false at) 0) (form p T Q result at f) (here at) (related_form at f)

        related_form : (at : Spot) (f : Form) → R (form p S P result at f) (form p T Q result at f)
        related_form at Empty = h.none
        related_form at (Do e) = related_expression e
        related_form at (Declare ns) = related_declared ns
        related_form at (Block b) = related_statements b
        related_form at (If e a b) =
            h.both (control p S e) (S.both (statement p S P result a) (otherwise p S P result b)) (control p T e) (T.both (statement p T Q result a) (otherwise p T Q result b)) (related_control e)
            (h.both (statement p S P result a) (otherwise p S P result b) (statement p T Q result a) (otherwise p T Q result b) (related_statement a) (related_otherwise b))
        related_form at (While e b) =
            let os = changed_by p (WhileLoop e b) in
            h.both (head p S P at os) (S.both (control p S e) (statement p S P result b)) (head p T Q at os) (T.both (control p T e) (statement p T Q result b)) (related_head at os)
            (h.both (control p S e) (statement p S P result b) (control p T e) (statement p T Q result b) (related_control e) (related_statement b))
        related_form at (DoWhile b e) =
            let os = changed_by p (DoLoop b e) in
            h.both (head p S P at os) (S.both (statement p S P result b) (control p S e)) (head p T Q at os) (T.both (statement p T Q result b) (control p T e)) (related_head at os)
            (h.both (statement p S P result b) (control p S e) (statement p T Q result b) (control p T e) (related_statement b) (related_control e))
        related_form at (For i e s b) =
            let os = changed_by p (ForLoop e s b) in
            h.both (first p S i) (S.both (head p S P at os) (S.both (control_if p S e) (S.both (expression_if p S s) (statement p S P result b))))
            (first p T i) (T.both (head p T Q at os) (T.both (control_if p T e) (T.both (expression_if p T s) (statement p T Q result b)))) (related_first i)
            (h.both (head p S P at os) (S.both (control_if p S e) (S.both (expression_if p S s) (statement p S P result b)))
            (head p T Q at os) (T.both (control_if p T e) (T.both (expression_if p T s) (statement p T Q result b))) (related_head at os)
            (h.both (control_if p S e) (S.both (expression_if p S s) (statement p S P result b)) (control_if p T e) (T.both (expression_if p T s) (statement p T Q result b)) (related_control_if e)
            (h.both (expression_if p S s) (statement p S P result b) (expression_if p T s) (statement p T Q result b) (related_expression_if s) (related_statement b))))
        related_form at Break = h.none
        related_form at Continue = h.none
        related_form at (Return e) = related_given result e
        related_form at (Label b) = related_statement b
        related_form at (Switch e b) =
            let choice = chooses p.model (type_of e) (labels_in b) in
            h.both (expression p S e) (S.both (S.part choice 0) (statements p S P result b)) (expression p T e) (T.both (T.part choice 0) (statements p T Q result b)) (related_expression e)
            (h.both (S.part choice 0) (statements p S P result b) (T.part choice 0) (statements p T Q result b) (weighs choice) (related_statements b))

        related_otherwise : (b : Else) → R (otherwise p S P result b) (otherwise p T Q result b)
        related_otherwise NoElse = h.none
        related_otherwise (OrElse b) = related_statement b

        related_statements : (b : Stms) → R (statements p S P result b) (statements p T Q result b)
        related_statements NoStm = h.none
        related_statements (MoreStm s b) = h.both (statement p S P result s) (statements p S P result b) (statement p T Q result s) (statements p T Q result b) (related_statement s) (related_statements b)
        related_statements (MoreCase spot l b) = related_statements b

      related_body : (s : Stm) → R (function_body p S P result s) (function_body p T Q result s)
      related_body (Stmt at f) = h.both (S.part statement_weight 0) (form p S P result at f) (T.part statement_weight 0) (form p T Q result at f) (weighs statement_weight) (related_form at f)

    pub related_function_of : (f : Option Function) → R (function_of p S P f) (function_of p T Q f)
    related_function_of None = h.none
    related_function_of (Some f) = related_body f.result f.body

    pub related_function : (f : ℕ) → R (function p S P f) (function p T Q f)
    related_function f = related_function_of (slice_get p.functions f)
