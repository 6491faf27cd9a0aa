-- Each step is paid for: part by part, four times the steps of a checked program within a bound are at most what it
-- weighs. An argument weighs 16 at least, which pays for its step and for its parameter's.
use Rattle.std.proofs.Common.{◌≡◌, ◌≤◌, ◌+◌, ◌*◌, ℕ, zero, suc, Bool, true, cond, ◌&&◌, nat_eq, IsTrue, List, [], ◌∷◌, ◌++◌, length, Option, Some, None, slice_get, refl, sym, subst, eqb-true, arith}
use Rattle.std.proofs.Math.Nat.{mul-le-mul_left}
use Rattle.std.specs.List.{list_all}
use Rattle.c_core.specs.Types.{width_of}
use Rattle.c_core.specs.Parts.{exps_in, exp_if, every_exp, every_part, every_argument, every_statement, every_statement_in, every_statement_else, every_statement_of, fulls_of_init, fulls_of_names, fulls_of_first, own_fulls}
use Rattle.c_core.specs.Program.{IsProgram}
use Rattle.c_core.specs.Tree.{Exp, Expr, Node, Const, Var, Index, Unary, Cast, Step, Binary, Logic, Choose, Comma, Assign, Call, Exps, NoExp, MoreExp, Init, Absent, One, Many, Rows, Names, NoName, MoreName, First, NoFirst, FirstExp, FirstNames, Stm, Stmt, Form, Empty, Do, Declare, Block, If, While, DoWhile, For, Break, Continue, Return, Label, Switch, Else, NoElse, OrElse, Stms, NoStm, MoreStm, MoreCase, Function, Program}
use Rattle.c_core.specs.Typing.{are_values, has_value, is_call_of, same_types, node_fits, exp_fits, is_typed, form_fits, statement_fits, function_fits}
use Rattle.c_core.specs.declared.number.DataModel.{DataModel}
use Rattle.c_core.specs.declared.number.DataModel.TheVariants.{Ilp32, Lp64}
use Rattle.c_core.specs.declared.number.IntType.{IntType}
use Rattle.c_core.specs.declared.number.IntType.TheVariants.{Long, ULong}
use Rattle.c_core.specs.declared.number.Spot.{Spot}
use Rattle.c_core.specs.declared.tree.Callee.TheVariants.{Defined}
use Rattle.c_meaning.specs.Duties.{node_may_overflow}
use Rattle.c_meaning.specs.Objects.{type_of_object, size_of_object}
use Rattle.c_meaning.proofs.TypeFacts.{both, of_both, at_every, neither}
use Rattle.way_match.specs.Points.{BoundSegment}
use Rattle.sym_weight.specs.Table.{node_work, params_of, passed}
use Rattle.seek_meaning.specs.Steps as steps
use Rattle.seek_meaning.specs.Steps.{StepsWithin, steps_in}
use Rattle.seek_weight.specs.Tolls.{ACall}
use Rattle.seek_weight.specs.SeekWeight.{Count, weights, expression, operands, target, indexes_of, arguments, expression_if, control, control_if, initials, row_initials, initialised, declared, first, turns, statement, form, otherwise, statements, function_body, function_of, count_in, SeekWeight}

-- ---- numbers
a_bit : (m : DataModel) (ty : IntType) → 1 ≤ width_of m ty
a_bit Ilp32 Long = omega arith
a_bit Lp64 Long = omega arith
a_bit Ilp32 ULong = omega arith
a_bit Lp64 ULong = omega arith
a_bit m _ = omega arith

-- a cell weighs four times its bits
cells_paid : (n w : ℕ) → 1 ≤ w → 4 * n ≤ 4 * (n * w)
cells_paid n w h = let e : n * 1 ≤ n * w = mul-le-mul_left n h in omega (arith, e)

node_paid : (s work risk w : ℕ) → 4 * s ≤ w → 4 * suc s + 12 ≤ (16 + work) + (risk + w)
node_paid s work risk w h = omega arith

-- without what pays for a parameter
without : (s w : ℕ) → 4 * s + 12 ≤ w → 4 * s ≤ w
without s w h = omega arith

target_paid : (s w : ℕ) → 4 * s ≤ w → 4 * suc s ≤ 16 + w
target_paid s w h = omega arith

two_paid : (a b x y : ℕ) → 4 * a ≤ x → 4 * b ≤ y → 4 * (a + b) ≤ x + y
two_paid a b x y g h = omega arith

argument_paid : (a b n x y : ℕ) → 4 * a + 12 ≤ x → 4 * b + 12 * n ≤ y → 4 * (a + b) + 12 * suc n ≤ x + y
argument_paid a b n x y g h = omega arith

-- a call: its arguments, its parameters, the body
call_paid : (a n r t x y : ℕ) → 4 * a + 12 * n ≤ x → 4 * r ≤ y → 4 * (a + (n + r)) ≤ t + (x + y)
call_paid a n r t x y g h = omega arith

turns_are : (r a b : ℕ) → steps.turns r a b ≡ suc r * a + r * b
turns_are zero a b = omega arith
turns_are (suc r) a b = let e = turns_are r a b in omega (arith, e)

turns_paid : (k a b x y : ℕ) → 4 * a ≤ x → 4 * b ≤ y → 4 * steps.turns k a b ≤ suc k * x + k * y
turns_paid k a b x y g h =
    let e = turns_are k a b in
    let f : suc k * (4 * a) ≤ suc k * x = mul-le-mul_left (suc k) g in
    let i : k * (4 * b) ≤ k * y = mul-le-mul_left k h in
    omega (arith, e, f, i)

-- ---- the parts
module _ (p : Program) (ss : List BoundSegment) (k : ℕ) where
  abbrev W : Count
  W = weights p ss

  -- s: the steps of a function's body; w: what a call counts after its arguments
  module _ (s : ℕ → ℕ) (w : ℕ → ℕ → ℕ) (h : (params g : ℕ) → 4 * s g ≤ w params g) where
    abbrev FitsIn : Exp → Type 0
    FitsIn e = IsTrue (is_typed p e)

    -- a checked call has an argument for each parameter
    arity : (ty : Option IntType) (es : Exps) (f : Option Function) → IsTrue (is_call_of ty es f) → steps.parameters f ≡ length (exps_in es)
    arity ty es None t = neither t
    arity ty es (Some f) t =
        let a = both (are_values (length f.params) es) (same_types f.result ty) t in
        let n = both (nat_eq (length (exps_in es)) (length f.params)) (list_all has_value (exps_in es)) a.0 in
        let e : length (exps_in es) ≡ length f.params = eqb-true (length (exps_in es)) (length f.params) n.0 in
        omega (arith, e)

    mutual
      paid_expression : (e : Exp) → IsTrue (every_exp (exp_fits p) e) → 4 * steps.expression p k s e + 12 ≤ expression p W k w e
      paid_expression (Expr spot ty n) t =
          let b = both (node_fits p ty n) (every_part (exp_fits p) n) t in
          node_paid (steps.operands p k s n) (node_work p ty n) (cond (node_may_overflow p.model n) 64 0) (operands p W k w n) (paid_operands ty n b.0 b.1)

      paid_operands : (ty : Option IntType) (n : Node) → IsTrue (node_fits p ty n) → IsTrue (every_part (exp_fits p) n) → 4 * steps.operands p k s n ≤ operands p W k w n
      paid_operands ty (Const v) f t = omega arith
      paid_operands ty (Var o) f t = omega arith
      paid_operands ty (Index o is) f t = let a = paid_arguments is t in omega (arith, a)
      paid_operands ty (Unary op a) f t = let x = paid_expression a t in omega (arith, x)
      paid_operands ty (Cast a) f t = let x = paid_expression a t in omega (arith, x)
      paid_operands ty (Step op a) f t = paid_target a t
      paid_operands ty (Binary op a b) f t =
          let u = both (every_exp (exp_fits p) a) (every_exp (exp_fits p) b) t in
          two_paid (steps.expression p k s a) (steps.expression p k s b) (expression p W k w a) (expression p W k w b) (without (steps.expression p k s a) (expression p W k w a) (paid_expression a u.0)) (without (steps.expression p k s b) (expression p W k w b) (paid_expression b u.1))
      paid_operands ty (Logic all a b) f t =
          let u = both (every_exp (exp_fits p) a) (every_exp (exp_fits p) b) t in
          two_paid (steps.expression p k s a) (steps.expression p k s b) (expression p W k w a) (expression p W k w b) (without (steps.expression p k s a) (expression p W k w a) (paid_expression a u.0)) (without (steps.expression p k s b) (expression p W k w b) (paid_expression b u.1))
      paid_operands ty (Choose mark e a b) f t =
          let u = both (every_exp (exp_fits p) e) (every_exp (exp_fits p) a && every_exp (exp_fits p) b) t in
          let v = both (every_exp (exp_fits p) a) (every_exp (exp_fits p) b) u.1 in
          omega (arith, paid_expression e u.0, paid_expression a v.0, paid_expression b v.1)
      paid_operands ty (Comma a b) f t =
          let u = both (every_exp (exp_fits p) a) (every_exp (exp_fits p) b) t in
          two_paid (steps.expression p k s a) (steps.expression p k s b) (expression p W k w a) (expression p W k w b) (without (steps.expression p k s a) (expression p W k w a) (paid_expression a u.0)) (without (steps.expression p k s b) (expression p W k w b) (paid_expression b u.1))
      paid_operands ty (Assign op a b) f t =
          let u = both (every_exp (exp_fits p) a) (every_exp (exp_fits p) b) t in
          two_paid (steps.target p k s a) (steps.expression p k s b) (target p W k w a) (expression p W k w b) (paid_target a u.0) (without (steps.expression p k s b) (expression p W k w b) (paid_expression b u.1))
      paid_operands ty (Call (Defined g) es close) f t =
          subst (λ n. 4 * (steps.arguments p k s es + (n + s g)) ≤ operands p W k w (Call (Defined g) es close)) (sym (arity ty es (slice_get p.functions g) f))
          (call_paid (steps.arguments p k s es) (length (exps_in es)) (s g) (W.toll ACall close) (arguments p W k w es) (w (passed p (params_of (slice_get p.functions g)) es) g) (paid_arguments es t) (h _ g))
      paid_operands ty (Call callee es close) f t = let a = paid_arguments es t in omega (arith, a)

      paid_target : (e : Exp) → IsTrue (every_exp (exp_fits p) e) → 4 * steps.target p k s e ≤ target p W k w e
      paid_target (Expr spot ty n) t =
          target_paid (steps.indexes_of p k s n) (indexes_of p W k w n) (paid_indexes n (both (node_fits p ty n) (every_part (exp_fits p) n) t).1)

      paid_indexes : (n : Node) → IsTrue (every_part (exp_fits p) n) → 4 * steps.indexes_of p k s n ≤ indexes_of p W k w n
      paid_indexes (Index o is) t = let a = paid_arguments is t in omega (arith, a)
      paid_indexes _ t = omega arith

      paid_arguments : (es : Exps) → IsTrue (every_argument (exp_fits p) es) → 4 * steps.arguments p k s es + 12 * length (exps_in es) ≤ arguments p W k w es
      paid_arguments NoExp t = omega arith
      paid_arguments (MoreExp e es) t =
          let u = both (every_exp (exp_fits p) e) (every_argument (exp_fits p) es) t in
          argument_paid (steps.expression p k s e) (steps.arguments p k s es) (length (exps_in es)) (expression p W k w e) (arguments p W k w es) (paid_expression e u.0) (paid_arguments es u.1)

    paid : (e : Exp) → FitsIn e → 4 * steps.expression p k s e ≤ expression p W k w e
    paid e t = without (steps.expression p k s e) (expression p W k w e) (paid_expression e t)

    abbrev AllFit : List Exp → Type 0
    AllFit es = IsTrue (list_all (is_typed p) es)

    -- the only expression of a list
    one_of : (e : Exp) → AllFit (e ∷ []) → FitsIn e
    one_of e t = (both (is_typed p e) true t).0

    paid_if : (e : Option Exp) → AllFit (exp_if e) → 4 * steps.expression_if p k s e ≤ expression_if p W k w e
    paid_if None t = omega arith
    paid_if (Some e) t = paid e (one_of e t)

    paid_control : (at : Spot) (e : Exp) → FitsIn e → 4 * steps.expression p k s e ≤ control p W k w at e
    paid_control at e t = let x = paid e t in omega (arith, x)

    paid_control_if : (at : Spot) (e : Option Exp) → AllFit (exp_if e) → 4 * steps.expression_if p k s e ≤ control_if p W k w at e
    paid_control_if at None t = omega arith
    paid_control_if at (Some e) t = paid_control at e (one_of e t)

    paid_initials : (o : ℕ) (es : Exps) → AllFit (exps_in es) → 4 * steps.arguments p k s es ≤ initials p W k w o es
    paid_initials o NoExp t = omega arith
    paid_initials o (MoreExp e es) t =
        let u = both (is_typed p e) (list_all (is_typed p) (exps_in es)) t in
        let x = paid e u.0 in let xs = paid_initials o es u.1 in omega (arith, x, xs)

    paid_rows : (o : ℕ) (rows : List Exps) → AllFit (fulls_of_init (Rows rows)) → 4 * steps.rows_of p k s rows ≤ row_initials p W k w o rows
    paid_rows o [] t = omega arith
    paid_rows o (es ∷ rows) t =
        let u = of_both (is_typed p) (exps_in es) (fulls_of_init (Rows rows)) t in
        two_paid (steps.arguments p k s es) (steps.rows_of p k s rows) (initials p W k w o es) (row_initials p W k w o rows) (paid_initials o es u.0) (paid_rows o rows u.1)

    -- cells are paid by their bits
    paid_init : (o : ℕ) (i : Init) → AllFit (fulls_of_init i) → 4 * (size_of_object p o + steps.initial p k s i) ≤ initialised p W k w o i
    paid_init o i t = of i t
      where
        c : 4 * size_of_object p o ≤ 4 * (size_of_object p o * width_of p.model (type_of_object p o))
        c = cells_paid (size_of_object p o) (width_of p.model (type_of_object p o)) (a_bit p.model (type_of_object p o))

        of : (i : Init) → AllFit (fulls_of_init i) → 4 * (size_of_object p o + steps.initial p k s i) ≤ initialised p W k w o i
        of Absent t = omega (arith, c)
        of (One e) t = let x = paid e (one_of e t) in omega (arith, c, x)
        of (Many es) t = let x = paid_initials o es t in omega (arith, c, x)
        of (Rows rows) t = let x = paid_rows o rows t in omega (arith, c, x)

    paid_declared : (ns : Names) → AllFit (fulls_of_names ns) → 4 * steps.declared p k s ns ≤ declared p W k w ns
    paid_declared NoName t = omega arith
    paid_declared (MoreName spot o i ns) t =
        let u = of_both (is_typed p) (fulls_of_init i) (fulls_of_names ns) t in
        let x = paid_init o i u.0 in let xs = paid_declared ns u.1 in omega (arith, x, xs)

    paid_first : (i : First) → AllFit (fulls_of_first i) → 4 * steps.first p k s i ≤ first p W k w i
    paid_first NoFirst t = omega arith
    paid_first (FirstExp e) t = paid e (one_of e t)
    paid_first (FirstNames ns) t = paid_declared ns t

    module _ (result : Option IntType) where
      abbrev q : Stm → Bool
      q = statement_fits p result

      -- its own full expressions are well typed
      abbrev OwnFit : Form → Type 0
      OwnFit f = AllFit (own_fulls f)

      mutual
        paid_statement : (b : Stm) → IsTrue (every_statement q b) → 4 * steps.statement p k s b ≤ statement p W k w result b
        paid_statement (Stmt at f) t =
            let u = both (q (Stmt at f)) (every_statement_in q f) t in
            let own = both (form_fits p result f) (list_all (is_typed p) (own_fulls f)) u.0 in
            let x = paid_form at f own.1 u.1 in omega (arith, x)

        paid_form : (at : Spot) (f : Form) → OwnFit f → IsTrue (every_statement_in q f) → 4 * steps.form p k s f ≤ form p W k w result at f
        paid_form at Empty own t = omega arith
        paid_form at (Do e) own t = paid e (one_of e own)
        paid_form at (Declare ns) own t = paid_declared ns own
        paid_form at (Block b) own t = paid_statements b t
        paid_form at (If e a b) own t =
            let u = both (every_statement q a) (every_statement_else q b) t in
            omega (arith, paid_control at e (one_of e own), paid_statement a u.0, paid_otherwise b u.1)
        paid_form at (While e b) own t =
            turns_paid k (steps.expression p k s e) (steps.statement p k s b) (control p W k w at e) (statement p W k w result b) (paid_control at e (one_of e own)) (paid_statement b t)
        paid_form at (DoWhile b e) own t =
            turns_paid k (steps.expression p k s e) (steps.statement p k s b) (control p W k w at e) (statement p W k w result b) (paid_control at e (one_of e own)) (paid_statement b t)
        paid_form at (For i e r b) own t =
            let u = of_both (is_typed p) (fulls_of_first i ++ exp_if e) (exp_if r) own in
            let v = of_both (is_typed p) (fulls_of_first i) (exp_if e) u.0 in
            two_paid (steps.first p k s i) (steps.turns k (steps.expression_if p k s e) (steps.expression_if p k s r + steps.statement p k s b))
            (first p W k w i) (turns p W k w (control_if p W k w at e) (expression_if p W k w r + statement p W k w result b))
            (paid_first i v.0)
            (turns_paid k (steps.expression_if p k s e) (steps.expression_if p k s r + steps.statement p k s b) (control_if p W k w at e) (expression_if p W k w r + statement p W k w result b)
            (paid_control_if at e v.1)
            (two_paid (steps.expression_if p k s r) (steps.statement p k s b) (expression_if p W k w r) (statement p W k w result b) (paid_if r u.1) (paid_statement b t)))
        paid_form at Break own t = omega arith
        paid_form at Continue own t = omega arith
        paid_form at (Return None) own t = omega arith
        paid_form at (Return (Some e)) own t = let x = paid e (one_of e own) in omega (arith, x)
        paid_form at (Label b) own t = paid_statement b t
        paid_form at (Switch e b) own t = omega (arith, paid e (one_of e own), paid_statements b t)

        paid_otherwise : (b : Else) → IsTrue (every_statement_else q b) → 4 * steps.otherwise p k s b ≤ otherwise p W k w result b
        paid_otherwise NoElse t = omega arith
        paid_otherwise (OrElse b) t = paid_statement b t

        paid_statements : (b : Stms) → IsTrue (every_statement_of q b) → 4 * steps.statements p k s b ≤ statements p W k w result b
        paid_statements NoStm t = omega arith
        paid_statements (MoreStm a b) t =
            let u = both (every_statement q a) (every_statement_of q b) t in
            two_paid (steps.statement p k s a) (steps.statements p k s b) (statement p W k w result a) (statements p W k w result b) (paid_statement a u.0) (paid_statements b u.1)
        paid_statements (MoreCase spot l b) t = paid_statements b t

      paid_body : (b : Stm) → IsTrue (every_statement q b) → 4 * steps.statement p k s b ≤ function_body p W k w result b
      paid_body (Stmt at f) t =
          let u = both (q (Stmt at f)) (every_statement_in q f) t in
          let own = both (form_fits p result f) (list_all (is_typed p) (own_fulls f)) u.0 in
          let x = paid_form at f own.1 u.1 in omega (arith, x)

    paid_function : IsProgram p → (f : ℕ) (o : Option Function) → slice_get p.functions f ≡ o → 4 * steps.function_of p k s o ≤ function_of p W k w o
    paid_function checked f None e = omega arith
    paid_function checked f (Some fn) e = paid_body fn.result fn.body (at_every (function_fits p) p.functions f fn checked.types e)

  paid_in : IsProgram p → (n f : ℕ) → 4 * steps_in p k n f ≤ count_in p W k n f
  paid_in checked zero f = paid_function (λ g. 0) (λ params g. 0) (λ params g. omega arith) checked f (slice_get p.functions f) refl
  paid_in checked (suc n) f =
      paid_function (λ g. steps_in p k n g) (λ params g. params + count_in p W k n g) (λ params g. let r = paid_in checked n g in omega (arith, r)) checked f (slice_get p.functions f) refl

pub steps_are_paid : (p : Program) → IsProgram p → (ss : List BoundSegment) (k : ℕ) → 4 * StepsWithin p k ≤ SeekWeight p ss k
steps_are_paid p checked ss k = paid_in p ss k checked k p.main
