-- How many expressions and statements a part is made of: each part weighs less than the whole.
use Rattle.std.proofs.Common.{◌≡◌, ℕ, zero, suc, ◌+◌, ◌<◌, ◌≤◌, List, [], ◌∷◌, length, get_or, sym, subst, ap, ◌∙◌, arith}
use Rattle.c_core.specs.Tree.{Exp, Expr, Node, Index, Unary, Cast, Step, Binary, Logic, Choose, Comma, Assign, Call, Exps, NoExp, MoreExp, Stm, Stmt, Form, Block, If, While, DoWhile, For, Label, Switch, Else, NoElse, OrElse, Stms, NoStm, MoreStm, MoreCase}
use Rattle.c_core.specs.View.{expr_view, exprs_view, stmt_view, stmts_view, joined, switch_view}
use Rattle.c_core.specs.declared.tree.Expr as rust
use Rattle.c_core.specs.declared.tree.Stmt as rust_stmt
use Rattle.c_core.specs.declared.tree.Arm.{Arm, out-Arm}
use Rattle.c_core.proofs.View.{arm_views}

abbrev mutual
  -- the expressions that an expression is made of
  pub weight : Exp → ℕ
  weight (Expr spot ty n) = weight_in n + 1

  -- those within its form
  pub weight_in : Node → ℕ
  weight_in (Index o is) = weight_of_all is
  weight_in (Unary o a) = weight a
  weight_in (Cast a) = weight a
  weight_in (Step o a) = weight a
  weight_in (Binary o a b) = weight a + weight b
  weight_in (Logic both a b) = weight a + weight b
  weight_in (Choose mark e a b) = weight e + weight a + weight b
  weight_in (Comma a b) = weight a + weight b
  weight_in (Assign o a b) = weight a + weight b
  weight_in (Call callee es close) = weight_of_all es
  weight_in _ = 0

  -- those of arguments
  pub weight_of_all : Exps → ℕ
  weight_of_all NoExp = 0
  weight_of_all (MoreExp e es) = weight e + weight_of_all es

abbrev mutual
  -- the statements that a statement is made of
  pub weight_of : Stm → ℕ
  weight_of (Stmt at f) = weight_of_form f + 1

  -- those within its form
  pub weight_of_form : Form → ℕ
  weight_of_form (Block b) = weight_of_block b
  weight_of_form (If e a b) = weight_of a + weight_of_else b
  weight_of_form (While e b) = weight_of b
  weight_of_form (DoWhile b e) = weight_of b
  weight_of_form (For i e s b) = weight_of b
  weight_of_form (Label b) = weight_of b
  weight_of_form (Switch e b) = weight_of_block b
  weight_of_form _ = 0

  -- those of a second arm
  pub weight_of_else : Else → ℕ
  weight_of_else NoElse = 0
  weight_of_else (OrElse b) = weight_of b

  -- those of a block
  pub weight_of_block : Stms → ℕ
  weight_of_block NoStm = 0
  weight_of_block (MoreStm s b) = weight_of s + weight_of_block b
  weight_of_block (MoreCase spot l b) = weight_of_block b

-- an item of a list weighs no more than the list
argument_at : (es : List rust.Expr) (i : ℕ) (d : rust.Expr) → i < length es → weight (expr_view (get_or es i d)) ≤ weight_of_all (exprs_view es)
argument_at [] i d h = absurd (omega arith)
argument_at (e ∷ es) zero d h = omega arith
argument_at (e ∷ es) (suc i) d h = let k = argument_at es i d (omega arith) in omega arith

-- an argument weighs no more than all
pub argument_part : (es : List rust.Expr) (i : ℕ) (e : rust.Expr) → i < length es → e ≡ get_or es i e → weight (expr_view e) ≤ weight_of_all (exprs_view es)
argument_part es i e h is = subst (λ x. weight (expr_view x) ≤ weight_of_all (exprs_view es)) (sym is) (argument_at es i e h)

statement_at : (ss : List rust_stmt.Stmt) (i : ℕ) (d : rust_stmt.Stmt) → i < length ss → weight_of (stmt_view (get_or ss i d)) ≤ weight_of_block (stmts_view ss)
statement_at [] i d h = absurd (omega arith)
statement_at (s ∷ ss) zero d h = omega arith
statement_at (s ∷ ss) (suc i) d h = let k = statement_at ss i d (omega arith) in omega arith

-- a statement of a block weighs no more than the block
pub statement_part : (ss : List rust_stmt.Stmt) (i : ℕ) (s : rust_stmt.Stmt) → i < length ss → s ≡ get_or ss i s → weight_of (stmt_view s) ≤ weight_of_block (stmts_view ss)
statement_part ss i s h is = subst (λ x. weight_of (stmt_view x) ≤ weight_of_block (stmts_view ss)) (sym is) (statement_at ss i s h)

weight_joined : (b c : Stms) → weight_of_block (joined b c) ≡ weight_of_block b + weight_of_block c
weight_joined NoStm c = omega arith
weight_joined (MoreStm s b) c = let h = weight_joined b c in omega (arith, h)
weight_joined (MoreCase spot l b) c = weight_joined b c

weight_of_arm : (a : Arm) (b : Stms) → weight_of_block (MoreCase (out-Arm a).spot (out-Arm a).label (joined (stmts_view (out-Arm a).body) b)) ≡ weight_of_block (stmts_view (out-Arm a).body) + weight_of_block b
weight_of_arm a b = weight_joined (stmts_view (out-Arm a).body) b

weight_of_arms : (a : Arm) (rest : List Arm) → weight_of_block (switch_view (a ∷ rest)) ≡ weight_of_block (stmts_view (out-Arm a).body) + weight_of_block (switch_view rest)
weight_of_arms a rest = ap weight_of_block (arm_views a (switch_view rest)) ∙ weight_of_arm a (switch_view rest)

arm_at : (arms : List Arm) (i : ℕ) (d : Arm) → i < length arms → weight_of_block (stmts_view (out-Arm (get_or arms i d)).body) ≤ weight_of_block (switch_view arms)
arm_at [] i d h = absurd (omega arith)
arm_at (a ∷ arms) zero d h = let k = weight_of_arms a arms in omega (arith, k)
arm_at (a ∷ arms) (suc i) d h = let k = weight_of_arms a arms in let l = arm_at arms i d (omega arith) in omega (arith, k, l)

-- the statements of an arm weigh no more than the arms
pub arm_part : (arms : List Arm) (i : ℕ) (a : Arm) → i < length arms → a ≡ get_or arms i a → weight_of_block (stmts_view (out-Arm a).body) ≤ weight_of_block (switch_view arms)
arm_part arms i a h is = subst (λ x. weight_of_block (stmts_view (out-Arm x).body) ≤ weight_of_block (switch_view arms)) (sym is) (arm_at arms i a h)
