-- How large trees are, and what is left of the depth of calls: what falls in each call of the recursion.
use Rattle.std.proofs.Common.{◌≡◌, ◌≤◌, ◌+◌, ◌*◌, ◌∙◌, ℕ, zero, suc, List, [], ◌∷◌, drop, slice_get, Option, Some, None, refl, sym, ap, subst, arith}
use Rattle.c_core.specs.Tree.{Exp, Expr, Node, Index, Unary, Cast, Step, Binary, Logic, Choose, Comma, Assign, Call, Exps, NoExp, MoreExp, Init, Absent, One, Many, Rows, Names, NoName, MoreName, First, NoFirst, FirstExp, FirstNames, Stm, Stmt, Form, Empty, Do, Declare, Block, If, While, DoWhile, For, Break, Continue, Return, Label, Switch, Else, NoElse, OrElse, Stms, NoStm, MoreStm, MoreCase, Function, Program}
use Rattle.c_core.specs.View.{expr_view, exprs_view, rows_view, stmt_view, stmts_view, joined, switch_view, names_view, init_view}
use Rattle.c_core.specs.declared.tree.Expr.{Expr as RustExpr}
use Rattle.c_core.specs.declared.tree.Stmt.{Stmt as RustStmt}
use Rattle.c_core.specs.declared.tree.Arm.{Arm, out-Arm}
use Rattle.c_core.specs.declared.tree.Row.{Row}
use Rattle.c_core.proofs.View.{arm_views}
use Rattle.c_core.specs.declared.tree.Declared.{Declared}
use Rattle.c_meaning.specs.Meaning.{Loop, WhileLoop, DoLoop, ForLoop}
use Rattle.c_calls.specs.Loops.{loop_of}

abbrev mutual
  pub size : Exp → ℕ
  size (Expr spot ty n) = suc (size_of_node n)

  pub size_of_node : Node → ℕ
  size_of_node (Index o is) = size_of_exps is
  size_of_node (Unary op a) = size a
  size_of_node (Cast a) = size a
  size_of_node (Step op a) = size a
  size_of_node (Binary op a b) = size a + size b
  size_of_node (Logic both a b) = size a + size b
  size_of_node (Choose mark e a b) = size e + size a + size b
  size_of_node (Comma a b) = size a + size b
  size_of_node (Assign op a b) = size a + size b
  size_of_node (Call callee es close) = size_of_exps es
  size_of_node _ = 0

  pub size_of_exps : Exps → ℕ
  size_of_exps NoExp = 0
  size_of_exps (MoreExp e es) = size e + size_of_exps es

abbrev pub size_if : Option Exp → ℕ
size_if None = 0
size_if (Some e) = size e

abbrev pub size_of_rows : List Exps → ℕ
size_of_rows [] = 0
size_of_rows (es ∷ rows) = size_of_exps es + size_of_rows rows

abbrev pub size_of_init : Init → ℕ
size_of_init Absent = 0
size_of_init (One e) = size e
size_of_init (Many es) = size_of_exps es
size_of_init (Rows rows) = size_of_rows rows

abbrev pub size_of_names : Names → ℕ
size_of_names NoName = 0
size_of_names (MoreName spot o i ns) = size_of_init i + size_of_names ns

abbrev pub size_of_first : First → ℕ
size_of_first NoFirst = 0
size_of_first (FirstExp e) = size e
size_of_first (FirstNames ns) = size_of_names ns

abbrev mutual
  pub size_of_stm : Stm → ℕ
  size_of_stm (Stmt at f) = suc (size_of_form f)

  pub size_of_form : Form → ℕ
  size_of_form (Do e) = size e
  size_of_form (Declare ns) = size_of_names ns
  size_of_form (Block b) = size_of_stms b
  size_of_form (If e a b) = size e + size_of_stm a + size_of_else b
  size_of_form (While e b) = size e + size_of_stm b
  size_of_form (DoWhile b e) = size_of_stm b + size e
  size_of_form (For i e s b) = size_of_first i + (size_if e + size_if s + size_of_stm b)
  size_of_form (Return e) = size_if e
  size_of_form (Label b) = size_of_stm b
  size_of_form (Switch e b) = size e + size_of_stms b
  size_of_form _ = 0

  pub size_of_else : Else → ℕ
  size_of_else NoElse = 0
  size_of_else (OrElse b) = size_of_stm b

  pub size_of_stms : Stms → ℕ
  size_of_stms NoStm = 0
  size_of_stms (MoreStm s b) = size_of_stm s + size_of_stms b
  size_of_stms (MoreCase spot l b) = size_of_stms b

-- without what comes before the turns of a `for`
abbrev pub size_of_loop : Option Loop → ℕ
size_of_loop None = 0
size_of_loop (Some (WhileLoop e b)) = size e + size_of_stm b
size_of_loop (Some (DoLoop b e)) = size_of_stm b + size e
size_of_loop (Some (ForLoop e s b)) = size_if e + size_if s + size_of_stm b

abbrev pub size_of_bodies : List Function → ℕ
size_of_bodies [] = 0
size_of_bodies (f ∷ fs) = size_of_stm f.body + size_of_bodies fs

-- so many times the size of all bodies
pub level : Program → ℕ → ℕ
level p zero = 0
level p (suc n) = 32 * size_of_bodies p.functions + level p n

pub level_above : (p : Program) (n : ℕ) → level p (suc n) ≡ 32 * size_of_bodies p.functions + level p n
unfolding level
level_above p n = refl

pub body_within_all : (fs : List Function) (i : ℕ) (f : Function) → slice_get fs i ≡ Some f → size_of_stm f.body ≤ size_of_bodies fs
body_within_all [] i f h = absurd (cc)
body_within_all (g ∷ fs) zero f h = omega (arith, ap body_size h)
  where
    body_size : Option Function → ℕ
    body_size None = 0
    body_size (Some x) = size_of_stm x.body
body_within_all (g ∷ fs) (suc i) f h = omega (arith, body_within_all fs i f h)

pub loop_within : (f : Form) → size_of_loop (loop_of f) ≤ size_of_form f
loop_within Empty = omega arith
loop_within (Do e) = omega arith
loop_within (Declare ns) = omega arith
loop_within (Block b) = omega arith
loop_within (If e a b) = omega arith
loop_within (While e b) = omega arith
loop_within (DoWhile b e) = omega arith
loop_within (For i e s b) = omega arith
loop_within Break = omega arith
loop_within Continue = omega arith
loop_within (Return e) = omega arith
loop_within (Label b) = omega arith
loop_within (Switch e b) = omega arith

pub for_within : (f : Form) (i : First) (e s : Option Exp) (b : Stm) → f ≡ For i e s b → size_of_first i + size_of_loop (loop_of f) ≤ size_of_form f
for_within f i e s b h = subst (λ g. size_of_first i + size_of_loop (loop_of g) ≤ size_of_form g) (sym h) (omega arith)

pub exp_within : (es : List RustExpr) (i : ℕ) (e : RustExpr) → drop i es ≡ e ∷ drop (suc i) es → size (expr_view e) ≤ size_of_exps (exprs_view es)
exp_within [] zero e d = absurd (cc)
exp_within [] (suc i) e d = absurd (cc)
exp_within (x ∷ es) zero e d = omega (arith, ap (λ xs. size_of_exps (exprs_view xs)) d)
exp_within (x ∷ es) (suc i) e d = omega (arith, exp_within es i e d)

pub stm_within : (ss : List RustStmt) (i : ℕ) (s : RustStmt) → drop i ss ≡ s ∷ drop (suc i) ss → size_of_stm (stmt_view s) ≤ size_of_stms (stmts_view ss)
stm_within [] zero s d = absurd (cc)
stm_within [] (suc i) s d = absurd (cc)
stm_within (x ∷ ss) zero s d = omega (arith, ap (λ xs. size_of_stms (stmts_view xs)) d)
stm_within (x ∷ ss) (suc i) s d = omega (arith, stm_within ss i s d)

pub row_within : (rows : List Row) (i : ℕ) (row : Row) → drop i rows ≡ row ∷ drop (suc i) rows → size_of_exps (exprs_view row.values) ≤ size_of_rows (rows_view rows)
row_within [] zero row d = absurd (cc)
row_within [] (suc i) row d = absurd (cc)
row_within (x ∷ rows) zero row d = omega (arith, ap (λ xs. size_of_rows (rows_view xs)) d)
row_within (x ∷ rows) (suc i) row d = omega (arith, row_within rows i row d)

-- statements one after another
size_joined : (b c : Stms) → size_of_stms (joined b c) ≡ size_of_stms b + size_of_stms c
size_joined NoStm c = omega arith
size_joined (MoreStm s b) c = omega (arith, size_joined b c)
size_joined (MoreCase spot l b) c = size_joined b c

size_of_arm : (a : Arm) (arms : List Arm) → size_of_stms (switch_view (a ∷ arms)) ≡ size_of_stms (stmts_view (out-Arm a).body) + size_of_stms (switch_view arms)
size_of_arm a arms = ap size_of_stms (arm_views a (switch_view arms)) ∙ size_joined (stmts_view (out-Arm a).body) (switch_view arms)

pub arm_within : (arms : List Arm) (i : ℕ) (a : Arm) → drop i arms ≡ a ∷ drop (suc i) arms → size_of_stms (stmts_view (out-Arm a).body) ≤ size_of_stms (switch_view arms)
arm_within [] zero a d = absurd (cc)
arm_within [] (suc i) a d = absurd (cc)
arm_within (x ∷ arms) zero a d = omega (arith, ap (λ xs. size_of_stms (switch_view xs)) d, size_of_arm a arms)
arm_within (x ∷ arms) (suc i) a d = omega (arith, arm_within arms i a d, size_of_arm x arms)

-- the arms from one on
pub arms_within : (arms : List Arm) (i : ℕ) → size_of_stms (switch_view (drop i arms)) ≤ size_of_stms (switch_view arms)
arms_within [] zero = omega arith
arms_within [] (suc i) = omega arith
arms_within (x ∷ arms) zero = omega arith
arms_within (x ∷ arms) (suc i) = omega (arith, arms_within arms i, size_of_arm x arms)

pub name_within : (ns : List Declared) (i : ℕ) (x : Declared) → drop i ns ≡ x ∷ drop (suc i) ns → size_of_init (init_view x.init) ≤ size_of_names (names_view ns)
name_within [] zero x d = absurd (cc)
name_within [] (suc i) x d = absurd (cc)
name_within (y ∷ ns) zero x d = omega (arith, ap (λ xs. size_of_names (names_view xs)) d)
name_within (y ∷ ns) (suc i) x d = omega (arith, name_within ns i x d)
