-- What is known of an expression once its text is read, and it is typed.
use Rattle.std.proofs.Common.{◌≡◌, refl, sym, ap, ◌∙◌, subst, IsErrAnd, List, ℕ, Option, Some, Result, Ok, Err, inl, inr}
use Rattle.c_core.specs.Tree.{Program, Exp}
use Rattle.c_core.specs.View as typed
use Rattle.c_core.specs.declared.tree.Expr.{Expr}
use Rattle.c_core.specs.declared.number.Spot.{Spot}
use Rattle.c_core.specs.declared.place.PlaceKind.{PlaceKind}
use Rattle.c_core.specs.declared.program.Program as rust
use Rattle.c_parser.specs.View.{expr_view}
use Rattle.c_parser.specs.Witness.{AnswersExpression}
use Rattle.c_parser.specs.declared.tree.RawExpr.{RawExpr}
use Rattle.c_parser.specs.declared.fault.ExprFault.{ExprFault}
use Rattle.c_parser.specs.declared.fault.ExprFault.TheVariants as expr
use Rattle.way_constraint.specs.Constraints.{AnswersConstraint}
use Rattle.way_names.specs.Visible.{names_at}
use Rattle.way_bind.specs.declared.fault.Unbound.{Unbound}
use Rattle.way_bind.specs.Lacks.{lack_of}
use Rattle.way_bind.specs.Binding.{BindsExpression, BindsThere, IsExpressionOf, WherePlaced, seen}

the_expression : (text : List ℕ) (e : RawExpr) → AnswersExpression text (Ok e) → IsExpressionOf text (expr_view e)
the_expression text e h = record { spelled = h.0; only = h.1 }

expression_unread : (p : Program) (names text : List ℕ) (f : ExprFault) → AnswersExpression text (Err f) → BindsExpression p names text (Err (lack_of f))
expression_unread p names text expr.Expression h = inl h
expression_unread p names text expr.Scope h = elim h [ ]
expression_unread p names text expr.OutOfMemory h = tt

expression_untyped : (p : Program) (names text : List ℕ) (e : RawExpr) (f : ExprFault) → AnswersExpression text (Ok e) → AnswersConstraint p names (expr_view e) (Err f) → BindsExpression p names text (Err (lack_of f))
expression_untyped p names text e expr.Expression h k = inr (expr_view e, the_expression text e h, k)
expression_untyped p names text e expr.Scope h k = (expr_view e, the_expression text e h, k)
expression_untyped p names text e expr.OutOfMemory h k = tt

-- the answers, the bytes of the text being read
pub unread : (p : Program) (names bytes text : List ℕ) (f : ExprFault) (r : Result Expr Unbound) → bytes ≡ text → IsErrAnd r (λ lack. lack ≡ lack_of f) → AnswersExpression bytes (Err f) → BindsExpression p names text (seen typed.expr_view r)
unread p names bytes text f (Ok t) same from h = elim from [ ]
unread p names bytes text f (Err lack) same from h =
    subst (λ l. BindsExpression p names text (Err l)) (sym from) (expression_unread p names text f (subst (λ b. AnswersExpression b (Err f)) same h))

pub untyped : (p : Program) (names bytes text : List ℕ) (e : RawExpr) (f : ExprFault) (r : Result Expr Unbound) → bytes ≡ text → IsErrAnd r (λ lack. lack ≡ lack_of f) → AnswersExpression bytes (Ok e) → AnswersConstraint p names (expr_view e) (Err f) → BindsExpression p names text (seen typed.expr_view r)
untyped p names bytes text e f (Ok t) same from h k = elim from [ ]
untyped p names bytes text e f (Err lack) same from h k =
    subst (λ l. BindsExpression p names text (Err l)) (sym from) (expression_untyped p names text e f (subst (λ b. AnswersExpression b (Ok e)) same h) k)

pub typed_expression : (p : Program) (names bytes text : List ℕ) (e : RawExpr) (tree : Expr) → bytes ≡ text → AnswersExpression bytes (Ok e) → AnswersConstraint p names (expr_view e) (Ok tree) → BindsExpression p names text (Ok (typed.expr_view tree))
typed_expression p names bytes text e tree same h k = (expr_view e, the_expression text e (subst (λ b. AnswersExpression b (Ok e)) same h), k)

-- over the names that are visible at a place of one program
pub visible_there : (q p : rust.Program) (kind : PlaceKind) (text : List ℕ) (spot : Spot) (answer : Result Exp Unbound) → q ≡ p
    → BindsExpression (typed.program_view q) (names_at (typed.program_view q) kind spot) text answer → BindsExpression (typed.program_view p) (names_at (typed.program_view p) kind spot) text answer
visible_there q p kind text spot answer same h = subst (λ (r : rust.Program). BindsExpression (typed.program_view r) (names_at (typed.program_view r) kind spot) text answer) same h

-- at a place, whose names it reads
pub there : {A : Type 0} (p : Program) (kind : PlaceKind) (text : List ℕ) (make : Spot → Exp → A) (spot : Spot) (tree : Expr) → BindsExpression p (names_at p kind spot) text (Ok (typed.expr_view tree)) → BindsThere p kind text make spot (Ok (make spot (typed.expr_view tree)))
there p kind text make spot tree h = (typed.expr_view tree, h, refl)

pub lacking_there : {A C : Type 0} (p : Program) (kind : PlaceKind) (text : List ℕ) (make : Spot → Exp → A) (view : C → A) (spot : Spot) (lack : Unbound) (r : Result C Unbound) → IsErrAnd r (λ l. l ≡ lack) → BindsExpression p (names_at p kind spot) text (Err lack) → BindsThere p kind text make spot (seen view r)
lacking_there p kind text make view spot lack (Ok x) from h = elim from [ ]
lacking_there p kind text make view spot lack (Err l) from h = subst (λ l. BindsExpression p (names_at p kind spot) text (Err l)) (sym from) h

pub placed_there : {A : Type 0} (p : Program) (kind : PlaceKind) (text text' : List ℕ) (make : Spot → Exp → A) (place : Option Spot) (spot : Spot) (answer : Result A Unbound) → place ≡ Some spot → text ≡ text' → BindsThere p kind text make spot answer → WherePlaced place (BindsThere p kind text' make) answer
placed_there p kind text text' make place spot answer placed same h =
    subst (λ o. WherePlaced o (BindsThere p kind text' make) answer) (sym placed) (subst (λ t. BindsThere p kind t make spot answer) same h)
