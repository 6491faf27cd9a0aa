-- Lists of statements, and their views.
use Rattle.std.proofs.Common.{◌≡◌, ◌<◌, ◌+◌, ◌++◌, ℕ, List, [], ◌∷◌, length, drop, get_or, map, Option, Some, None, refl, ap, sym, ◌∙◌}
use Rattle.std.proofs.lemmas.List.{drop_more}
use Rattle.std.specs.declared.boxed.Box.{Box}
use Rattle.std.specs.declared.alloc.Global.{Global}
use Rattle.c_core.specs.Tree as t
use Rattle.c_core.specs.View.{expr_view as typed_expr_view, form_view as typed_form_view, stmt_view as typed_view, stmts_view as typed_views}
use Rattle.c_core.specs.declared.tree.Expr.{Expr}
use Rattle.c_core.specs.declared.tree.Stmt.{Stmt}
use Rattle.c_parser.specs.Tree as raw
use Rattle.c_parser.specs.Tree.{stms}
use Rattle.c_parser.specs.SourceView.{stmt_view}
use Rattle.c_parser.specs.declared.tree.RawStmt.{RawStmt}
use Rattle.c_core.specs.declared.tree.Form.TheVariants as form
use Rattle.c_parser.specs.View.{expr_view}
use Rattle.c_parser.specs.SourceView.{form_view, else_if}
use Rattle.c_parser.specs.declared.tree.RawExpr.{RawExpr}
use Rattle.c_parser.specs.declared.tree.RawForm.TheVariants as raw_form
use Rattle.check_elaborate.specs.Walks.{else_of}

pub next_statement : (ss : List RawStmt) (i : ℕ) (s : RawStmt) → i < length ss → s ≡ get_or ss i s
    → stms (map stmt_view (drop i ss)) ≡ raw.MoreStm (stmt_view s) (stms (map stmt_view (drop (i + 1) ss)))
next_statement ss i s h q = ap (λ (x : List RawStmt). stms (map stmt_view x)) (drop_more ss i s h ∙ ap (λ (x : RawStmt). x ∷ drop (i + 1) ss) (sym q))

pub next_in_list : (ss : List RawStmt) (i : ℕ) (s : RawStmt) → i < length ss → s ≡ get_or ss i s
    → map stmt_view (drop i ss) ≡ stmt_view s ∷ map stmt_view (drop (i + 1) ss)
next_in_list ss i s h q = ap (map stmt_view) (drop_more ss i s h ∙ ap (λ (x : RawStmt). x ∷ drop (i + 1) ss) (sym q))

-- these statements, and then the rest
abbrev pub statements_before : List Stmt → t.Stms → t.Stms
statements_before [] rest = rest
statements_before (s ∷ ss) rest = t.MoreStm (typed_view s) (statements_before ss rest)

pub statements_before-none : (ss : List Stmt) → statements_before ss t.NoStm ≡ typed_views ss
statements_before-none [] = refl
statements_before-none (s ∷ ss) = ap (t.MoreStm (typed_view s)) (statements_before-none ss)

pub statements_before-one_more : (ss : List Stmt) (s : Stmt) (rest : t.Stms) → statements_before (ss ++ s ∷ []) rest ≡ statements_before ss (t.MoreStm (typed_view s) rest)
statements_before-one_more [] s rest = refl
statements_before-one_more (x ∷ ss) s rest = ap (t.MoreStm (typed_view x)) (statements_before-one_more ss s rest)

pub view_of_if : (e : Expr) (a : Box Stmt Global) (b : Option (Box Stmt Global)) → typed_form_view (form.If e a b) ≡ t.If (typed_expr_view e) (typed_view a.value) (else_of b)
view_of_if e a None = refl
view_of_if e a (Some b) = refl

pub raw_view_of_if : (e : RawExpr) (a : Box RawStmt Global) (b : Option (Box RawStmt Global)) → form_view (raw_form.If e a b) ≡ raw.If (expr_view e) (stmt_view a.value) (else_if b)
raw_view_of_if e a None = refl
raw_view_of_if e a (Some b) = refl

pub same_if : (e f : t.Exp) (a b : t.Stm) (c d : t.Else) → e ≡ f → a ≡ b → c ≡ d → t.If e a c ≡ t.If f b d
same_if e f a b c d h k l = ap (λ x. t.If x a c) h ∙ ap (λ x. t.If f x c) k ∙ ap (t.If f b) l

pub same_while : (e f : t.Exp) (a b : t.Stm) → e ≡ f → a ≡ b → t.While e a ≡ t.While f b
same_while e f a b h k = ap (λ x. t.While x a) h ∙ ap (t.While f) k

pub same_do : (e f : t.Exp) (a b : t.Stm) → e ≡ f → a ≡ b → t.DoWhile a e ≡ t.DoWhile b f
same_do e f a b h k = ap (t.DoWhile a) h ∙ ap (λ x. t.DoWhile x f) k

pub same_for : (i j : t.First) (e f u v : Option t.Exp) (a b : t.Stm) → i ≡ j → e ≡ f → u ≡ v → a ≡ b → t.For i e u a ≡ t.For j f v b
same_for i j e f u v a b h k l n = ap (λ x. t.For x e u a) h ∙ ap (λ x. t.For j x u a) k ∙ ap (λ x. t.For j f x a) l ∙ ap (t.For j f v) n

pub same_switch : (e f : t.Exp) (a b : t.Stms) → e ≡ f → a ≡ b → t.Switch e a ≡ t.Switch f b
same_switch e f a b h k = ap (λ x. t.Switch x a) h ∙ ap (t.Switch f) k
